-- The counters of one site (Space-Saving), and what an arrival does to them: document 01's slots.
--
--   find item counters                   the item's lowest place; the number of counters if none
--   least_place counters                 the place of the least count; 0 of no counter
--   placement_for capacity counters item  which counter takes an arrival of the item
--   counters_after placement counters item  the counters then
--   leaving_by placement counters        which item leaves, and its unreported arrivals
--   dropped_by placement counters        those alone: what goes with a replaced counter
--   unreported_in counters               the unreported arrivals of all counters
use Rattle.std.specs.Prelude.{Bool, true, false, Option, Some, None, ◌&&◌, ◌||◌, List, [], ◌∷◌, ◌++◌, ℕ, suc, ◌+◌, ◌-◌, eqb, ltb, length, get_or, set, if◌then◌else◌}
use Rattle.model.specs.declared.Left.{Left}

-- A counter: document 01's slot, "a code, a count, an overcount and a sent number".
pub record Counter : Type 0 where
  pub item : ℕ
  pub count : ℕ
  pub overestimate : ℕ
  pub reported : ℕ

abbrev pub no_counter : Counter
no_counter = record { item = 0; count = 0; overestimate = 0; reported = 0 }

abbrev pub counter_at : List Counter → ℕ → Counter
counter_at counters place = get_or counters place no_counter

-- "Unsent is count - overcount - sent."
abbrev pub unreported : Counter → ℕ
unreported counter = counter.count - counter.overestimate - counter.reported

-- "all unsent": of all counters of a site.
abbrev pub unreported_in : List Counter → ℕ
unreported_in [] = 0
unreported_in (counter ∷ counters) = unreported counter + unreported_in counters

-- "the lowest such slot, should memory hold it twice"
abbrev pub find : ℕ → List Counter → ℕ
find item [] = 0
find item (counter ∷ counters) =
    elim (eqb counter.item item) [ true ↦ 0 | false ↦ suc (find item counters) ]

-- "the code of least count (of equals, the least code)"; the lowest place for equal items.
abbrev pub precedes : Counter → Counter → Bool
precedes x y = ltb x.count y.count || eqb x.count y.count && ltb x.item y.item

-- The scan from a place on, with the best counter so far and its place.
abbrev pub least_from : ℕ → ℕ → Counter → List Counter → ℕ
least_from place best least [] = best
least_from place best least (counter ∷ counters) =
    elim (precedes counter least) [
      | true ↦ least_from (place + 1) place counter counters
      | false ↦ least_from (place + 1) best least counters
    ]

abbrev pub least_place : List Counter → ℕ
least_place [] = 0
least_place (counter ∷ counters) = least_from 1 0 counter counters

-- Which counter takes an arrival: the item's own, the next unused one, or the one it replaces.
pub data Placement : Type 0 where
  own : ℕ → Placement
  unused : Placement
  replaced : ℕ → Placement

abbrev pub placement_for : ℕ → List Counter → ℕ → Placement
placement_for capacity counters item =
    let place = find item counters in
    if ltb place (length counters) then own place
    else (if ltb (length counters) capacity then unused
    else replaced (least_place counters))

abbrev pub place_of : Placement → List Counter → ℕ
place_of (own place) counters = place
place_of unused counters = length counters
place_of (replaced place) counters = place

-- "A code in a slot gains one count".
abbrev pub one_more_of : Counter → Counter
one_more_of counter = record {
  item = counter.item;
  count = counter.count + 1;
  overestimate = counter.overestimate;
  reported = counter.reported;
}

-- "the next unused slot with count 1, overcount 0, sent 0"
abbrev pub first_of : ℕ → Counter
first_of item = record { item = item; count = 1; overestimate = 0; reported = 0 }

-- "count becomes that count plus one, overcount that count, sent 0"
abbrev pub replacing : Counter → ℕ → Counter
replacing counter item = record {
  item = item;
  count = counter.count + 1;
  overestimate = counter.count;
  reported = 0;
}

abbrev pub counters_after : Placement → List Counter → ℕ → List Counter
counters_after (own place) counters item = set counters place
    (one_more_of (counter_at counters place))
counters_after unused counters item = counters ++ (first_of item ∷ [])
counters_after (replaced place) counters item =
    set counters place (replacing (counter_at counters place) item)

-- Request N1: "which code left and how many unsent draws went", by what the counter held before the
-- new item is written. An item with nothing unreported leaves too.
abbrev pub left_with : ℕ → ℕ → Left
left_with item gone = record { item = item; gone = gone }

abbrev pub leaving_by : Placement → List Counter → Option Left
leaving_by (own place) counters = None
leaving_by unused counters = None
leaving_by (replaced place) counters =
    let counter = counter_at counters place in
    Some (left_with counter.item (unreported counter))

-- "its unsent draws go with it": none, where nobody leaves.
abbrev pub gone_with : Option Left → ℕ
gone_with None = 0
gone_with (Some left) = left.gone

abbrev pub dropped_by : Placement → List Counter → ℕ
dropped_by placement counters = gone_with (leaving_by placement counters)

-- A counter after its report: "sent grows by it".
abbrev pub after_report : ℕ → Counter → Counter
after_report amount counter = record {
  item = counter.item;
  count = counter.count;
  overestimate = counter.overestimate;
  reported = counter.reported + amount;
}
