-- Reading the coordinator: the list of heavy hitters, the margin, the quantile and "within e".
--
--   is_listed settings c item         false at total 0
--   heavy_hitters settings c          the listed items in rising order
--   most_listed settings              the places that a list needs after any run
--   margin settings c item            the signed difference of the list rule's two sides
--   quantile_of settings c            `None` at threshold 1 and total 0
use Rattle.std.specs.Prelude.{Bool, true, false, ◌&&◌, List, [], ◌∷◌, ◌++◌, ℤ, pos, negsuc, ℕ, zero, suc, ◌+◌, ◌-◌, ◌*◌, ◌/◌, min, eqb, leb, get_or, if◌then◌else◌, Option, None, Some}
use Rattle.model.specs.declared.Settings.{Settings}
use Rattle.model.specs.Choice.{is_zero}
use Rattle.model.specs.Coordinator.{Coordinator, enough}

-- ---- The list and the margin

-- "A code is listed if total ≥ 1 and 2000 × its number ≥ (2p - e) × total": the two sides.
abbrev pub held_side : Coordinator → ℕ → ℕ
held_side c item = 2000 * get_or c.estimates item 0

abbrev pub needed_side : Settings → Coordinator → ℕ
needed_side settings c = (2 * settings.phi - settings.epsilon) * c.total

abbrev pub is_listed : Settings → Coordinator → ℕ → Bool
is_listed settings c item = leb 1 c.total && leb (needed_side settings c) (held_side c item)

-- "The list is in rising code order": of so many items from one on.
abbrev pub listed_from : ℕ → ℕ → Settings → Coordinator → List ℕ
listed_from zero item settings c = []
listed_from (suc more) item settings c =
    (if is_listed settings c item then item ∷ [] else [])
    ++ listed_from more (item + 1) settings c

abbrev pub heavy_hitters : Settings → Coordinator → List ℕ
heavy_hitters settings c = listed_from settings.universe 0 settings c

-- How many places a list needs so that it never has "fewer places than codes listed": an item is
-- listed only with its share of the arrivals, and there are no more items than u. Neither number is
-- always the lesser (the first is at most 1000, u may be 1 or 65,536), so a caller lends the lesser
-- of the two. Settings that pass have 2 ≤ e ≤ 1000 and e ≤ p: both differences are true ones.
abbrev pub most_listed : Settings → ℕ
most_listed settings =
    min (6000000 / ((2 * settings.phi - settings.epsilon) * (3000 - settings.epsilon)))
    settings.universe

-- x - y as an integer.
abbrev pub difference : ℕ → ℕ → ℤ
difference x y = if leb y x then pos (x - y) else negsuc (y - x - 1)

-- "The margin of a code is the signed difference of those two sides."
abbrev pub margin : Settings → Coordinator → ℕ → ℤ
margin settings c item = difference (held_side c item) (needed_side settings c)

-- ---- The quantile

-- "the least v with 1000 × (counts at or below v) ≥ q × total": from a value on, with the counts
-- below it summed up.
abbrev pub least_value_from : ℕ → ℕ → ℕ → ℕ → List ℕ → Option ℕ
least_value_from rank total value below [] = None
least_value_from rank total value below (count ∷ counts) =
    elim (enough rank total (below + count)) [
      | true ↦ Some value
      | false ↦ least_value_from rank total (value + 1) (below + count) counts
    ]

abbrev pub least_value : ℕ → ℕ → List ℕ → Option ℕ
least_value rank total histogram = least_value_from rank total 0 0 histogram

-- "The class while the threshold is 1 is the least v .., "none" at total 0; later the record's
-- class".
abbrev pub quantile_of : Settings → Coordinator → Option ℕ
quantile_of settings c =
    if eqb c.threshold 1
    then (if is_zero c.total then None
    else least_value settings.rank c.total c.histogram)
    else Some c.quantile
