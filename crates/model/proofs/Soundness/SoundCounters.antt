-- The counters of a sound site, kept by an arrival: they stay within document 01's bounds whether
-- they arose or not. PROOF.md S2 (its bounds) and S7, for counters of any items, equal ones
-- included.
--
--   unreported_in_sum, unreported_in_le  all unreported as a sum, and within a limit
--   CountersSound            few counters, each within the bounds
--   counted_sound            an arrival counted: one counter may have reached the threshold
--   reported_sound           its report, if it has: all are below the threshold again
--   unreported_observed      S7: an arrival adds one unreported, but for what is reported or lost
-- Letters: u the universe, c the capacity, n the site's arrivals, t its threshold.
use Rattle.std.specs.Prelude.{if◌then◌else◌}
use mathlib.Core.Path.{◌≡◌}
use mathlib.Core.Bool.{Bool, true, false}
use mathlib.Core.List.{List, [], ◌∷◌, ◌++◌}
use Prim.Native.Nat.{ℕ, suc, ◌+◌, ◌*◌, ◌≤◌, ◌<◌}
use native.Mathlib.Omega.{arith}
use native.Mathlib.Decide.{ℕ_discrete}
use lib.Dec.{leb}
use lib.ListN.{length, set, length-set}
use lib.Seq.{get_or-set_same, get_or-set_other}
use borrow.Author.Tests.{leb-true, leb-false}
use Rattle.laws.proofs.Lists.{length_snoc, get_d_snoc_old, get_d_snoc_new, all_set}
use Rattle.laws.proofs.Sums.{sum_of, sum_of_nil, sum_of_cons, sum_of_set, sum_of_snoc}
use Rattle.model.specs.Counters.{Counter, no_counter, counter_at, unreported, unreported_in, Placement, place_of, one_more_of, first_of, replacing, counters_after, dropped_by, after_report}
use Rattle.model.specs.Site.{report_at}
use Rattle.model.specs.SoundNetwork.{SoundCounter}
use Rattle.model.proofs.OneSite.Counting.{Placed, in_own, in_unused, in_replaced}

-- ---- All unreported of a list of counters

-- As a sum, and as the claims have it.
pub unreported_in_sum : (counters : List Counter) → sum_of unreported counters ≡ unreported_in
    counters
unreported_in_sum [] = sum_of_nil unreported
unreported_in_sum (counter ∷ counters) =
    omega (arith, sum_of_cons unreported counter counters, unreported_in_sum counters)

-- Where no counter has more than a limit.
pub unreported_in_le : (counters : List Counter) (limit : ℕ)
    → ((j : ℕ) → j < length counters → unreported (counter_at counters j) ≤ limit)
    → unreported_in counters ≤ length counters * limit
unreported_in_le [] limit each = omega arith
unreported_in_le (counter ∷ counters) limit each =
    omega (
      arith,
      each 0 (omega arith),
      unreported_in_le counters limit (λ j j<. each (suc j) (omega arith)),
    )

-- ---- Counters within bounds

-- No more counters than the capacity, each within the bounds n and t.
pub record CountersSound (u c n t : ℕ) (counters : List Counter) : Type 0 where
  pub few : length counters ≤ c
  pub each : (j : ℕ) → j < length counters → SoundCounter u n t (counter_at counters j)

-- Larger bounds are kept too.
pub counter_wider : {u n n' t t' : ℕ} {x : Counter}
    → n ≤ n'
    → t ≤ t'
    → SoundCounter u n t x
    → SoundCounter u n' t' x
counter_wider {x = x} more larger sound = record {
  item_known = sound.item_known;
  within_count = sound.within_count;
  count_within = omega (arith, sound.count_within);
  unreported_below = omega (arith, sound.unreported_below);
}

-- ---- An arrival counted

-- All counters are within the bounds with one arrival more, but the one that took it may have
-- reached the threshold; the unreported arrivals are one more, but for those lost.
pub record CountedSound (u c n t place lost : ℕ) (before after : List Counter) : Type 0 where
  pub inside : place < length after
  pub few : length after ≤ c
  pub here : SoundCounter u (n + 1) (t + 1) (counter_at after place)
  pub others : (j : ℕ) → j < length after → (j ≡ place → ⊥)
      → SoundCounter u (n + 1) t (counter_at after j)
  pub unreported_moves : sum_of unreported after + lost ≡ sum_of unreported before + 1

module _ {u c n t item : ℕ} {counters : List Counter}
    (item_known : item < u) (positive : 1 ≤ t) (sound : CountersSound u c n t counters) where
  -- The counter at a place is changed.
  set_sound : (place lost : ℕ) (x : Counter)
      → place < length counters
      → SoundCounter u (n + 1) (t + 1) x
      → unreported x + lost ≡ unreported (counter_at counters place) + 1
      → CountedSound u c n t place lost counters (set counters place x)
  set_sound place lost x inside x-sound moves = record {
    inside = omega (arith, length-set counters place x);
    few = omega (arith, length-set counters place x, sound.few);
    here = rw (get_or-set_same counters place x no_counter inside) x-sound;
    others = λ j j< other.
        rw (get_or-set_other counters place j x no_counter other)
        (counter_wider (omega arith) (omega arith)
        (sound.each j (omega (arith, length-set counters place x))));
    unreported_moves = omega (arith, sum_of_set unreported no_counter counters place x inside);
  }

  snoc_sound : length counters < c
      → CountedSound u c n t (length counters) 0 counters (counters ++ (first_of item ∷ []))
  snoc_sound room = record {
    inside = omega (arith, length_snoc counters (first_of item));
    few = omega (arith, length_snoc counters (first_of item));
    here = rw (get_d_snoc_new no_counter counters (first_of item)) (record {
      item_known = item_known;
      within_count = omega arith;
      count_within = omega arith;
      unreported_below = omega arith;
    });
    others = λ j j< other.
        let old : j < length counters = omega (arith, length_snoc counters (first_of item)) in
        rw (get_d_snoc_old no_counter counters (first_of item) j old)
        (counter_wider (omega arith) (omega arith) (sound.each j old));
    unreported_moves = omega (arith, sum_of_snoc unreported counters (first_of item));
  }

  -- Own: one more unreported. Unused: one. Replaced: one, in the place of what was lost.
  pub counted_sound : {placement : Placement}
      → Placed c counters item placement
      → CountedSound u c n t (place_of placement counters) (dropped_by placement counters)
      counters (counters_after placement counters item)
  counted_sound (in_own place inside holds) =
      let old : SoundCounter u n t (counter_at counters place) = sound.each place inside in
      set_sound place 0 (one_more_of (counter_at counters place)) inside
      (record {
        item_known = old.item_known;
        within_count = omega (arith, old.within_count);
        count_within = omega (arith, old.count_within);
        unreported_below = omega (arith, old.unreported_below);
      })
      (omega (arith, old.within_count))
  counted_sound (in_unused absent room) = snoc_sound room
  counted_sound (in_replaced place least_at absent full) =
      let old : SoundCounter u n t (counter_at counters place) =
      sound.each place least_at.inside in
      set_sound place (unreported (counter_at counters place))
      (replacing (counter_at counters place) item) least_at.inside
      (record {
        item_known = item_known;
        within_count = omega arith;
        count_within = omega (arith, old.count_within);
        unreported_below = omega arith;
      })
      (omega arith)

-- ---- The item report

-- The counters when the report, if it is due, has gone out.
abbrev pub with_report : Bool → ℕ → ℕ → List Counter → List Counter
with_report due t place counters = if due then report_at t place counters else counters

module _ {u c n t place lost : ℕ} {before counters : List Counter}
    (positive : 1 ≤ t) (counted : CountedSound u c n t place lost before counters) where
  abbrev after : Counter
  after = after_report t (counter_at counters place)

  -- A report that is due brings its counter below the threshold again.
  pub reported_sound : (due : Bool) → leb t (unreported (counter_at counters place)) ≡ due
      → CountersSound u c (n + 1) t (with_report due t place counters)
  reported_sound true due =
      let reached : t ≤ unreported (counter_at counters place) = leb-true _ _ due in
      record {
        few = omega (arith, length-set counters place after, counted.few);
        each = all_set (SoundCounter u (n + 1) t) no_counter counters place after counted.inside
            (record {
              item_known = counted.here.item_known;
              within_count = omega (arith, counted.here.within_count);
              count_within = counted.here.count_within;
              unreported_below = omega (arith, counted.here.unreported_below);
            })
            counted.others;
      }
  reported_sound false not_due = record {
    few = counted.few;
    each = by_place;
  }
    where
      by_place : (j : ℕ) → j < length counters → SoundCounter u (n + 1) t (counter_at counters j)
      by_place j j< = here_or_other (ℕ_discrete j place)
        where
          here_or_other : Dec (j ≡ place) → SoundCounter u (n + 1) t (counter_at counters j)
          here_or_other (yes here) = rw here (record {
            item_known = counted.here.item_known;
            within_count = counted.here.within_count;
            count_within = counted.here.count_within;
            unreported_below = leb-false _ _ not_due;
          })
          here_or_other (no other) = counted.others j j< other

  -- S7: what the report moves is no longer unreported.
  pub unreported_observed : (due : Bool) → leb t (unreported (counter_at counters place)) ≡ due
      → sum_of unreported (with_report due t place counters) + (if due then t else 0) + lost
      ≡ sum_of unreported before + 1
  unreported_observed true due =
      let reached : t ≤ unreported (counter_at counters place) = leb-true _ _ due in
      omega (
        arith,
        counted.unreported_moves,
        counted.here.within_count,
        sum_of_set unreported no_counter counters place after counted.inside,
      )
  unreported_observed false not_due = omega (arith, counted.unreported_moves)
