-- The loops over a site's counters: the search for an item and the scan for the least count, one
-- counter further at each turn.
--
--   Searching, find_start, find_end, find_here, find_on   the search at place i
--   Scanning, least_start, least_end, least_new, least_old   the scan at place i
use Prim.Native.Nat.{ℕ, zero, suc, ◌+◌, ◌-◌, ◌*◌, ◌<◌, ◌≤◌}
use mathlib.Core.Path.{◌≡◌, refl, sym, ◌∙◌}
use mathlib.Core.List.{List}
use mathlib.Core.Bool.{true, false}
use native.Mathlib.Omega.{arith}
use lib.ListN.{get_or}
use borrow.Author.Tests.{eq-eqb, ne_eqb}
use Rattle.model.specs.Counters.{find, precedes, least_from, least_place}
use Rattle.model.specs.SiteMemory.{counters_in}
use Rattle.site_counters.specs.Stored.{stored_at}
use Rattle.site_counters.proofs.CountersFrom.{counters_from, counters_start, counters_end, counters_cons}

-- ---- The search

-- What is sought stands from place i on.
pub record Searching (memory : List ℕ) (used item i : ℕ) : Type 0 where
  pub within : i ≤ used
  pub later : find item (counters_in used memory) ≡ i + find item (counters_from memory used i)

pub find_start : (memory : List ℕ) (used item : ℕ) → Searching memory used item 0
find_start memory used item = record {
  within = omega arith;
  later = rw (counters_start memory used) (omega arith);
}

module _ (memory : List ℕ) (used i item : ℕ) (searching : Searching memory used item i) where
  pub find_end : used ≤ i → used ≡ find item (counters_in used memory)
  find_end past =
      let none : i + find item (counters_from memory used i) ≡ i =
      rw (counters_end memory used i past) (omega arith) in
      omega arith

  pub find_here : i < used
      → get_or memory (4 * i) 0 ≡ item
      → i ≡ find item (counters_in used memory)
  find_here inside same =
      let here : i + find item (counters_from memory used i) ≡ i =
      rw (counters_cons memory used i inside, eq-eqb _ _ same, find) (omega arith) in
      omega arith

  pub find_on : i < used
      → (get_or memory (4 * i) 0 ≡ item → ⊥)
      → Searching memory used item (i + 1)
  find_on inside other =
      let further : i + find item (counters_from memory used i)
      ≡ i + 1 + find item (counters_from memory used (i + 1)) =
      rw (counters_cons memory used i inside, ne_eqb _ _ other, find) (omega arith) in
      record { within = omega arith; later = searching.later ∙ further }

-- ---- The scan for the least count

-- The scan goes on from place i, with the best place so far.
pub record Scanning (memory : List ℕ) (used best i : ℕ) : Type 0 where
  pub best_before : best < i
  pub later : least_place (counters_in used memory)
      ≡ least_from i best (stored_at memory best) (counters_from memory used i)

pub least_start : (memory : List ℕ) (used : ℕ) → Scanning memory used 0 1
least_start memory used = record { best_before = omega arith; later = from_first used }
  where
    from_first : (n : ℕ) → least_place (counters_in n memory)
        ≡ least_from 1 0 (stored_at memory 0) (counters_from memory n 1)
    from_first zero = refl
    from_first (suc n) = let e : suc n - 1 ≡ n = omega arith in rw e

module _ (memory : List ℕ) (used i best : ℕ) (scanning : Scanning memory used best i) where
  pub least_end : used ≤ i → best ≡ least_place (counters_in used memory)
  least_end past = sym (scanning.later ∙ rw (counters_end memory used i past))

  pub least_new : i < used
      → precedes (stored_at memory i) (stored_at memory best) ≡ true
      → Scanning memory used i (i + 1)
  least_new inside new = record {
    best_before = omega arith;
    later = scanning.later ∙ rw (counters_cons memory used i inside, new, least_from);
  }

  pub least_old : i < used
      → precedes (stored_at memory i) (stored_at memory best) ≡ false
      → Scanning memory used best (i + 1)
  least_old inside old = record {
    best_before = omega (arith, scanning.best_before);
    later = scanning.later ∙ rw (counters_cons memory used i inside, old, least_from);
  }
