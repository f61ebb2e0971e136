-- The consistency test of a site's counters, place by place.
--
--   Passing, passing_on, passing_fails   the counters before a place, and the one at it
use Prim.Native.Nat.{ℕ, ◌+◌, ◌<◌, ◌≤◌}
use mathlib.Core.Path.{◌≡◌, sym, ◌∙◌}
use mathlib.Core.List.{List}
use mathlib.Core.Bool.{true, false}
use native.Mathlib.Omega.{arith}
use Rattle.model.specs.declared.Settings.{Settings}
use Rattle.model.specs.Site.{Site}
use Rattle.model.specs.SiteMemory.{counters_in, counter_consistent, counters_consistent}
use Rattle.site_counters.specs.Stored.{stored_at}
use Rattle.site_counters.proofs.CountersFrom.{counters_from, counters_cons}

-- ---- The counters in use, from place i on

-- The counters before place i are consistent.
pub record Passing
    (settings : Settings)
    (site : Site)
    (memory : List ℕ)
    (used i : ℕ) : Type 0 where
  pub within : i ≤ used
  pub later : counters_consistent settings site (counters_in used memory)
      ≡ counters_consistent settings site (counters_from memory used i)

module _ (settings : Settings) (site : Site) (memory : List ℕ) (used : ℕ) where
  pub passing_on : (i : ℕ)
      → Passing settings site memory used i
      → i < used
      → counter_consistent settings site (stored_at memory i) ≡ true
      → Passing settings site memory used (i + 1)
  passing_on i passing inside passes = record {
    within = omega arith;
    later = passing.later ∙ rw (counters_cons memory used i inside, passes);
  }

  pub passing_fails : (i : ℕ)
      → Passing settings site memory used i
      → i < used
      → counter_consistent settings site (stored_at memory i) ≡ false
      → false ≡ counters_consistent settings site (counters_in used memory)
  passing_fails i passing inside fails =
      sym (passing.later ∙ rw (counters_cons memory used i inside, fails))
