-- The counters from a place on, as the loops over a site's memory meet them, one counter further at
-- each turn.
--
--   counters_from memory used i    the counters in use from place i on
--   counters_start, counters_end, counters_cons   at the first place, past the last, at one in use
use Prim.Native.Nat.{ℕ, suc, ◌+◌, ◌-◌, ◌*◌, ◌<◌, ◌≤◌}
use mathlib.Core.Path.{◌≡◌}
use mathlib.Core.List.{List, [], ◌∷◌}
use native.Mathlib.Omega.{arith}
use lib.ListN.{drop}
use lib.Seq.{drop-drop, get_or-drop}
use Rattle.model.specs.Counters.{Counter}
use Rattle.model.specs.SiteMemory.{counters_in}
use Rattle.site_counters.specs.Stored.{stored_at}

abbrev pub counters_from : List ℕ → ℕ → ℕ → List Counter
counters_from memory used i = counters_in (used - i) (drop (4 * i) memory)

pub counters_start : (memory : List ℕ) (used : ℕ)
    → counters_from memory used 0 ≡ counters_in used memory
counters_start memory used = let e : used - 0 ≡ used = omega arith in rw e

pub counters_end : (memory : List ℕ) (used i : ℕ)
    → used ≤ i
    → counters_from memory used i ≡ []
counters_end memory used i past = let e : used - i ≡ 0 = omega arith in rw e

pub counters_cons : (memory : List ℕ) (used i : ℕ)
    → i < used
    → counters_from memory used i ≡ stored_at memory i ∷ counters_from memory used (i + 1)
counters_cons memory used i within =
    let e : used - i ≡ suc (used - (i + 1)) = omega arith in
    let next : 4 * i + 4 ≡ 4 * (i + 1) = omega arith in
    let same : 4 * i + 0 ≡ 4 * i = omega arith in
    rw e (simp (get_or-drop, drop-drop, next, same))
