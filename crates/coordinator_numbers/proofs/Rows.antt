-- What a row of the coordinator's is worth: `row-claims`.
use Prim.Native.Nat.{ℕ, ◌≤◌}
use mathlib.Core.Path.{◌≡◌, refl}
use mathlib.Core.Bool.{true, false}
use mathlib.Core.List.{List, []}
use native.Mathlib.Omega.{arith}
use borrow.Author.Tests.{le-leb, ne_eqb}
use Rattle.laws.proofs.Tests.{and_false}
use Rattle.model.specs.declared.Settings.{Settings}
use Rattle.model.specs.declared.Sites.{Sites}
use Rattle.model.specs.declared.Phase.{Phase}
use Rattle.model.specs.declared.Phase.TheVariants.{Idle, Collecting, Probing, Announcing}
use Rattle.model.specs.declared.CoordinatorRecord.{CoordinatorRecord}
use Rattle.model.specs.Settings.{threshold_of}
use Rattle.model.specs.CoordinatorMemory.{coordinator_in, coordinator_consistent, phase_consistent}
use Rattle.model.specs.NetworkMemory.{network_consistent, sites_consistent}
use Rattle.model.proofs.Thresholds.Threshold.{threshold_positive}
use Rattle.record_numbers.specs.Numbers.{greatest_narrow, greatest_held, phase_numbers, phase_well, coordinator_well, no_coordinator, coordinator_read, coordinator_numbers}
use Rattle.record_numbers.proofs.Inverse.{coordinator_back}
use Rattle.coordinator_numbers.specs.Claims.{RowClaims}

-- ---- A record's own row

phase_own : (phase : Phase)
    → let p = phase_numbers phase in
    phase_well p.which p.site p.low p.high p.sum ≡ true
phase_own Idle = refl
phase_own (Collecting site) = refl
phase_own (Probing site low high sum) = refl
phase_own (Announcing site) = refl

row_own : (c : CoordinatorRecord)
    → greatest_held (coordinator_numbers c) ≤ greatest_narrow
    → coordinator_well (coordinator_numbers c) ≡ true
row_own c narrow =
    rw (le-leb (greatest_held (coordinator_numbers c)) greatest_narrow narrow) (phase_own c.phase)

own_row : (c : CoordinatorRecord)
    → greatest_held (coordinator_numbers c) ≤ greatest_narrow
    → coordinator_read (coordinator_numbers c) ≡ c
own_row c narrow = rw (row_own c narrow) (coordinator_back c [])

-- ---- A row that is none

-- Threshold 0 is none that a base gives.
zeros_inconsistent : (settings : Settings) (memory : List ℕ)
    → coordinator_consistent settings (coordinator_in settings no_coordinator memory) ≡ false
zeros_inconsistent settings memory =
    rw (
      ne_eqb 0 (threshold_of settings 0)
          (λ none. omega (arith, none, threshold_positive settings 0)),
      and_false (phase_consistent settings 0 Idle),
    )

no_record : (settings : Settings) (numbers memory : List ℕ)
    → coordinator_well numbers ≡ false
    → coordinator_consistent settings (coordinator_in settings (coordinator_read numbers) memory)
    ≡ false
no_record settings numbers memory none = rw none (zeros_inconsistent settings memory)

no_network : (settings : Settings) (sites : Sites) (site_memory numbers memory : List ℕ)
    → coordinator_well numbers ≡ false
    → network_consistent settings sites (coordinator_read numbers) site_memory memory ≡ false
no_network settings sites site_memory numbers memory none =
    rw (
      no_record settings numbers memory none,
      and_false (sites_consistent settings.sites settings sites.records site_memory),
    )

pub row_claims : RowClaims
row_claims = record {
  own_row = own_row;
  no_record = no_record;
  no_network = no_network;
}
