-- The network that records and memory hold, after a call on the coordinator was put back: the
-- coordinator and nothing else has changed. PROOF.md section 9, "Decode/encode".
--
--   length_coordinator_memory     writing a coordinator keeps the length
--   network_coordinator_written   the coordinator's record and memory put back
--   network_announced             its record alone put back, after an announcement
use Rattle.std.specs.Prelude.{if◌then◌else◌}
use mathlib.Core.Path.{◌≡◌, refl, ap}
use mathlib.Core.Bool.{Bool, true, false}
use mathlib.Core.List.{List, ◌++◌}
use Prim.Native.Nat.{ℕ, ◌+◌, ◌≤◌}
use native.Mathlib.Omega.{arith}
use lib.Dec.{ltb}
use lib.ListN.{length, length-append}
use Rattle.model.specs.declared.Settings.{Settings}
use Rattle.model.specs.declared.Phase.{Phase}
use Rattle.model.specs.declared.Phase.TheVariants.{Idle, Collecting, Probing, Announcing}
use Rattle.model.specs.Limits.{value_count}
use Rattle.model.specs.Coordinator.{Coordinator, with_phase, at_rest, announced_in, announced}
use Rattle.model.specs.CoordinatorMemory.{coordinator_words, coordinator_in, coordinator_record, coordinator_memory}
use Rattle.model.specs.Network.{with_coordinator}
use Rattle.coordinator_kinds.proofs.MemoryLaws.{written_coordinator}
use Rattle.history.specs.State.{Held, network_of, after_coordinator_call}
use Rattle.laws.proofs.FlatMemory.{length_overwritten}

-- As many numbers are written as there were.
pub length_coordinator_memory : (settings : Settings) (c : Coordinator) (memory : List ℕ)
    → length c.estimates ≡ settings.universe
    → length c.histogram ≡ value_count
    → coordinator_words settings ≤ length memory
    → length (coordinator_memory c memory) ≡ length memory
length_coordinator_memory settings c memory estimates values long =
    let numbers = c.estimates ++ c.histogram in
    let width : length numbers ≡ length c.estimates + length c.histogram =
    length-append c.estimates c.histogram in
    length_overwritten numbers memory (omega (arith, width))

module _ (settings : Settings) (held : Held) where
  -- The coordinator as it was written, and every site as it was.
  pub network_coordinator_written : (c : Coordinator)
      → length c.estimates ≡ settings.universe
      → length c.histogram ≡ value_count
      → network_of settings
      (after_coordinator_call held (coordinator_record c)
      (coordinator_memory c held.coordinator_memory))
      ≡ with_coordinator (network_of settings held) c
  network_coordinator_written c estimates values =
      ap (with_coordinator (network_of settings held))
      (written_coordinator settings c held.coordinator_memory estimates values)

  -- An announcement changes phase and signals alone.
  announced_in_lem : (phase : Phase)
      → coordinator_in settings
      (coordinator_record
      (announced_in settings (coordinator_in settings held.coordinator held.coordinator_memory)
      phase).coordinator)
      held.coordinator_memory
      ≡ (announced_in settings (coordinator_in settings held.coordinator held.coordinator_memory)
      phase).coordinator
  announced_in_lem Idle = refl
  announced_in_lem (Collecting site) = refl
  announced_in_lem (Probing site low high sum) = refl
  announced_in_lem (Announcing site) = by_site (ltb (site + 1) settings.sites)
    where
      c : Coordinator
      c = coordinator_in settings held.coordinator held.coordinator_memory

      by_site : (more : Bool)
          → coordinator_in settings
          (coordinator_record (if more then with_phase c (Announcing (site + 1)) else at_rest c))
          held.coordinator_memory
          ≡ (if more then with_phase c (Announcing (site + 1)) else at_rest c)
      by_site true = refl
      by_site false = refl

  -- The coordinator after an announcement, and every site as it was.
  pub network_announced :
      network_of settings
      (after_coordinator_call held
      (coordinator_record
      (announced settings (network_of settings held).coordinator).coordinator)
      held.coordinator_memory)
      ≡ with_coordinator (network_of settings held)
      (announced settings (network_of settings held).coordinator).coordinator
  network_announced =
      ap (with_coordinator (network_of settings held)) (announced_in_lem held.coordinator.phase)
