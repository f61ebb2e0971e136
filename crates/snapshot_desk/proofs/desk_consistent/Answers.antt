-- The parts of the test in the code's order are `coordinator_consistent` (consistent-parts). The
-- base is known to be small when the threshold is computed.
use mathlib.Core.Path.{◌≡◌, sym, ap, ◌∙◌}
use native.Mathlib.Omega.{arith}
use borrow.Author.Tests.{eq-eqb, ne_eqb}
use Rattle.model.specs.declared.CoordinatorRecord.{CoordinatorRecord}
use Rattle.model.specs.CoordinatorMemory.{coordinator_in, coordinator_consistent}
use Rattle.model.specs.Settings.{threshold_of}
use Rattle.record_numbers.specs.Numbers.{coordinator_read}
use Rattle.coordinator_memory.proofs.ConsistencyLaws.{consistent_parts, record_facts}
use Rattle.coordinator_steps.proofs.StepLaws.{settings_fit}
use Rattle.snapshot_file.specs.Reading.{desk_record}
use Rattle.snapshot_desk.specs.Desk.{desk_memory}
use Rattle.snapshot_desk.proofs.DeskLaws.{record_there}
use Rattle.snapshot_desk.proofs.desk_consistent.Goals as goal
use Rattle.snapshot_desk.proofs.desk_consistent.Goals.{After-coordinator_from-coordinator}

-- What the test is of, by the record that the code read.
told : (c : After-coordinator_from-coordinator)
    → let a = c.args in
    let memory = desk_memory a.settings a.file.now in
    coordinator_consistent a.settings
    (coordinator_in a.settings c.coordinator_from-coordinator.result memory)
    ≡ coordinator_consistent a.settings
    (coordinator_in a.settings (coordinator_read (desk_record a.settings a.file.now)) memory)
told c =
    let a = c.args in
    let memory = desk_memory a.settings a.file.now in
    ap (λ (r : CoordinatorRecord).
    coordinator_consistent a.settings (coordinator_in a.settings r memory))
    (c.coordinator_from-coordinator.ensures
    ∙ record_there a.settings a.file.now c.desk_row-row.result
    c.desk_row-row.ensures)

pub threshold_of-requires : goal.threshold_of-requires
threshold_of-requires c =
    let coordinator = c.coordinator_from-coordinator.result in
    let facts = record_facts c.args.settings coordinator
    (sym c.record_consistent.ensures ∙ c.if-record_consistent.true) in
    record {
      settings_fit = settings_fit c.args.settings c.requires.settings_accepted;
      base_small = omega (arith, facts.base_within, facts.total_within);
    }

pub returns-then-coordinator-threshold_of : goal.returns-then-coordinator-threshold_of
returns-then-coordinator-threshold_of c =
    let a = c.args in
    let coordinator = c.coordinator_from-coordinator.result in
    let equal : coordinator.threshold ≡ threshold_of a.settings coordinator.base =
    c.if-coordinator-threshold_of.true ∙ c.threshold_of.ensures in
    sym
    (sym (told (goal.at.returns-then-coordinator-threshold_of c).After-coordinator_from-coordinator)
    ∙ consistent_parts a.settings coordinator (desk_memory a.settings a.file.now)
    ∙ rw (
      sym c.record_consistent.ensures ∙ c.if-record_consistent.true,
      eq-eqb _ _ equal,
    )
    (sym c.memory_consistent.ensures))

pub returns-else-coordinator-threshold_of : goal.returns-else-coordinator-threshold_of
returns-else-coordinator-threshold_of c =
    let a = c.args in
    sym
    (sym (told (goal.at.returns-else-coordinator-threshold_of c).After-coordinator_from-coordinator)
    ∙ consistent_parts a.settings c.coordinator_from-coordinator.result
    (desk_memory a.settings a.file.now)
    ∙ rw (
      sym c.record_consistent.ensures ∙ c.if-record_consistent.true,
      ne_eqb _ _ (λ equal. c.if-coordinator-threshold_of.false
          (equal ∙ sym c.threshold_of.ensures)),
    ))

pub returns-else-record_consistent : goal.returns-else-record_consistent
returns-else-record_consistent c =
    let a = c.args in
    sym
    (sym (told (goal.at.returns-else-record_consistent c).After-coordinator_from-coordinator)
    ∙ consistent_parts a.settings c.coordinator_from-coordinator.result
    (desk_memory a.settings a.file.now)
    ∙ rw (sym c.record_consistent.ensures ∙ c.if-record_consistent.false))
