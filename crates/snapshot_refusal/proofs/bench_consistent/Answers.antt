-- The counts of messages, the decks, the desk part.
use mathlib.Core.Path.{sym, ◌∙◌}
use Rattle.model.proofs.Thresholds.SettingsLaws.{settled}
use Rattle.bench_memory.proofs.BenchLaws.{counts_refused, coordinator_decides, sites_refused}
use Rattle.snapshot_desk.specs.Desk.{desk_memory}
use Rattle.snapshot_file.specs.Reading.{desk_record, held_in}
use Rattle.snapshot_refusal.proofs.BenchLaws.{read_same}
use Rattle.snapshot_refusal.proofs.bench_consistent.Goals as goal

pub returns-then-decks_consistent : goal.returns-then-decks_consistent
returns-then-decks_consistent c =
    let a = c.args in
    let held = held_in a.settings a.file.now in
    c.desk_consistent.ensures
    ∙ read_same a.settings
    (settled a.settings c.requires.whole.settings_accepted).sites.at_most
    (desk_record a.settings a.file.now) (desk_memory a.settings a.file.now)
    c.requires.phase_well_lem
    ∙ coordinator_decides a.settings held.sites held.coordinator held.site_memory
    held.coordinator_memory
    (sym c.decks_consistent.ensures ∙ c.if-decks_consistent.true)
    (sym c.counts_within.ensures ∙ c.if-counts_within.true)

pub returns-else-decks_consistent : goal.returns-else-decks_consistent
returns-else-decks_consistent c =
    let a = c.args in
    let held = held_in a.settings a.file.now in
    sites_refused a.settings held.sites held.coordinator held.site_memory
    held.coordinator_memory
    (sym c.decks_consistent.ensures ∙ c.if-decks_consistent.false)

pub returns-else-counts_within : goal.returns-else-counts_within
returns-else-counts_within c =
    let a = c.args in
    let held = held_in a.settings a.file.now in
    counts_refused a.settings held.sites held.coordinator held.site_memory
    held.coordinator_memory
    (sym c.counts_within.ensures ∙ c.if-counts_within.false)
