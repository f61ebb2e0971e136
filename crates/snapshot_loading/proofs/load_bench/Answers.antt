-- Refused, or stored part by part.
use Rattle.std.specs.Prelude.{Err}
use mathlib.Core.Path.{◌≡◌, sym}
use borrow.Author.Rules.{rules}
use lib.ListN.{length}
use Rattle.model.specs.Refusals.{no_refusal, number_of}
use Rattle.model.proofs.Thresholds.RefusalLaws.{accepted_by, refused_by, some_number}
use Rattle.snapshot_file.specs.Reading.{load_refusal}
use Rattle.snapshot_file.proofs.ReadLaws.{accepted_of}
use Rattle.snapshot_header.specs.Header.{WholeFile}
use Rattle.snapshot_loading.proofs.AnswerLaws.{refused_says, whole_of, sites_enough, coordinator_enough, accepted_says}
use Rattle.snapshot_loading.proofs.load_bench.Goals as goal
use Rattle.snapshot_loading.proofs.load_bench.Goals.{After-settings_in-settings, In_ok-tested}

-- The file is accepted.
accepts : (c : In_ok-tested)
    → let a = c.args in
    load_refusal a.file.now (length a.site_memory.now) (length a.coordinator_memory.now)
    ≡ no_refusal
accepts c = search (rules, accepted_by)

whole : (c : After-settings_in-settings)
    → WholeFile c.settings_in-settings.result
    c.args.file.now
whole c =
    let a = c.args in
    whole_of a.file.now a.site_memory.now a.coordinator_memory.now
    (search (rules, accepted_by))
    c.settings_in-settings.result c.settings_in-settings.ensures

pub returns-in_err-tested : goal.returns-in_err-tested
returns-in_err-tested c =
    let a = c.args in
    let refusal = c.in_err-tested.field-0.0 in
    let is : c.from_residual.result ≡ Err refusal = search rules in
    rw is
    (refused_says a.file.now a.site_memory.now a.coordinator_memory.now (number_of refusal)
    (sym (search (rules, refused_by))) (some_number refusal))

pub settings_in-settings-requires : goal.settings_in-settings-requires
settings_in-settings-requires c =
    let a = c.args in
    record {
      long = (accepted_of a.file.now (length a.site_memory.now)
          (length a.coordinator_memory.now) (accepts c)).long;
    }

pub store_decks-requires : goal.store_decks-requires
store_decks-requires c =
    let a = c.args in
    record {
      whole = whole (goal.at.store_decks-requires c).After-settings_in-settings;
      memory_long = sites_enough a.file.now a.site_memory.now a.coordinator_memory.now
          (accepts (goal.at.store_decks-requires c).In_ok-tested)
          c.settings_in-settings.result c.settings_in-settings.ensures;
    }

pub store_desk-requires : goal.store_desk-requires
store_desk-requires c =
    let a = c.args in
    record {
      whole = whole (goal.at.store_desk-requires c).After-settings_in-settings;
      memory_long = coordinator_enough a.file.now a.site_memory.now
          a.coordinator_memory.now (accepts (goal.at.store_desk-requires
          c).In_ok-tested) c.settings_in-settings.result
          c.settings_in-settings.ensures;
    }

pub sites_in-requires : goal.sites_in-requires
sites_in-requires c =
    whole (goal.at.sites_in-requires c).After-settings_in-settings

pub desk_row-requires : goal.desk_row-requires
desk_row-requires c =
    whole (goal.at.desk_row-requires c).After-settings_in-settings

pub returns : goal.returns
returns c =
    let a = c.args in
    accepted_says a.file.now a.site_memory.now a.coordinator_memory.now
    (accepts (goal.at.returns c).In_ok-tested) c.settings_in-settings.result
    c.settings_in-settings.ensures
    c.store_decks.new.memory c.store_desk.new.memory
    c.desk_row.result c.sites_in.result c.coordinator_from.result
    c.store_decks.ensures c.store_desk.ensures c.sites_in.ensures
    c.desk_row.ensures c.coordinator_from.ensures
