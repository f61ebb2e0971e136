-- `snapshot_saving::save_bench` meets its contract: refused, it writes nothing; else the four parts
-- one after another are the file.
use Rattle.std.specs.Prelude.{Err}
use Rattle.model.specs.Refusals.{number_of}
use mathlib.Core.Path.{◌≡◌, refl, sym, ap, ◌∙◌}
use mathlib.Core.List.{List}
use Prim.Native.Nat.{ℕ}
use native.Mathlib.Omega.{arith}
use lib.ListN.{length}
use borrow.Author.Rules.{rules}
use Rattle.laws.specs.Writing.{written_at}
use Rattle.model.specs.Held.{Held, held_by}
use Rattle.model.proofs.Thresholds.RefusalLaws.{refuses, accepted_by, refused_by, some_number}
use Rattle.model.proofs.Thresholds.SettingsLaws.{settled}
use Rattle.little_endian.specs.Numbers.{numbers_bytes}
use Rattle.little_endian.specs.Sections.{sections_bytes}
use Rattle.snapshot_file.specs.Layout.{desk_bytes, desk_place, decks_place_of}
use Rattle.snapshot_file.specs.File.{desk_numbers, deck_sections}
use Rattle.snapshot_file.proofs.LayoutLaws.{Long, length_of_decks}
use Rattle.snapshot_file.proofs.FitLaws.{Passed, passed_of}
use Rattle.snapshot_writing.specs.Parts.{TrailerAsks, trailer_place, trailer_over}
use Rattle.snapshot_saving.proofs.FileLaws.{file_written}
use Rattle.snapshot_saving.proofs.save_bench.Goals as goal
use Rattle.snapshot_saving.proofs.save_bench.Goals.{In_ok-test_save, Start}

abbrev held : Start → Held
held start =
    let a = start.args in
    held_by a.sites a.coordinator a.site_memory.now a.coordinator_memory.now

-- ---- Every test has passed
accepted : (c : In_ok-test_save)
    →
    Passed c.args.settings ((let a = c.args in
    held_by a.sites a.coordinator a.site_memory.now a.coordinator_memory.now))
    (length c.args.bytes.now)
accepted c =
    passed_of c.args.settings ((let a = c.args in
    held_by a.sites a.coordinator a.site_memory.now a.coordinator_memory.now))
    (length c.args.bytes.now)
    (accepted_by c.test_save.ensures c.in_ok-test_save.was)

-- Bytes for the file: those lent, and what the parts make of them.
file_fits : (c : In_ok-test_save) (bytes : List ℕ)
    →
    length bytes ≡ length c.args.bytes.now
    → TrailerAsks c.args.settings bytes
file_fits c bytes same = record {
  settings_accepted = (accepted c).settings_accepted;
  bytes_enough = omega (arith, (accepted c).room_enough, same);
}

long : (c : In_ok-test_save)
    →
    Long c.args.settings ((let a = c.args in
    held_by a.sites a.coordinator a.site_memory.now a.coordinator_memory.now))
long c =
    let all : length c.args.sites.records ≡ 32 =
    c.well_formed.1.0.1.1.0.1.0.1 in
    let all_counts : length c.args.sites.messages ≡ 32 = search rules in
    record {
      records_enough = omega (
        arith,
        all,
        (settled c.args.settings (accepted c).settings_accepted).sites.at_most,
      );
      counts_enough = omega (
        arith,
        all_counts,
        (settled c.args.settings (accepted c).settings_accepted).sites.at_most,
      );
      sites_long = (accepted c).sites_long;
      coordinator_long = (accepted c).coordinator_long;
    }

pub returns-in_err-test_save : goal.returns-in_err-test_save
returns-in_err-test_save c =
    let refusal = c.in_err-test_save.field-0.0 in
    let is : c.from_residual.result ≡ Err refusal = search rules in
    rw is
    (record {
      refusal = sym (refused_by c.test_save.ensures c.in_err-test_save.was);
      saved_length = refuses (number_of refusal) _ _ (some_number refusal);
      bytes = refuses (number_of refusal) _ _ (some_number refusal);
    })

-- ---- The parts
pub write_settings-requires : goal.write_settings-requires
write_settings-requires c =
    omega (
      arith,
      (accepted (goal.at.write_settings-requires
          c).In_ok-test_save).room_enough,
      length_of_decks c.args.settings,
    )

pub write_desk-requires : goal.write_desk-requires
write_desk-requires c =
    record {
      file_fits = file_fits (goal.at.write_desk-requires c).In_ok-test_save _
          c.write_settings.auto.bytes;
      memory_long = (accepted (goal.at.write_desk-requires
          c).In_ok-test_save).coordinator_long;
    }

pub write_decks-requires : goal.write_decks-requires
write_decks-requires c =
    record {
      file_fits = file_fits (goal.at.write_decks-requires c).In_ok-test_save _
          (c.write_desk.auto.bytes ∙ c.write_settings.auto.bytes);
      memory_long = (accepted (goal.at.write_decks-requires
          c).In_ok-test_save).sites_long;
    }

pub write_trailer-requires : goal.write_trailer-requires
write_trailer-requires c =
    file_fits (goal.at.write_trailer-requires c).In_ok-test_save _
    (c.write_decks.auto.bytes
    ∙ c.write_desk.auto.bytes
    ∙ c.write_settings.auto.bytes)

pub file_length-requires : goal.file_length-requires
file_length-requires c =
    (accepted (goal.at.file_length-requires c).In_ok-test_save).settings_accepted

pub returns : goal.returns
returns c =
    let a = c.args in
    let desk = numbers_bytes desk_bytes (desk_numbers a.settings (held (goal.at.returns c).Start))
    in
    let decks =
    sections_bytes (deck_sections a.settings.sites a.settings a.sites.records
    a.site_memory.now) in
    record {
      refusal = sym (accepted_by c.test_save.ensures c.in_ok-test_save.was);
      saved_length = c.file_length.ensures;
      bytes =
          c.write_trailer.ensures
          ∙ ap (λ (l : List ℕ). written_at (trailer_place a.settings)
          (trailer_over a.settings l) l)
          (c.write_decks.ensures
          ∙ ap (written_at (decks_place_of a.settings) decks)
          (c.write_desk.ensures
          ∙ ap (written_at desk_place desk) c.write_settings.ensures))
          ∙ file_written a.settings (held (goal.at.returns c).Start) a.bytes.now
          (long (goal.at.returns c).In_ok-test_save)
          (file_fits (goal.at.returns c).In_ok-test_save a.bytes.now refl);
    }
