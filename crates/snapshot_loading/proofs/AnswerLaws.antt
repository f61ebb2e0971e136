-- What reading answers, refused and accepted.
--
--   refused_says       a refused reading
--   settings_read, whole_of, sites_enough, coordinator_enough   what an accepted file is, with the
--                      settings as the code has them
--   accepted_says      an accepted reading, part by part
use Rattle.std.specs.Prelude.{if◌then◌else◌}
use mathlib.Core.Path.{◌≡◌, sym, ap, ◌∙◌, subst⁻¹}
use mathlib.Core.Bool.{Bool, false}
use mathlib.Core.List.{List}
use Prim.Native.Nat.{ℕ, ◌≤◌}
use lib.ListN.{length, take}
use borrow.Author.Tests.{ne_eqb}
use Rattle.model.specs.declared.Settings.{Settings}
use Rattle.model.specs.declared.Sites.{Sites}
use Rattle.model.specs.declared.CoordinatorRecord.{CoordinatorRecord}
use Rattle.model.specs.Choice.{is_zero}
use Rattle.model.specs.Refusals.{no_refusal}
use Rattle.model.specs.SiteMemory.{overwrite}
use Rattle.model.specs.CoordinatorMemory.{coordinator_words}
use Rattle.model.specs.NetworkMemory.{sites_words}
use Rattle.model.specs.Held.{Held}
use Rattle.model.proofs.Thresholds.SettingsLaws.{settled}
use Rattle.model.proofs.Soundness.ConsistentNetwork.{bench_rows}
use Rattle.record_numbers.specs.Numbers.{coordinator_width, no_coordinator, coordinator_from, coordinator_read}
use Rattle.snapshot_file.specs.Reading.{settings_in, desk_record, held_in, load_refusal}
use Rattle.snapshot_file.specs.Calls.{refused_by, bench_in, LoadSays}
use Rattle.snapshot_file.proofs.ReadLaws.{Accepted, accepted_of}
use Rattle.snapshot_header.specs.Header.{narrowed_settings, WholeFile}
use Rattle.snapshot_desk.proofs.DeskLaws.{record_there}
use Rattle.snapshot_refusal.proofs.NarrowLaws.{refusal_same, settings_same}
use Rattle.snapshot_refusal.proofs.BenchLaws.{record_narrow}

module _ (file site_memory coordinator_memory : List ℕ) where
  -- ---- Refused

  pub refused_says : (refusal : ℕ)
      → refusal ≡ load_refusal file (length site_memory) (length coordinator_memory)
      → (refusal ≡ no_refusal → ⊥)
      → LoadSays file site_memory coordinator_memory site_memory coordinator_memory
      (refused_by refusal)
  refused_says refusal is some =
      let none : is_zero refusal ≡ false = ne_eqb refusal 0 some in
      record {
        refusal = is;
        settings = rw none;
        sites = rw none;
        coordinator = rw none;
        site_memory = rw none;
        coordinator_memory = rw none;
      }

  -- ---- Accepted

  module _ (accepts : load_refusal file (length site_memory) (length coordinator_memory) ≡
      no_refusal)
    where
      facts : Accepted file (length site_memory) (length coordinator_memory)
      facts = accepted_of file (length site_memory) (length coordinator_memory) accepts

      module _ (settings : Settings) (read : settings ≡ narrowed_settings (settings_in file)) where
        pub settings_read : settings ≡ settings_in file
        settings_read =
            read
            ∙ settings_same (settings_in file)
            (refusal_same (settings_in file) ∙ facts.settings_accepted)

        pub whole_of : WholeFile settings file
        whole_of =
            subst⁻¹ (λ (s : Settings). WholeFile s file) settings_read
            (record { settings_accepted = facts.settings_accepted; length_is = facts.length_is })

        pub sites_enough : sites_words settings ≤ length site_memory
        sites_enough =
            subst⁻¹ (λ (s : Settings). sites_words s ≤ length site_memory) settings_read
            facts.sites_enough

        pub coordinator_enough : coordinator_words settings ≤ length coordinator_memory
        coordinator_enough =
            subst⁻¹ (λ (s : Settings). coordinator_words s ≤ length coordinator_memory)
            settings_read
            facts.coordinator_enough

        -- The row of the record is that of a consistent one.
        coordinator_is : (row : List ℕ) (coordinator : CoordinatorRecord)
            → row ≡ take coordinator_width (desk_record settings file)
            → coordinator ≡ coordinator_read row
            → coordinator ≡ (bench_in file).coordinator
        coordinator_is row coordinator row_is found =
            let s = settings_in file in
            let held = held_in s file in
            let numbers = desk_record s file in
            let rows = bench_rows s held.sites held.coordinator held.site_memory
            held.coordinator_memory facts.consistent in
            let well =
            record_narrow s (settled s facts.settings_accepted).sites.at_most numbers
            held.coordinator_memory facts.phase_well_lem rows.coordinator_row in
            found
            ∙ record_there settings file row row_is
            ∙ ap (λ (x : Settings). coordinator_read (desk_record x file)) settings_read
            ∙ ap (λ (b : Bool). if b then coordinator_from numbers else no_coordinator) well

        pub accepted_says : (site_after coordinator_after row : List ℕ) (sites : Sites)
            (coordinator : CoordinatorRecord)
            → site_after ≡ overwrite (held_in settings file).site_memory site_memory
            → coordinator_after
            ≡ overwrite (held_in settings file).coordinator_memory coordinator_memory
            → sites ≡ (held_in settings file).sites
            → row ≡ take coordinator_width (desk_record settings file)
            → coordinator ≡ coordinator_read row
            → LoadSays file site_memory coordinator_memory site_after coordinator_after
            (record {
              refusal = no_refusal;
              settings = settings;
              sites = sites;
              coordinator = coordinator;
            })
        accepted_says site_after coordinator_after row sites coordinator stored desk-stored
            sites_are row_is found =
            let bench : held_in settings file ≡ bench_in file =
            ap (λ (s : Settings). held_in s file) settings_read in
            record {
              refusal = sym accepts;
              settings = settings_read;
              sites = sites_are ∙ ap (λ (h : Held). h.sites) bench;
              coordinator = coordinator_is row coordinator row_is found;
              site_memory = stored ∙ ap (λ (h : Held). overwrite h.site_memory site_memory) bench;
              coordinator_memory = desk-stored
                  ∙ ap (λ (h : Held). overwrite h.coordinator_memory coordinator_memory) bench;
            }
