-- A bench that is saved, and read into other rows and memories, is a closing of a history
-- (request N3).
--
--   read_history     it goes on as the one that was saved
--   closes           saving and reading are accepted, and what is read is what was held
use mathlib.Core.Path.{◌≡◌, sym, ap, ◌∙◌, subst}
use mathlib.Core.List.{List}
use Prim.Native.Nat.{ℕ, ◌≤◌}
use lib.ListN.{length, take}
use Rattle.model.specs.declared.Settings.{Settings}
use Rattle.model.specs.Refusals.{no_refusal}
use Rattle.model.specs.Settings.{settings_refusal}
use Rattle.model.specs.CoordinatorMemory.{coordinator_words}
use Rattle.model.specs.NetworkMemory.{sites_words}
use Rattle.record_numbers.specs.Numbers.{sites_from, coordinator_read}
use Rattle.snapshot_file.specs.Answers.{LoadAnswer, SaveAnswer}
use Rattle.snapshot_file.specs.Layout.{file_length}
use Rattle.snapshot_file.specs.File.{file_of, save_refusal}
use Rattle.snapshot_file.specs.Reading as Reading
use Rattle.snapshot_file.specs.Reading.{settings_in, load_refusal}
use Rattle.snapshot_file.specs.Calls.{SaveSays, bench_in, LoadSays}
use Rattle.snapshot_file.specs.Claims.{closed, OfMachine}
use Rattle.snapshot_file.proofs.FitLaws.{Passed}
use Rattle.snapshot_file.proofs.ReadLaws.{Accepted, accepted_of}
use Rattle.snapshot_file.proofs.Theorem.{file_claims}
use Rattle.history.specs.State.{Held, held_by, State, fronts, lending, holding}
use Rattle.history.specs.Histories.{Reachable, held_at_start, reopened}
use Rattle.demands.specs.Closing.{Again, Closing}
use Rattle.history.proofs.Answers.{accepted_choice, words_enough}
use Rattle.history.proofs.Arisen.{lasting}
use Rattle.history.proofs.MachineNumbers.{of_machine}
use Rattle.history.proofs.Reopened.{passed_save, file_back}
use Rattle.demands.proofs.Theorem.{demands}
use Rattle.single_outcome.proofs.HistoryLaws.{passes_of_reachable}
use Rattle.library_history.specs.Bench.{Bench, held_in}
use Rattle.library_history.specs.Calls.{Under, SaveCall, file_by, LoadCall, after_load}
use Rattle.library_history.specs.Claims.{ReadAgain, Closes}
use Rattle.library_history.proofs.OwnRows.{sites_own, coordinator_own}
use Rattle.library_history.proofs.ReadRows.{loaded_accepted, decks_read, desk_read, settings_read, whole_long, written_whole}

module _ {settings : Settings} (bench : Bench) (state : State)
    (reachable : Reachable settings (holding state (held_in bench))) where
  abbrev at : State
  at = holding state (held_in bench)

  passes : settings_refusal settings ≡ no_refusal
  passes = passes_of_reachable at reachable

  closing : Closing settings at
  closing = demands.closing settings at passes reachable

  module _ (save : SaveCall bench) (under : Under settings save.settings) where
    abbrev lent : Held
    lent = lending (held_in bench) (fronts save.deck_lent save.desk_lent)

    abbrev saved : SaveAnswer
    saved = save.says.saved

    save_says : SaveSays settings lent save.bytes.before save.bytes.after saved
    save_says =
        subst (λ (s : Settings).
        SaveSays s lent save.bytes.before save.bytes.after saved)
        under save.says.says

    save_accepts : sites_words settings ≤ save.deck_lent
        → coordinator_words settings ≤ save.desk_lent
        → file_length settings ≤ length save.bytes.before
        → save.answer ≡ no_refusal
    save_accepts sites_enough enough room =
        save.says.refusal
        ∙ save_says.refusal
        ∙ closing.saved save.deck_lent save.desk_lent (length save.bytes.before)
        sites_enough enough room

    module _ (saves : save.answer ≡ no_refusal) where
      save_accepted : saved.refusal ≡ no_refusal
      save_accepted = sym save.says.refusal ∙ saves

      -- The length that is handed out is that of the file.
      file_is : file_by save ≡ take saved.length save.bytes.after
      file_is =
          ap (λ (n : ℕ). take n save.bytes.after)
          (save.says.file_length_lem.length_is ∙ accepted_choice _ _ _ save_accepted)

      passed_here : Passed settings lent (length save.bytes.before)
      passed_here =
          passed_save settings lent save.bytes.before save.bytes.after saved save_says
          save_accepted

      machine : OfMachine settings lent
      machine =
          of_machine passes at (held_at_start reachable) (lasting passes at reachable)
          save.deck_lent save.desk_lent passed_here.sites_long

      -- The bytes are those of the bench.
      bytes_are : file_by save ≡ file_of settings lent
      bytes_are =
          file_is
          ∙ file_back settings lent save.bytes.before save.bytes.after saved save_says
          save_accepted machine

      none : save_refusal settings lent (length save.bytes.before) ≡ no_refusal
      none = sym save_says.refusal ∙ save_accepted

      module _ {other : Bench} (load : LoadCall other) (same : load.file ≡ file_by save) where
        abbrev loaded : LoadAnswer
        loaded = load.says.loaded

        abbrev deck_room : List ℕ
        deck_room = take load.deck_memory.count other.deck_memory

        abbrev desk_room : List ℕ
        desk_room = take load.desk_memory.count other.desk_memory

        -- Read into memories that are long enough.
        accepted_into : (site_room coordinator_room : ℕ)
            → sites_words settings ≤ site_room
            → coordinator_words settings ≤ coordinator_room
            → load_refusal load.file site_room coordinator_room ≡ no_refusal
        accepted_into site_room coordinator_room sites-room room =
            let sites_enough = words_enough (sites_words settings) save.deck_lent
            bench.deck_memory passed_here.sites_long in
            let enough = words_enough (coordinator_words settings) save.desk_lent
            bench.desk_memory passed_here.coordinator_long in
            ap (λ (file : List ℕ). load_refusal file site_room coordinator_room)
            (same ∙ bytes_are)
            ∙ closing.read save.deck_lent save.desk_lent site_room coordinator_room
            sites_enough enough sites-room room

        load_accepts : sites_words settings ≤ length deck_room
            → coordinator_words settings ≤ length desk_room
            → load.answer ≡ no_refusal
        load_accepts sites-room room =
            load.says.refusal
            ∙ load.says.says.refusal
            ∙ accepted_into (length deck_room) (length desk_room) sites-room room

        settings_in_lem : settings_in load.file ≡ settings
        settings_in_lem =
            ap settings_in (same ∙ bytes_are)
            ∙ file_claims.saved_settings settings lent (length save.bytes.before) none machine

        bench_in_lem : bench_in load.file ≡ closed settings lent
        bench_in_lem =
            let file-here = same ∙ bytes_are in
            (λ i. Reading.held_in (settings_in_lem i) (file-here i))
            ∙ file_claims.saved_bench settings lent (length save.bytes.before) none machine

        module _ (loads : load.answer ≡ no_refusal) where
          accepts : loaded.refusal ≡ no_refusal
          accepts = loaded_accepted load loads

          -- What was lent of the other memories was enough.
          enough_lent : Accepted load.file (length deck_room) (length desk_room)
          enough_lent =
              accepted_of load.file (length deck_room) (length desk_room)
              (sym load.says.says.refusal ∙ accepts)

          deck_room_lem : sites_words settings ≤ length deck_room
          deck_room_lem =
              subst (λ (s : Settings). sites_words s ≤ length deck_room) settings_in_lem
              enough_lent.sites_enough

          desk_room_lem : coordinator_words settings ≤ length desk_room
          desk_room_lem =
              subst (λ (s : Settings). coordinator_words s ≤ length desk_room) settings_in_lem
              enough_lent.coordinator_enough

          -- The contract of both memories lent whole.
          load_whole : LoadSays load.file other.deck_memory other.desk_memory
              (after_load load).deck_memory (after_load load).desk_memory loaded
          load_whole =
              let says = load.says.says in
              record {
                refusal = accepts
                    ∙ sym (accepted_into (length other.deck_memory) (length other.desk_memory)
                    (whole_long (sites_words settings) load.deck_memory.count
                    other.deck_memory deck_room_lem)
                    (whole_long (coordinator_words settings) load.desk_memory.count
                    other.desk_memory desk_room_lem));
                settings = says.settings;
                sites = says.sites;
                coordinator = says.coordinator;
                site_memory =
                    written_whole (bench_in load.file).site_memory other.deck_memory
                    load.deck_memory loaded.refusal (sites_words settings)
                    lent.site_memory accepts
                    (ap (λ (held : Held). held.site_memory) bench_in_lem) deck_room_lem
                    says.site_memory;
                coordinator_memory =
                    written_whole (bench_in load.file).coordinator_memory other.desk_memory
                    load.desk_memory loaded.refusal (coordinator_words settings)
                    lent.coordinator_memory accepts
                    (ap (λ (held : Held). held.coordinator_memory) bench_in_lem) desk_room_lem
                    says.coordinator_memory;
              }

          load_says : LoadSays (take saved.length save.bytes.after) other.deck_memory
              other.desk_memory (after_load load).deck_memory (after_load load).desk_memory loaded
          load_says =
              subst (λ (file : List ℕ).
              LoadSays file other.deck_memory other.desk_memory (after_load load).deck_memory
              (after_load load).desk_memory loaded)
              (same ∙ file_is) load_whole

          abbrev next : State
          next =
              holding at
              (held_by loaded.sites loaded.coordinator (after_load load).deck_memory
              (after_load load).desk_memory)

          reached : Reachable settings next
          reached =
              reopened at save.deck_lent save.desk_lent save.bytes.before
              save.bytes.after saved other.deck_memory other.desk_memory
              (after_load load).deck_memory (after_load load).desk_memory loaded reachable save_says
              save_accepted load_says accepts

          -- The rows stand for the records that were read.
          held_then : held_in (after_load load) ≡ next.held
          held_then =
              let sites = ap sites_from (decks_read load loads) ∙ sites_own next reached in
              let coordinator = ap coordinator_read (desk_read load loads)
              ∙ coordinator_own next reached in
              λ i. held_by (sites i) (coordinator i) (after_load load).deck_memory
              (after_load load).desk_memory

          pub read_history : Reachable settings (holding state (held_in (after_load load)))
          read_history =
              subst (λ (held : Held). Reachable settings (holding state held)) (sym held_then)
              reached

          again : Again settings (held_in bench) other.deck_memory other.desk_memory
              (after_load load).deck_memory (after_load load).desk_memory loaded
          again =
              closing.goes_on save.deck_lent save.desk_lent save.bytes.before
              save.bytes.after saved other.deck_memory other.desk_memory
              (after_load load).deck_memory (after_load load).desk_memory loaded save_says
              save_accepted load_says accepts

          read_again : ReadAgain settings bench other load
          read_again = record {
            settings_are = settings_read load loads ∙ again.settings_are;
            held_is = held_then ∙ again.held_is;
          }

  -- ---- The claim

  pub closes : Closes settings bench
  closes = record {
    save_accepts = save_accepts;
    load_accepts = λ save other load under saves same. load_accepts save under saves load same;
    read_again = λ save other load under saves same loads.
        read_again save under saves load same loads;
  }
