-- Calls that save a bench and read it, made of their contracts: so there are such calls, and at a
-- bench that has arisen they are accepted.
--
--   saving settings bench            `tracker_save`, to bytes that held eights
--   reading other file               `tracker_load`
--   saves, loads                     both are accepted
--   closed_used, closed_same         the chain goes on, and what is held is what was saved
use Rattle.std.specs.Prelude.{if◌then◌else◌}
use mathlib.Core.Path.{◌≡◌, refl}
use mathlib.Core.List.{List}
use Prim.Native.Nat.{ℕ, ◌≤◌}
use native.Mathlib.Omega.{arith}
use lib.ListN.{length, take, replicate, length-replicate}
use Rattle.model.specs.declared.Settings.{Settings}
use Rattle.model.specs.Refusals.{no_refusal}
use Rattle.model.specs.Choice.{is_zero}
use Rattle.model.specs.SiteMemory.{overwrite}
use Rattle.model.specs.CoordinatorMemory.{coordinator_words}
use Rattle.model.specs.NetworkMemory.{sites_words, fresh_sites}
use Rattle.record_numbers.specs.Numbers.{settings_numbers, sites_numbers, coordinator_numbers}
use Rattle.library_rows.specs.Rows.{handed_out}
use Rattle.snapshot_file.specs.Answers.{LoadAnswer, SaveAnswer}
use Rattle.snapshot_file.specs.Layout.{file_length}
use Rattle.snapshot_file.specs.File.{file_of, save_refusal}
use Rattle.snapshot_file.specs.Reading.{settings_in, load_refusal}
use Rattle.snapshot_file.specs.Calls.{zero_settings, fresh_record, bench_in}
use Rattle.laws.specs.Writing.{written_at}
use Rattle.history.specs.State.{Held, State, fronts, lending, carried_to, holding}
use Rattle.library_history.specs.Bench.{Bench, held_in, changed, unchanged}
use Rattle.library_history.specs.Calls.{SaveCall, file_by, LoadCall, after_load}
use Rattle.library_history.specs.Used.{closed_and_read, Used, called}
use Rattle.library_history.proofs.Theorem.{use_claims}

-- ---- The calls

module _ (settings : Settings) (bench : Bench) where
  abbrev lent : Held
  lent = lending (held_in bench) (fronts (sites_words settings) (coordinator_words settings))

  abbrev eights : List ℕ
  eights = replicate (file_length settings) 8

  abbrev saved : SaveAnswer
  saved = record {
    refusal = save_refusal settings lent (length eights);
    length = if is_zero (save_refusal settings lent (length eights)) then file_length settings else
        0;
  }

  abbrev pub saving : SaveCall bench
  saving = record {
    settings = unchanged (settings_numbers settings);
    deck_lent = sites_words settings;
    desk_lent = coordinator_words settings;
    bytes = changed eights
        (if is_zero saved.refusal then written_at 0 (file_of settings lent) eights else eights);
    written = record { before = 9; after = handed_out saved.refusal saved.length 9 };
    answer = saved.refusal;
    says = record {
      saved = saved;
      says = record { refusal = refl; saved_length = refl; bytes = refl };
      refusal = refl;
      file_length_lem = record { length_is = refl };
    };
  }

module _ (other : Bench) (deck_count desk_count : ℕ) (file : List ℕ) where
  abbrev deck_room : List ℕ
  deck_room = take deck_count other.deck_memory

  abbrev desk_room : List ℕ
  desk_room = take desk_count other.desk_memory

  abbrev refusal : ℕ
  refusal = load_refusal file (length deck_room) (length desk_room)

  abbrev loaded : LoadAnswer
  loaded = record {
    refusal = refusal;
    settings = if is_zero refusal then settings_in file else zero_settings;
    sites = if is_zero refusal then (bench_in file).sites else fresh_sites;
    coordinator = if is_zero refusal then (bench_in file).coordinator else fresh_record;
  }

  abbrev pub reading : LoadCall other
  reading = record {
    file = file;
    settings = changed (replicate 6 8)
        (handed_out refusal (settings_numbers loaded.settings) (replicate 6 8));
    decks = handed_out refusal (sites_numbers loaded.sites) other.decks;
    desk = handed_out refusal (coordinator_numbers loaded.coordinator) other.desk;
    deck_memory = record {
      count = deck_count;
      left = if is_zero refusal then overwrite (bench_in file).site_memory deck_room else deck_room;
    };
    desk_memory = record {
      count = desk_count;
      left = if is_zero refusal then overwrite (bench_in file).coordinator_memory desk_room
          else desk_room;
    };
    answer = refusal;
    says = record {
      loaded = loaded;
      says = record {
        refusal = refl;
        settings = refl;
        sites = refl;
        coordinator = refl;
        site_memory = refl;
        coordinator_memory = refl;
      };
      refusal = refl;
      rows = record { settings_are = refl; decks_are = refl; desk_is = refl };
    };
  }

-- ---- At a bench that has arisen

module _ (settings : Settings) (bench other : Bench) (state : State)
    (used : Used settings bench state) (deck_count desk_count : ℕ)
    (deck_room_lem : sites_words settings ≤ length (take deck_count other.deck_memory))
    (desk_room_lem : coordinator_words settings ≤ length (take desk_count other.desk_memory)) where
  abbrev save : SaveCall bench
  save = saving settings bench

  abbrev pub load : LoadCall other
  load = reading other deck_count desk_count (file_by save)

  saves : save.answer ≡ no_refusal
  saves =
      (use_claims.closes settings bench state used).save_accepts save refl (omega arith)
      (omega arith) (omega (arith, length-replicate {A = ℕ} (file_length settings) 8))

  loads : load.answer ≡ no_refusal
  loads =
      (use_claims.closes settings bench state used).load_accepts save other load refl saves refl
      deck_room_lem desk_room_lem

  pub closed_used : Used settings (after_load load) (holding state (held_in (after_load load)))
  closed_used =
      called bench (after_load load) state (holding state (held_in (after_load load))) used
      (closed_and_read save other load refl saves refl loads)

  pub closed_same : held_in (after_load load)
      ≡ carried_to settings (held_in bench) other.deck_memory other.desk_memory
  closed_same =
      ((use_claims.closes settings bench state used).read_again save other load refl saves refl
      loads).held_is
