-- Request N3's instances, in one table: the figures of four files, and the edges of why a file is
-- refused. The theorem `file-instances` of proofs/Instances.antt proves them all.
--
--   batch_state                   P2 by the batch call under settings A: five messages are counted
--   full_settings                 the most sites, counters and items
--   fresh_file, batch_file, announcing_file  the files of three states that histories reach
--   two_decks, fresh_two, older_file two decks, just started, and their file before request N5
--   last_bytes file               its trailer: 12 bytes, fewer for a shorter file
--   patched place byte            the last of them with one byte changed, and with its right sum
--   only_trailer width low high   60 bytes: zeros but for width and sum
--   only_settings settings        60 bytes: settings and trailer, with the right sum
use Rattle.std.specs.Prelude.{◌≡◌, List, [], ◌∷◌, ◌++◌, ℕ, ◌+◌, ◌-◌, ◌^◌, length, set, take, drop, replicate}
use Rattle.model.specs.declared.Settings.{Settings}
use Rattle.model.specs.declared.Phase.TheVariants.{Idle, Announcing}
use Rattle.model.specs.Refusals.{no_refusal, setting_out_of_range, memory_too_short, memory_inconsistent, file_unreadable, checksum_wrong}
use Rattle.model.specs.Settings.{settings_with}
use Rattle.model.specs.Coordinator.{fresh_coordinator}
use Rattle.model.specs.CoordinatorMemory.{coordinator_words, coordinator_record}
use Rattle.model.specs.NetworkMemory.{sites_words, fresh_sites}
use Rattle.model.specs.Held.{Held, held_by}
use Rattle.model.specs.MessageCounts.{total_count}
use Rattle.model.specs.Instances.{settings_a, draw}
use Rattle.record_numbers.specs.Numbers.{settings_numbers}
use Rattle.little_endian.specs.Sections.{section, sections_bytes}
use Rattle.checksum.specs.Sums.{byte_sum}
use Rattle.snapshot_file.specs.Layout.{desk_bytes, deck_bytes, pointer_bytes, width_bytes, desk_count, desk_place, decks_place_of, trailer_length, file_length}
use Rattle.snapshot_file.specs.File.{desk_numbers, deck_sections, trailer_sections, summed, file_of, save_refusal}
use Rattle.snapshot_file.specs.Reading.{desk_pointer, decks_pointer, unsummed, load_refusal}
use Rattle.history.specs.State.{State}
use Rattle.history.specs.Histories.{Reachable}
use Rattle.history_examples.specs.Example.{coordinator_with, coordinator_numbers, held_with, all_messages, started_state, after_poll_answer}

-- ---- Benches

-- "A after P2 by the batch call".
abbrev pub batch_state : State
batch_state = record {
  held = held_with 1 5 (coordinator_with 1 1 0 Idle) (coordinator_numbers 1 1);
  waiting = [];
  accepted = draw ∷ [];
  messages = all_messages 1;
  log = all_messages 1;
  logged = 5;
}

-- "k 32, c 3000, u 65,536"; no other number says anything of a file's length.
abbrev pub full_settings : Settings
full_settings = settings_with 32 1000 1000 500 3000 65536

-- Settings A with a second deck, and a bench of them that has just been started.
abbrev pub two_decks : Settings
two_decks = settings_with 2 1000 1000 500 6 10

abbrev pub fresh_two : Held
fresh_two =
    held_by fresh_sites (coordinator_record (fresh_coordinator two_decks))
    (replicate (sites_words two_decks) 0) (replicate (coordinator_words two_decks) 0)

-- ---- Files

abbrev pub fresh_file : List ℕ
fresh_file = file_of settings_a started_state.held

abbrev pub batch_file : List ℕ
batch_file = file_of settings_a batch_state.held

abbrev pub announcing_file : List ℕ
announcing_file = file_of settings_a after_poll_answer.held

abbrev pub last_bytes : List ℕ → List ℕ
last_bytes file = drop (length file - trailer_length) file

abbrev pub patched : ℕ → ℕ → List ℕ
patched place byte = summed (set (unsummed announcing_file) place byte)

abbrev pub only_trailer : ℕ → ℕ → ℕ → List ℕ
only_trailer width low high = replicate 56 0 ++ (width ∷ 0 ∷ low ∷ high ∷ [])

abbrev pub only_settings : Settings → List ℕ
only_settings settings =
    summed (sections_bytes
    (section desk_bytes (settings_numbers settings) ∷ trailer_sections settings))

-- The same bench as a file had it before request N5: one count at the end of its desk part.
abbrev pub older_file : List ℕ
older_file =
    summed (sections_bytes (section desk_bytes (settings_numbers two_decks)
    ∷ section desk_bytes (take (desk_count two_decks - 1) (desk_numbers two_decks fresh_two))
    ∷ deck_sections 2 two_decks fresh_two.sites.records fresh_two.site_memory
    ++ (section pointer_bytes (desk_place ∷ (decks_place_of two_decks - desk_bytes) ∷ [])
    ∷ section width_bytes (deck_bytes ∷ []) ∷ [])))

-- ---- The table

pub record FileInstances : Type 0 where
  -- "A fresh": "12,632", "48, 8408", "1034", "48 0 0 0 216 32 0 0 4 0 10 4"
  pub fresh_reached : Reachable settings_a started_state
  pub fresh_length : length fresh_file ≡ 12632
  pub fresh_desk : desk_pointer fresh_file ≡ 48
  pub fresh_decks : decks_pointer fresh_file ≡ 8408
  pub fresh_sum : byte_sum (unsummed fresh_file) ≡ 1034
  pub fresh_last : last_bytes fresh_file
      ≡ 48 ∷ 0 ∷ 0 ∷ 0 ∷ 216 ∷ 32 ∷ 0 ∷ 0 ∷ 4 ∷ 0 ∷ 10 ∷ 4 ∷ []
  -- "A after P2 by the batch call": "12,632", "48, 8408", "1055", ".. 4 0 31 4"
  pub batch_reached : Reachable settings_a batch_state
  pub batch_length : length batch_file ≡ 12632
  pub batch_desk : desk_pointer batch_file ≡ 48
  pub batch_decks : decks_pointer batch_file ≡ 8408
  pub batch_sum : byte_sum (unsummed batch_file) ≡ 1055
  pub batch_last : last_bytes batch_file
      ≡ 48 ∷ 0 ∷ 0 ∷ 0 ∷ 216 ∷ 32 ∷ 0 ∷ 0 ∷ 4 ∷ 0 ∷ 31 ∷ 4 ∷ []
  -- "A, single calls, after kind 4 (announcing to deck 0, message count 0)": "12,632", "48, 8408",
  -- "1054"
  pub announcing_reached : Reachable settings_a after_poll_answer
  pub announcing_phase : after_poll_answer.held.coordinator.phase ≡ Announcing 0
  pub announcing_count : total_count settings_a after_poll_answer.held.sites ≡ 0
  pub announcing_length : length announcing_file ≡ 12632
  pub announcing_desk : desk_pointer announcing_file ≡ 48
  pub announcing_decks : decks_pointer announcing_file ≡ 8408
  pub announcing_sum : byte_sum (unsummed announcing_file) ≡ 1054
  -- "k 32, c 3000, u 65,536": "2,200,340", "48, 532,616", and 31 counts of 8 bytes more (N5)
  pub full_length : file_length full_settings ≡ 2200588
  pub full_desk : desk_place ≡ 48
  pub full_decks : decks_place_of full_settings ≡ 532864
  -- saving in mid-delivery is accepted; "4 when .. the lent bytes are too short"
  pub save_exact : save_refusal settings_a after_poll_answer.held 12632 ≡ no_refusal
  pub save_short : save_refusal settings_a after_poll_answer.held 12631 ≡ memory_too_short
  -- what is read back; "4 when lent memory is too short"
  pub load_exact : load_refusal announcing_file 1048 1034 ≡ no_refusal
  pub load_sites_short : load_refusal announcing_file 1047 1034 ≡ memory_too_short
  -- a byte changed without the sum is 16: the phase's number stands from byte 8360 on
  pub load_unmended : load_refusal (set announcing_file 8360 2) 1048 1034 ≡ checksum_wrong
  -- "8-byte numbers are taken whole": the fifth byte of the phase's number is 15, of its deck 11
  pub load_phase_whole : load_refusal (patched 8364 1) 1048 1034 ≡ file_unreadable
  pub load_phase_deck : load_refusal (patched 8372 1) 1048 1034 ≡ memory_inconsistent
  -- "15 under 60 bytes": none, and one too few
  pub load_empty : load_refusal [] 0 0 ≡ file_unreadable
  pub load_59 : load_refusal (drop 1 (only_trailer 4 4 0)) 0 0 ≡ file_unreadable
  pub load_59_zeros : load_refusal (replicate 59 0) 0 0 ≡ file_unreadable
  -- "or width not 4", be the sum right or wrong
  pub load_width_right : load_refusal (only_trailer 8 8 0) 0 0 ≡ file_unreadable
  pub load_width_wrong : load_refusal (only_trailer 8 0 0) 0 0 ≡ file_unreadable
  -- "16; 1, 2, 3": settings of zeros, with a wrong sum and the right one
  pub load_sum_wrong : load_refusal (only_trailer 4 0 0) 0 0 ≡ checksum_wrong
  pub load_sum_right : load_refusal (only_trailer 4 4 0) 0 0 ≡ setting_out_of_range
  -- "k = 2^32 + 1 is 1"
  pub load_sites_whole :
      load_refusal (only_settings (settings_with (2 ^ 32 + 1) 1000 1000 500 6 10)) 0 0
      ≡ setting_out_of_range
  -- request N5: k counts in the desk part; "older files of two or more decks are refused with 15"
  pub two_length : file_length two_decks ≡ 16852
  pub two_decks_lem : decks_place_of two_decks ≡ 8416
  pub load_two : load_refusal (file_of two_decks fresh_two) 2096 1034 ≡ no_refusal
  pub load_older : load_refusal older_file 2096 1034 ≡ file_unreadable
  -- "15 when .. the length is not the one these settings give", before 4
  pub load_cut : load_refusal (only_settings settings_a) 0 0 ≡ file_unreadable
