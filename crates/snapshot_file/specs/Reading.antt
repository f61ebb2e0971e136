-- What a file says, and why reading one is refused (request N3). The bytes handed over are the
-- file; its trailer is their last 12 bytes.
--
--   width_in, sum_in, desk_pointer, decks_pointer  the numbers of the trailer
--   settings_in file                             the settings, taken whole
--   desk_in, deck_in                             the numbers of the desk part, and of a deck
--   desk_record, counts_in                       of the desk part: the record's and the counts
--   records_in, words_in                          the decks' records and memory, one after another
--   held_in settings file                        the bench that the file holds
--   shape_wrong, layout_wrong                    15, before the sum and after the settings
--   load_refusal file sites coordinator          15, 16; 1, 2, 3; 15; 4; 11
use Rattle.std.specs.Prelude.{Bool, ◌||◌, not, List, [], ◌∷◌, ◌++◌, ℕ, zero, suc, ◌+◌, ◌-◌, ◌*◌, ltb, eqb, length, take, drop, replicate}
use Rattle.model.specs.declared.Settings.{Settings}
use Rattle.model.specs.declared.SiteRecord.{SiteRecord}
use Rattle.model.specs.Refusals.{when, ◌or_else◌, no_refusal, memory_too_short, memory_inconsistent, file_unreadable, checksum_wrong}
use Rattle.model.specs.Limits.{most_sites}
use Rattle.model.specs.Settings.{settings_refusal}
use Rattle.model.specs.Site.{fresh_site}
use Rattle.model.specs.SiteMemory.{site_words, site_record}
use Rattle.model.specs.CoordinatorMemory.{coordinator_words}
use Rattle.model.specs.NetworkMemory.{sites_words}
use Rattle.model.specs.Held.{Held, held_by, held_consistent}
use Rattle.record_numbers.specs.Numbers.{settings_width, settings_from, site_from, coordinator_width, coordinator_from, phase_well_in}
use Rattle.little_endian.specs.Numbers.{numbers_in, number_at}
use Rattle.checksum.specs.Sums.{byte_sum}
use Rattle.snapshot_file.specs.Layout.{desk_bytes, deck_bytes, pointer_bytes, width_bytes, sum_bytes, desk_count, deck_count, desk_place, decks_place_of, trailer_length, file_length, least_length}

-- ---- The trailer, which is the last bytes

-- A number of the trailer: so many bytes before the end.
abbrev pub from_end : ℕ → ℕ → List ℕ → ℕ
from_end width back file = number_at width (length file - back) file

abbrev pub desk_pointer : List ℕ → ℕ
desk_pointer file = from_end pointer_bytes trailer_length file

abbrev pub decks_pointer : List ℕ → ℕ
decks_pointer file = from_end pointer_bytes (trailer_length - pointer_bytes) file

abbrev pub width_in : List ℕ → ℕ
width_in file = from_end width_bytes (width_bytes + sum_bytes) file

abbrev pub sum_in : List ℕ → ℕ
sum_in file = from_end sum_bytes sum_bytes file

-- What the sum is of.
abbrev pub unsummed : List ℕ → List ℕ
unsummed file = take (length file - sum_bytes) file

-- ---- The bench

abbrev pub settings_in : List ℕ → Settings
settings_in file = settings_from (numbers_in desk_bytes settings_width file)

abbrev pub desk_in : Settings → List ℕ → List ℕ
desk_in settings file = numbers_in desk_bytes (desk_count settings) (drop desk_place file)

-- The record's numbers follow the memory's, and the counts those.
abbrev pub desk_record : Settings → List ℕ → List ℕ
desk_record settings file = drop (coordinator_words settings) (desk_in settings file)

abbrev pub counts_in : Settings → List ℕ → List ℕ
counts_in settings file = drop coordinator_width (desk_record settings file)

-- A deck at the front of bytes.
abbrev pub deck_in : Settings → List ℕ → List ℕ
deck_in settings bytes = numbers_in deck_bytes (deck_count settings) bytes

abbrev pub deck_size : Settings → ℕ
deck_size settings = deck_bytes * deck_count settings

abbrev pub records_in : ℕ → Settings → List ℕ → List SiteRecord
records_in zero settings bytes = []
records_in (suc more) settings bytes =
    site_from (drop (site_words settings) (deck_in settings bytes))
    ∷ records_in more settings (drop (deck_size settings) bytes)

abbrev pub words_in : ℕ → Settings → List ℕ → List ℕ
words_in zero settings bytes = []
words_in (suc more) settings bytes =
    take (site_words settings) (deck_in settings bytes)
    ++ words_in more settings (drop (deck_size settings) bytes)

-- Records k to 31 are fresh and counts k to 31 are 0; the memories have just as many numbers as the
-- settings need.
abbrev pub held_in : Settings → List ℕ → Held
held_in settings file =
    held_by (record {
      records = records_in settings.sites settings (drop (decks_place_of settings) file)
          ++ replicate (most_sites - settings.sites) (site_record fresh_site);
      messages = counts_in settings file ++ replicate (most_sites - settings.sites) 0;
    })
    (coordinator_from (desk_record settings file))
    (words_in settings.sites settings (drop (decks_place_of settings) file))
    (take (coordinator_words settings) (desk_in settings file))

-- ---- Refusals

-- "15 when the file is too short for settings and trailer or the width is unknown"
abbrev pub shape_wrong : List ℕ → Bool
shape_wrong file = ltb (length file) least_length || not (eqb (width_in file) deck_bytes)

-- "then 15 when an offset or the file's length isn't the one those settings give, or a phase number
-- is above 3 or an unused one isn't 0"
abbrev pub layout_wrong : Settings → List ℕ → Bool
layout_wrong settings file =
    not (eqb (desk_pointer file) desk_place)
    || not (eqb (decks_pointer file) (decks_place_of settings))
    || not (eqb (length file) (file_length settings))
    || not (phase_well_in (desk_record settings file))

-- In this order; "16, tested next, when the sum differs; then the settings' own numbers"; "then the
-- memory rules".
abbrev pub load_refusal : List ℕ → ℕ → ℕ → ℕ
load_refusal file site_count coordinator_count =
    let settings = settings_in file in
    when (shape_wrong file) file_unreadable
    or_else when (not (eqb (byte_sum (unsummed file)) (sum_in file))) checksum_wrong
    or_else settings_refusal settings
    or_else when (layout_wrong settings file) file_unreadable
    or_else when
    (ltb site_count (sites_words settings) || ltb coordinator_count (coordinator_words settings))
    memory_too_short
    or_else when (not (held_consistent settings (held_in settings file))) memory_inconsistent
    or_else no_refusal
