-- The bytes of a bench (request N3), and why saving one is refused.
--
--   own_counts                    the counts of messages of the k decks
--   desk_numbers, deck_sections   the numbers of the desk part, and of the decks
--   bench_sections, file_sections  all sections of a bench; the same with the trailer's
--   file_of settings held         the file: these sections' bytes, and their sum
--   benchRefused                  memory too short, or inconsistent
--   save_refusal                  1, 2, 3; 4; 11
use Rattle.std.specs.Prelude.{◌||◌, not, List, [], ◌∷◌, ◌++◌, ℕ, zero, suc, ltb, take, drop}
use Rattle.model.specs.declared.Settings.{Settings}
use Rattle.model.specs.declared.SiteRecord.{SiteRecord}
use Rattle.model.specs.Refusals.{when, ◌or_else◌, no_refusal, memory_too_short, memory_inconsistent}
use Rattle.model.specs.Settings.{settings_refusal}
use Rattle.model.specs.SiteMemory.{site_words}
use Rattle.model.specs.CoordinatorMemory.{coordinator_words}
use Rattle.model.specs.NetworkMemory.{network_too_short}
use Rattle.model.specs.Held.{Held, held_consistent}
use Rattle.record_numbers.specs.Numbers.{settings_numbers, site_numbers, coordinator_numbers}
use Rattle.little_endian.specs.Numbers.{little_endian}
use Rattle.little_endian.specs.Sections.{Section, section, sections_bytes}
use Rattle.checksum.specs.Sums.{byte_sum}
use Rattle.snapshot_file.specs.Layout.{desk_bytes, deck_bytes, pointer_bytes, width_bytes, sum_bytes, desk_place, decks_place_of, file_length}

-- ---- Sections

-- The counts of messages that a file has: those of the k sites, in their order.
abbrev pub own_counts : Settings → Held → List ℕ
own_counts settings held = take settings.sites held.sites.messages

-- "The numbers stand in document 01's order": the memory, the record, and the counts last.
abbrev pub desk_numbers : Settings → Held → List ℕ
desk_numbers settings held =
    take (coordinator_words settings) held.coordinator_memory
    ++ (coordinator_numbers held.coordinator ++ own_counts settings held)

-- A site's memory, unused counters as they stand, and its record right after it.
abbrev pub deck_numbers : Settings → SiteRecord → List ℕ → List ℕ
deck_numbers settings numbers memory = take (site_words settings) memory ++ site_numbers numbers

-- The decks one after another, as their memory stands.
abbrev pub deck_sections : ℕ → Settings → List SiteRecord → List ℕ → List Section
deck_sections zero settings records memory = []
deck_sections (suc more) settings [] memory = []
deck_sections (suc more) settings (first ∷ others) memory =
    section deck_bytes (deck_numbers settings first memory)
    ∷ deck_sections more settings others (drop (site_words settings) memory)

abbrev pub bench_sections : Settings → Held → List Section
bench_sections settings held =
    section desk_bytes (settings_numbers settings)
    ∷ (section desk_bytes (desk_numbers settings held)
    ∷ deck_sections settings.sites settings held.sites.records held.site_memory)

-- "offset of the desk part, offset of the first deck .., deck number width (2, now 4)"
abbrev pub trailer_sections : Settings → List Section
trailer_sections settings =
    section pointer_bytes (desk_place ∷ (decks_place_of settings ∷ []))
    ∷ (section width_bytes (deck_bytes ∷ []) ∷ [])

abbrev pub file_sections : Settings → Held → List Section
file_sections settings held = bench_sections settings held ++ trailer_sections settings

-- ---- The file

-- "sum of all earlier bytes and of these ten modulo 65,536 (2)"
abbrev pub summed : List ℕ → List ℕ
summed bytes = bytes ++ little_endian sum_bytes (byte_sum bytes)

abbrev pub file_of : Settings → Held → List ℕ
file_of settings held = summed (sections_bytes (file_sections settings held))

-- ---- Saving

-- "4 also when the lent bytes are too few for the file"; of 11 what every bench must meet, not what
-- the many-draw call asks beside it: one in mid-delivery is saved.
abbrev pub save_refusal : Settings → Held → ℕ → ℕ
save_refusal settings held room =
    settings_refusal settings
    or_else when
    (network_too_short settings held.site_memory held.coordinator_memory
    || ltb room (file_length settings))
    memory_too_short
    or_else when (not (held_consistent settings held)) memory_inconsistent
    or_else no_refusal
