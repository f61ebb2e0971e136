-- How a bench is laid out in a file (request N3), computed once from the settings: the shapes of
-- its sections, and from them every offset and the length.
--
--   settings_shape, desk_shape, deck_shape  "settings and desk part (8 bytes a number), then the
--                                          decks (4 bytes a number)"
--   pointers_shape, width_shape            the trailer but its last two bytes, which are the sum
--   file_shapes settings                   all but the sum
--   desk_place, decks_place_of settings    where the desk part begins, and the first deck
--   file_length settings, least_length     the bytes of a file; those of settings and trailer alone
use Rattle.std.specs.Prelude.{List, [], ◌∷◌, ◌++◌, ℕ, ◌+◌, replicate}
use Rattle.model.specs.declared.Settings.{Settings}
use Rattle.model.specs.SiteMemory.{site_words}
use Rattle.model.specs.CoordinatorMemory.{coordinator_words}
use Rattle.record_numbers.specs.Numbers.{settings_width, site_width, coordinator_width}
use Rattle.little_endian.specs.Sections.{Shape, shape, size_of}

-- ---- Widths

-- "(8 bytes a number)", "(4 bytes a number)"; of the trailer "4 bytes each", and twice "(2 ..)".
abbrev pub desk_bytes : ℕ
desk_bytes = 8

abbrev pub deck_bytes : ℕ
deck_bytes = 4

abbrev pub pointer_bytes : ℕ
pointer_bytes = 4

abbrev pub width_bytes : ℕ
width_bytes = 2

abbrev pub sum_bytes : ℕ
sum_bytes = 2

-- ---- Shapes

abbrev pub settings_shape : Shape
settings_shape = shape desk_bytes settings_width

-- The coordinator's memory, its record, and last in the desk part the count of messages of each of
-- the k sites (request N5).
abbrev pub desk_count : Settings → ℕ
desk_count settings = coordinator_words settings + coordinator_width + settings.sites

abbrev pub desk_shape : Settings → Shape
desk_shape settings = shape desk_bytes (desk_count settings)

-- A site's memory, "unused slots included", and its record "right after its memory".
abbrev pub deck_count : Settings → ℕ
deck_count settings = site_words settings + site_width

abbrev pub deck_shape : Settings → Shape
deck_shape settings = shape deck_bytes (deck_count settings)

abbrev pub bench_shapes : Settings → List Shape
bench_shapes settings =
    settings_shape ∷ (desk_shape settings ∷ replicate settings.sites (deck_shape settings))

-- "offset of the desk part, offset of the first deck (4 bytes each), deck number width (2, now 4)"
abbrev pub pointers_shape : Shape
pointers_shape = shape pointer_bytes 2

abbrev pub width_shape : Shape
width_shape = shape width_bytes 1

abbrev pub trailer_shapes : List Shape
trailer_shapes = pointers_shape ∷ (width_shape ∷ [])

abbrev pub file_shapes : Settings → List Shape
file_shapes settings = bench_shapes settings ++ trailer_shapes

-- ---- Offsets and lengths

abbrev pub desk_place : ℕ
desk_place = size_of (settings_shape ∷ [])

abbrev pub decks_place_of : Settings → ℕ
decks_place_of settings = size_of (settings_shape ∷ (desk_shape settings ∷ []))

-- "The last 12 bytes point back": pointers, width and sum.
abbrev pub trailer_length : ℕ
trailer_length = size_of trailer_shapes + sum_bytes

abbrev pub file_length : Settings → ℕ
file_length settings = size_of (file_shapes settings) + sum_bytes

-- "too short for settings and trailer"
abbrev pub least_length : ℕ
least_length = desk_place + trailer_length
