-- A file as a list of sections, each a width and its numbers: a request that changes what a file
-- holds changes a list, and none of the laws.
--
--   Section, Shape                a width with numbers, or with how many they are
--   shapes_of sections            the shapes of sections
--   size_of shapes                 the bytes that they take
--   sections_bytes sections       the bytes of sections, one after another
--   sections_in shapes bytes      the sections of these shapes that bytes say
--   AllFit sections               every number of every section fits its width
use Rattle.std.specs.Prelude.{List, [], ◌∷◌, ◌++◌, ℕ, ◌+◌, ◌*◌, ◌^◌, length, drop}
use Rattle.little_endian.specs.Numbers.{byte_range, numbers_bytes, numbers_in, AllBelow}

-- Numbers that take equally many bytes each.
pub record Section : Type 0 where
  pub width : ℕ
  pub numbers : List ℕ

abbrev pub section : ℕ → List ℕ → Section
section width numbers = record { width = width; numbers = numbers }

-- What is known of a section before it is read.
pub record Shape : Type 0 where
  pub width : ℕ
  pub count : ℕ

abbrev pub shape : ℕ → ℕ → Shape
shape width count = record { width = width; count = count }

abbrev pub shape_of : Section → Shape
shape_of s = shape s.width (length s.numbers)

abbrev pub shapes_of : List Section → List Shape
shapes_of [] = []
shapes_of (s ∷ sections) = shape_of s ∷ shapes_of sections

abbrev pub size_of : List Shape → ℕ
size_of [] = 0
size_of (s ∷ shapes) = s.width * s.count + size_of shapes

abbrev pub sections_bytes : List Section → List ℕ
sections_bytes [] = []
sections_bytes (s ∷ sections) = numbers_bytes s.width s.numbers ++ sections_bytes sections

abbrev pub sections_in : List Shape → List ℕ → List Section
sections_in [] bytes = []
sections_in (s ∷ shapes) bytes =
    section s.width (numbers_in s.width s.count bytes)
    ∷ sections_in shapes (drop (s.width * s.count) bytes)

abbrev pub AllFit : List Section → Type 0
AllFit [] = Unit
AllFit (s ∷ sections) = AllBelow (byte_range ^ s.width) s.numbers × AllFit sections
