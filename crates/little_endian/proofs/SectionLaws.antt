-- A file as a list of sections: what is written is read back, and what is read is written again.
--
--   length_sections_bytes           the bytes that sections take
--   size_append, shapes_append, bytes_append     two lists of sections, one after the other
--   sections_read_of_written        sections whose numbers fit, whatever follows them
--   shapes_of_read                  the sections read have the shapes asked for
--   sections_written_of_read        bytes are written again as they were read
use mathlib.Core.Path.{◌≡◌, refl}
use mathlib.Core.List.{List, [], ◌∷◌, ◌++◌, append_assoc}
use Prim.Native.Nat.{ℕ, ◌+◌, ◌*◌, ◌≤◌}
use native.Mathlib.Omega.{arith}
use lib.ListN.{length, take, drop, length-append, length-drop}
use lib.Seq.{drop_at, take-add}
use Rattle.little_endian.specs.Numbers.{byte_range, numbers_bytes, AllBelow}
use Rattle.little_endian.specs.Sections.{Section, Shape, shapes_of, size_of, sections_bytes, sections_in, AllFit}
use Rattle.little_endian.proofs.NumberLaws.{length_numbers_bytes, length_numbers_in, numbers_read_of_written, numbers_written_of_read, all_below_drop}

pub length_sections_bytes : (sections : List Section)
    → length (sections_bytes sections) ≡ size_of (shapes_of sections)
length_sections_bytes [] = refl
length_sections_bytes (s ∷ sections) =
    simp (length-append, length_numbers_bytes, length_sections_bytes sections)

pub size_append : (first second : List Shape)
    → size_of (first ++ second) ≡ size_of first + size_of second
size_append [] second = omega arith
size_append (s ∷ first) second = omega (arith, size_append first second)

pub bytes_append : (first second : List Section)
    → sections_bytes (first ++ second) ≡ sections_bytes first ++ sections_bytes second
bytes_append [] second = refl
bytes_append (s ∷ first) second = rw (bytes_append first second, append_assoc)

pub shapes_append : (first second : List Section)
    → shapes_of (first ++ second) ≡ shapes_of first ++ shapes_of second
shapes_append [] second = refl
shapes_append (s ∷ first) second = rw (shapes_append first second)

-- Sections whose numbers fit are read back, whatever follows them.
pub sections_read_of_written : (sections : List Section) (rest : List ℕ)
    → AllFit sections
    → sections_in (shapes_of sections) (sections_bytes sections ++ rest) ≡ sections
sections_read_of_written [] rest fit = refl
sections_read_of_written (s ∷ sections) rest fit =
    let front = numbers_bytes s.width s.numbers in
    let more = sections_bytes sections ++ rest in
    let back : drop (s.width * length s.numbers) (front ++ more) ≡ more =
    drop_at front more _ (length_numbers_bytes s.width s.numbers) in
    let numbers = numbers_read_of_written s.width s.numbers more fit.0 in
    let others = sections_read_of_written sections rest fit.1 in
    rw (append_assoc, back, others, numbers)

-- The sections read have the shapes asked for.
pub shapes_of_read : (shapes : List Shape) (bytes : List ℕ)
    → shapes_of (sections_in shapes bytes) ≡ shapes
shapes_of_read [] bytes = refl
shapes_of_read (shape ∷ shapes) bytes =
    let rest = drop (shape.width * shape.count) bytes in
    rw (
      length_numbers_in shape.width shape.count bytes,
      shapes_of_read shapes rest,
    )

-- Bytes are written again as they were read.
pub sections_written_of_read : (shapes : List Shape) (bytes : List ℕ)
    → AllBelow byte_range bytes
    → size_of shapes ≤ length bytes
    → sections_bytes (sections_in shapes bytes) ≡ take (size_of shapes) bytes
sections_written_of_read [] bytes below fits = refl
sections_written_of_read (shape ∷ shapes) bytes below fits =
    let size = shape.width * shape.count in
    let front = numbers_written_of_read shape.width shape.count bytes below (omega arith) in
    let back =
    sections_written_of_read shapes (drop size bytes) (all_below_drop size bytes below)
    (omega (arith, length-drop size bytes)) in
    rw (take-add, front, back)
