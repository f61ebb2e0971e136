-- Laws of numbers with a space before each, number after number.
--
--   spaced_number, spaced_joined        the pieces of numbers with a space before each
--   take_lesser                         as many of the first numbers as there are
--   Fitting                             whether they fit, number after number
use mathlib.Core.Path.{◌≡◌, refl, sym, ap, ◌∙◌}
use mathlib.Core.List.{List, [], ◌∷◌, ◌++◌, map}
use Prim.Native.Nat.{ℕ, ◌≤◌, min}
use native.Mathlib.Omega.{arith}
use native.Mathlib.Decide.{dec_le}
use lib.Dec.{leb}
use lib.ListN.{length, take, drop}
use lib.Seq.{take_all}
use Rattle.laws.proofs.Writing.{joined}
use Rattle.model.specs.Transcript.{spaced}
use Rattle.output_lines.proofs.LinesLaws.{spaced_number}

-- The pieces that a loop writes.
pub spaced_joined : (items : List ℕ) → joined (map spaced_number items) ≡ spaced items
spaced_joined [] = refl
spaced_joined (item ∷ items) =
    ap (λ (later : List ℕ). spaced_number item ++ later) (spaced_joined items)

-- As many of the first numbers as there are.
pub take_lesser : (items : List ℕ) (count lesser : ℕ)
    → lesser ≡ min count (length items)
    → take lesser items ≡ take count items
take_lesser items count lesser is = by_order (dec_le count (length items))
  where
    by_order : Dec (count ≤ length items) → take lesser items ≡ take count items
    by_order (yes fewer) =
        let same : lesser ≡ count = omega arith in
        ap (λ (n : ℕ). take n items) same
    by_order (no all) =
        take_all lesser items (omega arith) ∙ sym (take_all count items (omega arith))

-- ---- Whether they fit

-- After so many numbers the others must fit into what is left of the room.
pub record Fitting (items : List ℕ) (room left done : ℕ) : Type 0 where
  pub within : done ≤ length items
  pub is : leb (length (spaced (drop done items))) left ≡ leb (length (spaced items)) room
