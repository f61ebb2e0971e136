-- Laws of pieces written one after another over a list.
--
--   written_sets, length_written      a piece is written element by element; the length stays
--   take_written, drop_written        the list up to the end of a piece, and past it
--   written_append, written_snoc      a piece, and another or one element right after it
--   put_one, put_length, put_as       one element put; the list keeps its length
--   joined pieces                     pieces one after the other
--   Stage, stage_begins, -room, -on, -ends       a whole that is written piece by piece
--   Putting, putting_begins, -room, -on, -ends   the same by a loop: a piece for each item
--   alone, joined_alone               one element as a piece: a loop that copies
use mathlib.Core.Path.{◌≡◌, refl, sym, ap, ◌∙◌, subst}
use mathlib.Core.List.{List, [], ◌∷◌, ◌++◌, map, append-nil}
use Prim.Native.Nat.{ℕ, suc, ◌+◌, ◌≤◌, ◌<◌}
use native.Mathlib.Nat.{add-zero}
use native.Mathlib.Numerals.{add-one}
use native.Mathlib.Omega.{arith}
use lib.ListN.{length, get_or, take, drop, set, length-append, take-append-drop, drop_of_length-le}
use lib.Seq.{sets, sets-eq, length-sets, length-take-le, take_at, drop_at, drop-cons}
use Rattle.laws.specs.Writing.{written_at, Put}

module _ {A : Type 0} where
  -- ---- A piece

  pub written_nothing : (place : ℕ) (list : List A) → written_at place [] list ≡ list
  written_nothing place list =
      rw (append-nil (take place list), add-zero place) (take-append-drop place list)

  module _ (place : ℕ) (piece list : List A) (fits : place + length piece ≤ length list) where
    pub written_sets : written_at place piece list ≡ sets list place piece
    written_sets = sym (sets-eq piece list place fits)

    pub length_written : length (written_at place piece list) ≡ length list
    length_written = ap length written_sets ∙ length-sets list place piece

    -- Up to its end, and past it.
    length_front : length (take place list ++ piece) ≡ place + length piece
    length_front =
        length-append (take place list) piece
        ∙ ap (λ (n : ℕ). n + length piece) (length-take-le place list (omega arith))

    pub take_written : take (place + length piece) (written_at place piece list)
        ≡ take place list ++ piece
    take_written = take_at (take place list ++ piece) _ (place + length piece) length_front

    pub drop_written : drop (place + length piece) (written_at place piece list)
        ≡ drop (place + length piece) list
    drop_written = drop_at (take place list ++ piece) _ (place + length piece) length_front

  -- ---- A piece after another

  sets_append : (first second list : List A) (place : ℕ)
      → sets (sets list place first) (place + length first) second
      ≡ sets list place (first ++ second)
  sets_append [] second list place = ap (λ (n : ℕ). sets list n second) (add-zero place)
  sets_append (x ∷ first) second list place =
      let next : place + suc (length first) ≡ suc place + length first = omega arith in
      ap (λ (n : ℕ). sets (sets (set list place x) (suc place) first) n second) next
      ∙ sets_append first second (set list place x) (suc place)

  pub written_append : (place : ℕ) (first second list : List A)
      → place + length first + length second ≤ length list
      → written_at (place + length first) second (written_at place first list)
      ≡ written_at place (first ++ second) list
  written_append place first second list fits =
      let front = written_sets place first list (omega arith) in
      let same = length_written place first list (omega arith) in
      let both = length-append first second in
      written_sets (place + length first) second (written_at place first list)
      (omega (arith, same))
      ∙ ap (λ (l : List A). sets l (place + length first) second) front
      ∙ sets_append first second list place
      ∙ sym (written_sets place (first ++ second) list (omega (arith, both)))

  -- One element is a piece that one store writes.
  pub written_snoc : (place : ℕ) (x : A) (piece list : List A)
      → place + length piece < length list
      → set (written_at place piece list) (place + length piece) x
      ≡ written_at place (piece ++ (x ∷ [])) list
  written_snoc place x piece list inside =
      let same = length_written place piece list (omega arith) in
      sym (written_sets (place + length piece) (x ∷ []) (written_at place piece list)
      (omega (arith, same)))
      ∙ written_append place piece (x ∷ []) list (omega arith)

  -- ---- Pieces put

  pub put_one : (place : ℕ) (x : A) (list : List A) (next : ℕ)
      → place < length list
      → next ≡ place + 1
      → Put (x ∷ []) place list (set list place x) next
  put_one place x list next inside after = record {
    place_after = after;
    out = sym (written_sets place (x ∷ []) list (omega arith));
  }

  pub put_length : {piece : List A} {place : ℕ} {before after : List A} {next : ℕ}
      → place + length piece ≤ length before
      → Put piece place before after next
      → length after ≡ length before
  put_length {piece} {place} {before} fits put =
      ap length put.out ∙ length_written place piece before fits

  -- The same piece under another name.
  pub put_as : {piece other : List A} {place : ℕ} {before after : List A} {next : ℕ}
      → piece ≡ other
      → Put piece place before after next
      → Put other place before after next
  put_as {place} {before} {after} {next} same put =
      subst (λ (l : List A). Put l place before after next) same put

  -- ---- A whole, piece by piece

  -- Pieces one after the other.
  abbrev pub joined : List (List A) → List A
  joined [] = []
  joined (piece ∷ pieces) = piece ++ joined pieces

  -- These pieces are left to write of a whole; they fit, and with them all of it is there.
  pub record Stage (whole : List A) (place : ℕ) (before : List A) (pieces : List (List A))
      (middle : List A) (next : ℕ) : Type 0 where
    pub room : next + length (joined pieces) ≤ length middle
    pub place_after : next + length (joined pieces) ≡ place + length whole
    pub comes_to : written_at next (joined pieces) middle ≡ written_at place whole before

  pub stage_begins : (whole : List A) (place : ℕ) (before : List A) (pieces : List (List A))
      → joined pieces ≡ whole
      → place + length whole ≤ length before
      → Stage whole place before pieces before place
  stage_begins whole place before pieces is fits = record {
    room = rw is fits;
    place_after = ap (λ (l : List A). place + length l) is;
    comes_to = ap (λ (l : List A). written_at place l before) is;
  }

  module _ {whole : List A} {place : ℕ} {before piece : List A} {pieces : List (List A)}
      {middle : List A} {next : ℕ}
      (stage : Stage whole place before (piece ∷ pieces) middle next) where
    both : length (piece ++ joined pieces) ≡ length piece + length (joined pieces)
    both = length-append piece (joined pieces)

    pub stage_room : next + length piece ≤ length middle
    stage_room = omega (arith, both, stage.room)

    pub stage_on : {after : List A} {end : ℕ}
        → Put piece next middle after end
        → Stage whole place before pieces after end
    stage_on {after} {end} put = record {
      room =
          omega (arith, put_length stage_room put, both, stage.room, put.place_after);
      place_after = omega (arith, both, stage.place_after, put.place_after);
      comes_to =
          (λ i. written_at (put.place_after i) (joined pieces) (put.out i))
          ∙ written_append next piece (joined pieces) middle (omega (arith, both, stage.room))
          ∙ stage.comes_to;
    }

  -- The whole is written.
  pub stage_ends : {whole : List A} {place : ℕ} {before middle : List A} {next : ℕ}
      → Stage whole place before [] middle next
      → Put whole place before middle next
  stage_ends {middle} {next} stage = record {
    place_after = omega (arith, stage.place_after);
    out = sym (written_nothing next middle) ∙ stage.comes_to;
  }

-- ---- A loop that writes a piece for each item

module _ {A B : Type 0} (piece : B → List A) (default : B) where
  -- The pieces of so many items are written.
  pub record Putting (items : List B) (place : ℕ) (before out : List A) (next done : ℕ) : Type 0
    where
      pub within : done ≤ length items
      pub same_length : length out ≡ length before
      pub stage : Stage (joined (map piece items)) place before (map piece (drop done items)) out
          next

  pub putting_begins : (items : List B) (place : ℕ) (before : List A)
      → place + length (joined (map piece items)) ≤ length before
      → Putting items place before before place 0
  putting_begins items place before fits = record {
    within = omega arith;
    same_length = refl;
    stage = stage_begins _ place before (map piece items) refl fits;
  }

  module _ {items : List B} {place : ℕ} {before out : List A} {next : ℕ} (done : ℕ)
      (putting : Putting items place before out next done) where
    module _ (more : done < length items) where
      -- The next item's piece comes first.
      next_stage : Stage (joined (map piece items)) place before
          (piece (get_or items done default) ∷ map piece (drop (done + 1) items)) out next
      next_stage =
          subst (λ (left : List B).
          Stage (joined (map piece items)) place before (map piece left) out next)
          (drop-cons items done default more
          ∙ ap (λ (n : ℕ). get_or items done default ∷ drop n items) (sym (add-one done)))
          putting.stage

      pub putting_room : next + length (piece (get_or items done default)) ≤ length out
      putting_room = stage_room next_stage

      pub putting_on : {after : List A} {end : ℕ}
          → Put (piece (get_or items done default)) next out after end
          → Putting items place before after end (done + 1)
      putting_on put = record {
        within = omega arith;
        same_length = put_length putting_room put ∙ putting.same_length;
        stage = stage_on next_stage put;
      }

    pub putting_ends : length items ≤ done → Put (joined (map piece items)) place before out next
    putting_ends past =
        stage_ends (subst (λ (left : List B).
        Stage (joined (map piece items)) place before (map piece left) out next)
        (drop_of_length-le items past) putting.stage)

-- ---- A copy, element by element

module _ {A : Type 0} where
  abbrev pub alone : A → List A
  alone x = x ∷ []

  pub joined_alone : (list : List A) → joined (map alone list) ≡ list
  joined_alone [] = refl
  joined_alone (x ∷ list) = ap (λ (l : List A). x ∷ l) (joined_alone list)
