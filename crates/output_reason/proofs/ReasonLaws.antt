-- Laws of the line of a reason: how many bytes it takes, and the line in pieces.
--
--   place_line                 a line that has a number
--   place_few                  how many bytes a place takes
--   reason_pieces, reason_joined, reason_few    the line in pieces, and that it has room
use mathlib.Core.Path.{◌≡◌, refl, ap}
use mathlib.Core.List.{List, [], ◌∷◌, ◌++◌, append_assoc, append-nil}
use Prim.Native.Nat.{ℕ, zero, suc, ◌^◌, ◌≤◌, ◌<◌}
use native.Mathlib.Omega.{arith}
use lib.ListN.{length, length-append}
use Rattle.laws.proofs.Writing.{joined}
use Rattle.model.specs.Decimal.{decimal}
use Rattle.model.specs.Lines.{line_feed}
use Rattle.model.specs.Transcript.{space}
use Rattle.output_transcript.proofs.LineBounds.{line_claims}
use Rattle.output_words.specs.Words.{bytes_of, words_of}
use Rattle.output_words.proofs.WordLaws.{words_few}
use Rattle.output_reason.specs.Reason.{place_words, reason_line}

-- ---- The place

-- A number with a space before it.
abbrev pub spaced_number : ℕ → List ℕ
spaced_number n = space ∷ decimal n

pub place_line : (line : ℕ) → (line ≡ 0 → ⊥) → (line ≡ 1 → ⊥)
    → joined (bytes_of "line" ∷ spaced_number line ∷ []) ≡ place_words line
place_line zero not-0 not-1 = absurd (not-0 refl)
place_line (suc zero) not-0 not-1 = absurd (not-1 refl)
place_line (suc (suc earlier)) not-0 not-1 = refl

pub place_few : (line : ℕ) → line < 2 ^ 64 → length (place_words line) ≤ 25
place_few zero small = omega arith
place_few (suc zero) small = omega arith
place_few (suc (suc earlier)) small =
    let digits = line_claims.digits_64 (suc (suc earlier)) small in
    omega (arith, digits, length-append (decimal (suc (suc earlier))) [])

-- ---- The line

abbrev pub reason_pieces : ℕ → ℕ → List (List ℕ)
reason_pieces line refusal =
    bytes_of "drawtrack: "
    ∷ place_words line
    ∷ bytes_of ": refused"
    ∷ spaced_number refusal
    ∷ bytes_of ": "
    ∷ words_of refusal
    ∷ (line_feed ∷ [])
    ∷ []

seven : (a b c d e f g : List ℕ)
    → a ++ (b ++ (c ++ (d ++ (e ++ (f ++ (g ++ []))))))
    ≡ a ++ b ++ c ++ (d ++ []) ++ e ++ f ++ g
seven a b c d e f g = simp (append_assoc, append-nil)

pub reason_joined : (line refusal : ℕ)
    → joined (reason_pieces line refusal) ≡ reason_line line refusal
reason_joined line refusal =
    seven (bytes_of "drawtrack: ") (place_words line) (bytes_of ": refused") (spaced_number refusal)
    (bytes_of ": ") (words_of refusal) (line_feed ∷ [])

-- 11 + 25 + 9 + 21 + 2 + 31 + 1
pub reason_few : (line refusal : ℕ) → line < 2 ^ 64 → refusal < 2 ^ 64
    → length (reason_line line refusal) ≤ 100
reason_few line refusal Line-small small =
    let digits = line_claims.digits_64 refusal small in
    let words = words_of refusal ++ ((line_feed ∷ []) ++ []) in
    let number = spaced_number refusal ++ (bytes_of ": " ++ words) in
    omega (
      arith,
      ap length (reason_joined line refusal),
      length-append (bytes_of "drawtrack: ") (place_words line ++ (bytes_of ": refused" ++ number)),
      length-append (place_words line) (bytes_of ": refused" ++ number),
      length-append (bytes_of ": refused") number,
      length-append (spaced_number refusal) (bytes_of ": " ++ words),
      length-append (bytes_of ": ") words,
      length-append (words_of refusal) ((line_feed ∷ []) ++ []),
      place_few line Line-small,
      digits,
      words_few refusal,
    )
