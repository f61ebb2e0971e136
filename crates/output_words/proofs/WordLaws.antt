-- Laws of the words of a refusal.
--
--   words_past                 past the table
--   words_few                  how many bytes they take; as_long, the same words take as many
use mathlib.Core.Path.{◌≡◌, refl, ap, subst}
use mathlib.Core.Bool.{Bool, true, ◌&&◌}
use mathlib.Core.List.{List, [], ◌∷◌}
use Prim.Native.Nat.{ℕ, zero, suc, ◌+◌, ◌≤◌}
use Prim.Native.String.{String}
use native.Mathlib.Omega.{arith}
use lib.Dec.{leb}
use lib.ListN.{length, get_or}
use borrow.Author.Tests.{leb-true}
use Rattle.laws.proofs.Tests.{both_true}
use Rattle.output_words.specs.Words.{bytes_of, refusal_words, words_of}

get_d_past : (table : List String) (n : ℕ) (other : String)
    → length table ≤ n
    → get_or table n other ≡ other
get_d_past [] n other past = refl
get_d_past (words ∷ table) zero other past = absurd (omega arith)
get_d_past (words ∷ table) (suc n) other past = get_d_past table n other (omega arith)

pub words_past : (refusal : ℕ) → 15 ≤ refusal → words_of refusal ≡ bytes_of "unknown refusal"
words_past refusal past = ap bytes_of (get_d_past refusal_words refusal "unknown refusal" past)

-- Each of the table, and what stands for the others.
shorts : (most : ℕ) → List String → Bool
shorts most [] = true
shorts most (words ∷ table) = leb (length (bytes_of words)) most && shorts most table

get_d_few : (most : ℕ) (table : List String) (n : ℕ) (other : String)
    → shorts most table ≡ true
    → length (bytes_of other) ≤ most
    → length (bytes_of (get_or table n other)) ≤ most
unfolding shorts
get_d_few most [] n other all few = few
get_d_few most (words ∷ table) zero other all few =
    leb-true _ most (both_true (leb (length (bytes_of words)) most) _ all).first_true
get_d_few most (words ∷ table) (suc n) other all few =
    get_d_few most table n other
    (both_true (leb (length (bytes_of words)) most) _ all).second_true few

pub words_few : (refusal : ℕ) → length (words_of refusal) ≤ 31
unfolding shorts
words_few refusal = get_d_few 31 refusal_words refusal "unknown refusal" refl (omega arith)

-- The same words fit as well.
pub as_long : (at room : ℕ) {words others : List ℕ} → words ≡ others
    → at + length words ≤ room
    → at + length others ≤ room
as_long at room is = subst (λ (w : List ℕ). at + length w ≤ room) is
