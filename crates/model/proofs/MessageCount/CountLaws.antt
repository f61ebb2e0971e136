-- Laws of the counts of messages by site (request N5).
--
--   one_more_le, count_le           a count grows by no more than the messages
--   counted_up_append               messages counted one part after the other
--   length_counted_up               no count is added or lost
--   count_naming                    a count grows by the messages that name its site
--   naming_append, naming_le        of two parts; no more than all messages
--   NamesBelow k messages           each message names a site below k
--   names_append, names_last        of two parts, and of the second of them
--   names_at                        the message at a place
--   naming_none                     no message names a site from k on
--   total_counted                   the sum of the first k counts grows by one for each message
--   none_counted_lem, none_in_all   where nothing was counted
use Rattle.std.specs.Prelude.{if◌then◌else◌}
use mathlib.Core.Path.{◌≡◌, refl, sym, ◌∙◌}
use mathlib.Core.Bool.{Bool, true, false}
use mathlib.Core.List.{List, [], ◌∷◌, ◌++◌}
use Prim.Native.Nat.{ℕ, zero, suc, ◌+◌, ◌≤◌, ◌<◌}
use native.Mathlib.Omega.{arith}
use native.Mathlib.Decide.{ℕ_discrete}
use lib.Dec.{eqb}
use lib.ListN.{length, get_or, take, replicate, length-set}
use lib.Seq.{get_or-set_same, get_or-set_other}
use borrow.Author.Tests.{eq-eqb, ne_eqb}
use Rattle.model.specs.declared.Message.{Message}
use Rattle.model.specs.Site.{one_more_at}
use Rattle.model.specs.SiteMemory.{sum}
use Rattle.model.specs.MessageCounts.{count_at, counted_up, naming}

-- ---- One message more

pub one_more_le : (counts : List ℕ) (i j : ℕ)
    → count_at (one_more_at counts i) j ≤ count_at counts j + 1
one_more_le [] i j = omega arith
one_more_le (count ∷ counts) zero zero = omega arith
one_more_le (count ∷ counts) zero (suc j) = omega arith
one_more_le (count ∷ counts) (suc i) zero = omega arith
one_more_le (count ∷ counts) (suc i) (suc j) = one_more_le counts i j

-- The count of the site that is named grows by one, the others stay.
one_more_at_lem : (counts : List ℕ) (i j : ℕ)
    → j < length counts
    → count_at (one_more_at counts i) j ≡ count_at counts j + (if eqb i j then 1 else 0)
one_more_at_lem counts i j inside = by_place (ℕ_discrete i j)
  where
    by_place : Dec (i ≡ j)
        → count_at (one_more_at counts i) j ≡ count_at counts j + (if eqb i j then 1 else 0)
    by_place (yes same) =
        rw (eq-eqb i j same, same) (get_or-set_same counts j (count_at counts j + 1) 0 inside)
    by_place (no other) =
        rw (ne_eqb i j other)
        (omega (
          arith,
          get_or-set_other counts i j (count_at counts i + 1) 0 (λ same. other (sym same)),
        ))

one_more_sum : (k : ℕ) (counts : List ℕ) (i : ℕ)
    → i < k
    → k ≤ length counts
    → sum (take k (one_more_at counts i)) ≡ sum (take k counts) + 1
one_more_sum zero counts i below enough = absurd (omega arith)
one_more_sum (suc k) [] i below enough = absurd (omega arith)
one_more_sum (suc k) (count ∷ counts) zero below enough = omega arith
one_more_sum (suc k) (count ∷ counts) (suc i) below enough =
    omega (arith, one_more_sum k counts i (omega arith) (omega arith))

-- ---- Many messages

pub counted_up_append : (counts : List ℕ) (first second : List Message)
    → counted_up counts (first ++ second) ≡ counted_up (counted_up counts first) second
counted_up_append counts [] second = refl
counted_up_append counts (m ∷ first) second =
    counted_up_append (one_more_at counts m.site) first second

pub length_counted_up : (counts : List ℕ) (messages : List Message)
    → length (counted_up counts messages) ≡ length counts
length_counted_up counts [] = refl
length_counted_up counts (m ∷ messages) =
    length_counted_up (one_more_at counts m.site) messages ∙ length-set counts m.site _

pub count_le : (counts : List ℕ) (messages : List Message) (j : ℕ)
    → count_at (counted_up counts messages) j ≤ count_at counts j + length messages
count_le counts [] j = omega arith
count_le counts (m ∷ messages) j =
    omega (
      arith,
      count_le (one_more_at counts m.site) messages j,
      one_more_le counts m.site j,
    )

-- ---- The messages that name a site

pub count_naming : (counts : List ℕ) (messages : List Message) (j : ℕ)
    → j < length counts
    → count_at (counted_up counts messages) j ≡ count_at counts j + naming j messages
count_naming counts [] j inside = omega arith
count_naming counts (m ∷ messages) j inside =
    omega (
      arith,
      count_naming (one_more_at counts m.site) messages j
          (omega (arith, length-set counts m.site (count_at counts m.site + 1))),
      one_more_at_lem counts m.site j inside,
    )

pub naming_append : (j : ℕ) (first second : List Message)
    → naming j (first ++ second) ≡ naming j first + naming j second
naming_append j [] second = omega arith
naming_append j (m ∷ first) second = omega (arith, naming_append j first second)

pub naming_le : (j : ℕ) (messages : List Message) → naming j messages ≤ length messages
naming_le j [] = omega arith
naming_le j (m ∷ messages) = by_test (eqb m.site j) (naming_le j messages)
  where
    by_test : (test : Bool) → naming j messages ≤ length messages
        → (if test then 1 else 0) + naming j messages ≤ suc (length messages)
    by_test true rest = omega arith
    by_test false rest = omega arith

-- ---- Messages that name sites below k

pub data NamesBelow (k : ℕ) : List Message → Type 0 where
  names_none : NamesBelow k []
  names_more : (m : Message) (messages : List Message)
      → m.site < k
      → NamesBelow k messages
      → NamesBelow k (m ∷ messages)

pub names_append : {k : ℕ} {first second : List Message}
    → NamesBelow k first
    → NamesBelow k second
    → NamesBelow k (first ++ second)
names_append names_none rest = rest
names_append (names_more m messages below others) rest =
    names_more m _ below (names_append others rest)

pub names_last : {k : ℕ} (first : List Message) {second : List Message}
    → NamesBelow k (first ++ second)
    → NamesBelow k second
names_last [] all = all
names_last (m ∷ first) (names_more m' messages below others) = names_last first others

pub names_at : {k : ℕ} {messages : List Message} (i : ℕ) (other : Message)
    → NamesBelow k messages
    → i < length messages
    → (get_or messages i other).site < k
names_at i other names_none inside = absurd (omega arith)
names_at zero other (names_more m messages below others) inside = below
names_at (suc i) other (names_more m messages below others) inside =
    names_at i other others (omega arith)

pub naming_none : {k : ℕ} {messages : List Message} (j : ℕ)
    → NamesBelow k messages
    → k ≤ j
    → naming j messages ≡ 0
naming_none j names_none past = refl
naming_none j (names_more m messages below others) past =
    rw (ne_eqb m.site j (λ same. omega (arith, same, below)))
    (omega (arith, naming_none j others past))

pub total_counted : {k : ℕ} (counts : List ℕ) {messages : List Message}
    → NamesBelow k messages
    → k ≤ length counts
    → sum (take k (counted_up counts messages)) ≡ sum (take k counts) + length messages
total_counted counts names_none enough = omega arith
total_counted {k} counts (names_more m messages below others) enough =
    omega (
      arith,
      total_counted (one_more_at counts m.site) others
          (omega (arith, length-set counts m.site (count_at counts m.site + 1))),
      one_more_sum k counts m.site below enough,
    )

-- ---- Nothing counted

pub none_counted_lem : (n j : ℕ) → count_at (replicate n 0) j ≡ 0
none_counted_lem zero j = refl
none_counted_lem (suc n) zero = refl
none_counted_lem (suc n) (suc j) = none_counted_lem n j

pub none_in_all : (k n : ℕ) → sum (take k (replicate n 0)) ≡ 0
none_in_all zero n = refl
none_in_all (suc k) zero = refl
none_in_all (suc k) (suc n) = omega (arith, none_in_all k n)
