-- The answer of the run follows from the response.
--
--   run_says            what a response is worth as the answer of the run
--   whole_of            an input was read whole where that is the answer
--   says_read, hands_read   the response to what the answer of the reading says
--   first_of            what was read is the first bytes of the input, as many as matter
--   run_gives           what it makes of an input
use Rattle.std.proofs.Common.{◌≡◌, ◌≢◌, refl, sym, ap, ◌∙◌, subst, Bool, true, false, List, [], ◌++◌, ℕ, ◌<◌, ◌≤◌, ltb, length, take, append-nil, take_all, take_at, length-take-le, arith, IfSome}
use Rattle.std.proofs.lemmas.Bool.{false≢true}
use Rattle.std.specs.declared.option.Option.{Option}
use Rattle.std.specs.Prelude.{Some, None}
use Rattle.std.specs.Io.KnownBytes.{Appends}
use borrow.Author.Tests.{ltb-true, ltb-false}
use Rattle.std.specs.Prelude.{Result, Ok, Err, is_ok}
use Rattle.descriptors.specs.declared.ReadFailed.{ReadFailed}
use Rattle.descriptors.specs.Descriptors.{Read, read_in, ReadAllGives}
use Rattle.drawtrack_steps.specs.Outcome.{Buffers}
use Rattle.drawtrack_course.specs.Rooms.{input_room}
use Rattle.drawtrack_course.specs.Ending.{Ending, ending}
use Rattle.drawtrack_response.specs.declared.Response.{Response}
use Rattle.drawtrack_response.specs.Responding.{status_of, status_failed, RespondSays, RespondHands}
use Rattle.drawtrack_run.specs.Running.{RunSays, failed, answered, RunGives}

pub run_says : (read : Bool) (input : List ℕ) (given left : Buffers) (before after : List ℕ)
    (answer : Response)
    → length input ≤ input_room
    → RespondSays read input given left before after answer
    → RunSays answer.status
run_says read input given left before after answer few says = by_failed answer.failed refl
  where
    by_failed : (lost : Bool) → answer.failed ≡ lost → RunSays answer.status
    by_failed true lost = subst RunSays (sym (says.status ∙ rw lost)) failed
    by_failed false fine = subst RunSays (sym (says.status ∙ rw fine)) (answered input few)

-- ---- The bytes

-- What the code has of a reading is what its answer says.
pub whole_of : (read : Result ℕ ReadFailed) → is_ok read ≡ (read_in read).whole
whole_of (Ok count) = refl
whole_of (Err lost) = refl

module _ (bytes : List ℕ) (read : Read) (whole : Bool) (count : ℕ) (whole_is : whole ≡ read.whole)
    (count_is : count ≡ read.length) where
  pub says_read : (given left : Buffers) (before after : List ℕ) (answer : Response)
      → RespondSays whole (take count bytes) given left before after answer
      → RespondSays read.whole (take read.length bytes) given left before after answer
  says_read given left before after answer says =
      subst (λ (n : ℕ). RespondSays read.whole (take n bytes) given left before after answer)
      count_is
      (subst (λ (all : Bool). RespondSays all (take count bytes) given left before after answer)
      whole_is says)

  pub hands_read : (held then : Option (List ℕ)) (answer : Response)
      → RespondHands whole (take count bytes) held then answer
      → RespondHands read.whole (take read.length bytes) held then answer
  hands_read held then answer hands =
      subst (λ (n : ℕ). RespondHands read.whole (take n bytes) held then answer) count_is
      (subst (λ (all : Bool). RespondHands all (take count bytes) held then answer) whole_is hands)

-- Either nothing is left, or as many were read as matter.
pub first_of : (whole piece rest : List ℕ) (room : ℕ)
    → whole ≡ piece ++ rest
    → length piece ≤ room
    → (length piece < room → rest ≡ [])
    → piece ≡ take room whole
first_of whole piece rest room is few end = by_less (ltb (length piece) room) refl
  where
    by_less : (less : Bool) → ltb (length piece) room ≡ less → piece ≡ take room whole
    by_less true less =
        let all : whole ≡ piece =
        is ∙ ap (λ (l : List ℕ). piece ++ l) (end (ltb-true (length piece) room less))
        ∙ append-nil piece in
        sym (take_all room whole (omega (arith, ap length all, few)) ∙ all)
    by_less false full =
        let same : length piece ≡ room =
        omega (arith, few, ltb-false (length piece) room full) in
        sym (ap (take room) is ∙ take_at piece rest room same)

-- A response that is not 2 comes of an input that was read whole, and every write was taken.
not_failed : (read : Bool) (input : List ℕ) (given left : Buffers) (before after : List ℕ)
    (answer : Response)
    → RespondSays read input given left before after answer
    → answer.status ≢ status_failed
    → answer.failed ≡ false
not_failed read input given left before after answer says fine = by_failed answer.failed refl
  where
    by_failed : (lost : Bool) → answer.failed ≡ lost → answer.failed ≡ false
    by_failed true lost = absurd (fine (says.status ∙ rw lost))
    by_failed false none = none

was_read : (read : Bool) (input : List ℕ) (given left : Buffers) (before after : List ℕ)
    (answer : Response)
    → RespondSays read input given left before after answer
    → answer.failed ≡ false
    → read ≡ true
was_read read input given left before after answer says fine = by_read read refl
  where
    by_read : (all : Bool) → read ≡ all → read ≡ true
    by_read true all = all
    by_read false none = absurd (false≢true (sym fine ∙ says.unread_failed none))

-- What was read, of an input whose bytes are known.
first_read : (input : List ℕ) (new : Option (List ℕ)) (bytes : List ℕ) (read : Read)
    → length bytes ≡ input_room
    → read.length ≤ length bytes
    → ReadAllGives (Some input) new bytes read
    → read.whole ≡ true
    → take read.length bytes ≡ take input_room input
first_read input None bytes read long fits gives whole = absurd gives.bytes
first_read input (Some rest) bytes read long fits gives whole =
    let piece = take read.length bytes in
    let count : length piece ≡ read.length = length-take-le read.length bytes fits in
    first_of input piece rest input_room gives.bytes (omega (arith, count, fits, long))
    (λ less. gives.end whole (omega (arith, less, count, long)))

module _ (bytes : List ℕ) (read : Read) (given left : Buffers) (before after : List ℕ)
    (held then : Option (List ℕ)) (answer : Response) (long : length bytes ≡ input_room)
    (fits : read.length ≤ length bytes)
    (says : RespondSays read.whole (take read.length bytes) given left before after answer)
    (hands : RespondHands read.whole (take read.length bytes) held then answer) where
  pub run_gives : (old new : Option (List ℕ))
      → ReadAllGives old new bytes read
      → IfSome old (λ (input : List ℕ). RunGives input held then answer.status)
  run_gives None new gives = tt
  run_gives (Some input) new gives = record {
    transcript_is = λ fine.
        let none = not_failed _ _ _ _ _ _ answer says fine in
        subst (Appends held then)
        (hands.first_bytes none input
        (first_read input new bytes read long fits gives
        (was_read _ _ _ _ _ _ answer says none)))
        hands.appends;
    status_is = λ fine.
        let none = not_failed _ _ _ _ _ _ answer says fine in
        let same =
        hands.first_ending none input
        (first_read input new bytes read long fits gives
        (was_read _ _ _ _ _ _ answer says none)) in
        let read_is : answer.status
        ≡ status_of (ending (take read.length bytes)).refusal =
        says.status ∙ rw none in
        read_is ∙ ap (λ (end : Ending). status_of end.refusal) same;
  }
