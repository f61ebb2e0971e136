-- What the responses hand out.
--
--   hands_taken      every write was taken
--   hands_lost       a write was not
--   hands_nothing    the input was not read whole
use Rattle.std.proofs.Common.{◌≡◌, refl, sym, ◌∙◌, Bool, true, List, [], ℕ}
use Rattle.std.proofs.lemmas.Bool.{false≢true}
use Rattle.std.proofs.KnownBytes.{Appends-nil}
use Rattle.std.specs.declared.option.Option.{Option}
use Rattle.model.specs.Transcript.{transcript}
use Rattle.drawtrack_steps.specs.Outcome.{Buffers}
use Rattle.drawtrack_turns.specs.declared.Stopped.{Stopped}
use Rattle.drawtrack_turns.specs.Serving.{ServeSays}
use Rattle.drawtrack_serving.specs.Handing.{HandedOut}
use Rattle.drawtrack_response.specs.declared.Response.{Response}
use Rattle.drawtrack_response.specs.Responding.{RespondHands}

module _ (read : Bool) (input : List ℕ) (old new : Option (List ℕ)) (given left : Buffers)
    (served : Stopped) (all_read : read ≡ true) (says : ServeSays input given left served)
    (handed : HandedOut input old new served) (answer : Response) where
  pub hands_taken : served.taken ≡ true → RespondHands read input old new answer
  hands_taken taken = record {
    handed = handed.handed;
    appends = handed.appends;
    unread = λ none. absurd (false≢true (sym none ∙ all_read));
    front = handed.front;
    whole = λ _. handed.whole taken;
    first_bytes = λ _ whole is. handed.first_bytes taken whole is;
    first_ending = λ _ whole is.
        let all = says.whole taken in
        sym all.ending_is ∙ all.first_ending whole is;
  }

  pub hands_lost : answer.failed ≡ true → RespondHands read input old new answer
  hands_lost failed = record {
    handed = handed.handed;
    appends = handed.appends;
    unread = λ none. absurd (false≢true (sym none ∙ all_read));
    front = handed.front;
    whole = λ fine. absurd (false≢true (sym fine ∙ failed));
    first_bytes = λ fine whole is. absurd (false≢true (sym fine ∙ failed));
    first_ending = λ fine whole is. absurd (false≢true (sym fine ∙ failed));
  }

pub hands_nothing : (read : Bool) (input : List ℕ) (old : Option (List ℕ)) (answer : Response)
    → answer.failed ≡ true
    → RespondHands read input old old answer
hands_nothing read input old answer failed = record {
  handed = [];
  appends = Appends-nil old;
  unread = λ _. refl;
  front = record { rest = transcript input; is = refl };
  whole = λ fine. absurd (false≢true (sym fine ∙ failed));
  first_bytes = λ fine whole is. absurd (false≢true (sym fine ∙ failed));
  first_ending = λ fine whole is. absurd (false≢true (sym fine ∙ failed));
}
