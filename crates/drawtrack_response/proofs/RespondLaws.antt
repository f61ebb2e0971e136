-- The four responses to an input.
--
--   respond_unread      it was not read whole
--   respond_lost        a write was not taken
--   respond_results     results
--   respond_refused     a refusal, with its reason
use mathlib.Core.Path.{◌≡◌, refl, sym, ap, ◌∙◌}
use mathlib.Core.Bool.{Bool, true, false, false≢true}
use mathlib.Core.List.{List, [], ◌++◌}
use Prim.Native.Nat.{ℕ, zero, suc, ◌+◌, ◌≤◌}
use native.Mathlib.Omega.{arith}
use lib.ListN.{length, take, drop, length-append}
use borrow.Author.Tests.{le-leb, eq-eqb, ne_eqb}
use Rattle.laws.specs.Writing.{written_at}
use Rattle.laws.proofs.Writing.{written_nothing}
use Rattle.model.specs.Refusals.{no_refusal}
use Rattle.output_lines.specs.Promises.{written_to}
use Rattle.output_reason.specs.Reason.{reason_line, reason_room, ReasonSays}
use Rattle.drawtrack_steps.specs.Outcome.{Buffers}
use Rattle.drawtrack_course.specs.Ending.{Ending, ending}
use Rattle.drawtrack_turns.specs.declared.Stopped.{Stopped}
use Rattle.drawtrack_response.specs.declared.Response.{Response}
use Rattle.drawtrack_turns.specs.Serving.{ending_in, ServeSays}
use Rattle.drawtrack_response.specs.Responding.{status_of, status_failed, reason_of, written_first, RespondSays}

abbrev failure : Response
failure = record { failed = true; status = status_failed; said = 0 }

pub respond_unread : (read : Bool) (input : List ℕ) (given : Buffers) (before : List ℕ)
    → read ≡ false
    → RespondSays read input given given before before failure
respond_unread read input given before none = record {
  unread_failed = λ _. refl;
  unread_untouched = λ _. refl;
  responded = λ all. absurd (false≢true (sym none ∙ all));
  status = refl;
  said_fits = omega arith;
  reason = refl;
}

module _ (read : Bool) (input : List ℕ) (given left : Buffers) (before : List ℕ)
    (all_read : read ≡ true) (served : Stopped) (says : ServeSays input given left served) where
  pub respond_lost : served.taken ≡ false
      → RespondSays read input given left before before failure
  respond_lost lost = record {
    unread_failed = λ _. refl;
    unread_untouched = λ none. absurd (false≢true (sym none ∙ all_read));
    responded = λ _. record {
      answer = served;
      says = says;
      taken = λ none. absurd (false≢true (sym none));
      lost = λ _. lost;
    };
    status = refl;
    said_fits = omega arith;
    reason = refl;
  }

  -- ---- Every write was taken

  module _ (taken : served.taken ≡ true) where
    ends : ending_in served ≡ ending input
    ends = (says.whole taken).ending_is

    refusal_is : served.refusal ≡ (ending input).refusal
    refusal_is = ap (λ (end : Ending). end.refusal) ends

    module _ (status said : ℕ) (after : List ℕ) where
      answers : status ≡ status_of (ending input).refusal
          → said ≤ length after
          → written_to said after ≡ written_first (reason_of (ending input)) before
          → RespondSays read input given left before after
          (record { failed = false; status = status; said = said })
      answers status-is fits reason-is = record {
        unread_failed = λ none. absurd (false≢true (sym none ∙ all_read));
        unread_untouched = λ none. absurd (false≢true (sym none ∙ all_read));
        responded = λ _. record {
          answer = served;
          says = says;
          taken = λ _. taken;
          lost = λ some. absurd (false≢true some);
        };
        status = status-is;
        said_fits = fits;
        reason = reason-is;
      }

    pub respond_results : served.refusal ≡ no_refusal
        → RespondSays read input given left before before
        (record { failed = false; status = 0; said = 0 })
    respond_results none =
        let fine : (ending input).refusal ≡ no_refusal = sym refusal_is ∙ none in
        let nothing : reason_of (ending input) ≡ [] = rw (eq-eqb (ending input).refusal 0 fine) in
        answers 0 0 before
        (sym (ap status_of fine)) (omega arith)
        (sym (ap (λ (bytes : List ℕ). written_first bytes before) nothing
        ∙ ap (written_to 0) (written_nothing 0 before)))

    status_refused : (refusal : ℕ) → (refusal ≡ no_refusal → ⊥) → 1 ≡ status_of refusal
    status_refused zero some = absurd (some refl)
    status_refused (suc refusal) some = refl

    pub respond_refused : (served.refusal ≡ no_refusal → ⊥)
        → reason_room ≤ length before
        → (after : List ℕ) (said : ℕ)
        → ReasonSays served.line served.refusal before after said
        → RespondSays read input given left before after
        (record { failed = false; status = 1; said = said })
    respond_refused some long after said says_so =
        let line = reason_line served.line served.refusal in
        let written : written_to said after ≡ written_first line before =
        says_so.is ∙ rw (le-leb reason_room (length before) long) in
        let reason-is : line ≡ reason_of (ending input) =
        (rw (ne_eqb served.refusal 0 some)) ∙ ap reason_of ends in
        let said-is : said ≡ length line = ap (λ w. w.place) written in
        let after_is : after ≡ written_at 0 line before = ap (λ w. w.out) written in
        answers 1 said after
        (status_refused served.refusal some ∙ ap status_of refusal_is)
        (omega (
          arith,
          said-is,
          ap length after_is,
          length-append (take 0 before ++ line) (drop (0 + length line) before),
          length-append (take 0 before) line,
        ))
        (written ∙ ap (λ (bytes : List ℕ). written_first bytes before) reason-is)
