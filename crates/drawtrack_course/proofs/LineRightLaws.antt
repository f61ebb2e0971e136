-- What a line brings on a session that stands for a run: its piece of the transcript.
--
--   draw_refused_right, draw_taken_right, end_right, malformed_right     by what the line is
--   line_right                                                           the line, whatever it is
use mathlib.Core.Path.{◌≡◌, refl, sym, ap, ◌∙◌, subst}
use mathlib.Core.Bool.{Bool, true, false, false≢true}
use mathlib.Core.List.{List}
use Prim.Native.Nat.{ℕ, ◌≤◌}
use native.Mathlib.Omega.{arith}
use lib.ListN.{length}
use borrow.Author.Tests.{eqb-true, eq-eqb}
use Rattle.model.specs.declared.Settings.{Settings}
use Rattle.model.specs.declared.Arrival.{Arrival}
use Rattle.model.specs.Choice.{is_zero}
use Rattle.model.specs.Refusals.{no_refusal}
use Rattle.model.specs.Runs.{Run, line_refusal_in}
use Rattle.model.specs.Transcript.{message_lines, refused_line}
use Rattle.worklist_reader.specs.Walk.{Step}
use Rattle.tracker.specs.Batch.{BatchCall, batch_in}
use Rattle.drawtrack_steps.specs.declared.Session.{Session}
use Rattle.output_lines.specs.Promises.{at_start}
use Rattle.output_lines.proofs.OutputLaws.{fits_all}
use Rattle.drawtrack_steps.specs.Output.{lines_of}
use Rattle.drawtrack_steps.specs.Outcome.{Outcome, refused_of, Buffers}
use Rattle.drawtrack_steps.specs.declared.Moved.{Moved}
use Rattle.drawtrack_steps.specs.Steps.{FewBytes, draw_call, draw_refusal, taken_of, draw_of, results_of}
use Rattle.drawtrack_steps.proofs.OutputLaws.{joined_messages}
use Rattle.drawtrack_session.specs.Advance.{line_of, SessionLineSays}
use Rattle.drawtrack_course.specs.Course.{Represents, Room, LineRight}
use Rattle.drawtrack_course.proofs.RefusalLaws.{draw_small, refused_line_lem}
use Rattle.drawtrack_course.proofs.StateLaws.{run_after}
use Rattle.drawtrack_course.proofs.DrawLaws.{rule_is, sent_are, few_sent, stands_then}
use Rattle.drawtrack_course.proofs.ResultLaws.{results_fine, results_right}

module _ {session : Session} {given : Buffers} {arrivals : List Arrival}
    (stands : Represents session given.site_memory given.coordinator_memory arrivals)
    (room : Room given) (step : Step) where
  abbrev settings : Settings
  settings = session.settings

  abbrev run : Run
  run = run_after session arrivals

  abbrev call : BatchCall
  call = draw_call session step given

  abbrev Right : Outcome → Type 0
  Right there = LineRight session step there.left arrivals there.moved

  abbrev rule : ℕ
  rule = line_refusal_in settings run.network step.arrival

  -- ---- A draw

  module _ (found : step.found ≡ true) where
    draw_refused_right : is_zero rule ≡ false → Right (refused_of session (draw_refusal call) given)
    draw_refused_right some = record {
      bytes =
          refused_line_lem (draw_refusal call) given.out
          (omega (
            arith,
            rule_is stands room step,
            draw_small settings run.network step.arrival,
          ))
          room.out_long
          ∙ rw (found, some) (ap refused_line (rule_is stands room step));
      going = rw (found, some);
      refusal = rule_is stands room step ∙ sym (rw found);
      follows = λ both. absurd (false≢true (rw (found, some) at both));
    }

    draw_taken_right : FewBytes (batch_in call) → is_zero rule ≡ true
        → draw_refusal call ≡ no_refusal
        → Right (taken_of session step given)
    draw_taken_right few fine none =
        let sent = (batch_in call).messages in
        let lines = fits_all (lines_of sent) (at_start given.out)
        (omega (
          arith,
          ap length (joined_messages sent),
          few,
          few_sent stands room step none,
          room.out_long,
        )) in
        record {
          bytes =
              lines.bytes_are
              ∙ joined_messages sent
              ∙ rw (found, fine) (ap message_lines (sent_are stands room step none));
          going = rw (found, fine);
          refusal = sym (eqb-true rule 0 fine) ∙ sym (rw found);
          follows = λ _. record {
            settings_same = refl;
            at_after = refl;
            line_after = refl;
            represents = stands_then stands room step none;
          };
        }

    draw_right : (draw_refusal call ≡ no_refusal → FewBytes (batch_in call))
        → Right (draw_of session step given)
    draw_right few = by_rule (is_zero rule) refl
      where
        by_rule : (fine : Bool) → is_zero rule ≡ fine → Right (draw_of session step given)
        by_rule true fine =
            let none = rule_is stands room step ∙ eqb-true rule 0 fine in
            subst Right (sym (rw (eq-eqb (draw_refusal call) 0 none)))
            (draw_taken_right (few none) fine none)
        by_rule false some =
            let not : is_zero (draw_refusal call) ≡ false =
            ap is_zero (rule_is stands room step) ∙ some in
            subst Right (sym (rw not)) (draw_refused_right some)

  -- ---- No draw

  module _ (none : step.found ≡ false) where
    end_right : is_zero step.refusal ≡ true → Right (results_of session given)
    end_right fine =
        subst Right (sym (results_fine stands room))
        (record {
          bytes = results_right stands room ∙ rw (none, fine);
          going = rw none;
          refusal = sym (eqb-true step.refusal 0 fine) ∙ sym (rw none);
          follows = λ both. absurd (false≢true (rw none at both));
        })

    malformed_right : step.refusal ≤ 99 → is_zero step.refusal ≡ false
        → Right (refused_of session step.refusal given)
    malformed_right small some = record {
      bytes = refused_line_lem step.refusal given.out small room.out_long ∙ rw (none, some);
      going = rw none;
      refusal = sym (rw none);
      follows = λ both. absurd (false≢true (rw none at both));
    }

  -- ---- The line

  right_of : step.refusal ≤ 99
      → (step.found ≡ true → draw_refusal call ≡ no_refusal → FewBytes (batch_in call))
      → Right (line_of session step given)
  right_of small few = by_found step.found refl (is_zero step.refusal) refl
    where
      by_found : (found : Bool) → step.found ≡ found
          → (fine : Bool) → is_zero step.refusal ≡ fine
          → Right (line_of session step given)
      by_found true found fine _ = subst Right (sym (rw found)) (draw_right found (few found))
      by_found false none true fine = subst Right (sym (rw (none, fine))) (end_right none fine)
      by_found false none false some =
          subst Right (sym (rw (none, some))) (malformed_right none small some)

  pub line_right : (left : Buffers) (answer : Moved)
      → step.refusal ≤ 99
      → SessionLineSays session step given left answer
      → LineRight session step left arrivals answer
  line_right left answer small says =
      subst Right (sym says.is) (right_of small says.few_bytes)
