-- What a call keeps, refused or not: the output past what it wrote; and if it is the last of the
-- session, the session's records, both memories and the log.
--
--   begin_keeps_of, line_keeps_of     the two calls
use mathlib.Core.Path.{◌≡◌, refl, sym, subst}
use mathlib.Core.Bool.{Bool, true, false, false≢true}
use mathlib.Core.List.{List, [], ◌∷◌}
use Prim.Native.Nat.{ℕ}
use native.Mathlib.Omega.{arith}
use lib.ListN.{length}
use Rattle.model.specs.Choice.{is_zero}
use Rattle.model.specs.Lines.{read_fields}
use Rattle.model.specs.Transcript.{refused_line}
use Rattle.worklist_reader.specs.Walk.{Step}
use Rattle.tracker.specs.Batch.{batch_in}
use Rattle.coordinator_list.specs.Promises.{list_refusal}
use Rattle.drawtrack_steps.specs.declared.Session.{Session}
use Rattle.output_lines.specs.Promises.{at_start, lines_after}
use Rattle.drawtrack_steps.specs.Output.{lines_of}
use Rattle.drawtrack_steps.specs.Outcome.{Outcome, refused_of, Buffers}
use Rattle.drawtrack_steps.specs.Steps.{draw_call, draw_refusal, taken_of, draw_of, session_coordinator, result_lines_of, listed_of, results_of}
use Rattle.output_lines.proofs.OutputLaws.{lines_kept}
use Rattle.drawtrack_session.specs.Begin.{begin_refusal_of, first_session, started_of, begin_of}
use Rattle.drawtrack_session.specs.Advance.{line_of}
use Rattle.drawtrack_course.specs.Claims.{LastKept, Keeps}

module _ (given : Buffers) (session : Session) where
  abbrev pub Kept : Outcome → Type 0
  Kept there = Keeps session given there.left there.moved

  -- Whatever lines a call writes.
  keeps_lines : (lines : List (List ℕ)) (there : Outcome)
      → there.moved.written ≡ (lines_after (at_start given.out) lines).place
      → there.left.out ≡ (lines_after (at_start given.out) lines).out
      → (there.moved.session.going ≡ false
      → LastKept session given there.left there.moved)
      → Kept there
  keeps_lines lines there place out last =
      let kept = lines_kept lines (at_start given.out) (omega arith) in
      record {
        within = rw (place, out) kept.within;
        out_rest = rw (place, out) kept.rest_same;
        last = last;
      }

  keeps_refused : (refusal : ℕ) → Kept (refused_of session refusal given)
  keeps_refused refusal =
      keeps_lines (refused_line refusal ∷ []) (refused_of session refusal given) refl refl
      (λ _. record {
        session_stopped = refl;
        site_memory = refl;
        coordinator_memory = refl;
        log = refl;
      })

  -- ---- A line

  draw_keeps : (step : Step) → Kept (draw_of session step given)
  draw_keeps step = by_test (is_zero (draw_refusal (draw_call session step given))) refl
    where
      by_test : (fine : Bool) → is_zero (draw_refusal (draw_call session step given)) ≡ fine
          → Kept (draw_of session step given)
      by_test true fine =
          subst Kept (sym (rw fine))
          (keeps_lines (lines_of (batch_in (draw_call session step given)).messages)
          (taken_of session step given) refl refl (λ over. absurd (false≢true (sym over))))
      by_test false some =
          subst Kept (sym (rw some)) (keeps_refused (draw_refusal (draw_call session step given)))

  abbrev list_rule : ℕ
  list_rule =
      list_refusal session.settings session.coordinator given.coordinator_memory
      (length given.list)

  results_keep : Kept (results_of session given)
  results_keep = by_test (is_zero list_rule) refl
    where
      by_test : (fine : Bool) → is_zero list_rule ≡ fine → Kept (results_of session given)
      by_test true fine =
          subst Kept (sym (rw fine))
          (keeps_lines (result_lines_of session (session_coordinator session given))
          (listed_of session given) refl refl
          (λ _. record {
            session_stopped = refl;
            site_memory = refl;
            coordinator_memory = refl;
            log = refl;
          }))
      by_test false some = subst Kept (sym (rw some)) (keeps_refused list_rule)

  pub line_keeps_of : (step : Step) → Kept (line_of session step given)
  line_keeps_of step = by_step step.found refl (is_zero step.refusal) refl
    where
      by_step : (found : Bool) → step.found ≡ found
          → (fine : Bool) → is_zero step.refusal ≡ fine
          → Kept (line_of session step given)
      by_step true found fine _ = subst Kept (sym (rw found)) (draw_keeps step)
      by_step false none true fine = subst Kept (sym (rw (none, fine))) results_keep
      by_step false none false some =
          subst Kept (sym (rw (none, some))) (keeps_refused step.refusal)

-- ---- The beginning

module _ (given : Buffers) (input : List ℕ) where
  abbrev first : Session
  first = first_session input (read_fields 6 input)

  abbrev rule : ℕ
  rule = begin_refusal_of input (read_fields 6 input) given

  pub begin_keeps_of : Kept given first (begin_of input given)
  begin_keeps_of = by_test (is_zero rule) refl
    where
      by_test : (fine : Bool) → is_zero rule ≡ fine → Kept given first (begin_of input given)
      by_test true fine =
          subst (Kept given first) (sym (rw fine))
          (keeps_lines given first [] (started_of first given) refl refl
          (λ over. absurd (false≢true (sym over))))
      by_test false some =
          subst (Kept given first) (sym (rw some)) (keeps_refused given first rule)
