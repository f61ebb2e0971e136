-- The calls of a session put together: where a course stands after a line, and after any calls.
--
--   line_stands       a line more
--   stands_of         where the course of any calls stands
use mathlib.Core.Path.{◌≡◌, refl, sym, ap, ◌∙◌}
use mathlib.Core.Bool.{Bool, true, false, false≢true}
use mathlib.Core.List.{List, [], ◌∷◌, ◌++◌}
use Prim.Native.Nat.{ℕ, suc, ◌+◌, ◌*◌, ◌≤◌, ◌<◌}
use native.Mathlib.Omega.{arith}
use lib.Dec.{leb}
use lib.ListN.{length, take, drop}
use borrow.Author.Tests.{eqb-true, lt-ltb}
use Rattle.model.specs.declared.Settings.{Settings}
use Rattle.model.specs.declared.Arrival.{Arrival}
use Rattle.model.specs.Choice.{is_zero}
use Rattle.model.specs.Refusals.{no_refusal, malformed_line}
use Rattle.model.specs.Draws.{draws_of}
use Rattle.model.specs.Network.{after_line}
use Rattle.model.specs.Lines.{Fields, malformed, fields, read_fields, Worklist, read_from}
use Rattle.model.specs.Runs.{Run, run_of, run_one, line_refusal_in}
use Rattle.model.specs.Transcript.{message_lines, refused_line, transcript_from, transcript}
use Rattle.model.proofs.Runs.RunLaws.{run_from_append, run_from_draws}
use Rattle.model.proofs.Touches.DrawLaws.{line_taken}
use Rattle.output_transcript.proofs.LineBounds.{message_lines_append}
use Rattle.worklist_reader.specs.Walk.{Step, last_line, step_of, step_at, then_read}
use Rattle.worklist_reader.proofs.WalkLaws.{walk_claims}
use Rattle.drawtrack_steps.specs.declared.Session.{Session}
use Rattle.drawtrack_steps.specs.declared.Moved.{Moved}
use Rattle.drawtrack_steps.specs.Outcome.{Buffers}
use Rattle.drawtrack_course.specs.Course.{line_piece, end_refusal, accepts, LineRight, Follows, Course, begun, advanced}
use Rattle.output_reason.specs.Reason.{first_line}
use Rattle.drawtrack_course.specs.Ending.{ending_at, ending_from, ending}
use Rattle.drawtrack_course.proofs.BegunLaws.{begin_right}
use Rattle.drawtrack_course.proofs.RefusalLaws.{malformed_refusal, step_small}
use Rattle.drawtrack_course.proofs.LineRightLaws.{line_right}
use Rattle.drawtrack_course.proofs.Standing.{Goes, Stands, begin_stands}

-- ---- A line

module _ (input : List ℕ) (n : ℕ) (session : Session)
    (site_memory coordinator_memory bytes : List ℕ)
    (there : Goes input n session site_memory coordinator_memory bytes)
    (short : length input ≤ last_line) (left : Buffers) (answer : Moved)
    (right : LineRight session (step_at input session.at session.line) left there.arrivals
    answer) where
  abbrev step : Step
  step = step_at input session.at session.line

  abbrev settings : Settings
  settings = session.settings

  abbrev run : Run
  run = run_of settings there.arrivals

  abbrev now_written : List ℕ
  now_written = bytes ++ take answer.written left.out

  abbrev others : Worklist
  others = read_from (length (drop step.at input)) step.line (drop step.at input)

  line_small : session.line < last_line
  line_small = omega (arith, there.line_few, there.few, short)

  -- The definition, with the next line read.
  rest_then : transcript input ≡ transcript_from settings run (then_read step others)
  rest_then =
      there.rest_is
      ∙ ap (transcript_from settings run)
      (walk_claims.step_reads input session.at session.line line_small)

  ending_then : ending input ≡ ending_from settings run (n + first_line) (then_read step others)
  ending_then =
      there.ending_is
      ∙ ap (ending_from settings run (n + first_line))
      (walk_claims.step_reads input session.at session.line line_small)

  -- What was written before, and this line's piece.
  bytes_then : now_written ≡ message_lines run.messages ++ line_piece settings run step
  bytes_then =
      (λ i. there.bytes_are i ++ right.bytes i)

  -- ---- It has ended

  ends_refused : step.found ≡ true
      → is_zero (line_refusal_in settings run.network step.arrival) ≡ false
      → now_written ≡ transcript input
  ends_refused found refused =
      bytes_then ∙ rw (found, refused) (sym (rest_then ∙ rw (found, refused, transcript_from)))

  ends_read : step.found ≡ false
      → (fine : Bool) → is_zero step.refusal ≡ fine
      → now_written ≡ transcript input
  ends_read none true fine =
      bytes_then ∙ rw (none, fine) (sym (rest_then ∙ rw (none, fine)))
  ends_read none false bad =
      let is = malformed_refusal input session.at session.line bad in
      bytes_then
      ∙ rw (none, bad)
      (ap (λ (refusal : ℕ). message_lines run.messages ++ refused_line refusal) is
      ∙ sym (rest_then ∙ rw (none, bad)))

  -- By the refusal of the line, at the line.
  ends_so : (found : Bool) → step.found ≡ found
      → (fine : Bool) → is_zero (end_refusal settings run step) ≡ fine
      → accepts settings run step ≡ false
      → ending input ≡ ending_at answer.session.refusal (n + first_line)
  ends_so true found true fine over =
      let rule : is_zero (line_refusal_in settings run.network step.arrival) ≡ true =
      rw found at fine in
      absurd (false≢true (sym over ∙ (rw (found, rule))))
  ends_so true found false refused over =
      let rule : is_zero (line_refusal_in settings run.network step.arrival) ≡ false =
      rw found at refused in
      let is : end_refusal settings run step
      ≡ line_refusal_in settings run.network step.arrival = rw found in
      ending_then
      ∙ (rw (found, rule, ending_from))
      ∙ sym (ap (λ (refusal : ℕ). ending_at refusal (n + first_line)) (right.refusal ∙ is))
  ends_so false none true fine over =
      let none_left : is_zero step.refusal ≡ true = rw none at fine in
      let is : end_refusal settings run step ≡ no_refusal = eqb-true _ 0 fine in
      ending_then
      ∙ (rw (none, none_left))
      ∙ sym (ap (λ (refusal : ℕ). ending_at refusal (n + first_line)) (right.refusal ∙ is))
  ends_so false none false bad over =
      let some_left : is_zero step.refusal ≡ false = rw none at bad in
      let is : end_refusal settings run step ≡ malformed_line =
      rw none (malformed_refusal input session.at session.line some_left) in
      ending_then
      ∙ (rw (none, some_left))
      ∙ sym (ap (λ (refusal : ℕ). ending_at refusal (n + first_line)) (right.refusal ∙ is))

  -- ---- It goes on

  goes_on : step.found ≡ true
      → is_zero (line_refusal_in settings run.network step.arrival) ≡ true
      → Follows session step left there.arrivals answer.session
      → Goes input (suc n) answer.session left.site_memory left.coordinator_memory
      now_written
  goes_on found fine follows =
      let arrivals_then = there.arrivals ++ draws_of (step.arrival ∷ []) in
      let sent = (after_line settings run.network step.arrival).messages in
      let run_then : run_of settings arrivals_then ≡ run_one settings run step.arrival =
      run_from_append settings _ there.arrivals (draws_of (step.arrival ∷ []))
      ∙ run_from_draws settings run (step.arrival ∷ []) in
      let sent-then = (line_taken settings run step.arrival (eqb-true _ 0 fine)
      ).messages_are in
      let far-then = walk_claims.goes_on input session.at session.line found in
      let same = follows.settings_same in
      let one_more : n + first_line + 1 ≡ suc n + first_line = omega arith in
      record {
        arrivals = arrivals_then;
        stands = follows.represents;
        bytes_are =
            bytes_then
            ∙ (rw (found, fine) (sym (message_lines_append run.messages sent)))
            ∙ ap message_lines (sym sent-then)
            ∙ sym (λ i. message_lines (run_then i).messages)
            ∙ sym (λ i. message_lines (run_of (same i) arrivals_then).messages);
        rest_is =
            rest_then
            ∙ (rw (found, fine, transcript_from))
            ∙ sym (λ i. transcript_from settings (run_then i) others)
            ∙ sym (λ i.
            transcript_from (same i) (run_of (same i) arrivals_then)
            (read_from (length (drop (follows.at_after i) input)) (follows.line_after i)
            (drop (follows.at_after i) input)));
        ending_is =
            ending_then
            ∙ (rw (found, fine, ending_from))
            ∙ sym (λ i. ending_from settings (run_then i) (n + first_line + 1) others)
            ∙ ap (λ (line : ℕ). ending_from settings (run_of settings arrivals_then) line others)
            one_more
            ∙ sym (λ i.
            ending_from (same i) (run_of (same i) arrivals_then) (suc n + first_line)
            (read_from (length (drop (follows.at_after i) input)) (follows.line_after i)
            (drop (follows.at_after i) input)));
        far = omega (arith, there.far, far-then.ahead, follows.at_after);
        few = omega (arith, there.far, far-then.ahead, far-then.within);
        line_few = omega (arith, there.line_few, follows.line_after, line_next found);
      }
    where
      line_next : step.found ≡ true → step.line ≤ session.line + 1
      line_next found' = by_end (leb (length input) session.at) refl found'
        where
          by_fields : (found'' : Fields)
              → (step_of input session.at session.line found'').line ≤ session.line + 1
          by_fields malformed = omega arith
          by_fields (fields numbers rest) =
              rw (lt-ltb session.line last_line line_small) (omega arith)

          by_end : (over : Bool) → leb (length input) session.at ≡ over
              → step.found ≡ true
              → step.line ≤ session.line + 1
          by_end true over = rw over (λ _. omega arith)
          by_end false more = rw more (λ _. by_fields (read_fields 3 (drop session.at input)))

  -- ---- Either way

  line_stands : (found : Bool) → step.found ≡ found
      → (fine : Bool) → is_zero (line_refusal_in settings run.network step.arrival) ≡ fine
      → Stands input (suc n) answer.session left.site_memory left.coordinator_memory
      now_written
  line_stands true found true fine =
      let going : answer.session.going ≡ true = right.going ∙ rw (found, fine) in
      let both : accepts settings run step ≡ true = rw (found, fine) in
      record {
        goes = λ _. goes_on found fine (right.follows both);
        ended = λ over. absurd (false≢true (sym over ∙ going));
        ended_so = λ over. absurd (false≢true (sym over ∙ going));
      }
  line_stands true found false refused =
      let over : answer.session.going ≡ false = right.going ∙ rw (found, refused) in
      record {
        goes = λ going. absurd (false≢true (sym over ∙ going));
        ended = λ _. ends_refused found refused;
        ended_so = λ _. ends_so true found _ refl (sym right.going ∙ over);
      }
  line_stands false none fine _ =
      let over : answer.session.going ≡ false = right.going ∙ rw none in
      record {
        goes = λ going. absurd (false≢true (sym over ∙ going));
        ended = λ _. ends_read none (is_zero step.refusal) refl;
        ended_so = λ _. ends_so false none _ refl (sym right.going ∙ over);
      }

-- ---- All calls

pub stands_of : (input : List ℕ) (n : ℕ) (session : Session)
    (site_memory coordinator_memory bytes : List ℕ)
    → length input ≤ last_line
    → Course input n session site_memory coordinator_memory bytes
    → Stands input n session site_memory coordinator_memory bytes
stands_of input n session site_memory coordinator_memory bytes short
    (begun given left answer sites_long coordinator_long out_long says) =
    begin_stands input left answer
    (begin_right input given sites_long coordinator_long out_long left answer says)
stands_of input n session site_memory coordinator_memory bytes short
    (advanced n' session' bytes' given left answer earlier going room says) =
    let there = (stands_of input n' session' given.site_memory given.coordinator_memory bytes'
    short earlier).goes going in
    let step = step_at input session'.at session'.line in
    let right = line_right there.stands room step left answer
    (step_small input session'.at session'.line) says.line in
    line_stands input n' session' given.site_memory given.coordinator_memory bytes' there short
    left answer right _ refl _ refl
