-- The loop over a session's calls: they are a course of it, so the loop ends before its turns do.
--
--   line_first, line_later         the line at which a session stopped
--   begun_within, advanced_within  what a call wrote is in the output
--   serving_begins, serving_on     the steps of the loop
--   begins_bytes, on_bytes         the bytes after them
--   serving_over                   when the turns are over, the session has ended
--   front_bytes, all_taken         the bytes and the transcript
--   serves                         the promise
use mathlib.Core.Path.{◌≡◌, refl, sym, ap, ◌∙◌, subst}
use mathlib.Core.Bool.{Bool, true, false}
use mathlib.Core.List.{List, [], ◌++◌}
use Prim.Native.Nat.{ℕ, zero, suc, ◌+◌, ◌≤◌, ◌<◌}
use native.Mathlib.Omega.{arith}
use lib.ListN.{length, take}
use Rattle.model.specs.Transcript.{transcript}
use Rattle.worklist_reader.specs.Walk.{last_line}
use Rattle.drawtrack_steps.specs.declared.Session.{Session}
use Rattle.drawtrack_steps.specs.declared.Moved.{Moved}
use Rattle.drawtrack_steps.specs.Outcome.{Buffers, buffers}
use Rattle.drawtrack_course.specs.Rooms.{input_room}
use Rattle.drawtrack_start.specs.Start.{start_line}
use Rattle.drawtrack_session.specs.Begin.{BeginSays}
use Rattle.drawtrack_session.specs.Advance.{AdvanceSays}
use Rattle.drawtrack_course.specs.Course.{Course, begun, advanced}
use Rattle.output_reason.specs.Reason.{first_line}
use Rattle.drawtrack_course.specs.Ending.{Ending, ending_at, ending_line, ending, Front}
use Rattle.drawtrack_course.proofs.Theorem.{session_claims}
use Rattle.drawtrack_turns.specs.declared.Stopped.{Stopped}
use Rattle.drawtrack_turns.specs.Serving.{ServeAsks, Situation, situation, begun_with, without_lists, after_begin, situation_of, after_call, after_calls, Serving, stopped_of, AllTaken, ServeSays}

-- ---- The line at which a session stopped

module _ (taken : Bool) (session : Session) where
  abbrev stopped_at : ℕ → Stopped
  stopped_at line = record { taken = taken; refusal = session.refusal; line = line }

  pub line_first : (turns line : ℕ)
      → turns ≡ 0
      → line ≡ start_line session.settings session.refusal
      → stopped_at line ≡ stopped_of taken session turns
  line_first turns line none is =
      ap stopped_at is ∙ ap (stopped_of taken session) (sym none)

  pub line_later : (turns : ℕ)
      → (turns ≡ 0 → ⊥)
      → stopped_at (turns + 1) ≡ stopped_of taken session turns
  line_later zero some = absurd (some refl)
  line_later (suc calls) some =
      let one_more : suc calls + 1 ≡ calls + first_line = omega arith in
      ap stopped_at one_more

-- ---- The first call, and the promise

module _ (input : List ℕ) (given : Buffers) (site_memory coordinator_memory out : List ℕ)
    (answer : Moved)
    (says : BeginSays input (without_lists given) (buffers site_memory coordinator_memory [] [] out)
    answer) where
  abbrev first : Situation
  first =
      situation answer.session
      (buffers site_memory coordinator_memory given.log given.list out)

  pub serving_begins : ServeAsks input given → Serving input first first 0
  serving_begins lends = record {
    lends = record {
      input_few = lends.input_few;
      site_memory = omega (arith, lends.site_memory, says.lengths.site_memory);
      coordinator_memory =
          omega (arith, lends.coordinator_memory, says.lengths.coordinator_memory);
      log_long = lends.log_long;
      list_long = lends.list_long;
      out_long = omega (arith, lends.out_long, says.lengths.out);
    };
    lengths = record {
      site_memory = refl;
      coordinator_memory = refl;
      log = refl;
      list = refl;
      out = refl;
    };
    bytes = take answer.written out;
    course =
        begun (without_lists given) (buffers site_memory coordinator_memory [] [] out) answer
        lends.site_memory lends.coordinator_memory lends.out_long says;
    now_is = refl;
    few_turns = omega arith;
  }

  -- Its bytes are those of the first piece.
  pub begins_bytes : (lends : ServeAsks input given)
      → (serving_begins lends).bytes ≡ take answer.written out
  unfolding serving_begins
  begins_bytes lends = refl

  first_is : first ≡ after_begin input given
  first_is = ap (begun_with given.log given.list) says.is

  -- The bytes that the call wrote are in the output.
  pub begun_within : answer.written ≤ length out
  begun_within = (session_claims.begin_keeps input _ _ answer says).within

  module _ (session : Session) (left : Buffers) (turns : ℕ)
      (serving : Serving input first (situation session left) turns) where
    short : length input ≤ last_line
    short = omega (arith, serving.lends.input_few)

    abbrev end : Ending
    end = ending_at session.refusal (ending_line session.settings session.refusal turns)

    -- Once the session has ended.
    ends : session.going ≡ false → end ≡ ending input
    ends over =
        sym (session_claims.ends_so input turns session left.site_memory
        left.coordinator_memory serving.bytes short serving.course over)

    pub front_bytes : Front serving.bytes (transcript input)
    front_bytes =
        session_claims.begins_transcript input turns session left.site_memory
        left.coordinator_memory serving.bytes short serving.course

    pub all_taken : session.going ≡ false
        → AllTaken input serving.bytes session (stopped_of true session turns)
    all_taken over = record {
      ended = over;
      bytes_are =
          session_claims.writes_transcript input turns session left.site_memory
          left.coordinator_memory serving.bytes short serving.course over;
      ending_is = ends over;
      first_bytes = λ whole input-is.
          session_claims.reads_enough input_room whole turns session left.site_memory
          left.coordinator_memory serving.bytes (omega arith) (omega arith)
          (subst
          (λ (read : List ℕ). Course read turns session left.site_memory
          left.coordinator_memory serving.bytes)
          input-is serving.course)
          over;
      first_ending = λ whole input-is.
          ends over
          ∙ ap ending input-is
          ∙ session_claims.ending_enough input_room whole (omega arith);
    }

    pub serves : (taken : Bool) (answer-then : Stopped)
        → answer-then ≡ stopped_of taken session turns
        → (taken ≡ true → session.going ≡ false)
        → ServeSays input given left answer-then
    serves taken answer-then is over =
        subst (ServeSays input given left) (sym is)
        (record {
          turns = turns;
          session = session;
          bytes = serving.bytes;
          course = serving.course;
          left_is =
              serving.now_is ∙ ap (λ (from : Situation). after_calls input from turns) first_is;
          answer_is = refl;
          front = front_bytes;
          whole = λ all.
              subst (λ (done : Bool).
              AllTaken input serving.bytes session (stopped_of done session turns))
              (sym all) (all_taken (over all));
        })

-- ---- A turn

module _ (input : List ℕ) (first : Situation) (session : Session) (given : Buffers) (turns : ℕ)
    (serving : Serving input first (situation session given) turns) where
  pub serving_on : (left : Buffers) (answer : Moved)
      → turns < input_room
      → session.going ≡ true
      → AdvanceSays input session given left answer
      → Serving input first (situation answer.session left) (turns + 1)
  serving_on left answer more going says =
      let one_more : suc turns ≡ turns + 1 = omega arith in
      let bytes_then = serving.bytes ++ take answer.written left.out in
      record {
        lends = serving.lends;
        lengths = record {
          site_memory = says.lengths.site_memory ∙ serving.lengths.site_memory;
          coordinator_memory =
              says.lengths.coordinator_memory ∙ serving.lengths.coordinator_memory;
          log = says.lengths.log ∙ serving.lengths.log;
          list = says.lengths.list ∙ serving.lengths.list;
          out = says.lengths.out ∙ serving.lengths.out;
        };
        bytes = bytes_then;
        course =
            subst
            (λ (n : ℕ). Course input n answer.session left.site_memory
            left.coordinator_memory bytes_then)
            one_more
            (advanced turns session serving.bytes given left answer serving.course going
            (record {
              log_long = omega (arith, serving.lends.log_long, serving.lengths.log);
              list_long = omega (arith, serving.lends.list_long, serving.lengths.list);
              out_long = omega (arith, serving.lends.out_long, serving.lengths.out);
            })
            says);
        now_is =
            ap situation_of says.line.is
            ∙ ap (after_call input) serving.now_is
            ∙ ap (after_calls input first) one_more;
        few_turns = omega (arith, more);
      }

  -- The piece of the turn follows the bytes so far.
  pub on_bytes : (left : Buffers) (answer : Moved)
      → (more : turns < input_room)
      → (going : session.going ≡ true)
      → (says : AdvanceSays input session given left answer)
      → (serving_on left answer more going says).bytes
      ≡ serving.bytes ++ take answer.written left.out
  unfolding serving_on
  on_bytes left answer more going says = refl

  pub advanced_within : (left : Buffers) (answer : Moved)
      → AdvanceSays input session given left answer
      → answer.written ≤ length left.out
  advanced_within left answer says =
      (session_claims.advance_keeps input session given left answer says).within

  -- Six bytes a turn, and more than the input has, would have been read.
  pub serving_over : input_room ≤ turns → session.going ≡ false
  serving_over over = by_going session.going refl
    where
      by_going : (going : Bool) → session.going ≡ going → session.going ≡ false
      by_going true going =
          let few = session_claims.ends input turns session given.site_memory
          given.coordinator_memory serving.bytes (omega (arith, serving.lends.input_few))
          serving.course going in
          absurd (omega (arith, few, serving.lends.input_few, over))
      by_going false ended = ended
