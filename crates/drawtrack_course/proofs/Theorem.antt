-- The claims of specs/Claims.antt, put together.
use mathlib.Core.Path.{sym, ◌∙◌, subst}
use Prim.Native.Nat.{◌≤◌}
use native.Mathlib.Omega.{arith}
use lib.ListN.{length, take, length-take}
use Rattle.model.specs.Lines.{read_fields}
use Rattle.model.proofs.Worklists.TranscriptLaws.{transcript_claims}
use Rattle.worklist_reader.specs.Walk.{last_line, step_at}
use Rattle.drawtrack_session.specs.Begin.{first_session}
use Rattle.drawtrack_course.specs.Claims.{SessionClaims}
use Rattle.drawtrack_course.proofs.KeptLaws.{Kept, begin_keeps_of, line_keeps_of}
use Rattle.drawtrack_course.proofs.RefusalLaws.{step_small}
use Rattle.drawtrack_course.proofs.BegunLaws.{begin_right}
use Rattle.drawtrack_course.proofs.LineRightLaws.{line_right}
use Rattle.drawtrack_course.proofs.EndingLaws.{front_of, ending_enough_of, transcript_ends_of}
use Rattle.drawtrack_course.proofs.CourseLaws.{stands_of}

pub session_claims : SessionClaims
session_claims = record {
  begin_keeps = λ input given left answer says.
      subst (Kept given (first_session input (read_fields 6 input))) (sym says.is)
      (begin_keeps_of given input);
  advance_keeps = λ input session given left answer says.
      subst (Kept given session) (sym says.line.is)
      (line_keeps_of given session (step_at input session.at session.line));
  begins = λ input given left answer sites_long coordinator_long out_long.
      begin_right input given sites_long coordinator_long out_long left answer;
  advances = λ input session given left answer arrivals stands room says.
      line_right stands room _ left answer (step_small input session.at session.line)
      says.line;
  begins_transcript = λ input n session site_memory coordinator_memory bytes short course.
      front_of input n session site_memory coordinator_memory bytes
      (stands_of input n session site_memory coordinator_memory bytes short course);
  writes_transcript = λ input n session site_memory coordinator_memory bytes short course over.
      (stands_of input n session site_memory coordinator_memory bytes short course).ended over;
  reads_enough = λ most whole n session site_memory coordinator_memory bytes enough short course
      over.
      let few : length (take most whole) ≤ last_line =
      omega (arith, length-take most whole, short) in
      (stands_of (take most whole) n session site_memory coordinator_memory bytes few course
      ).ended over
      ∙ transcript_claims.input_enough most whole enough;
  ends = λ input n session site_memory coordinator_memory bytes short course going.
      ((stands_of input n session site_memory coordinator_memory bytes short course).goes
      going).few;
  ends_so = λ input n session site_memory coordinator_memory bytes short course over.
      (stands_of input n session site_memory coordinator_memory bytes short course).ended_so over;
  ending_enough = λ most whole enough. ending_enough_of most whole (omega (arith, enough));
  transcript_ends = transcript_ends_of;
}
