-- Where a course of a session's calls stands, and that it stands there after `begin`.
--
--   Goes, Stands      it goes on, or it has ended
--   begin_stands      the beginning
use mathlib.Core.Path.{◌≡◌, refl, sym, ap, ◌∙◌}
use mathlib.Core.Bool.{true, false, false≢true}
use mathlib.Core.List.{List, []}
use Prim.Native.Nat.{ℕ, ◌+◌, ◌*◌, ◌≤◌}
use native.Mathlib.Omega.{arith}
use lib.ListN.{length, take, drop}
use Rattle.model.specs.declared.Arrival.{Arrival}
use Rattle.model.specs.Choice.{is_zero}
use Rattle.model.specs.Lines.{Fields, malformed, fields, read_fields, settings_of, Worklist, read_from}
use Rattle.model.specs.Runs.{run_of}
use Rattle.model.specs.Transcript.{message_lines, transcript_from, transcript_with, transcript}
use Rattle.worklist_reader.specs.Promises.{settings_in}
use Rattle.drawtrack_steps.specs.declared.Session.{Session}
use Rattle.drawtrack_steps.specs.declared.Moved.{Moved}
use Rattle.drawtrack_steps.specs.Outcome.{Buffers}
use Rattle.drawtrack_course.specs.Course.{Represents, begin_refusal, begin_piece, BeginRight}
use Rattle.output_reason.specs.Reason.{first_line}
use Rattle.drawtrack_start.specs.Start.{start_line}
use Rattle.drawtrack_course.specs.Ending.{ending_at, ending_line, ending_from, ending_with, ending}

-- ---- Where a course stands

-- The worklist that begins at the session's place.
abbrev pub ahead : List ℕ → Session → Worklist
ahead input session =
    read_from (length (drop session.at input)) session.line (drop session.at input)

pub record Goes (input : List ℕ) (n : ℕ) (session : Session)
    (site_memory coordinator_memory bytes : List ℕ) : Type 0 where
  pub arrivals : List Arrival
  pub stands : Represents session site_memory coordinator_memory arrivals
  pub bytes_are : bytes ≡ message_lines (run_of session.settings arrivals).messages
  pub rest_is : transcript input
      ≡ transcript_from session.settings (run_of session.settings arrivals)
      (ahead input session)
  pub ending_is : ending input
      ≡ ending_from session.settings (run_of session.settings arrivals) (n + first_line)
      (ahead input session)
  pub far : 6 * n ≤ session.at
  pub few : 6 * n ≤ length input
  pub line_few : session.line ≤ n

pub record Stands (input : List ℕ) (n : ℕ) (session : Session)
    (site_memory coordinator_memory bytes : List ℕ) : Type 0 where
  pub goes : session.going ≡ true → Goes input n session site_memory coordinator_memory bytes
  pub ended : session.going ≡ false → bytes ≡ transcript input
  pub ended_so : session.going ≡ false
      → ending input
      ≡ ending_at session.refusal (ending_line session.settings session.refusal n)

-- ---- The beginning

module _ (input : List ℕ) (left : Buffers) (answer : Moved)
    (right : BeginRight input left answer) where
  abbrev at_start : List ℕ
  at_start = take answer.written left.out

  begin_ended : (found : Fields) → read_fields 6 input ≡ found
      → is_zero (begin_refusal input found) ≡ false
      → begin_piece input found ≡ transcript input
  begin_ended malformed is refused = rw is
  begin_ended (fields numbers worklist) is refused = rw (is, refused, transcript_with)

  begin_ended_so : (found : Fields) → read_fields 6 input ≡ found
      → is_zero (begin_refusal input found) ≡ false
      → ending input
      ≡ ending_at (begin_refusal input found)
      (start_line (settings_in found) (begin_refusal input found))
  begin_ended_so malformed is refused = rw is
  begin_ended_so (fields numbers worklist) is refused = rw (is, refused, ending_with)

  begin_goes : (found : Fields) → read_fields 6 input ≡ found
      → is_zero (begin_refusal input found) ≡ true
      → Goes input 0 answer.session left.site_memory left.coordinator_memory at_start
  begin_goes malformed is fine = absurd (false≢true fine)
  begin_goes (fields numbers worklist) is fine =
      let whole : is_zero (begin_refusal input (read_fields 6 input)) ≡ true = rw is fine in
      let start = right.begun whole in
      let settings_are : answer.session.settings ≡ settings_of numbers =
      rw is at start.settings_are in
      let rest : drop answer.session.at input ≡ worklist = rw is at start.worklist in
      let read : transcript input
      ≡ transcript_from (settings_of numbers) (run_of (settings_of numbers) [])
      (read_from (length worklist) 0 worklist) = rw (is, fine, transcript_with) in
      let ends : ending input
      ≡ ending_from (settings_of numbers) (run_of (settings_of numbers) []) first_line
      (read_from (length worklist) 0 worklist) = rw (is, fine, ending_with) in
      record {
        arrivals = [];
        stands = start.represents;
        bytes_are = right.bytes ∙ rw whole;
        rest_is = read
            ∙ sym (λ i.
            transcript_from (settings_are i) (run_of (settings_are i) [])
            (read_from (length (rest i)) (start.first_line i) (rest i)));
        ending_is = ends
            ∙ sym (λ i.
            ending_from (settings_are i) (run_of (settings_are i) []) first_line
            (read_from (length (rest i)) (start.first_line i) (rest i)));
        far = omega arith;
        few = omega arith;
        line_few = omega (arith, start.first_line);
      }

  pub begin_stands : Stands input 0 answer.session left.site_memory left.coordinator_memory
      at_start
  begin_stands = record {
    goes = λ going. begin_goes (read_fields 6 input) refl (sym right.going ∙ going);
    ended = λ over.
        let refused = sym right.going ∙ over in
        right.bytes ∙ begin_ended (read_fields 6 input) refl refused;
    ended_so = λ over.
        let refused = sym right.going ∙ over in
        begin_ended_so (read_fields 6 input) refl refused
        ∙ sym (λ i.
        ending_at (right.refusal i) (start_line (right.settings i) (right.refusal i)));
  }
