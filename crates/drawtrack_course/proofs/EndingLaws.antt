-- How an input ends, and how its transcript begins and ends.
--
--   from_begins, front_of     what is written so far is the transcript's front
--   ending_enough_of          the first 8241 bytes decide the ending
--   transcript_ends_of        the transcript ends with the lines of its ending
use mathlib.Core.Path.{◌≡◌, refl, sym, ap, ◌∙◌}
use mathlib.Core.Bool.{Bool, true, false, false≢true}
use mathlib.Core.List.{List, [], ◌++◌, append_assoc, append-nil}
use Prim.Native.Nat.{ℕ, ◌+◌, ◌≤◌, ◌<◌}
use native.Mathlib.Omega.{arith}
use native.Mathlib.Decide.{dec_le}
use lib.ListN.{length, take}
use lib.Seq.{take_all, length-take-le}
use borrow.Author.Tests.{eqb-true, ne_eqb}
use Rattle.model.specs.declared.Settings.{Settings}
use Rattle.model.specs.declared.Arrival.{Arrival}
use Rattle.model.specs.Choice.{is_zero}
use Rattle.model.specs.Refusals.{malformed_line}
use Rattle.model.specs.Network.{after_line}
use Rattle.model.specs.Lines.{Fields, malformed, fields, read_fields, settings_of, Worklist, ended, malformed_at, next, read_worklist}
use Rattle.model.specs.Runs.{Run, fresh_run, run_one, line_refusal_in, run_of}
use Rattle.model.specs.Transcript.{message_lines, refused_line, result_lines, program_refusal, transcript_from, transcript_with, transcript_of, transcript}
use Rattle.model.proofs.Touches.DrawLaws.{line_taken}
use Rattle.model.proofs.Worklists.TranscriptLaws.{length_refusal, refusal_some, refusal_long, input_decides}
use Rattle.output_transcript.proofs.LineBounds.{message_lines_append}
use Rattle.drawtrack_steps.specs.declared.Session.{Session}
use Rattle.output_reason.specs.Reason.{first_line}
use Rattle.drawtrack_start.specs.Start.{start_line}
use Rattle.drawtrack_course.specs.Ending.{ending_at, ending_from, ending_with, ending_of, ending, Ending, Front, Last, EndsInResults, EndsAs}
use Rattle.drawtrack_course.proofs.Standing.{ahead, Stands}

-- ---- The front

-- From a run on, the transcript begins with the lines of the run's messages.
pub from_begins : (settings : Settings) (run : Run) (worklist : Worklist)
    → Front (message_lines run.messages) (transcript_from settings run worklist)
from_begins settings run ended = record { rest = result_lines settings run; is = refl }
from_begins settings run (malformed_at line) = record
    { rest = refused_line malformed_line; is = refl }
from_begins settings run (next arrival others) =
    by_refusal (is_zero (line_refusal_in settings run.network arrival)) refl
    (from_begins settings (run_one settings run arrival) others)
  where
    by_refusal : (fine : Bool) → is_zero (line_refusal_in settings run.network arrival) ≡ fine
        → Front (message_lines (run_one settings run arrival).messages)
        (transcript_from settings (run_one settings run arrival) others)
        → Front (message_lines run.messages)
        (transcript_from settings run (next arrival others))
    by_refusal true fine later =
        let sent = (after_line settings run.network arrival).messages in
        let taken = (line_taken settings run arrival
        (eqb-true (line_refusal_in settings run.network arrival) 0 fine)).messages_are in
        record {
          rest = message_lines sent ++ later.rest;
          is = rw (fine, transcript_from)
              (later.is
              ∙ ap (λ (front : List ℕ). front ++ later.rest)
              (ap message_lines taken ∙ message_lines_append run.messages sent)
              ∙ append_assoc (message_lines run.messages) (message_lines sent) later.rest);
        }
    by_refusal false some later =
        record {
          rest = refused_line (line_refusal_in settings run.network arrival);
          is = rw (some, transcript_from);
        }

pub front_of : (input : List ℕ) (n : ℕ) (session : Session)
    (site_memory coordinator_memory bytes : List ℕ)
    → Stands input n session site_memory coordinator_memory bytes
    → Front bytes (transcript input)
front_of input n session site_memory coordinator_memory bytes stands =
    by_going session.going refl
  where
    by_going : (going : Bool) → session.going ≡ going → Front bytes (transcript input)
    by_going true going =
        let there = stands.goes going in
        let from = from_begins session.settings (run_of session.settings there.arrivals)
        (ahead input session) in
        record {
          rest = from.rest;
          is = there.rest_is
              ∙ from.is
              ∙ sym (ap (λ (front : List ℕ). front ++ from.rest) there.bytes_are);
        }
    by_going false over = record {
      rest = [];
      is = sym (stands.ended over) ∙ sym (append-nil bytes);
    }

-- ---- The first bytes

abbrev answered : Settings → List ℕ → ℕ → Ending
answered settings worklist refusal =
    elim (is_zero refusal) [
      | true ↦ ending_from settings (fresh_run settings) first_line (read_worklist worklist)
      | false ↦ ending_at refusal (start_line settings refusal)
    ]

ending_with_long : (settings : Settings) (worklist : List ℕ)
    → 8192 < length worklist
    → let refusal = length_refusal settings in
    ending_with settings worklist ≡ ending_at refusal (start_line settings refusal)
ending_with_long settings worklist long =
    ap (answered settings worklist) (refusal_long settings worklist long)
    ∙ rw (
      ne_eqb (length_refusal settings) 0 (λ none. omega (arith, refusal_some settings)),
      answered,
    )

ending_with_take : (settings : Settings) (worklist : List ℕ) (most : ℕ)
    → 8193 ≤ most
    → ending_with settings (take most worklist) ≡ ending_with settings worklist
ending_with_take settings worklist most enough = by_length (dec_le (length worklist) most)
  where
    by_length : Dec (length worklist ≤ most)
        → ending_with settings (take most worklist) ≡ ending_with settings worklist
    by_length (yes short) = ap (ending_with settings) (take_all most worklist short)
    by_length (no long) =
        let whole = length-take-le most worklist (omega arith) in
        ending_with_long settings (take most worklist) (omega (arith, whole))
        ∙ sym (ending_with_long settings worklist (omega arith))

pub ending_enough_of : (most : ℕ) (whole : List ℕ)
    → 8241 ≤ most
    → ending (take most whole) ≡ ending whole
ending_enough_of most whole enough =
    input_decides most whole enough ending_of (λ numbers. ending_with_take (settings_of numbers))

-- ---- The last lines

ends_refused : (refusal : ℕ) (earlier : List ℕ)
    → is_zero refusal ≡ false
    → EndsAs refusal (earlier ++ refused_line refusal)
ends_refused refusal earlier some = record {
  refused = λ _. record { earlier = earlier; is = refl };
  results = λ none. absurd (false≢true (sym some ∙ none));
}

from_ends : (settings : Settings) (run : Run) (line : ℕ) (worklist : Worklist)
    → EndsAs (ending_from settings run line worklist).refusal
    (transcript_from settings run worklist)
from_ends settings run line ended = record {
  refused = λ some. absurd (false≢true (sym some));
  results = λ _. record {
    settings = settings;
    run = run;
    last = record { earlier = message_lines run.messages; is = refl };
  };
}
from_ends settings run line (malformed_at at) =
    ends_refused malformed_line (message_lines run.messages) refl
from_ends settings run line (next arrival others) =
    by_refusal (is_zero (line_refusal_in settings run.network arrival)) refl
    (from_ends settings (run_one settings run arrival) (line + 1) others)
  where
    by_refusal : (fine : Bool) → is_zero (line_refusal_in settings run.network arrival) ≡ fine
        → EndsAs (ending_from settings (run_one settings run arrival) (line + 1) others).refusal
        (transcript_from settings (run_one settings run arrival) others)
        → EndsAs (ending_from settings run line (next arrival others)).refusal
        (transcript_from settings run (next arrival others))
    by_refusal true fine later = rw (fine, ending_from, transcript_from) later
    by_refusal false some later =
        rw (some, ending_from, transcript_from)
        (ends_refused (line_refusal_in settings run.network arrival)
        (message_lines run.messages) some)

pub transcript_ends_of : (input : List ℕ) → EndsAs (ending input).refusal (transcript input)
transcript_ends_of input = by_settings (read_fields 6 input)
  where
    by_program : (settings : Settings) (worklist : List ℕ) (fine : Bool)
        → is_zero (program_refusal settings worklist) ≡ fine
        → EndsAs (ending_with settings worklist).refusal (transcript_with settings worklist)
    by_program settings worklist true fine =
        rw (fine, ending_with, transcript_with)
        (from_ends settings (fresh_run settings) first_line (read_worklist worklist))
    by_program settings worklist false some =
        rw (some, ending_with, transcript_with)
        (ends_refused (program_refusal settings worklist) [] some)

    by_settings : (found : Fields) → EndsAs (ending_of found).refusal (transcript_of found)
    by_settings malformed = ends_refused malformed_line [] refl
    by_settings (fields numbers worklist) = by_program (settings_of numbers) worklist _ refl
