-- What the steps of a session bring, for every input: the draw of a line of the worklist, and the
-- results at its end (document 01's section "Worklist").
--
--   draw_of session step given       the outcome of a line's draw
--   results_of session given         the outcome at the end of the worklist
--   DrawSays, FinishSays               the promises
use Rattle.std.specs.Prelude.{◌≡◌, true, List, [], ◌∷◌, ◌++◌, ℕ, ◌*◌, ◌≤◌, length, if◌then◌else◌}
use Rattle.model.specs.Choice.{is_zero}
use Rattle.model.specs.Refusals.{no_refusal}
use Rattle.model.specs.SiteMemory.{overwrite}
use Rattle.model.specs.Coordinator.{Coordinator}
use Rattle.model.specs.CoordinatorMemory.{coordinator_in, coordinator_record, coordinator_memory}
use Rattle.model.specs.NetworkMemory.{sites_memory}
use Rattle.model.specs.Reading.{heavy_hitters, quantile_of}
use Rattle.model.specs.Runs.{Batch}
use Rattle.model.specs.Transcript.{end_line, class_word, messages_word, quantile_word, message_lines}
use Rattle.worklist_reader.specs.Walk.{Step}
use Rattle.output_lines.specs.Promises.{counted_line, listed_line}
use Rattle.coordinator_list.specs.Promises.{list_refusal}
use Rattle.tracker.specs.Batch.{BatchCall, start_refusal, batch_in, unless_refused, sites_after, message_numbers}
use Rattle.message_counts.specs.Totals.{total_held}
use Rattle.drawtrack_steps.specs.declared.Session.{Session}
use Rattle.output_lines.specs.Promises.{at_start, lines_after}
use Rattle.drawtrack_steps.specs.Output.{lines_of}
use Rattle.drawtrack_steps.specs.Outcome.{with_list, Outcome, outcome, ended, refused_of, Buffers, buffers, held_of}
use Rattle.drawtrack_steps.specs.declared.Moved.{Moved}

-- ---- A line's draw

-- A batch of the one arrival, on the session's records.
abbrev pub draw_call : Session → Step → Buffers → BatchCall
draw_call session step given = record {
  settings = session.settings;
  held = held_of session given.site_memory given.coordinator_memory;
  arrivals = step.arrival ∷ [];
  log = given.log;
}

-- 1, 2, 3, 4, 11; then 5, 6, 7, 8, 14.
abbrev pub draw_refusal : BatchCall → ℕ
draw_refusal call = unless_refused call (batch_in call).refusal (start_refusal call)

-- Records, both memories and the log as the batch leaves them, the lines of its messages in the
-- output; the session stands behind the line.
abbrev pub taken_of : Session → Step → Buffers → Outcome
taken_of session step given =
    let call = draw_call session step given in
    let batch = batch_in call in
    let written = lines_after (at_start given.out) (lines_of batch.messages) in
    outcome
    (record {
      session = record {
        going = true;
        refusal = no_refusal;
        settings = session.settings;
        sites = sites_after call;
        coordinator = coordinator_record batch.network.coordinator;
        at = step.at;
        line = step.line;
      };
      written = written.place;
    })
    (buffers (sites_memory session.settings batch.network.sites given.site_memory)
    (coordinator_memory batch.network.coordinator given.coordinator_memory)
    (overwrite (message_numbers batch.messages) given.log) given.list written.out)

abbrev pub draw_of : Session → Step → Buffers → Outcome
draw_of session step given =
    let refusal = draw_refusal (draw_call session step given) in
    if is_zero refusal then taken_of session step given else refused_of session refusal given

-- ---- The end of the worklist

abbrev pub session_coordinator : Session → Buffers → Coordinator
session_coordinator session given =
    coordinator_in session.settings session.coordinator given.coordinator_memory

-- "then the listed codes in order .., the class or `none`, and the count"
abbrev pub result_lines_of : Session → Coordinator → List (List ℕ)
result_lines_of session coordinator =
    listed_line (heavy_hitters session.settings coordinator)
    ∷ (end_line (class_word ++ quantile_word (quantile_of session.settings coordinator))
    ∷ (counted_line messages_word (total_held session.settings session.sites.messages)
    ∷ []))

-- The list holds the listed items in its first places, and the output their line and the others.
abbrev pub listed_of : Session → Buffers → Outcome
listed_of session given =
    let coordinator = session_coordinator session given in
    let written = lines_after (at_start given.out) (result_lines_of session coordinator) in
    outcome (ended session no_refusal written.place)
    (buffers given.site_memory given.coordinator_memory given.log
    (overwrite (heavy_hitters session.settings coordinator) given.list) written.out)

-- 1, 2, 3, 4, 11, 12 of the list call, or the results.
abbrev pub results_of : Session → Buffers → Outcome
results_of session given =
    let refusal = list_refusal session.settings session.coordinator
    given.coordinator_memory (length given.list) in
    if is_zero refusal then listed_of session given else refused_of session refusal given

-- ---- The promises

-- The lines of a draw's messages take at most 84 bytes each: a log holds numbers of 64 bits.
abbrev pub FewBytes : Batch → Type 0
FewBytes batch = length (message_lines batch.messages) ≤ 84 * length batch.messages

-- Whatever list there is.
pub record DrawSays (session : Session) (step : Step) (given left : Buffers) (answer : Moved)
    : Type 0 where
  pub is : (list : List ℕ)
      → outcome answer (with_list left list) ≡ draw_of session step (with_list given list)
  pub few_bytes : draw_refusal (draw_call session step given) ≡ no_refusal
      → FewBytes (batch_in (draw_call session step given))

-- Whatever site memory and log there are.
pub record FinishSays (session : Session) (memory listBefore before listAfter after : List ℕ)
    (answer : Moved) : Type 0 where
  pub is : (site_memory log : List ℕ)
      → outcome answer (buffers site_memory memory log listAfter after)
      ≡ results_of session (buffers site_memory memory log listBefore before)
