-- Request N3's instances hold: each figure by computation. The states that are saved are reached by
-- calls.
--
--   batch_reached, announcing_reached    two histories
--   file_instances                       the table
use mathlib.Core.Path.{refl}
use mathlib.Core.List.{[], ◌∷◌}
use lib.ListN.{replicate}
use Rattle.model.specs.Limits.{value_count}
use Rattle.model.specs.Draws.{is_taken}
use Rattle.model.specs.Instances.{settings_a, draw}
use Rattle.history.specs.Steps.{arrives, delivers}
use Rattle.history.specs.Histories.{Reachable, stepped}
use Rattle.history_examples.specs.OneBatch.{answer_for}
use Rattle.history_examples.specs.Example.{started_state, after_draw, after_item_report, after_count_report, after_poll, after_poll_answer}
use Rattle.history_examples.proofs.OneBatch.{reached_by_batch}
use Rattle.history_examples.proofs.Example.{begins, draw_accepted, item_report_lem, count_report_lem, polled, poll_answered}
use Rattle.snapshot_examples.specs.Instances.{batch_state, FileInstances}

-- P2's draw in one batch, with a log of 25 records.
batch_reached : Reachable settings_a batch_state
unfolding value_count is_taken
batch_reached =
    reached_by_batch (draw ∷ []) (replicate 100 8) (answer_for batch_state (replicate 80 8))
    (record {
      refusal = refl;
      accepted = refl;
      written = refl;
      sites = refl;
      coordinator = refl;
      site_memory = refl;
      coordinator_memory = refl;
      log = refl;
    })

-- P2's draw by single calls, and kinds 1 to 4 handed over.
announcing_reached : Reachable settings_a after_poll_answer
announcing_reached =
    stepped after_poll after_poll_answer
    (stepped after_count_report after_poll
    (stepped after_item_report after_count_report
    (stepped after_draw after_item_report
    (stepped started_state after_draw begins (arrives draw_accepted))
    (delivers item_report_lem))
    (delivers count_report_lem))
    (delivers polled))
    (delivers poll_answered)

pub file_instances : FileInstances
unfolding value_count
file_instances = record {
  fresh_reached = begins;
  fresh_length = refl;
  fresh_desk = refl;
  fresh_decks = refl;
  fresh_sum = refl;
  fresh_last = refl;
  batch_reached = batch_reached;
  batch_length = refl;
  batch_desk = refl;
  batch_decks = refl;
  batch_sum = refl;
  batch_last = refl;
  announcing_reached = announcing_reached;
  announcing_phase = refl;
  announcing_count = refl;
  announcing_length = refl;
  announcing_desk = refl;
  announcing_decks = refl;
  announcing_sum = refl;
  full_length = refl;
  full_desk = refl;
  full_decks = refl;
  save_exact = refl;
  save_short = refl;
  load_exact = refl;
  load_sites_short = refl;
  load_unmended = refl;
  load_phase_whole = refl;
  load_phase_deck = refl;
  load_empty = refl;
  load_59 = refl;
  load_59_zeros = refl;
  load_width_right = refl;
  load_width_wrong = refl;
  load_sum_wrong = refl;
  load_sum_right = refl;
  load_sites_whole = refl;
  two_length = refl;
  two_decks_lem = refl;
  load_two = refl;
  load_older = refl;
  load_cut = refl;
}
