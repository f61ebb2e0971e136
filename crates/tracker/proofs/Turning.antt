-- The loop of the batch call: where it stands before each arrival, and its turns. The counts of
-- messages stand beside the answer until the end, and the records' places are the program's.
--
--   with_counts answer counts     the answer with other counts
--   Standing call i now           the call so far, with the arrivals from i on still to come
--   standing_at                   the same at what the answer, the counts and memory are equal to
--   going_outcome                 an answer that nothing has stopped
--   standing_open                 before the first arrival
--   next_arrival, turn_taken      one more arrival: what its turn asks
--   messages_due                  what the delivery of its messages asks
--   accepted_fits                 the arrivals accepted stay a machine number
--   standing_quiet, standing_sent    after it, without messages and with them
--   standing_done, standing_stopped  the end: no arrival is left, or one was refused
use mathlib.Core.Path.{◌≡◌, refl, ap, ◌∙◌, subst, subst⁻¹}
use mathlib.Core.List.{List, ◌∷◌}
use Prim.Native.Nat.{ℕ, suc, ◌+◌, ◌^◌, ◌≤◌, ◌<◌}
use native.Mathlib.Omega.{arith}
use lib.ListN.{length, get_or, drop}
use lib.Seq.{drop-cons}
use Rattle.std.proofs.Common.{drop_of_length-le}
use Rattle.std.specs.Prelude.{None}
use Rattle.model.specs.declared.Arrival.{Arrival}
use Rattle.model.specs.declared.SiteRecord.{SiteRecord}
use Rattle.model.specs.Refusals.{no_refusal}
use Rattle.model.specs.Held.{no_record}
use Rattle.tracker_delivery.specs.declared.Ended.{Ended}
use Rattle.tracker_delivery.specs.UnderwayParts.{resting, ended_of}
use Rattle.tracker_delivery.specs.Holding.{carrying}
use Rattle.tracker_delivery.specs.Arriving.{MessagesAsk}
use Rattle.tracker_delivery.specs.Stops.{stop_number}
use Rattle.tracker_steps.specs.declared.BatchAnswer.{BatchAnswer}
use Rattle.tracker_steps.specs.Steps.{BatchOutcome, batch_outcome, BatchHeld, batch_held, OpenBatchSays, run_limit, OneAsks, OneSays}
use Rattle.tracker_steps.specs.Turns.{TurnOutcome, place_of, own_of, TurnAsks, TurnSays}
use Rattle.tracker_arrivals.specs.Counting.{counted, CountTurnAsks, SentSays}
use Rattle.tracker_arrivals.proofs.ArrivalLaws.{turn_asks, count_asks, deliver_asks, messages_ask, quiet_says, sent_says}
use Rattle.tracker.specs.Batch.{BatchCall, BatchSays}
use Rattle.tracker.proofs.WalkLaws.{Walked, walked_open, walked_asks, walked_step, walked_done, walked_stopped}

-- ---- Where the loop stands

abbrev pub with_counts : BatchOutcome → List ℕ → BatchOutcome
with_counts answer counts = record {
  refusal = answer.refusal;
  accepted = answer.accepted;
  written = answer.written;
  sites = record { records = answer.sites.records; messages = counts };
  coordinator = answer.coordinator;
}

-- Where no arrival stands.
abbrev pub no_arrival : Arrival
no_arrival = record { site = 0; item = 0; value = 0 }

pub record Standing (call : BatchCall) (i : ℕ) (now : BatchHeld) : Type 0 where
  pub within : i ≤ length call.arrivals
  pub walked : Walked call (drop i call.arrivals) now

pub standing_at : {call : BatchCall} {i : ℕ} {answer answer' : BatchOutcome}
    {counts counts' sites sites' coordinator coordinator' log log' : List ℕ}
    → answer' ≡ answer
    → counts' ≡ counts
    → sites' ≡ sites
    → coordinator' ≡ coordinator
    → log' ≡ log
    → Standing call i (batch_held (with_counts answer counts) sites coordinator log)
    → Standing call i (batch_held (with_counts answer' counts') sites' coordinator' log')
standing_at {call} {i} answer_is counts_are sites_are coordinator_is log_is =
    subst⁻¹ (Standing call i)
    (λ j. batch_held (with_counts (answer_is j) (counts_are j)) (sites_are j) (coordinator_is j)
    (log_is j))

-- An answer that nothing has stopped.
pub going_outcome : (answer : BatchAnswer) → answer.refusal ≡ None
    → batch_outcome answer
    ≡ record {
      refusal = no_refusal;
      accepted = answer.accepted;
      written = answer.written;
      sites = answer.sites;
      coordinator = answer.coordinator;
    }
going_outcome answer none = λ j. record {
  refusal = stop_number (none j);
  accepted = answer.accepted;
  written = answer.written;
  sites = answer.sites;
  coordinator = answer.coordinator;
}

pub standing_open : (call : BatchCall) (answer : BatchOutcome)
    (site_memory coordinator_memory : List ℕ)
    → OpenBatchSays call.settings call.held.sites call.held.coordinator
    call.held.site_memory call.held.coordinator_memory answer site_memory coordinator_memory
    → Standing call 0 (batch_held answer site_memory coordinator_memory call.log)
standing_open call answer site_memory coordinator_memory says = record {
  within = omega arith;
  walked = walked_open call answer site_memory coordinator_memory says;
}

-- ---- The end

module _ {call : BatchCall} {i : ℕ} {now : BatchHeld} (standing : Standing call i now) where
  pub standing_done : length call.arrivals ≤ i → BatchSays call now
  standing_done past =
      walked_done
      (subst (λ (rest : List Arrival). Walked call rest now)
      (drop_of_length-le call.arrivals past) standing.walked)

  pub standing_stopped : (now.refusal ≡ no_refusal → ⊥) → BatchSays call now
  standing_stopped some = walked_stopped standing.walked some

-- ---- One arrival

module _ {call : BatchCall} {i : ℕ} {now : BatchHeld} (standing : Standing call i now)
    (few : length call.arrivals < run_limit)
    (within : i < length call.arrivals)
    (goes_on : now.refusal ≡ no_refusal) where
  abbrev arrival : Arrival
  arrival = get_or call.arrivals i no_arrival

  one_left : Walked call (arrival ∷ drop (i + 1) call.arrivals) now
  one_left =
      let next : suc i ≡ i + 1 = omega arith in
      subst (λ (rest : List Arrival). Walked call rest now)
      (drop-cons call.arrivals i no_arrival within
      ∙ ap (λ (k : ℕ). arrival ∷ drop k call.arrivals) next) standing.walked

  asks : OneAsks call.settings now
  asks = walked_asks few one_left goes_on

  steps : {then : BatchHeld} → OneSays call.settings arrival now then → Standing call (i + 1) then
  steps says = record {
    within = omega (arith, within);
    walked = walked_step few one_left goes_on says;
  }

  module _ {which : ℕ} (place_is : which ≡ place_of arrival) where
    abbrev own : SiteRecord
    own = get_or now.held.sites.records which no_record

    own_is : own ≡ own_of now.held.sites arrival
    own_is = ap (λ (k : ℕ). get_or now.held.sites.records k no_record) place_is

    pub turn_taken : TurnAsks call.settings own now.written arrival (length now.log)
        now.held.site_memory
    turn_taken = turn_asks arrival own_is asks

    module _ {turn : TurnOutcome} {site_memory : List ℕ}
        (told : TurnSays call.settings own now.written arrival (length now.log)
        now.held.site_memory turn site_memory) where
      abbrev was : BatchOutcome
      was = record {
        refusal = now.refusal;
        accepted = now.accepted;
        written = now.written;
        sites = now.held.sites;
        coordinator = now.held.coordinator;
      }

      abbrev next : BatchOutcome
      next = counted was which turn

      next_is : next ≡ counted was (place_of arrival) turn
      next_is = ap (λ (k : ℕ). counted was k turn) place_is

      abbrev counting : CountTurnAsks was (place_of arrival) turn
      counting = count_asks now arrival own_is told asks

      pub accepted_fits : now.accepted + turn.taken < 2 ^ 64
      accepted_fits = omega (arith, counting.accepted_within, counting.taken_within)

      pub messages_due : (turn.out.count ≡ 0 → ⊥)
          → MessagesAsk call.settings turn.out
          (carrying
          (resting next.sites.records next.sites.messages next.coordinator next.written)
          site_memory now.held.coordinator_memory now.log)
      messages_due some =
          messages_ask (deliver_asks now arrival own_is told next next_is asks some)

      pub standing_quiet : turn.out.count ≡ 0
          → Standing call (i + 1)
          (batch_held next site_memory now.held.coordinator_memory now.log)
      standing_quiet quiet = steps (quiet_says now arrival own_is told next next_is quiet)

      pub standing_sent : (turn.out.count ≡ 0 → ⊥)
          → (ended : Ended) (counts sites_then coordinator_then log : List ℕ)
          → SentSays call.settings turn.out
          (carrying
          (resting next.sites.records next.sites.messages next.coordinator next.written)
          site_memory now.held.coordinator_memory now.log)
          (carrying (ended_of ended counts) sites_then coordinator_then log)
          → Standing call (i + 1)
          (batch_held (record {
            refusal = next.refusal;
            accepted = next.accepted;
            written = ended.written;
            sites = record { records = ended.records; messages = counts };
            coordinator = ended.coordinator;
          }) sites_then coordinator_then log)
      standing_sent some ended counts sites_then coordinator_then log sent =
          steps
          (sent_says now arrival own_is told next next_is some refl refl sent.says)
