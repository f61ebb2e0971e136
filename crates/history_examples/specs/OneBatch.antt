-- A history of one batch call under settings A, on memory with two numbers behind the network's
-- own: the state that it leaves, and what the call answers.
--
--   batched_state ..         the state, by what records and memory hold then
--   answer_for state rest    the answer that leaves it, with the rest of the log
use Rattle.std.specs.Prelude.{List, [], ◌∷◌, ◌++◌, ℕ, length, replicate}
use Rattle.model.specs.declared.Arrival.{Arrival}
use Rattle.model.specs.declared.Message.{Message}
use Rattle.model.specs.declared.SiteRecord.{SiteRecord}
use Rattle.model.specs.declared.CoordinatorRecord.{CoordinatorRecord}
use Rattle.model.specs.Site.{fresh_site}
use Rattle.model.specs.SiteMemory.{site_record}
use Rattle.tracker.specs.Batch.{BatchHeld, message_numbers}
use Rattle.history.specs.State.{Held, State, fronts, lending}

-- The record of site 0, the coordinator's, the network's own numbers of both memories, and the
-- messages counted for site 0.
abbrev pub batched_held : SiteRecord → CoordinatorRecord → List ℕ → List ℕ → ℕ → Held
batched_held site coordinator site_numbers coordinator_numbers count = record {
  sites = record {
    records = site ∷ replicate 31 (site_record fresh_site);
    messages = count ∷ replicate 31 0;
  };
  coordinator = coordinator;
  site_memory = site_numbers ++ (5 ∷ (5 ∷ []));
  coordinator_memory = coordinator_numbers ++ (9 ∷ (9 ∷ []));
}

-- Every message of these arrivals was logged, and nothing waits.
abbrev pub batched_state : SiteRecord → CoordinatorRecord → List ℕ → List ℕ → List Arrival
    → List Message → State
batched_state site coordinator site_numbers coordinator_numbers arrivals messages = record {
  held = batched_held site coordinator site_numbers coordinator_numbers (length messages);
  waiting = [];
  accepted = arrivals;
  messages = messages;
  log = messages;
  logged = length messages;
}

-- All arrivals accepted, on 1049 and 1035 numbers.
abbrev pub answer_for : State → List ℕ → BatchHeld
answer_for state rest = record {
  refusal = 0;
  accepted = length state.accepted;
  written = state.logged;
  held = lending state.held (fronts 1049 1035);
  log = message_numbers state.messages ++ rest;
}
