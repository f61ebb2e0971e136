-- What is kept beside what a caller holds to speak of a history of calls (document 01, "Whole lists
-- of draws"), and what a call is given of it and leaves of it.
--
--   State                        what is held, the queue, arrivals, messages, those of the logs
--                                and the sum of answers
--   AtRest state                 nothing waits, and the coordinator is idle
--   part_of held start words      so many numbers of the sites' memory from a place on; fewer where
--                                it ends
--   site_part settings held which words   the part that starts where the site's memory starts
--   coordinator_part held start words     so many numbers of the coordinator's memory
--   fronts site_count coordinator_count   so many numbers from the front of each memory
--   lending held slices          what is held, with such parts in place of the memories
--   put_back held slices answer   the memories with these parts as a batch call left them
--   front_in words memory other  so many numbers of a memory at the front of another
--   carried_to settings held site_memory coordinator_memory
--                                what is held, in other memories: what lies past the network theirs
-- Passed on: what is held, as crate `model` has it.
use Rattle.std.specs.Prelude.{◌≡◌, List, [], ◌++◌, ℕ, ◌+◌, ◌*◌, take, drop}
use Rattle.model.specs.declared.Settings.{Settings}
use Rattle.model.specs.declared.Arrival.{Arrival}
use Rattle.model.specs.declared.Message.{Message}
use Rattle.model.specs.declared.Phase.TheVariants.{Idle}
use Rattle.model.specs.SiteMemory.{site_words}
use Rattle.model.specs.CoordinatorMemory.{coordinator_words}
use Rattle.model.specs.NetworkMemory.{sites_words}
pub use Rattle.model.specs.Held.{Held, held_by, no_record, record_in, record_at, with_record, network_of, network_written, held_refusal, after_site_call, after_coordinator_call}
use Rattle.tracker_steps.specs.Steps.{BatchHeld, batch_held, batch_answer}

-- What is held, and what a history is told by: for the statement only.
pub record State : Type 0 where
  pub held : Held
  -- messages that went out after a single arrival and are not yet handed over, in the order of
  -- going out
  pub waiting : List Message
  -- all draws accepted so far, in order, those of a batch that a refusal stopped included: the
  -- accepted arrivals of class 1 or more (request N2)
  pub accepted : List Arrival
  -- all messages so far, in order, each once: written to a log, or handed out after single arrivals
  pub messages : List Message
  -- the messages that the batch calls wrote to their logs, in order
  pub log : List Message
  -- the sum of what the batch calls answered for messages written
  pub logged : ℕ

-- "only then comes the next accepted draw"
pub record AtRest (state : State) : Type 0 where
  pub nothing_waits : state.waiting ≡ []
  pub idle : state.held.coordinator.phase ≡ Idle

-- ---- What a call on a site is given

-- A slice of the sites' memory.
abbrev pub part_of : Held → ℕ → ℕ → List ℕ
part_of held start words = take words (drop start held.site_memory)

-- Where a site's memory starts.
abbrev pub site_start : Settings → ℕ → ℕ
site_start settings which = which * site_words settings

-- A part that starts there; it may reach past the end of the site's own memory.
abbrev pub site_part : Settings → Held → ℕ → ℕ → List ℕ
site_part settings held which words = part_of held (site_start settings which) words

-- A slice of the coordinator's memory.
abbrev pub coordinator_part : Held → ℕ → ℕ → List ℕ
coordinator_part held start words = take words (drop start held.coordinator_memory)

-- Where a call is lent slices of memory: from where, and how many numbers.
pub record Slices : Type 0 where
  pub site_from : ℕ
  pub site_count : ℕ
  pub coordinator_from : ℕ
  pub coordinator_count : ℕ

-- So many numbers from the front of each memory; all of it, where it has no more.
abbrev pub fronts : ℕ → ℕ → Slices
fronts site_count coordinator_count = record {
  site_from = 0;
  site_count = site_count;
  coordinator_from = 0;
  coordinator_count = coordinator_count;
}

-- What is held, as far as it is lent.
abbrev pub lending : Held → Slices → Held
lending held slices =
    held_by held.sites held.coordinator
    (part_of held slices.site_from slices.site_count)
    (coordinator_part held slices.coordinator_from slices.coordinator_count)

-- ---- What is held after a call, from its results

-- A memory with a part of it as a call left it.
abbrev pub with_part : List ℕ → ℕ → ℕ → List ℕ → List ℕ
with_part memory start words part = take start memory ++ (part ++ drop (start + words) memory)

-- The memories with the slices of them as a batch call left them.
abbrev pub put_back : Held → Slices → BatchHeld → BatchHeld
put_back held slices answer =
    batch_held (batch_answer answer)
    (with_part held.site_memory slices.site_from slices.site_count
    answer.held.site_memory)
    (with_part held.coordinator_memory slices.coordinator_from slices.coordinator_count
    answer.held.coordinator_memory)
    answer.log

-- So many numbers of a memory at the front of another, which keeps what lies behind them.
abbrev pub front_in : ℕ → List ℕ → List ℕ → List ℕ
front_in words memory other = take words memory ++ drop words other

-- The same records, and the network's own numbers at the front of other memories.
abbrev pub carried_to : Settings → Held → List ℕ → List ℕ → Held
carried_to settings held site_memory coordinator_memory =
    held_by held.sites held.coordinator
    (front_in (sites_words settings) held.site_memory site_memory)
    (front_in (coordinator_words settings) held.coordinator_memory coordinator_memory)

-- A call that hands out no message and accepts no arrival.
abbrev pub holding : State → Held → State
holding state held = record {
  held = held;
  waiting = state.waiting;
  accepted = state.accepted;
  messages = state.messages;
  log = state.log;
  logged = state.logged;
}

-- A call of a delivery: these messages wait still, and those that the call hands out join them.
abbrev pub sending : State → Held → List Message → List Message → State
sending state held waiting handed_out = record {
  held = held;
  waiting = waiting ++ handed_out;
  accepted = state.accepted;
  messages = state.messages ++ handed_out;
  log = state.log;
  logged = state.logged;
}
