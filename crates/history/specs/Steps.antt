-- The steps of a history: a call is known here by its contract alone, whatever it answers and
-- leaves, if it keeps its promise. The next state is always made of the call's results. How much
-- of a memory is lent may differ from call to call ("longer is fine, the rest untouched"): the
-- first so many numbers, and of refused calls any slice.
--
--   Arrives settings before after      a batch call, or an accepted single draw, at rest
--   Delivers settings before after     one message handed over and accepted, or a kind 7 asked for
--   Refuses before after               any call that accepts no draw, at any time
--   Step settings before after         one of them
use Rattle.std.specs.Prelude.{◌≡◌, true, false, List, [], ◌∷◌, ◌++◌, ℕ, ◌+◌, take}
use Rattle.model.specs.declared.Settings.{Settings}
use Rattle.model.specs.declared.Arrival.{Arrival}
use Rattle.model.specs.declared.Message.{Message}
use Rattle.model.specs.Refusals.{no_refusal}
use Rattle.model.specs.Draws.{is_draw, draws_of}
use Rattle.model.specs.Messages.{to_coordinator}
use Rattle.site.specs.Calls.{SiteReply, Observation, ObserveSays, SiteReceiveSays}
use Rattle.coordinator.specs.Calls.{Reception, CoordinatorReceiveSays, AnnounceSays}
use Rattle.tracker.specs.Batch.{BatchCall, BatchHeld, BatchSays, messages_in}
use Rattle.history.specs.State.{Held, State, AtRest, record_at, part_of, site_start, site_part, coordinator_part, Slices, fronts, lending, with_part, put_back, after_site_call, after_coordinator_call, holding, sending}

-- ---- Arrivals

-- All that a batch call is given: what is held, "with a run and a log of its own".
abbrev pub batch_call : Settings → Held → List Arrival → List ℕ → BatchCall
batch_call settings held arrivals log = record {
  settings = settings;
  held = held;
  arrivals = arrivals;
  log = log;
}

-- Records from the answer, memory as it was left; the draws among as many of the arrivals as it
-- accepted, and as many messages of the log as it wrote.
abbrev pub after_batch : State → List Arrival → BatchHeld → State
after_batch before arrivals answer = record {
  held = answer.held;
  waiting = before.waiting;
  accepted = before.accepted ++ draws_of (take answer.accepted arrivals);
  messages = before.messages ++ messages_in answer.written answer.log;
  log = before.log ++ messages_in answer.written answer.log;
  logged = before.logged + answer.written;
}

-- The messages that an arrival's answer hands out: none, the first, or both.
abbrev pub observed_out : Observation → List Message
observed_out answer = take answer.count (answer.first ∷ (answer.second ∷ []))

-- Record and part of its site as the call left them; its messages wait.
abbrev pub after_single : Settings → State → Arrival → ℕ → List ℕ → Observation → State
after_single settings before arrival words part answer = record {
  held = after_site_call before.held arrival.site answer.site
      (with_part before.held.site_memory (site_start settings arrival.site) words part);
  waiting = before.waiting ++ observed_out answer;
  accepted = before.accepted ++ (arrival ∷ []);
  messages = before.messages ++ observed_out answer;
  log = before.log;
  logged = before.logged;
}

-- "many-draw calls, each with a run and a log of its own, and single draws at a deck, in any order"
pub data Arrives (settings : Settings) (before : State) : State → Type 0 where
  -- a batch call, whatever stops it, and however much of the memories it is lent
  batch : (site_count coordinator_count : ℕ) (arrivals : List Arrival) (log : List ℕ)
      (answer : BatchHeld)
      → AtRest before
      → BatchSays
      (batch_call settings (lending before.held (fronts site_count coordinator_count)) arrivals log)
      answer
      → Arrives settings before
      (after_batch before arrivals
      (put_back before.held (fronts site_count coordinator_count) answer))
  -- a single draw that is accepted, at the site that it names
  single : (arrival : Arrival) (words : ℕ) (part : List ℕ) (answer : Observation)
      → AtRest before
      → is_draw arrival ≡ true
      → ObserveSays settings (record_at before.held arrival.site) arrival
      (site_part settings before.held arrival.site words) part answer
      → answer.refusal ≡ no_refusal
      → Arrives settings before (after_single settings before arrival words part answer)

-- ---- Delivery

-- The message that an answer hands out, if its count is 1.
abbrev pub answered_out : SiteReply → List Message
answered_out answer = take answer.count (answer.reply ∷ [])

-- The same for the coordinator's answer.
abbrev pub received_out : Reception → List Message
received_out answer = take answer.count (answer.out ∷ [])

-- "each message that goes out is handed and accepted once, in the order of going out, to the deck
-- or desk it is for, answers included, and kind 7 is asked for until the desk is idle"
pub data Delivers (settings : Settings) (before : State) : State → Type 0 where
  -- the head of the queue is for the coordinator, which accepts it
  to_coordinator_lem : (m : Message) (later : List Message) (words : ℕ) (part : List ℕ)
      (answer : Reception)
      → before.waiting ≡ m ∷ later
      → to_coordinator m ≡ true
      → CoordinatorReceiveSays settings before.held.coordinator m
      (coordinator_part before.held 0 words)
      part answer
      → answer.refusal ≡ no_refusal
      → Delivers settings before
      (sending before
      (after_coordinator_call before.held answer.coordinator
      (with_part before.held.coordinator_memory 0 words part)) later
      (received_out answer))
  -- the head of the queue is for the site that it names, which accepts it
  to_site : (m : Message) (later : List Message) (words : ℕ) (answer : SiteReply)
      → before.waiting ≡ m ∷ later
      → to_coordinator m ≡ false
      → SiteReceiveSays settings (record_at before.held m.site) m.site m
      (site_part settings before.held m.site words) answer
      → answer.refusal ≡ no_refusal
      → Delivers settings before
      (sending before
      (after_site_call before.held m.site answer.site before.held.site_memory) later
      (answered_out answer))
  -- the next kind 7 is asked for and handed out, whatever waits
  next_announcement : (words : ℕ) (answer : Reception)
      → AnnounceSays settings before.held.coordinator (coordinator_part before.held 0 words)
      answer
      → answer.refusal ≡ no_refusal
      → Delivers settings before
      (sending before
      (after_coordinator_call before.held answer.coordinator before.held.coordinator_memory)
      before.waiting (received_out answer))

-- ---- Calls that accept no draw

-- "A call that is refused .., with a draw or a message, may stand anywhere", in mid-delivery too;
-- with any settings, any site's record, any part of the memories and any arrival, number or
-- message. So may a touch, accepted or not, and a batch call that accepts no draw: none of its
-- arrivals, or touches alone.
pub data Refuses (before : State) : State → Type 0 where
  arrival_left : (given : Settings) (which : ℕ) (arrival : Arrival) (start words : ℕ)
      (part : List ℕ) (answer : Observation)
      → ObserveSays given (record_at before.held which) arrival
      (part_of before.held start words) part answer
      → (answer.refusal ≡ no_refusal → is_draw arrival ≡ false)
      → Refuses before
      (holding before
      (after_site_call before.held which answer.site
      (with_part before.held.site_memory start words part)))
  site_message_refused : (given : Settings) (which number : ℕ) (m : Message) (start words : ℕ)
      (answer : SiteReply)
      → SiteReceiveSays given (record_at before.held which) number m
      (part_of before.held start words) answer
      → (answer.refusal ≡ no_refusal → ⊥)
      → Refuses before
      (holding before
      (after_site_call before.held which answer.site before.held.site_memory))
  coordinator_message_refused : (given : Settings) (m : Message) (start words : ℕ)
      (part : List ℕ) (answer : Reception)
      → CoordinatorReceiveSays given before.held.coordinator m
      (coordinator_part before.held start words) part answer
      → (answer.refusal ≡ no_refusal → ⊥)
      → Refuses before
      (holding before (after_coordinator_call before.held answer.coordinator
      (with_part before.held.coordinator_memory start words part)))
  announcement_refused : (given : Settings) (start words : ℕ) (answer : Reception)
      → AnnounceSays given before.held.coordinator (coordinator_part before.held start words)
      answer
      → (answer.refusal ≡ no_refusal → ⊥)
      → Refuses before
      (holding before
      (after_coordinator_call before.held answer.coordinator
      before.held.coordinator_memory))
  batch_takes_none : (given : Settings) (slices : Slices) (arrivals : List Arrival)
      (log : List ℕ) (answer : BatchHeld)
      → BatchSays (batch_call given (lending before.held slices) arrivals log) answer
      → draws_of (take answer.accepted arrivals) ≡ []
      → Refuses before
      (after_batch before arrivals (put_back before.held slices answer))

-- ---- One of them

-- The list, the margin and the quantile are no step: their calls take records by value and memory
-- to be read only.
pub data Step (settings : Settings) (before after : State) : Type 0 where
  arrives : Arrives settings before after → Step settings before after
  delivers : Delivers settings before after → Step settings before after
  refuses : Refuses before after → Step settings before after
