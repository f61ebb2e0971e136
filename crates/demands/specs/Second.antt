-- Demand 2 of every history: records, memory, arrivals and messages are those of document 01's
-- rules; list and class are right after each arrival.
--
--   rules_run settings state       the rules over the arrivals accepted so far
--   AsRulesAtRest settings state   what holds between arrivals
--   Second settings state          all of demand 2
use Rattle.std.specs.Prelude.{◌≡◌, true, List, ℕ, length, take}
use Rattle.model.specs.declared.Settings.{Settings}
use Rattle.model.specs.declared.Arrival.{Arrival}
use Rattle.model.specs.Refusals.{no_refusal}
use Rattle.model.specs.Reading.{heavy_hitters}
use Rattle.model.specs.Runs.{Run, run_of}
use Rattle.model.specs.Claims.{contains, Tracks, Estimates}
use Rattle.site.specs.Calls.{Observation, ObserveSays}
use Rattle.history.specs.State.{State, AtRest, network_of, record_at, site_part}
use Rattle.history.specs.Frame.{TailsKept, OthersKept}
use Rattle.history.specs.Steps.{after_single, Step}
use Rattle.demands.specs.Reading.{FirmShare, ReadsRight}

-- The run that document 01's rules give for the arrivals accepted so far.
abbrev pub rules_run : Settings → State → Run
rules_run settings state = run_of settings state.accepted

-- Between arrivals all is as the rules say.
pub record AsRulesAtRest (settings : Settings) (state : State) : Type 0 where
  -- records and memory hold the rules' network
  pub network_is : network_of settings state.held ≡ (rules_run settings state).network
  -- the messages, one by one
  pub messages_are : state.messages ≡ (rules_run settings state).messages
  -- list, margin and quantile as the calls answer them
  pub reads_right : ReadsRight settings state

-- Demand 2: messages, list and class are those of document 01's rules.
pub record Second (settings : Settings) (state : State) : Type 0 where
  pub at_rest : AtRest state
      → AsRulesAtRest settings state
  -- in mid-delivery the messages so far are the first of those that the rules give
  pub messages_begin : state.messages
      ≡ take (length state.messages) (rules_run settings state).messages
  -- the rules accept what the calls accepted
  pub accepted_are : (rules_run settings state).accepted ≡ state.accepted
  -- and each front of it whole; its messages are the first of them all
  pub fronts_accepted : (n : ℕ)
      → (run_of settings (take n state.accepted)).accepted ≡ take n state.accepted
  pub messages_after_each : (n : ℕ)
      → take (length (run_of settings (take n state.accepted)).messages)
      (rules_run settings state).messages
      ≡ (run_of settings (take n state.accepted)).messages
  -- "demand 2, after each draw": list and class are right after each of the accepted arrivals,
  -- inside a batch as well
  pub tracks_after_each : (n : ℕ) → Tracks settings (run_of settings (take n state.accepted))
  -- and how far the coordinator's numbers lag behind
  pub estimates_after_each : (n : ℕ)
      → Estimates settings (run_of settings (take n state.accepted))
  -- request N10 after each of them: every item of the rules' list then
  pub firm_after_each : (n item : ℕ)
      → contains item
      (heavy_hitters settings
      (run_of settings (take n state.accepted)).network.coordinator) ≡ true
      → FirmShare settings item (take n state.accepted)
  -- every step leaves what lies past the network as it was
  pub tails_kept : (after : State)
      → Step settings state after
      → TailsKept settings state.held after.held
  -- a single arrival leaves the coordinator and all other sites as they were
  pub others_kept : (arrival : Arrival) (words : ℕ) (part : List ℕ) (answer : Observation)
      → AtRest state
      → ObserveSays settings (record_at state.held arrival.site) arrival
      (site_part settings state.held arrival.site words) part answer
      → answer.refusal ≡ no_refusal
      → OthersKept settings arrival.site state.held
      (after_single settings state arrival words part answer).held
