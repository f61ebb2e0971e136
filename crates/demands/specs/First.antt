-- Demand 1 of every history: what is in order is accepted; what is not is refused by its own
-- number, and changes nothing; every delivery goes on to its end.
--
--   MemoryAccepted settings state    neither 4 nor 11, nor 1, 2 or 3
--   RefusedByRules settings state    the number of each call
--   DeliveryGoesOn settings state    the next step of a delivery is accepted, and steps are few
--   First settings state             all of demand 1
-- Calls are lent the first so many numbers of a memory: as many as their own, or more. Where the
-- memory has no more than that, it is lent whole.
use Rattle.std.specs.Prelude.{◌≡◌, true, false, List, [], ◌∷◌, ℕ, ◌≤◌, ◌<◌, leb, ltb, length}
use Rattle.model.specs.declared.Settings.{Settings}
use Rattle.model.specs.declared.Arrival.{Arrival}
use Rattle.model.specs.declared.Message.{Message}
use Rattle.model.specs.declared.Phase.TheVariants.{Idle}
use Rattle.model.specs.Refusals.{when, no_refusal, unknown_item, list_too_short}
use Rattle.model.specs.Limits.{most_steps}
use Rattle.model.specs.Messages.{to_coordinator}
use Rattle.model.specs.Site.{line_refusal, site_message_refusal}
use Rattle.model.specs.SiteMemory.{site_words, site_memory_refusal}
use Rattle.model.specs.Coordinator.{is_announcing, coordinator_refusal, announcement_refusal}
use Rattle.model.specs.CoordinatorMemory.{coordinator_words, coordinator_memory_refusal}
use Rattle.model.specs.Network.{site_at, delivery_fuel}
use Rattle.model.specs.NetworkMemory.{sites_words}
use Rattle.model.specs.Reading.{heavy_hitters}
use Rattle.model.specs.Runs.{batch_of}
use Rattle.site.specs.Calls as SiteCalls
use Rattle.coordinator.specs.Calls as CoordinatorCalls
use Rattle.coordinator_reading.specs.Promises.{margin_refusal}
use Rattle.coordinator_list.specs.Promises.{list_refusal}
use Rattle.tracker.specs.Batch.{BatchHeld, BatchSays, log_room}
use Rattle.history.specs.State.{State, AtRest, network_of, held_refusal, record_at, site_part, coordinator_part, fronts, lending}
use Rattle.history.specs.Steps.{batch_call, Refuses}
use Rattle.history.specs.Histories.{Deliveries}

-- Memory that arose is never refused: neither 4 nor 11, nor 1, 2 or 3.
pub record MemoryAccepted (settings : Settings) (state : State) : Type 0 where
  -- a site's own record with a part of the memory that holds at least its own
  pub of_site : (which words : ℕ)
      → which < settings.sites
      → site_words settings ≤ words
      → site_memory_refusal settings (record_at state.held which)
      (site_part settings state.held which words)
      ≡ no_refusal
  -- the coordinator's own record with as much of its memory, in mid-delivery too
  pub of_coordinator : (words : ℕ)
      → coordinator_words settings ≤ words
      → coordinator_memory_refusal settings state.held.coordinator
      (coordinator_part state.held 0 words)
      ≡ no_refusal
  -- all records with as much of both memories, at rest
  pub of_network : (site_count coordinator_count : ℕ)
      → sites_words settings ≤ site_count
      → coordinator_words settings ≤ coordinator_count
      → AtRest state
      → held_refusal settings (lending state.held (fronts site_count coordinator_count))
      ≡ no_refusal

-- So each call is refused by the number that the rules give its arrival or message, and is accepted
-- where they give none.
pub record RefusedByRules (settings : Settings) (state : State) : Type 0 where
  -- 5, 6, 7, 8; a touch is never refused by 8
  pub arrival : (which words : ℕ) (arrival : Arrival)
      → which < settings.sites
      → site_words settings ≤ words
      → SiteCalls.observe_refusal settings (record_at state.held which) arrival
      (site_part settings state.held which words)
      ≡ line_refusal settings (site_at (network_of settings state.held) which) arrival
  -- 5, 9, 7, 10
  pub site_message : (which words : ℕ) (m : Message)
      → which < settings.sites
      → site_words settings ≤ words
      → SiteCalls.receive_refusal settings (record_at state.held which) which m
      (site_part settings state.held which words)
      ≡ site_message_refusal settings (site_at (network_of settings state.held) which) which m
  -- 5, 9, 6, 7, 10
  pub coordinator_message : (words : ℕ) (m : Message)
      → coordinator_words settings ≤ words
      → CoordinatorCalls.receive_refusal settings state.held.coordinator m
      (coordinator_part state.held 0 words)
      ≡ coordinator_refusal settings (network_of settings state.held).coordinator m
  -- 9
  pub next_announcement : (words : ℕ)
      → coordinator_words settings ≤ words
      → CoordinatorCalls.announce_refusal settings state.held.coordinator
      (coordinator_part state.held 0 words)
      ≡ announcement_refusal (network_of settings state.held).coordinator
  -- 12, for a list of so many places
  pub list : (words places : ℕ)
      → coordinator_words settings ≤ words
      → list_refusal settings state.held.coordinator (coordinator_part state.held 0 words)
      places
      ≡ when
      (ltb places (length (heavy_hitters settings (network_of settings state.held).coordinator)))
      list_too_short
  -- 6; the quantile call is never refused
  pub margin : (words item : ℕ)
      → coordinator_words settings ≤ words
      → margin_refusal settings state.held.coordinator item
      (coordinator_part state.held 0 words)
      ≡ when (leb settings.universe item) unknown_item
  -- 5, 6, 7, 8, 14; a touch never by 8 or 14
  pub batch : (site_count coordinator_count : ℕ)
      → sites_words settings ≤ site_count
      → coordinator_words settings ≤ coordinator_count
      → AtRest state
      → (arrivals : List Arrival) (log : List ℕ) (answer : BatchHeld)
      → BatchSays
      (batch_call settings (lending state.held (fronts site_count coordinator_count)) arrivals log)
      answer
      → answer.refusal
      ≡ (batch_of settings (log_room log) (network_of settings state.held) arrivals).refusal

-- Every delivery goes on until it has come to rest, whatever refused calls stand in it.
pub record DeliveryGoesOn (settings : Settings) (state : State) : Type 0 where
  -- the head of the queue is accepted by whom it is for: never 5, 6, 7, 9 or 10
  pub coordinator_accepts : (m : Message) (later : List Message) (words : ℕ)
      → state.waiting ≡ m ∷ later
      → to_coordinator m ≡ true
      → coordinator_words settings ≤ words
      → CoordinatorCalls.receive_refusal settings state.held.coordinator m
      (coordinator_part state.held 0 words)
      ≡ no_refusal
  pub site_accepts : (m : Message) (later : List Message) (words : ℕ)
      → state.waiting ≡ m ∷ later
      → to_coordinator m ≡ false
      → site_words settings ≤ words
      → SiteCalls.receive_refusal settings (record_at state.held m.site) m.site m
      (site_part settings state.held m.site words)
      ≡ no_refusal
  -- a kind 7 is handed out while the coordinator announces
  pub announcement_accepted : (words : ℕ)
      → is_announcing state.held.coordinator.phase ≡ true
      → coordinator_words settings ≤ words
      → CoordinatorCalls.announce_refusal settings state.held.coordinator
      (coordinator_part state.held 0 words)
      ≡ no_refusal
  -- where nothing waits and no kind 7 is to come, the coordinator is idle
  pub rests_at_end : state.waiting ≡ []
      → is_announcing state.held.coordinator.phase ≡ false
      → state.held.coordinator.phase ≡ Idle
  -- no delivery has more steps than these
  pub few_steps : (n : ℕ) (after : State)
      → Deliveries settings state n after
      → n ≤ delivery_fuel settings
  -- nor than these, which are fewer still: 24 × k + 2
  pub firm_steps : (n : ℕ) (after : State)
      → Deliveries settings state n after
      → n ≤ most_steps settings

-- Demand 1: what is in order is accepted, and what is not is refused by its own number.
pub record First (settings : Settings) (state : State) : Type 0 where
  pub memory_accepted : MemoryAccepted settings state
  pub refused_by_rules : RefusedByRules settings state
  -- a call that accepts no draw leaves everything as it was: refused, or a touch, or a batch of
  -- touches
  pub refused_changes_nothing : (after : State)
      → Refuses state after
      → after ≡ state
  pub delivery_goes_on : DeliveryGoesOn settings state
