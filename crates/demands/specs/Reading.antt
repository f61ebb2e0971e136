-- What the reading calls answer at rest (document 01, "Reading the desk" and "Within e"), of any
-- answer that keeps the call's contract. All of it is about the draws accepted so far.
--
--   FirmShare settings item arrivals                request N10's word on a listed item
--   ListRight settings state before after answer    the list call on a list of so many places
--   MarginRight settings state item answer          the margin call
--   QuantileRight settings state answer             the quantile call
--   ReadsRight settings state                       all three
-- n is `counted state.accepted`.
use Rattle.std.specs.Prelude.{◌≡◌, true, false, List, pos, ℕ, ◌+◌, ◌-◌, ◌*◌, ◌≤◌, ◌<◌, length, get_or, take, None, Some}
use Rattle.model.specs.declared.Settings.{Settings}
use Rattle.model.specs.declared.Arrival.{Arrival}
use Rattle.model.specs.Refusals.{no_refusal, unknown_item, list_too_short}
use Rattle.model.specs.Coordinator.{Coordinator}
use Rattle.model.specs.CoordinatorMemory.{coordinator_words}
use Rattle.model.specs.Limits.{top_value, least_drawn}
use Rattle.model.specs.Reading.{needed_side, heavy_hitters, most_listed, margin, quantile_of}
use Rattle.model.specs.Runs.{run_of}
use Rattle.model.specs.Claims.{counted, count_of, below, above, contains}
use Rattle.coordinator_reading.specs.Promises.{QuantileAnswer, MarginAnswer, MarginSays, QuantileSays}
use Rattle.coordinator_list.specs.Promises.{ListAnswer, ListSays}
use Rattle.history.specs.State.{State, coordinator_part}

-- The coordinator that document 01's rules give for the arrivals accepted so far.
abbrev pub rules_coordinator : Settings → State → Coordinator
rules_coordinator settings state = (run_of settings state.accepted).network.coordinator

-- ---- The list

-- The items that a list call hands back: the first of the lent list, as many as it answers.
abbrev pub listed_in : ListAnswer → List ℕ → List ℕ
listed_in answer after = take answer.count after

-- Request N10: "6000 × its draws ≥ (6p - 5e) × all draws". The leeway stands on the side of the
-- item's arrivals, so that no difference can be cut off at 0.
abbrev pub FirmShare : Settings → ℕ → List Arrival → Type 0
FirmShare settings item arrivals =
    6 * settings.phi * counted arrivals
    ≤ 6000 * count_of item arrivals + 5 * settings.epsilon * counted arrivals

-- The list call, with a list of so many places before and after it.
pub record ListRight (settings : Settings) (state : State) (before after : List ℕ)
    (answer : ListAnswer) : Type 0 where
  -- with places enough it is accepted, and otherwise refused by 12
  pub enough_places : length (heavy_hitters settings (rules_coordinator settings state))
      ≤ length before
      → answer.refusal ≡ no_refusal
  pub too_few_places : length before
      < length (heavy_hitters settings (rules_coordinator settings state))
      → answer.refusal ≡ list_too_short
  -- the list is the rules' list
  pub list_is : answer.refusal ≡ no_refusal
      → listed_in answer after ≡ heavy_hitters settings (rules_coordinator settings state)
  -- "each code with p thousandths is listed", once there is an arrival
  pub heavy_listed : answer.refusal ≡ no_refusal
      → (item : ℕ)
      → item < settings.universe
      → 1 ≤ counted state.accepted
      → settings.phi * counted state.accepted ≤ 1000 * count_of item state.accepted
      → contains item (listed_in answer after) ≡ true
  -- "and none below p - e"
  pub light_unlisted : answer.refusal ≡ no_refusal
      → (item : ℕ)
      → 1000 * count_of item state.accepted
      < (settings.phi - settings.epsilon) * counted state.accepted
      → contains item (listed_in answer after) ≡ false
  -- request N10, "for each listed code after at least one draw": before the first the list is empty
  pub listed_firm : answer.refusal ≡ no_refusal
      → (item : ℕ)
      → contains item (listed_in answer after) ≡ true
      → FirmShare settings item state.accepted
  -- request N2, "holds once there is one": before the first draw nothing is listed, whatever
  -- touches there were
  pub nothing_listed : counted state.accepted ≡ 0
      → answer.count ≡ 0
  -- "The list is in rising code order."
  pub rising : answer.refusal ≡ no_refusal
      → (i : ℕ)
      → i + 1 < length (listed_in answer after)
      → get_or (listed_in answer after) i 0 < get_or (listed_in answer after) (i + 1) 0
  -- (codes listed) × (2p - e) × total ≤ 2000 × n
  pub shares : answer.count * needed_side settings (rules_coordinator settings state)
      ≤ 2000 * counted state.accepted
  -- hence (codes listed) × (2p - e) × (3000 - e) ≤ 6,000,000
  pub shares_of_all : answer.count
      * ((2 * settings.phi - settings.epsilon) * (3000 - settings.epsilon))
      ≤ 6000000
  -- so a list of so many places is never refused by 12
  pub never_too_short : most_listed settings ≤ length before
      → answer.refusal ≡ no_refusal
  -- nor is one of a thousand, whatever the settings
  pub thousand_places : 1000 ≤ length before
      → answer.refusal ≡ no_refusal

-- ---- The margin

-- The margin of an item, or 6.
pub record MarginRight (settings : Settings) (state : State) (item : ℕ) (answer : MarginAnswer)
    : Type 0 where
  pub item_known : item < settings.universe
      → answer.refusal ≡ no_refusal
  pub item_unknown : settings.universe ≤ item
      → answer.refusal ≡ unknown_item
  -- "the signed difference of those two sides"
  pub margin_is : answer.refusal ≡ no_refusal
      → answer.margin ≡ margin settings (rules_coordinator settings state) item
  -- before the first draw it is 0
  pub margin_zero : answer.refusal ≡ no_refusal
      → counted state.accepted ≡ 0
      → answer.margin ≡ pos 0

-- ---- The quantile

-- The quantile, which is never refused, and "within e".
pub record QuantileRight (settings : Settings) (state : State) (answer : QuantileAnswer)
    : Type 0 where
  pub never_refused : answer.refusal ≡ no_refusal
  pub quantile_is : answer.quantile ≡ quantile_of settings (rules_coordinator settings state)
  -- "none" before the first arrival, and never after it
  pub nothing_at_start : counted state.accepted ≡ 0
      → answer.quantile ≡ None
  pub nothing_only_at_start : answer.quantile ≡ None
      → counted state.accepted ≡ 0
  -- "1000 × (draws below it) ≤ (q + e) × n"
  pub few_below : (value : ℕ)
      → answer.quantile ≡ Some value
      → 1000 * below value state.accepted
      ≤ (settings.rank + settings.epsilon) * counted state.accepted
  -- "1000 × (draws above it) ≤ (1000 - q + e) × n"
  pub few_above : (value : ℕ)
      → answer.quantile ≡ Some value
      → 1000 * above value state.accepted
      ≤ (1000 - settings.rank + settings.epsilon) * counted state.accepted
  -- "Volume classes run from 0 to 1023."
  pub value_known : (value : ℕ)
      → answer.quantile ≡ Some value
      → value ≤ top_value
  -- touches are no draws, so class 0 is never answered
  pub value_drawn : (value : ℕ)
      → answer.quantile ≡ Some value
      → least_drawn ≤ value
  -- firmer than "within e": two thirds of e do
  pub firm_below : (value : ℕ)
      → answer.quantile ≡ Some value
      → 3000 * below value state.accepted
      ≤ (3 * settings.rank + 2 * settings.epsilon) * counted state.accepted
  pub firm_above : (value : ℕ)
      → answer.quantile ≡ Some value
      → 3000 * above value state.accepted
      ≤ (3000 - 3 * settings.rank + 2 * settings.epsilon) * counted state.accepted
  -- and while the threshold is 1 it is the least value with 1000 × (draws at or below it) ≥ q × n
  pub exact_below : (value : ℕ)
      → answer.quantile ≡ Some value
      → state.held.coordinator.threshold ≡ 1
      → 1000 * below value state.accepted < settings.rank * counted state.accepted
  pub exact_above : (value : ℕ)
      → answer.quantile ≡ Some value
      → state.held.coordinator.threshold ≡ 1
      → 1000 * above value state.accepted
      ≤ (1000 - settings.rank) * counted state.accepted

-- ---- All three

-- Whatever the calls answer, if they keep their contracts. They are lent the first so many numbers
-- of the coordinator's memory: as many as its own, or more.
pub record ReadsRight (settings : Settings) (state : State) : Type 0 where
  pub list : (words : ℕ) (before after : List ℕ) (answer : ListAnswer)
      → coordinator_words settings ≤ words
      → ListSays settings state.held.coordinator (coordinator_part state.held 0 words) before
      after answer
      → ListRight settings state before after answer
  pub margins : (words item : ℕ) (answer : MarginAnswer)
      → coordinator_words settings ≤ words
      → MarginSays settings state.held.coordinator item
      (coordinator_part state.held 0 words) answer
      → MarginRight settings state item answer
  pub quantile : (words : ℕ) (answer : QuantileAnswer)
      → coordinator_words settings ≤ words
      → QuantileSays settings state.held.coordinator (coordinator_part state.held 0 words)
      answer
      → QuantileRight settings state answer
