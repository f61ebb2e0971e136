-- What is claimed of every run: demands 2 and 3 over all lists of arrivals, and the bounds that
-- later parts lean on. `DemandsOverRuns` is the whole of it; proofs/Theorem.antt proves it.
--
--   counted arrivals                    n: the draws that shares, ranks and message bounds count
--   count_of item arrivals               an item's arrivals; 0 of no arrival
--   below value, above value            the arrivals of a smaller, of a larger value
--   Tracks settings run                 list and quantile are right ("demand 2, after each draw")
--   ListLaw settings coordinator        which items the list holds, and in which order
--   ListSize settings run               how many items the list holds at most
--   FewMessages settings run            demand 3: the three bounds on messages
--   FirmMessages settings run           and one more, over the digits after the second
--   Estimates settings run              how far estimates and total lag behind
--   QuantilePromise settings run        all that is promised of the quantile
--   FirmQuantile settings run           the quantile is within 2e / 3, exact at first
--   BeforeDraws settings run            what is read while there is no draw yet
--   AfterEach settings arrivals n       the demands after the first n accepted arrivals
-- In all of them `run.accepted` has the draws of a run: its accepted arrivals of class 1 or more
-- (request N2; Cuts.antt `accepted-drawn`).
use Rattle.std.specs.Prelude.{◌≡◌, Bool, true, false, ◌&&◌, ◌||◌, List, [], ◌∷◌, pos, ℕ, ◌+◌, ◌-◌, ◌*◌, ◌≤◌, ◌<◌, eqb, ltb, length, get_or, take, None, Some}
use Rattle.model.specs.declared.Settings.{Settings}
use Rattle.model.specs.declared.Arrival.{Arrival}
use Rattle.model.specs.declared.Phase.TheVariants.{Idle}
use Rattle.model.specs.Refusals.{no_refusal}
use Rattle.model.specs.Limits.{top_value, least_drawn, messages_per_arrival, allowance_factor, firm_messages, firm_messages_per_digit}
use Rattle.model.specs.Settings.{settings_refusal, digits, allowance}
use Rattle.model.specs.Coordinator.{Coordinator}
use Rattle.model.specs.Reading.{needed_side, is_listed, heavy_hitters, most_listed, margin, quantile_of}
use Rattle.model.specs.Runs.{Run, run_of}
use Rattle.model.specs.Cuts.{Cuts}

-- ---- Arrivals counted

-- A test as a number: 1 where it holds.
abbrev pub one_if : Bool → ℕ
one_if true = 1
one_if false = 0

-- "n is the draws accepted", and "n .. mean draws of class 1 or more": touches are never among the
-- accepted arrivals of a run or a history.
abbrev pub counted : List Arrival → ℕ
counted arrivals = length arrivals

-- "its draws": the arrivals of an item.
abbrev pub count_of : ℕ → List Arrival → ℕ
count_of item [] = 0
count_of item (arrival ∷ arrivals) = one_if (eqb arrival.item item) + count_of item arrivals

-- "draws below it" and "draws above it".
abbrev pub below : ℕ → List Arrival → ℕ
below value [] = 0
below value (arrival ∷ arrivals) = one_if (ltb arrival.value value) + below value arrivals

abbrev pub above : ℕ → List Arrival → ℕ
above value [] = 0
above value (arrival ∷ arrivals) = one_if (ltb value arrival.value) + above value arrivals

-- ---- The list and the quantile after a run

-- All that is promised of the quantile; a part that leans on it needs nothing else.
pub record QuantilePromise (settings : Settings) (run : Run) : Type 0 where
  -- "none" before the first draw, and never after it
  pub nothing_at_start : counted run.accepted ≡ 0
      → quantile_of settings run.network.coordinator ≡ None
  pub nothing_only_at_start : quantile_of settings run.network.coordinator ≡ None
      → counted run.accepted ≡ 0
  -- "1000 × (draws below it) ≤ (q + e) × n"
  pub few_below : (value : ℕ)
      → quantile_of settings run.network.coordinator ≡ Some value
      → 1000 * below value run.accepted
      ≤ (settings.rank + settings.epsilon) * counted run.accepted
  -- "1000 × (draws above it) ≤ (1000 - q + e) × n"
  pub few_above : (value : ℕ)
      → quantile_of settings run.network.coordinator ≡ Some value
      → 1000 * above value run.accepted
      ≤ (1000 - settings.rank + settings.epsilon) * counted run.accepted

-- The quantile is firmer than "within e" asks: two thirds of e do, and while the threshold is 1 it
-- is exact. (q is at most 1000, so 1000 - q and 3000 - 3q are true differences.)
pub record FirmQuantile (settings : Settings) (run : Run) : Type 0 where
  -- "Volume classes run from 0 to 1023."
  pub value_known : (value : ℕ)
      → quantile_of settings run.network.coordinator ≡ Some value
      → value ≤ top_value
  -- and since touches are no draws, class 0 never comes out
  pub value_drawn : (value : ℕ)
      → quantile_of settings run.network.coordinator ≡ Some value
      → least_drawn ≤ value
  -- 1000 × (draws below it) ≤ (q + 2e / 3) × n, times 3
  pub few_below : (value : ℕ)
      → quantile_of settings run.network.coordinator ≡ Some value
      → 3000 * below value run.accepted
      ≤ (3 * settings.rank + 2 * settings.epsilon) * counted run.accepted
  -- 1000 × (draws above it) ≤ (1000 - q + 2e / 3) × n, times 3
  pub few_above : (value : ℕ)
      → quantile_of settings run.network.coordinator ≡ Some value
      → 3000 * above value run.accepted
      ≤ (3000 - 3 * settings.rank + 2 * settings.epsilon) * counted run.accepted
  -- while the threshold is 1, the least value with 1000 × (draws at or below it) ≥ q × n
  pub exact_below : (value : ℕ)
      → quantile_of settings run.network.coordinator ≡ Some value
      → run.network.coordinator.threshold ≡ 1
      → 1000 * below value run.accepted < settings.rank * counted run.accepted
  pub exact_above : (value : ℕ)
      → quantile_of settings run.network.coordinator ≡ Some value
      → run.network.coordinator.threshold ≡ 1
      → 1000 * above value run.accepted
      ≤ (1000 - settings.rank) * counted run.accepted

-- Demand 2 over runs: the list and the quantile are right.
pub record Tracks (settings : Settings) (run : Run) : Type 0 where
  -- once there is a draw, a code with p thousandths of all draws, or more, is listed
  pub heavy_listed : (item : ℕ)
      → 1 ≤ counted run.accepted
      → settings.phi * counted run.accepted ≤ 1000 * count_of item run.accepted
      → is_listed settings run.network.coordinator item ≡ true
  -- and none below p - e thousandths
  pub light_unlisted : (item : ℕ)
      → 1000 * count_of item run.accepted
      < (settings.phi - settings.epsilon) * counted run.accepted
      → is_listed settings run.network.coordinator item ≡ false
  -- the class is "within e"
  pub quantile_within : QuantilePromise settings run
  -- between arrivals the coordinator is at rest
  pub at_rest : run.network.coordinator.phase ≡ Idle

-- ---- The list, of every coordinator

-- Whether a list of items holds an item.
abbrev pub contains : ℕ → List ℕ → Bool
contains item [] = false
contains item (x ∷ xs) = eqb item x || contains item xs

-- Which items the list holds, and in which order; whatever the coordinator's numbers.
pub record ListLaw (settings : Settings) (coordinator : Coordinator) : Type 0 where
  -- "A code is listed if ..": an item is in the list exactly if it is one and passes the rule
  pub listed_exactly : (item : ℕ)
      → contains item (heavy_hitters settings coordinator)
      ≡ (ltb item settings.universe && is_listed settings coordinator item)
  -- "The list is in rising code order."
  pub rising : (i : ℕ)
      → i + 1 < length (heavy_hitters settings coordinator)
      → get_or (heavy_hitters settings coordinator) i 0
      < get_or (heavy_hitters settings coordinator) (i + 1) 0
  -- "if total ≥ 1"
  pub empty_at_start : coordinator.total ≡ 0
      → heavy_hitters settings coordinator ≡ []

-- ---- The list's length

-- How many items the list holds after a run. The differences are true ones: settings that pass have
-- 2 ≤ e ≤ 1000 and e ≤ p. Before the first arrival the list is empty.
pub record ListSize (settings : Settings) (run : Run) : Type 0 where
  -- "2000 × its number ≥ (2p - e) × total" of each, and all their numbers are at most n
  pub shares : length (heavy_hitters settings run.network.coordinator)
      * needed_side settings run.network.coordinator
      ≤ 2000 * counted run.accepted
  -- and the total is at least (3000 - e) / 3000 of n
  pub shares_of_all : length (heavy_hitters settings run.network.coordinator)
      * ((2 * settings.phi - settings.epsilon) * (3000 - settings.epsilon))
      ≤ 6000000
  -- so a list of `most_listed` places never has "fewer places than codes listed"
  pub at_most : length (heavy_hitters settings run.network.coordinator) ≤ most_listed settings
  -- nor has one of a thousand places, whatever the settings
  pub at_most_thousand : length (heavy_hitters settings run.network.coordinator) ≤ 1000

-- ---- Messages

-- Demand 3: the messages are few.
pub record FewMessages (settings : Settings) (run : Run) : Type 0 where
  -- "e × messages ≤ 150,000 × k × (digits + 1)"
  pub within_digits : settings.epsilon * length run.messages
      ≤ allowance_factor settings * (settings.sites * (digits (counted run.accepted) + 1))
  -- "messages ≤ 25 × n"
  pub per_arrival : length run.messages
      ≤ messages_per_arrival settings * counted run.accepted
  -- the allowance is that bound, divided by e
  pub within_allowance : length run.messages ≤ allowance settings (counted run.accepted)

-- Firmer than demand 3's bound over the digits: only those after the second cost more messages.
-- With two digits or fewer (at most three arrivals) the difference is 0 and the first part enough.
pub record FirmMessages (settings : Settings) (run : Run) : Type 0 where
  pub within_later_digits : settings.epsilon * length run.messages
      ≤ firm_messages settings * settings.sites
      + firm_messages_per_digit settings * (settings.sites * (digits (counted run.accepted) - 2))

-- ---- Estimates

-- How far the coordinator's numbers lag behind, for parts that lean on more than the list.
pub record Estimates (settings : Settings) (run : Run) : Type 0 where
  -- an estimate is never above an item's arrivals, and below by e / 2000 of all arrivals at most
  pub estimate_le : (item : ℕ)
      → get_or run.network.coordinator.estimates item 0 ≤ count_of item run.accepted
  pub estimate_near : (item : ℕ)
      → 2000 * count_of item run.accepted
      ≤ 2000 * get_or run.network.coordinator.estimates item 0
      + settings.epsilon * counted run.accepted
  -- the total is never above all arrivals, and below by e / 3000 of them at most
  pub total_le : run.network.coordinator.total ≤ counted run.accepted
  pub total_near : 3000 * counted run.accepted
      ≤ 3000 * run.network.coordinator.total + settings.epsilon * counted run.accepted
  -- it is positive once there is an arrival
  pub total_positive : 1 ≤ counted run.accepted
      → 1 ≤ run.network.coordinator.total
  -- a listed item has at least (6p - 5e) / 6000 of all arrivals
  pub listed_firm : (item : ℕ)
      → is_listed settings run.network.coordinator item ≡ true
      → (6 * settings.phi - 5 * settings.epsilon) * counted run.accepted
      ≤ 6000 * count_of item run.accepted

-- ---- Before the first draw

-- Request N2: "what is said of list and class holds once there is one". Before, whatever touches
-- there were, nothing is listed, there is no class, each margin is 0, and no message went out.
pub record BeforeDraws (settings : Settings) (run : Run) : Type 0 where
  pub nothing_listed : heavy_hitters settings run.network.coordinator ≡ []
  pub no_class : quantile_of settings run.network.coordinator ≡ None
  pub margins_zero : (item : ℕ) → margin settings run.network.coordinator item ≡ pos 0
  pub no_message_lem : run.messages ≡ []

-- ---- The whole

-- Demands 2 and 3 "after each draw": of the run over the first n accepted arrivals, which are
-- accepted again, one and all.
pub record AfterEach (settings : Settings) (arrivals : List Arrival) (n : ℕ) : Type 0 where
  pub those_accepted : (run_of settings (take n (run_of settings arrivals).accepted)).accepted
      ≡ take n (run_of settings arrivals).accepted
  pub tracks : Tracks settings (run_of settings (take n (run_of settings arrivals).accepted))
  pub few_messages : FewMessages settings
      (run_of settings (take n (run_of settings arrivals).accepted))

-- Demands 2 and 3 over runs: for all settings that pass their test and all lists of arrivals, each
-- list from a fresh start.
pub record DemandsOverRuns : Type 0 where
  -- demand 2: list and class
  pub tracks : (settings : Settings) (arrivals : List Arrival)
      → settings_refusal settings ≡ no_refusal
      → Tracks settings (run_of settings arrivals)
  -- the class, firmer than "within e"
  pub firm_quantile : (settings : Settings) (arrivals : List Arrival)
      → settings_refusal settings ≡ no_refusal
      → FirmQuantile settings (run_of settings arrivals)
  -- demand 3: the bounds on messages
  pub few_messages : (settings : Settings) (arrivals : List Arrival)
      → settings_refusal settings ≡ no_refusal
      → FewMessages settings (run_of settings arrivals)
  -- and firmer over the digits
  pub firm_messages_lem : (settings : Settings) (arrivals : List Arrival)
      → settings_refusal settings ≡ no_refusal
      → FirmMessages settings (run_of settings arrivals)
  -- what both lean on
  pub estimates_near : (settings : Settings) (arrivals : List Arrival)
      → settings_refusal settings ≡ no_refusal
      → Estimates settings (run_of settings arrivals)
  -- the list as it is handed out
  pub list_law : (settings : Settings) (coordinator : Coordinator)
      → ListLaw settings coordinator
  -- how long a list must be
  pub list_size : (settings : Settings) (arrivals : List Arrival)
      → settings_refusal settings ≡ no_refusal
      → ListSize settings (run_of settings arrivals)
  -- while there is no draw
  pub before_draws : (settings : Settings) (arrivals : List Arrival)
      → settings_refusal settings ≡ no_refusal
      → counted (run_of settings arrivals).accepted ≡ 0
      → BeforeDraws settings (run_of settings arrivals)
  -- parts of a list, touches, and refused arrivals
  pub cuts : (settings : Settings) (arrivals : List Arrival)
      → Cuts settings arrivals
  -- both demands after each of the accepted arrivals
  pub after_each : (settings : Settings) (arrivals : List Arrival) (n : ℕ)
      → settings_refusal settings ≡ no_refusal
      → AfterEach settings arrivals n
