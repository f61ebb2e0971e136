-- What the steps hand back, and what the functions for the single kinds of message ask so that no
-- sum or product leaves 64 bits.
--
--   answer_of given                   the model's step as a function hands it back
--   KindSays given before after r        answer and memory of a step
--   in_phase, spoken, silent         a record in another phase; an answer with a message, and with
--      none
--   step_limit                       the largest number that a step takes
--   SettingsFit                      what accepted settings are worth to a step
--   ThresholdAsks, ItemReportAsks, ValueRoom, CountReportAsks, PollAsks, HalveAsks, ProbeAsks
use Rattle.std.specs.Prelude.{◌≡◌, List, ℕ, ◌+◌, ◌*◌, ◌≤◌, ◌<◌, length, get_or}
use Rattle.model.specs.declared.Settings.{Settings}
use Rattle.model.specs.declared.Message.{Message}
use Rattle.model.specs.declared.Phase.{Phase}
use Rattle.model.specs.declared.CoordinatorRecord.{CoordinatorRecord}
use Rattle.model.specs.Limits.{most_sites, top_value, value_count, coordinator_limit}
use Rattle.model.specs.Messages.{no_message}
use Rattle.model.specs.Coordinator.{CoordinatorStep}
use Rattle.model.specs.CoordinatorMemory.{coordinator_record, coordinator_memory, coordinator_words}
use Rattle.coordinator_kinds.specs.declared.Answered.{Answered}

-- The step of the model as a function hands it back.
abbrev pub answer_of : CoordinatorStep → Answered
answer_of given = record {
  coordinator = coordinator_record given.coordinator;
  count = length given.messages;
  out = get_or given.messages 0 no_message;
}

-- What a step on lent memory gives: the answer, and the memory with the coordinator written to it.
pub record KindSays (given : CoordinatorStep) (before after : List ℕ) (r : Answered) : Type 0 where
  pub answer : r ≡ answer_of given
  pub memory : after ≡ coordinator_memory given.coordinator before

-- A record in another phase.
abbrev pub in_phase : CoordinatorRecord → Phase → CoordinatorRecord
in_phase numbers phase = record {
  total = numbers.total;
  base = numbers.base;
  threshold = numbers.threshold;
  signals = numbers.signals;
  quantile = numbers.quantile;
  phase = phase;
}

-- The answer with a message, and the answer with none.
abbrev pub spoken : CoordinatorRecord → Phase → Message → Answered
spoken numbers phase out = record { coordinator = in_phase numbers phase; count = 1; out = out }

abbrev pub silent : CoordinatorRecord → Phase → Answered
silent numbers phase = record { coordinator = in_phase numbers phase; count = 0; out = no_message }

-- The largest number that a step takes: every sum and product of a step then fits 64 bits.
abbrev pub step_limit : ℕ
step_limit = 10000 * coordinator_limit

-- What settings that pass their test give to a step.
pub record SettingsFit (settings : Settings) : Type 0 where
  pub sites_some : 1 ≤ settings.sites
  pub sites_few : settings.sites ≤ most_sites
  pub epsilon_small : settings.epsilon ≤ 1000
  pub rank_small : settings.rank ≤ 1000

-- e × base fits, and 3000 × k is not 0.
pub record ThresholdAsks (settings : Settings) (base : ℕ) : Type 0 where
  pub settings_fit : SettingsFit settings
  pub base_small : base ≤ step_limit

-- The place of an item's number, and room in it for the amount.
pub record ItemReportAsks (settings : Settings) (m : Message) (memory : List ℕ) : Type 0 where
  pub memory_long : coordinator_words settings ≤ length memory
  pub item_known : m.a < settings.universe
  pub number_small : get_or memory m.a 0 + m.b ≤ step_limit

-- The place of a value's count, and room in it for one more.
pub record ValueRoom (settings : Settings) (value : ℕ) (memory : List ℕ) : Type 0 where
  pub value_known : value < value_count
  pub memory_long : coordinator_words settings ≤ length memory
  pub count_small : get_or memory (settings.universe + value) 0 ≤ step_limit

-- Room for a value that is counted, for the amount and for one more signal.
pub record CountReportAsks (settings : Settings) (numbers : CoordinatorRecord) (m : Message)
    (memory : List ℕ)
    : Type 0 where
  pub settings_fit : SettingsFit settings
  pub memory_long : coordinator_words settings ≤ length memory
  pub value_room : numbers.threshold ≡ 1 → ValueRoom settings m.b memory
  pub signals_few : numbers.signals < settings.sites
  pub total_small : numbers.total + m.a ≤ step_limit

-- Room in the total for a pending, from one of the sites.
pub record PollAsks (settings : Settings) (numbers : CoordinatorRecord) (site : ℕ) (m : Message)
    : Type 0 where
  pub settings_fit : SettingsFit settings
  pub site_known : site < settings.sites
  pub total_small : numbers.total + m.a ≤ step_limit

-- An interval of values, and two sides of the halving that fit.
pub record HalveAsks (settings : Settings) (numbers : CoordinatorRecord) (low high sum : ℕ)
    : Type 0 where
  pub settings_fit : SettingsFit settings
  pub base_small : numbers.base ≤ step_limit
  pub interval : low < high
  pub values : high ≤ top_value
  pub sum_small : sum ≤ step_limit

-- The same for an answer of one of the sites, with the sum that it leads to.
pub record ProbeAsks (settings : Settings) (numbers : CoordinatorRecord) (site low high sum : ℕ)
    : Type 0 where
  pub site_known : site < settings.sites
  pub halving : HalveAsks settings numbers low high sum
