-- Reading the coordinator (document 01, "Reading the desk"): what the margin and the quantile call
-- promise, where they accept and where they refuse, and what the functions behind them ask. The
-- list call is crate `coordinator_list`'s, which asks the same inside.
--
--   margin_refusal                    the chain of tests; the quantile has the memory tests alone
--   MarginAnswer, margin_answer       what the margin call comes to, from its answer
--   QuantileAnswer, quantile_answer   the same of the quantile call
--   MarginSays, QuantileSays        the promises
--   ReadAsks, SidesAsk, ValuesAsk     what is asked inside: a coordinator that passed its tests
--   side_needed                       what an item's number has to reach
use Rattle.std.specs.Prelude.{◌≡◌, true, List, ℤ, pos, ℕ, Result, Ok, Err, ◌-◌, ◌*◌, ◌≤◌, leb, length, get_or, if◌then◌else◌, Option, None}
use Rattle.model.specs.declared.Settings.{Settings}
use Rattle.model.specs.declared.CoordinatorRecord.{CoordinatorRecord}
use Rattle.model.specs.declared.Refusal.{Refusal}
use Rattle.model.specs.Choice.{is_zero}
use Rattle.model.specs.Refusals.{when, ◌or_else◌, no_refusal, unknown_item, number_of}
use Rattle.model.specs.Limits.{value_count, coordinator_limit}
use Rattle.model.specs.Settings.{settings_refusal}
use Rattle.model.specs.CoordinatorMemory.{coordinator_in, coordinator_words, coordinator_consistent, coordinator_memory_refusal}
use Rattle.model.specs.Reading.{margin, quantile_of}

-- ---- The margin

-- 1, 2, 3; 4, 11; then 6.
abbrev pub margin_refusal : Settings → CoordinatorRecord → ℕ → List ℕ → ℕ
margin_refusal settings numbers item memory =
    coordinator_memory_refusal settings numbers memory
    or_else when (leb settings.universe item) unknown_item
    or_else no_refusal

-- What the margin call comes to: the refusal, or 0, and the margin, 0 where it is refused.
pub record MarginAnswer : Type 0 where
  pub refusal : ℕ
  pub margin : ℤ

abbrev pub margin_answer : Result ℤ Refusal → MarginAnswer
margin_answer (Ok found) = record { refusal = no_refusal; margin = found }
margin_answer (Err refusal) = record { refusal = number_of refusal; margin = pos 0 }

pub record MarginSays (settings : Settings) (numbers : CoordinatorRecord) (item : ℕ)
    (memory : List ℕ)
    (r : MarginAnswer) : Type 0 where
  pub refusal : r.refusal ≡ margin_refusal settings numbers item memory
  pub margin_is :
      r.margin
      ≡ (if is_zero (margin_refusal settings numbers item memory)
      then margin settings (coordinator_in settings numbers memory) item
      else pos 0)

-- ---- The quantile

-- What the quantile call comes to: the refusal, or 0, and the quantile, none where it is refused.
pub record QuantileAnswer : Type 0 where
  pub refusal : ℕ
  pub quantile : Option ℕ

abbrev pub quantile_answer : Result (Option ℕ) Refusal → QuantileAnswer
quantile_answer (Ok found) = record { refusal = no_refusal; quantile = found }
quantile_answer (Err refusal) = record { refusal = number_of refusal; quantile = None }

pub record QuantileSays (settings : Settings) (numbers : CoordinatorRecord) (memory : List ℕ)
    (r : QuantileAnswer) : Type 0 where
  pub refusal : r.refusal ≡ coordinator_memory_refusal settings numbers memory
  pub quantile :
      r.quantile
      ≡ (if is_zero (coordinator_memory_refusal settings numbers memory)
      then quantile_of settings (coordinator_in settings numbers memory)
      else None)

-- ---- What is asked inside

-- A coordinator that passed the tests 1 to 4 and 11.
pub record ReadAsks (settings : Settings) (numbers : CoordinatorRecord) (memory : List ℕ) : Type 0
  where
    pub settings_accepted : settings_refusal settings ≡ no_refusal
    pub memory_long : coordinator_words settings ≤ length memory
    pub consistent : coordinator_consistent settings (coordinator_in settings numbers memory) ≡ true

-- Both sides of the list rule fit.
pub record SidesAsk (settings : Settings) (total number : ℕ) : Type 0 where
  pub phi_small : settings.phi ≤ 1000
  pub epsilon_within : settings.epsilon ≤ settings.phi
  pub total_within : total ≤ coordinator_limit
  pub number_within : number ≤ coordinator_limit

-- The side of the list rule that an item's number has to reach, over the bare numbers.
abbrev pub side_needed : Settings → ℕ → ℕ
side_needed settings total = (2 * settings.phi - settings.epsilon) * total

-- The search for the least value: value counts within the limit, and a product that fits.
pub record ValuesAsk (rank total : ℕ) (counts : List ℕ) : Type 0 where
  pub rank_small : rank ≤ 1000
  pub total_within : total ≤ coordinator_limit
  pub few : length counts ≤ value_count
  pub counts_within : (value : ℕ) → get_or counts value 0 ≤ coordinator_limit
