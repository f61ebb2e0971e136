-- What a step asks of the coordinator and of the message. `CoordinatorReady` is what the
-- consistency test decides, but for the coordinator's limit: a step needs only that its sums fit
-- 64 bits.
--
--   NumbersWithin limit c                no number above a limit
--   CoordinatorReady settings c          a sound coordinator, within `ready_limit`
--   StepAsks, AnnounceAsks               what the two steps ask
use Rattle.std.specs.Prelude.{◌≡◌, List, ℕ, ◌*◌, ◌≤◌, length, get_or}
use Rattle.model.specs.declared.Settings.{Settings}
use Rattle.model.specs.declared.Message.{Message}
use Rattle.model.specs.declared.CoordinatorRecord.{CoordinatorRecord}
use Rattle.model.specs.Refusals.{no_refusal}
use Rattle.model.specs.Limits.{coordinator_limit}
use Rattle.model.specs.Settings.{settings_refusal}
use Rattle.model.specs.Coordinator.{Coordinator, coordinator_refusal}
use Rattle.model.specs.CoordinatorMemory.{coordinator_in, coordinator_words}
use Rattle.model.specs.SoundNetwork.{SoundPhase, SoundCoordinator, sum_of_phase}

-- The largest number that a coordinator may hold before a step: more than a batch brings an
-- estimate to, `estimate_limit` of model's specs/NumberClaims.antt.
abbrev pub ready_limit : ℕ
ready_limit = 4000 * coordinator_limit

-- ---- The coordinator

-- No number of the memory or the record above a limit; base and threshold are at most the total.
pub record NumbersWithin (limit : ℕ) (c : Coordinator) : Type 0 where
  pub total_within : c.total ≤ limit
  pub estimates_within : (item : ℕ) → get_or c.estimates item 0 ≤ limit
  pub histogram_within : (value : ℕ) → get_or c.histogram value 0 ≤ limit
  pub sum_within : sum_of_phase c.phase ≤ limit

-- What a step asks of the coordinator.
pub record CoordinatorReady (settings : Settings) (c : Coordinator) : Type 0 where
  pub sound : SoundCoordinator settings c
  pub within : NumbersWithin ready_limit c

-- ---- The steps

-- What the step for a message asks: settings, memory and message accepted, the coordinator ready.
pub record StepAsks (settings : Settings) (numbers : CoordinatorRecord) (m : Message)
    (memory : List ℕ)
    : Type 0 where
  pub settings_accepted : settings_refusal settings ≡ no_refusal
  pub memory_long : coordinator_words settings ≤ length memory
  pub ready : CoordinatorReady settings (coordinator_in settings numbers memory)
  pub message_accepted :
      coordinator_refusal settings (coordinator_in settings numbers memory) m ≡ no_refusal

-- What the step for an announcement asks: no more than settings and phase.
pub record AnnounceAsks (settings : Settings) (numbers : CoordinatorRecord) : Type 0 where
  pub settings_accepted : settings_refusal settings ≡ no_refusal
  pub phase_sound : SoundPhase settings numbers.signals numbers.phase
