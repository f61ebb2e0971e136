-- The first call of a delivery: the arrival at its site, as the first step of it.
--
--   rest_from settings memory which  the sites' memory from the start of one site's part on
--   most_calls settings              one call more than any delivery has
--   begun_outcome ..                 what the first call comes to, refused or not
--   DeliveryBegun, BeginDeliveryAsks, BeginDeliverySays      the arrival at its site
use Rattle.std.specs.Prelude.{◌≡◌, false, Result, Ok, Err, List, [], ℕ, ◌+◌, ◌-◌, ◌*◌, ◌≤◌, ◌<◌, length, take, drop}
use Rattle.model.specs.declared.Settings.{Settings}
use Rattle.model.specs.declared.Arrival.{Arrival}
use Rattle.model.specs.declared.Sites.{Sites}
use Rattle.model.specs.declared.CoordinatorRecord.{CoordinatorRecord}
use Rattle.model.specs.declared.Refusal.{Refusal}
use Rattle.model.specs.Refusals.{no_refusal, number_of}
use Rattle.model.specs.Limits.{most_steps}
use Rattle.model.specs.Draws.{is_draw}
use Rattle.model.specs.SiteMemory.{site_words}
use Rattle.bench_memory.specs.Promises.{SitesFit}
use Rattle.site.specs.Calls.{Observation, ObserveSays, observe_refusal}
use Rattle.history.specs.State.{State, record_at, site_part, record_in, held_by}
use Rattle.history.specs.Steps.{after_single}
use Rattle.tracker_queue.specs.Sending.{nothing_waits}
use Rattle.single_steps.specs.declared.Progress.{Progress}
use Rattle.single_steps.specs.Progress.{ProgressOutcome, progress_outcome, Stands}

-- As many numbers as are left of it.
abbrev pub rest_from : Settings → List ℕ → ℕ → List ℕ
rest_from settings memory which =
    take (length memory - which * site_words settings) (drop (which * site_words settings) memory)

-- No delivery has more steps than the model's claim says, so one call more is never needed.
abbrev pub most_calls : Settings → ℕ
most_calls settings = most_steps settings + 1

-- What the first call comes to: refused, nothing went out, and the site's record is as it was.
abbrev pub begun_outcome : Settings → Sites → CoordinatorRecord → Result Progress Refusal
    → ProgressOutcome
begun_outcome settings sites coordinator (Ok begun) = progress_outcome begun
begun_outcome settings sites coordinator (Err refusal) = record {
  sites = sites;
  coordinator = coordinator;
  waiting = nothing_waits;
  carried = 0;
  refusal = number_of refusal;
  left = most_calls settings;
}

-- The call on the site is accepted, and the progress stands for the state after it.
pub record DeliveryBegun
    (settings : Settings)
    (before : State)
    (arrival : Arrival)
    (begun : ProgressOutcome)
    (site_memory coordinator_memory : List ℕ) : Type 0 where
  pub words : ℕ
  pub part : List ℕ
  pub observed : Observation
  pub says : ObserveSays settings (record_at before.held arrival.site) arrival
      (site_part settings before.held arrival.site words) part observed
  pub accepts : observed.refusal ≡ no_refusal
  pub stands : Stands (length before.messages)
      (after_single settings before arrival words part observed) begun site_memory
      coordinator_memory

-- Memory for all sites, and a site that is one of them.
pub record BeginDeliveryAsks (settings : Settings) (arrival : Arrival) (memory : List ℕ)
    : Type 0 where
  pub fits : SitesFit settings memory
  pub known : arrival.site < settings.sites

pub record BeginDeliverySays
    (settings : Settings)
    (arrival : Arrival)
    (sites : Sites)
    (coordinator : CoordinatorRecord)
    (before after : List ℕ)
    (begun : ProgressOutcome) : Type 0 where
  pub refusal : begun.refusal
      ≡ observe_refusal settings (record_in sites arrival.site) arrival
      (rest_from settings before arrival.site)
  -- refused, or a touch
  pub left : (begun.refusal ≡ no_refusal → is_draw arrival ≡ false) → after ≡ before
  pub few : begun.waiting.count ≤ 2
  pub few_carried : begun.carried ≤ 2
  pub left_is : begun.left ≡ most_calls settings
  pub begins : begun.refusal ≡ no_refusal
      → (state : State) (coordinator_memory : List ℕ)
      → state.held ≡ held_by sites coordinator before coordinator_memory
      → state.waiting ≡ []
      → DeliveryBegun settings state arrival begun after coordinator_memory
