-- The contracts of the internal step on a draw at a site: what each requires, and what it promises.
--
--   ReportSays, StoredReportSays    a counter reported if it is due
--   DueSays, GatherSays             the messages that are due, in order
--   ObserveAsks, StoreSays, ObserveStepSays   an arrival
use Rattle.std.specs.Prelude.{◌≡◌, Bool, Option, Some, None, List, [], ◌∷◌, ◌++◌, ℕ, ◌+◌, ◌*◌, ◌≤◌, leb, length, get_or, set, if◌then◌else◌}
use Rattle.model.specs.declared.Settings.{Settings}
use Rattle.model.specs.declared.Arrival.{Arrival}
use Rattle.model.specs.declared.Message.{Message}
use Rattle.model.specs.declared.SiteRecord.{SiteRecord}
use Rattle.model.specs.Refusals.{no_refusal}
use Rattle.model.specs.Messages.{no_message}
use Rattle.model.specs.Counters.{Counter, unreported, gone_with}
use Rattle.model.specs.Site.{SiteStep, arrival_refusal, leaving_for, reports_item, observed}
use Rattle.model.specs.SiteMemory.{site_in, site_record, site_memory}
use Rattle.site_counters.specs.declared.StoredCounter.{StoredCounter}
use Rattle.site_counters.specs.Stored.{counter_of, PartsWithin}
use Rattle.site_memory.specs.Ready.{StepReady}
use Rattle.site_steps.specs.declared.Observed.{Observed}
use Rattle.site_steps.specs.declared.StoredArrival.{StoredArrival}

-- ---- Parts of an arrival

-- The counter lies within the memory, and its parts within its count.
pub record ReportAsks (memory : List ℕ) (place : ℕ) (counter : Counter) : Type 0 where
  pub fits : 4 * place + 4 ≤ length memory
  pub parts_within : PartsWithin counter

-- Whether the unreported arrivals reach the threshold; then "sent grows by it".
pub record ReportSays
    (before after : List ℕ)
    (place : ℕ)
    (counter : Counter)
    (threshold : ℕ)
    (due : Bool) : Type 0 where
  pub due_is : due ≡ leb threshold (unreported counter)
  pub memory : after
      ≡ (if leb threshold (unreported counter)
      then set before (4 * place + 3) (counter.reported + threshold)
      else before)

-- The same of a counter as memory holds it.
abbrev pub StoredReportSays : List ℕ → List ℕ → ℕ → StoredCounter → ℕ → Bool → Type 0
StoredReportSays before after place counter threshold due =
    ReportSays before after place (counter_of counter) threshold due

-- A message that goes out if it is due.
abbrev pub sent : Option Message → List Message
sent None = []
sent (Some message) = message ∷ []

-- Kind 1 if it is due, then kind 2 if it is due.
abbrev pub messages_due : Option Message → Option Message → List Message
messages_due item_report count_report = sent item_report ++ sent count_report

-- The site's record, and these messages in order.
pub record GatherSays
    (numbers : SiteRecord)
    (messages : List Message)
    (answer : Observed) : Type 0 where
  pub site : answer.site ≡ numbers
  pub count : answer.count ≡ length messages
  pub first : answer.first ≡ get_or messages 0 no_message
  pub second : answer.second ≡ get_or messages 1 no_message

-- The same of the reports that are due.
abbrev pub DueSays : SiteRecord → Option Message → Option Message → Observed → Type 0
DueSays numbers item_report count_report answer =
    GatherSays numbers (messages_due item_report count_report) answer

-- ---- An arrival

-- A consistent site, and an arrival that is not refused.
pub record ObserveAsks
    (settings : Settings)
    (numbers : SiteRecord)
    (arrival : Arrival)
    (memory : List ℕ) : Type 0 where
  pub ready : StepReady settings numbers memory
  pub not_refused : arrival_refusal settings (site_in settings numbers memory) arrival ≡ no_refusal

-- The model's step on the site that record and memory hold.
abbrev pub observed_in : Settings → SiteRecord → Arrival → List ℕ → SiteStep
observed_in settings numbers arrival memory =
    observed settings (site_in settings numbers memory) arrival

-- What stands in memory after an arrival; the counters in use, whether its item is reported, and
-- how many unreported arrivals went with an item that left.
pub record StoreSays
    (settings : Settings)
    (numbers : SiteRecord)
    (arrival : Arrival)
    (before after : List ℕ)
    (answer : StoredArrival) : Type 0 where
  pub used_then : answer.used
      ≡ length (observed_in settings numbers arrival before).site.counters
  pub due_is : answer.due ≡ reports_item settings (site_in settings numbers before) arrival
  pub gone_is : answer.gone
      ≡ gone_with (leaving_for settings (site_in settings numbers before) arrival)
  pub memory : after
      ≡ site_memory settings (observed_in settings numbers arrival before).site before

pub record ObserveStepSays
    (settings : Settings)
    (numbers : SiteRecord)
    (arrival : Arrival)
    (before after : List ℕ)
    (answer : Observed) : Type 0 where
  pub gathered : GatherSays
      (site_record (observed_in settings numbers arrival before).site)
      (observed_in settings numbers arrival before).messages
      answer
  pub memory : after
      ≡ site_memory settings (observed_in settings numbers arrival before).site before
