-- The contract of the internal step on a message at a site: what it requires, what it promises.
use Rattle.std.specs.Prelude.{◌≡◌, true, List, ℕ, ◌≤◌, length, get_or}
use Rattle.model.specs.declared.Settings.{Settings}
use Rattle.model.specs.declared.Message.{Message}
use Rattle.model.specs.declared.SiteRecord.{SiteRecord}
use Rattle.model.specs.Limits.{top_value}
use Rattle.model.specs.Messages.{no_message, is_probe}
use Rattle.model.specs.Site.{SiteStep, site_receives}
use Rattle.model.specs.SiteMemory.{site_in, site_record}
use Rattle.site_memory.specs.Ready.{StepReady}
use Rattle.site_receiving.specs.declared.Replied.{Replied}

-- A consistent site, and a probe's value that is one.
pub record ReceiveAsks
    (settings : Settings)
    (numbers : SiteRecord)
    (m : Message)
    (memory : List ℕ) : Type 0 where
  pub ready : StepReady settings numbers memory
  pub value_known : is_probe m ≡ true → m.a ≤ top_value

abbrev pub received_in : Settings → SiteRecord → Message → List ℕ → SiteStep
received_in settings numbers m memory = site_receives (site_in settings numbers memory) m

pub record ReceiveStepSays
    (settings : Settings)
    (numbers : SiteRecord)
    (m : Message)
    (memory : List ℕ)
    (answer : Replied) : Type 0 where
  pub site : answer.site ≡ site_record (received_in settings numbers m memory).site
  pub count : answer.count ≡ length (received_in settings numbers m memory).messages
  pub reply : answer.reply ≡ get_or (received_in settings numbers m memory).messages 0 no_message
