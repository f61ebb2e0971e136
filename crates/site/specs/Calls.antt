-- What the calls on sites answer, refused or not, and what they leave in record and memory.
--
--   ObserveSays          an arrival at a site
--   SiteReceiveSays      a message at a site
--
-- A refused call leaves record and memory as they were and hands out no message; so does an
-- accepted touch.
use Rattle.std.specs.Prelude.{◌≡◌, Bool, Result, Ok, Err, List, [], ℕ, leb, length, get_or, if◌then◌else◌}
use Rattle.model.specs.declared.Settings.{Settings}
use Rattle.model.specs.declared.Arrival.{Arrival}
use Rattle.model.specs.declared.Message.{Message}
use Rattle.model.specs.declared.SiteRecord.{SiteRecord}
use Rattle.model.specs.declared.Refusal.{Refusal}
use Rattle.model.specs.Choice.{is_zero}
use Rattle.model.specs.Refusals.{when, ◌or_else◌, no_refusal, unknown_site, number_of}
use Rattle.model.specs.Draws.{is_taken}
use Rattle.model.specs.Messages.{no_message}
use Rattle.model.specs.Site.{SiteStep, line_refusal, observed, site_message_refusal, site_receives}
use Rattle.model.specs.SiteMemory.{site_in, site_record, site_memory, site_memory_refusal}
use Rattle.site_steps.specs.declared.Observed.{Observed}
use Rattle.site_receiving.specs.declared.Replied.{Replied}

-- ---- An arrival at a site

-- 1, 2, 3, 4, 11; then 5, 6, 7, 8; 8 not of a touch.
abbrev pub observe_refusal : Settings → SiteRecord → Arrival → List ℕ → ℕ
observe_refusal settings numbers arrival memory =
    site_memory_refusal settings numbers memory
    or_else line_refusal settings (site_in settings numbers memory) arrival

-- A draw that is not refused is taken. All else, a touch too, leaves the site as it was.
abbrev pub observe_takes : Settings → SiteRecord → Arrival → List ℕ → Bool
observe_takes settings numbers arrival memory =
    is_taken arrival (observe_refusal settings numbers arrival memory)

-- What an arrival comes to, as the table of refusals tells it: its refusal or none, the site's
-- record then, and the messages that go out, of which there are `count`; an absent one is all
-- zeros.
pub record Observation : Type 0 where
  pub refusal : ℕ
  pub site : SiteRecord
  pub count : ℕ
  pub first : Message
  pub second : Message

-- The answer that leaves a site as it was.
abbrev pub unchanged_by : ℕ → SiteRecord → Observation
unchanged_by refusal numbers = record {
  refusal = refusal;
  site = numbers;
  count = 0;
  first = no_message;
  second = no_message;
}

-- The answer of the call: refused, the site is as it was.
abbrev pub observation : SiteRecord → Result Observed Refusal → Observation
observation numbers (Ok answer) = record {
  refusal = no_refusal;
  site = answer.site;
  count = answer.count;
  first = answer.first;
  second = answer.second;
}
observation numbers (Err refusal) = unchanged_by (number_of refusal) numbers

-- The model's step of a draw that is taken.
abbrev pub observed_step : Settings → SiteRecord → Arrival → List ℕ → SiteStep
observed_step settings numbers arrival memory =
    observed settings (site_in settings numbers memory) arrival

-- The messages that go out.
abbrev pub observed_messages : Settings → SiteRecord → Arrival → List ℕ → List Message
observed_messages settings numbers arrival memory =
    if observe_takes settings numbers arrival memory
    then (observed_step settings numbers arrival memory).messages
    else []

pub record ObserveSays
    (settings : Settings)
    (numbers : SiteRecord)
    (arrival : Arrival)
    (before after : List ℕ)
    (answer : Observation) : Type 0 where
  pub refusal : answer.refusal ≡ observe_refusal settings numbers arrival before
  pub site : answer.site
      ≡ (if observe_takes settings numbers arrival before
      then site_record (observed_step settings numbers arrival before).site
      else numbers)
  pub count : answer.count ≡ length (observed_messages settings numbers arrival before)
  pub first : answer.first ≡ get_or (observed_messages settings numbers arrival before) 0 no_message
  pub second : answer.second ≡ get_or (observed_messages settings numbers arrival before) 1
      no_message
  pub memory : after
      ≡ (if observe_takes settings numbers arrival before
      then site_memory settings (observed_step settings numbers arrival before).site before
      else before)

-- ---- A message at a site

-- What a message comes to, as the table of refusals tells it: its refusal or none, the site's
-- record then, and the reply, if `count` is 1.
pub record SiteReply : Type 0 where
  pub refusal : ℕ
  pub site : SiteRecord
  pub count : ℕ
  pub reply : Message

-- The answer of the call: refused, the site is as it was.
abbrev pub site_reply : SiteRecord → Result Replied Refusal → SiteReply
site_reply numbers (Ok answer) = record {
  refusal = no_refusal;
  site = answer.site;
  count = answer.count;
  reply = answer.reply;
}
site_reply numbers (Err refusal) = record {
  refusal = number_of refusal;
  site = numbers;
  count = 0;
  reply = no_message;
}

-- 1, 2, 3, 4, 11; 5 for the site's own number; then 5, 9, 7, 10.
abbrev pub receive_refusal : Settings → SiteRecord → ℕ → Message → List ℕ → ℕ
receive_refusal settings numbers which m memory =
    site_memory_refusal settings numbers memory
    or_else when (leb settings.sites which) unknown_site
    or_else site_message_refusal settings (site_in settings numbers memory) which m

abbrev pub received_step : Settings → SiteRecord → Message → List ℕ → SiteStep
received_step settings numbers m memory = site_receives (site_in settings numbers memory) m

-- The reply, if there is one.
abbrev pub received_messages : Settings → SiteRecord → ℕ → Message → List ℕ → List Message
received_messages settings numbers which m memory =
    if is_zero (receive_refusal settings numbers which m memory)
    then (received_step settings numbers m memory).messages
    else []

pub record SiteReceiveSays
    (settings : Settings)
    (numbers : SiteRecord)
    (which : ℕ)
    (m : Message)
    (memory : List ℕ)
    (answer : SiteReply) : Type 0 where
  pub refusal : answer.refusal ≡ receive_refusal settings numbers which m memory
  pub site : answer.site
      ≡ (if is_zero (receive_refusal settings numbers which m memory)
      then site_record (received_step settings numbers m memory).site
      else numbers)
  pub count : answer.count ≡ length (received_messages settings numbers which m memory)
  pub reply : answer.reply ≡ get_or (received_messages settings numbers which m memory) 0 no_message
