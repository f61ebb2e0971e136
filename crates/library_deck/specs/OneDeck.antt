-- What the calls on one deck promise, with its own record and its own part of the memory: the
-- promise of the site's call behind each, on the record that the row stands for; and the row, the
-- messages and their number where it accepts.
--
--   StartDeckExported     starting one deck
--   DeckDrawExported      a draw at a deck
--   DeckMessageExported   a message at a deck
use Rattle.std.specs.Prelude.{◌≡◌, ℕ}
use Rattle.model.specs.Instances.{arrival_with}
use Rattle.site.specs.Calls.{SiteReply, Observation, ObserveSays, SiteReceiveSays}
use Rattle.site_start.specs.Starts.{SiteStart, StartSiteSays}
use Rattle.record_numbers.specs.Numbers.{settings_from, message_read, site_from, site_numbers}
use Rattle.library_rows.specs.Rows.{Row, Number, handed_out, HandMessageSays, HandMessagesSays}

pub record StartDeckExported (settings : Row) (deck : ℕ) (numbers memory : Row) (answer : ℕ)
    : Type 0 where
  pub started : SiteStart
  pub says : StartSiteSays (settings_from settings.before) deck memory.before memory.after
      started
  pub refusal : answer ≡ started.refusal
  pub record_is : numbers.after
      ≡ handed_out started.refusal (site_numbers started.site) numbers.before

-- The deck's own number is the draw's.
pub record DeckDrawExported (settings : Row) (deck : ℕ) (numbers memory : Row) (code class : ℕ)
    (out : Row) (count : Number) (answer : ℕ) : Type 0 where
  pub observed : Observation
  pub says : ObserveSays (settings_from settings.before) (site_from numbers.before)
      (arrival_with deck code class) memory.before memory.after observed
  pub refusal : answer ≡ observed.refusal
  pub record_is : numbers.after
      ≡ handed_out observed.refusal (site_numbers observed.site) numbers.before
  pub messages_are : HandMessagesSays observed.refusal observed.count observed.first
      observed.second out count

pub record DeckMessageExported (settings : Row) (deck : ℕ) (numbers memory message reply : Row)
    (count : Number) (answer : ℕ) : Type 0 where
  pub replied : SiteReply
  pub says : SiteReceiveSays (settings_from settings.before) (site_from numbers.before) deck
      (message_read message.before) memory.before replied
  pub refusal : answer ≡ replied.refusal
  pub record_is : numbers.after
      ≡ handed_out replied.refusal (site_numbers replied.site) numbers.before
  pub reply_is : HandMessageSays replied.refusal replied.count replied.reply reply count
