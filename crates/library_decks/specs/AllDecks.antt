-- What the calls on all decks promise: the deck is the one that draw or message names, looked up
-- after it was tested. "In a bench the decks' memory stands one after another, deck 0 first."
--
--   decks_refusal settings which words  1, 2, 3; 4 of all decks' memory; 5
--   part_from, with_part_from           the memory from the start of a deck's part on, and all of
--                                       it with that as it is then
--   StartDecksExported                  starting all decks
--   DecksDrawExported                   a draw at the deck that it names
--   DecksMessageExported                a message at the deck that it names
use Rattle.std.specs.Prelude.{◌≡◌, List, ◌++◌, ℕ, ◌*◌, ◌<◌, ltb, leb, length, take, drop}
use Rattle.std.proofs.lemmas.List.Edits.{sets}
use Rattle.model.specs.declared.Settings.{Settings}
use Rattle.model.specs.declared.Arrival.{Arrival}
use Rattle.model.specs.declared.Message.{Message}
use Rattle.model.specs.declared.SiteRecord.{SiteRecord}
use Rattle.model.specs.Refusals.{when, ◌or_else◌, no_refusal, memory_too_short, unknown_site}
use Rattle.model.specs.Settings.{settings_refusal}
use Rattle.model.specs.SiteMemory.{site_words}
use Rattle.model.specs.NetworkMemory.{sites_words}
use Rattle.bench_memory.specs.Promises.{SitesFit}
use Rattle.site.specs.Calls.{Observation, SiteReply, ObserveSays, SiteReceiveSays}
use Rattle.site_start.specs.Starts.{SitesStart, StartSitesSays}
use Rattle.record_numbers.specs.Numbers.{site_width, settings_from, arrival_from, message_read, site_at, site_numbers, sites_numbers}
use Rattle.library_rows.specs.Rows.{Row, Number, handed_out, HandMessageSays, HandMessagesSays}

-- ---- The deck that is named

-- Before the deck's record and memory are looked up.
abbrev pub decks_refusal : Settings → ℕ → ℕ → ℕ
decks_refusal settings which words =
    settings_refusal settings
    or_else when (ltb words (sites_words settings)) memory_too_short
    or_else when (leb settings.sites which) unknown_site
    or_else no_refusal

-- That chain on what a call is lent.
abbrev pub named_refusal : Row → Row → ℕ → ℕ
named_refusal settings memory which =
    decks_refusal (settings_from settings.before) which (length memory.before)

-- What it is worth where it refuses nothing.
pub record NamedAsks (settings : Settings) (which : ℕ) (memory : List ℕ) : Type 0 where
  pub fits : SitesFit settings memory
  pub known : which < settings.sites

abbrev pub part_from : Settings → List ℕ → ℕ → List ℕ
part_from settings memory which = drop (which * site_words settings) memory

abbrev pub with_part_from : Settings → List ℕ → ℕ → List ℕ → List ℕ
with_part_from settings memory which part = take (which * site_words settings) memory ++ part

-- The record of a deck in the row of all, and the row with another one there.
abbrev pub deck_at : List ℕ → ℕ → SiteRecord
deck_at decks which = site_at decks (site_width * which)

abbrev pub with_deck : List ℕ → ℕ → SiteRecord → List ℕ
with_deck decks which site = sets decks (site_width * which) (site_numbers site)

-- ---- Starting all decks

pub record StartDecksExported (settings decks memory : Row) (answer : ℕ) : Type 0 where
  pub started : SitesStart
  pub says : StartSitesSays (settings_from settings.before) memory.before memory.after
      started
  pub refusal : answer ≡ started.refusal
  pub decks_are : decks.after
      ≡ handed_out started.refusal (sites_numbers started.sites) decks.before

-- ---- A draw

-- The site's call, on the record and the part of the deck that the draw names.
pub record DecksDrawn (settings : Settings) (draw : Arrival) (decks memory out : Row)
    (count : Number) (answer : ℕ) : Type 0 where
  pub part : List ℕ
  pub observed : Observation
  pub says : ObserveSays settings (deck_at decks.before draw.site) draw
      (part_from settings memory.before draw.site) part observed
  pub refusal : answer ≡ observed.refusal
  pub decks_are : decks.after
      ≡ handed_out observed.refusal (with_deck decks.before draw.site observed.site)
      decks.before
  pub memory_is : memory.after ≡ with_part_from settings memory.before draw.site part
  pub messages_are : HandMessagesSays observed.refusal observed.count observed.first
      observed.second out count

-- 1 to 5 of the deck that is named: all that is lent stays.
pub record DrawStopped (stopped : ℕ) (decks memory out : Row) (count : Number) (answer : ℕ)
    : Type 0 where
  pub refusal : answer ≡ stopped
  pub decks_stay : decks.after ≡ decks.before
  pub memory_stays : memory.after ≡ memory.before
  pub out_stays : out.after ≡ out.before
  pub count_stays : count.after ≡ count.before

pub record DecksDrawExported (settings decks memory draw out : Row) (count : Number) (answer : ℕ)
    : Type 0 where
  pub stopped : (named_refusal settings memory (arrival_from draw.before).site ≡ no_refusal → ⊥)
      → DrawStopped (named_refusal settings memory (arrival_from draw.before).site) decks memory
      out count answer
  pub drawn : named_refusal settings memory (arrival_from draw.before).site ≡ no_refusal
      → DecksDrawn (settings_from settings.before) (arrival_from draw.before) decks memory
      out count answer

-- ---- A message

-- The site's call, on the record and the part of the deck that the message names.
pub record DecksReplied (settings : Settings) (message : Message) (memory : List ℕ)
    (decks reply : Row) (count : Number) (answer : ℕ) : Type 0 where
  pub replied : SiteReply
  pub says : SiteReceiveSays settings (deck_at decks.before message.site) message.site
      message (part_from settings memory message.site) replied
  pub refusal : answer ≡ replied.refusal
  pub decks_are : decks.after
      ≡ handed_out replied.refusal (with_deck decks.before message.site replied.site)
      decks.before
  pub reply_is : HandMessageSays replied.refusal replied.count replied.reply reply count

pub record MessageStopped (stopped : ℕ) (decks reply : Row) (count : Number) (answer : ℕ)
    : Type 0 where
  pub refusal : answer ≡ stopped
  pub decks_stay : decks.after ≡ decks.before
  pub reply_stays : reply.after ≡ reply.before
  pub count_stays : count.after ≡ count.before

pub record DecksMessageExported (settings decks memory message reply : Row) (count : Number)
    (answer : ℕ) : Type 0 where
  pub stopped : (named_refusal settings memory (message_read message.before).site ≡ no_refusal → ⊥)
      → MessageStopped (named_refusal settings memory (message_read message.before).site) decks
      reply count answer
  pub replied : named_refusal settings memory (message_read message.before).site ≡ no_refusal
      → DecksReplied (settings_from settings.before) (message_read message.before)
      memory.before decks reply count answer
