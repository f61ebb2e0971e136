-- Draws that a deck has forgotten (request N1): which codes left over a whole list of draws, and
-- what went with them. "From a fresh start, for each deck, the amounts of all its kind 1 messages,
-- plus all unsent, plus the forgotten draws must equal its draws, with forgotten defined from the
-- history of replacements."
--
--   Departure                      a replacement: site, item that left, its unreported arrivals
--   departures settings arrivals   the replacements that the rules make over these, in order
--   dropped_at which departed      what went at a site, over a list of replacements
--   reported_at which messages     the amounts of all kind 1 messages that name a site
--   count_at which arrivals        how many arrivals name a site
--   Accounted ..                   every draw of a site is reported, unreported or forgotten
--   DroppedClaims                  what is claimed of one arrival, of messages and of all runs
use Rattle.std.specs.Prelude.{◌≡◌, ◌&&◌, Option, Some, None, List, [], ◌∷◌, ◌++◌, ℕ, ◌+◌, ◌<◌, eqb, if◌then◌else◌}
use Rattle.model.specs.declared.Settings.{Settings}
use Rattle.model.specs.declared.Arrival.{Arrival}
use Rattle.model.specs.declared.Message.{Message}
use Rattle.model.specs.declared.Left.{Left}
use Rattle.model.specs.declared.SiteRecord.{SiteRecord}
use Rattle.model.specs.Refusals.{no_refusal}
use Rattle.model.specs.Settings.{settings_refusal}
use Rattle.model.specs.Messages.{is_item_report}
use Rattle.model.specs.Counters.{unreported_in}
use Rattle.model.specs.Site.{Site, SiteStep, arrival_refusal, leaving_for, observed, site_receives}
use Rattle.model.specs.SiteMemory.{site_in, site_memory_refusal}
use Rattle.model.specs.Network.{Network, site_at}
use Rattle.model.specs.Runs.{is_taken_in, Run, fresh_run, run_one, run_of}
use Rattle.model.specs.Claims.{one_if}

-- ---- The history of replacements

-- "which code left and how many unsent draws went", and at which deck. A code that comes back and
-- leaves again has two.
pub record Departure : Type 0 where
  pub site : ℕ
  pub item : ℕ
  pub unreported : ℕ

abbrev pub departure_by : ℕ → Option Left → List Departure
departure_by which None = []
departure_by which (Some left) =
    record { site = which; item = left.item; unreported = left.gone } ∷ []

-- What an accepted arrival makes: one replacement or none.
abbrev pub departure_of : Settings → Network → Arrival → List Departure
departure_of settings network arrival =
    departure_by arrival.site
    (leaving_for settings (site_at network arrival.site) arrival)

-- Arrival by arrival, as a run takes them; a touch or a refused one makes none.
abbrev pub departures_from : Settings → Run → List Arrival → List Departure
departures_from settings run [] = []
departures_from settings run (arrival ∷ arrivals) =
    (if is_taken_in settings run.network arrival
    then departure_of settings run.network arrival
    else [])
    ++ departures_from settings (run_one settings run arrival) arrivals

-- "From a fresh start".
abbrev pub departures : Settings → List Arrival → List Departure
departures settings arrivals = departures_from settings (fresh_run settings) arrivals

-- ---- Sums over a history

-- "the forgotten draws" of a deck
abbrev pub dropped_at : ℕ → List Departure → ℕ
dropped_at which [] = 0
dropped_at which (one ∷ others) =
    (if eqb one.site which then one.unreported else 0) + dropped_at which others

-- "the amounts of all its kind 1 messages"
abbrev pub reported_at : ℕ → List Message → ℕ
reported_at which [] = 0
reported_at which (m ∷ messages) =
    (if is_item_report m && eqb m.site which then m.b else 0) + reported_at which messages

-- "its draws"
abbrev pub count_at : ℕ → List Arrival → ℕ
count_at which [] = 0
count_at which (arrival ∷ arrivals) = one_if (eqb arrival.site which) + count_at which arrivals

-- ---- The claims

-- Of a site and its number, after these arrivals, replacements and messages.
pub record Accounted
    (which : ℕ)
    (accepted : List Arrival)
    (departed : List Departure)
    (messages : List Message)
    (site : Site) : Type 0 where
  -- "the amounts of all its kind 1 messages, plus all unsent, plus the forgotten draws must equal
  -- its draws"
  pub all_draws : reported_at which messages + unreported_in site.counters + site.dropped
      ≡ site.arrivals
  -- "with forgotten defined from the history of replacements"
  pub dropped_are : site.dropped ≡ dropped_at which departed
  -- its draws are those that named it
  pub draws_are : site.arrivals ≡ count_at which accepted

-- What one arrival adds to a site: one draw, reported, unreported or forgotten.
abbrev pub OneMore : ℕ → Site → SiteStep → Type 0
OneMore which before after =
    unreported_in after.site.counters + reported_at which after.messages
    + after.site.dropped
    ≡ unreported_in before.counters + 1 + before.dropped

-- What a message leaves at a site, and that no answer is a kind 1.
pub record LeftAlone (which : ℕ) (before : Site) (after : SiteStep) : Type 0 where
  pub same_counters : after.site.counters ≡ before.counters
  pub same_dropped : after.site.dropped ≡ before.dropped
  pub same_arrivals : after.site.arrivals ≡ before.arrivals
  pub none_reported : reported_at which after.messages ≡ 0

pub record DroppedClaims : Type 0 where
  -- for every record and memory that pass refusal 11, arisen or not
  pub one_more : (settings : Settings) (numbers : SiteRecord) (memory : List ℕ)
      (arrival : Arrival)
      → site_memory_refusal settings numbers memory ≡ no_refusal
      → arrival_refusal settings (site_in settings numbers memory) arrival ≡ no_refusal
      → OneMore arrival.site (site_in settings numbers memory)
      (observed settings (site_in settings numbers memory) arrival)
  -- for every site and message
  pub left_alone : (which : ℕ) (site : Site) (m : Message)
      → LeftAlone which site (site_receives site m)
  -- after every list of arrivals
  pub run_accounted : (settings : Settings) (arrivals : List Arrival)
      → settings_refusal settings ≡ no_refusal
      → (j : ℕ) → j < settings.sites
      → Accounted j (run_of settings arrivals).accepted (departures settings arrivals)
      (run_of settings arrivals).messages (site_at (run_of settings arrivals).network j)
