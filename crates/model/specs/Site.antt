-- A site: document 01's deck. What an arrival does to it and which messages go out; the messages
-- that a site takes and how it answers.
--
--   address_refusal settings arrival               5, 6, 7 in that order, or accepted
--   room_refusal site                              8, or accepted
--   arrival_refusal settings site arrival          of a draw: 5, 6, 7; then 8
--   line_refusal settings site arrival             of a line: a touch is not tested for 8
--   observed settings site arrival                 the site and its messages after an arrival
--   site_due_refusal site which m                  9, 7, 10 in that order, or accepted
--   site_message_refusal settings site which m     5; then 9, 7, 10
--   site_receives site m                           the site and its answer after a message
use Rattle.std.specs.Prelude.{Bool, ◌&&◌, ◌||◌, not, Option, List, [], ◌∷◌, ◌++◌, ℕ, zero, suc, ◌+◌, eqb, ltb, leb, get_or, set, replicate, if◌then◌else◌}
use Rattle.model.specs.declared.Settings.{Settings}
use Rattle.model.specs.declared.Arrival.{Arrival}
use Rattle.model.specs.declared.Message.{Message}
use Rattle.model.specs.Choice.{is_zero}
use Rattle.model.specs.Refusals.{when, ◌or_else◌, no_refusal, unknown_site, unknown_item, value_too_large, site_full, message_not_due, amount_not_due}
use Rattle.model.specs.Limits.{top_value, value_count, site_limit}
use Rattle.model.specs.Messages.{item_report, count_report, poll_answer, probe_answer, is_poll, is_probe, is_announcement}
use Rattle.model.specs.Draws.{is_draw}
use Rattle.model.specs.declared.Left.{Left}
use Rattle.model.specs.Counters.{Counter, counter_at, unreported, Placement, placement_for, place_of, counters_after, leaving_by, gone_with, after_report}

-- A site: its counters in use from first to last, arrivals for each value (document 01's class
-- counts), and the single numbers draws, pending and threshold; last, the arrivals that it has
-- forgotten (request N1): "the deck keeps their sum, last in its record".
pub record Site : Type 0 where
  pub counters : List Counter
  pub histogram : List ℕ
  pub arrivals : ℕ
  pub pending : ℕ
  pub threshold : ℕ
  pub dropped : ℕ

-- "Started fresh, every number is 0 (unused slots too), every threshold 1".
abbrev pub fresh_site : Site
fresh_site = record {
  counters = [];
  histogram = replicate value_count 0;
  arrivals = 0;
  pending = 0;
  threshold = 1;
  dropped = 0;
}

-- ---- An arrival

-- Deck, code and class of a draw: 5, 6, 7.
abbrev pub address_refusal : Settings → Arrival → ℕ
address_refusal settings arrival =
    when (leb settings.sites arrival.site) unknown_site
    or_else when (leb settings.universe arrival.item) unknown_item
    or_else when (ltb top_value arrival.value) value_too_large
    or_else no_refusal

-- A deck that is full: 8.
abbrev pub room_refusal : Site → ℕ
room_refusal site =
    when (leb site_limit site.arrivals) site_full
    or_else no_refusal

abbrev pub arrival_refusal : Settings → Site → Arrival → ℕ
arrival_refusal settings site arrival =
    address_refusal settings arrival
    or_else room_refusal site

-- Request N2: a touch "is tested for deck, code and class as before, then accepted .., even on a
-- full deck".
abbrev pub line_refusal : Settings → Site → Arrival → ℕ
line_refusal settings site arrival =
    if is_draw arrival
    then arrival_refusal settings site arrival
    else address_refusal settings arrival

-- One more at a place of a list of numbers.
abbrev pub one_more_at : List ℕ → ℕ → List ℕ
one_more_at numbers place = set numbers place (get_or numbers place 0 + 1)

abbrev pub placement_in : Settings → Site → Arrival → Placement
placement_in settings site arrival =
    placement_for settings.capacity site.counters arrival.item

-- The place of the arrival's counter, and the counters when it has been counted.
abbrev pub place_for : Settings → Site → Arrival → ℕ
place_for settings site arrival = place_of (placement_in settings site arrival) site.counters

abbrev pub counters_with : Settings → Site → Arrival → List Counter
counters_with settings site arrival =
    counters_after (placement_in settings site arrival) site.counters arrival.item

-- Who leaves for it, and with how many unreported arrivals (request N1).
abbrev pub leaving_for : Settings → Site → Arrival → Option Left
leaving_for settings site arrival = leaving_by (placement_in settings site arrival) site.counters

-- "If unsent reaches the threshold, kind 1 goes out and sent grows by it."
abbrev pub reports_item : Settings → Site → Arrival → Bool
reports_item settings site arrival =
    let counter = counter_at (counters_with settings site arrival)
    (place_for settings site arrival) in
    leb site.threshold (unreported counter)

abbrev pub report_at : ℕ → ℕ → List Counter → List Counter
report_at amount place counters =
    set counters place (after_report amount (counter_at counters place))

-- "Then, if pending reaches the threshold, kind 2 goes out and pending becomes 0."
abbrev pub reports_count : Site → Bool
reports_count site = leb site.threshold (site.pending + 1)

-- "class if threshold 1, else 0": b of a kind 2.
abbrev pub reported_value : Site → Arrival → ℕ
reported_value site arrival = if eqb site.threshold 1 then arrival.value else 0

-- A site after a call, and the messages that go out, in order.
pub record SiteStep : Type 0 where
  pub site : Site
  pub messages : List Message

-- "A draw adds one to draws, pending and its class count", its item is counted, what goes with an
-- item that leaves is added up, and then its messages go out.
abbrev pub observed : Settings → Site → Arrival → SiteStep
observed settings site arrival =
    let place = place_for settings site arrival in
    let counters = counters_with settings site arrival in
    let threshold = site.threshold in
    let item_due = reports_item settings site arrival in
    let count_due = reports_count site in
    record {
      site = record {
        counters = if item_due then report_at threshold place counters else counters;
        histogram = one_more_at site.histogram arrival.value;
        arrivals = site.arrivals + 1;
        pending = if count_due then 0 else site.pending + 1;
        threshold = threshold;
        dropped = site.dropped + gone_with (leaving_for settings site arrival);
      };
      messages =
          (if item_due then item_report arrival.site arrival.item threshold ∷ [] else [])
          ++ (if count_due
          then count_report arrival.site threshold (reported_value site arrival) ∷ []
          else []);
    }

-- ---- Messages at a site

-- "At a deck, kinds 3, 5 and 7 are due at any time, with its own deck number."
abbrev pub due_at_site : ℕ → Message → Bool
due_at_site which m = (is_poll m || is_probe m || is_announcement m) && eqb m.site which

-- "7 below the present threshold or above 1,000,000,000; an a or b that must be 0"
abbrev pub wrong_at_site : Site → Message → Bool
wrong_at_site site m =
    is_poll m && not (is_zero m.a && is_zero m.b)
    || is_probe m && not (is_zero m.b)
    || is_announcement m && (ltb m.a site.threshold || ltb site_limit m.a)

-- Kind, class and amounts of a message: 9, 7, 10.
abbrev pub site_due_refusal : Site → ℕ → Message → ℕ
site_due_refusal site which m =
    when (not (due_at_site which m)) message_not_due
    or_else when (is_probe m && ltb top_value m.a) value_too_large
    or_else when (wrong_at_site site m) amount_not_due
    or_else no_refusal

-- "for a message 5, 9, 6, 7, 10, with 6 and 7 only where the message table gives a code or a class"
abbrev pub site_message_refusal : Settings → Site → ℕ → Message → ℕ
site_message_refusal settings site which m =
    when (leb settings.sites m.site) unknown_site
    or_else site_due_refusal site which m

-- "draws at or below it": the counts of the values up to and with this one.
abbrev pub up_to : ℕ → List ℕ → ℕ
up_to value [] = 0
up_to zero (count ∷ counts) = count
up_to (suc value) (count ∷ counts) = count + up_to value counts

abbrev pub with_pending : Site → ℕ → Site
with_pending site pending = record {
  counters = site.counters;
  histogram = site.histogram;
  arrivals = site.arrivals;
  pending = pending;
  threshold = site.threshold;
  dropped = site.dropped;
}

abbrev pub with_threshold : Site → ℕ → Site
with_threshold site threshold = record {
  counters = site.counters;
  histogram = site.histogram;
  arrivals = site.arrivals;
  pending = site.pending;
  threshold = threshold;
  dropped = site.dropped;
}

-- Kind 3 is answered by the pending, "then set to 0"; kind 5 by the draws at or below the class;
-- kind 7 sets the threshold. "Code pendings survive a close."
abbrev pub site_receives : Site → Message → SiteStep
site_receives site m =
    if is_poll m then record {
      site = with_pending site 0;
      messages = poll_answer m.site site.pending ∷ [];
    }
    else (if is_probe m then record {
      site = site;
      messages = probe_answer m.site m.a (up_to m.a site.histogram) ∷ [];
    }
    else record { site = with_threshold site m.a; messages = [] })
