-- The coordinator: document 01's desk. Its phases, the messages it takes, closing a round, halving
-- the interval of values, and handing out the announcements.
--
--   coordinator_refusal settings c m    5, 9, 6, 7, 10 in that order, or accepted
--   coordinator_receives settings c m   the coordinator and its message after a message
--   announced settings c                the coordinator and the next kind 7; itself and none unless
--                                       it is announcing
use Rattle.std.specs.Prelude.{Bool, true, false, ◌&&◌, ◌||◌, not, List, [], ◌∷◌, ℕ, ◌+◌, ◌*◌, ◌/◌, eqb, ltb, leb, get_or, set, replicate, if◌then◌else◌}
use Rattle.model.specs.declared.Settings.{Settings}
use Rattle.model.specs.declared.Message.{Message}
use Rattle.model.specs.declared.Phase.{Phase}
use Rattle.model.specs.declared.Phase.TheVariants.{Idle, Collecting, Probing, Announcing}
use Rattle.model.specs.Choice.{is_zero}
use Rattle.model.specs.Refusals.{when, ◌or_else◌, no_refusal, unknown_site, unknown_item, value_too_large, message_not_due, amount_not_due}
use Rattle.model.specs.Limits.{top_value, value_count, site_limit}
use Rattle.model.specs.Settings.{threshold_of}
use Rattle.model.specs.Messages.{poll, probe, announcement, is_item_report, is_count_report, is_poll_answer, is_probe_answer}
use Rattle.model.specs.Site.{one_more_at}

-- The coordinator: a number for each item (the estimates), 1024 value counts, and its record.
pub record Coordinator : Type 0 where
  pub estimates : List ℕ
  pub histogram : List ℕ
  pub total : ℕ
  pub base : ℕ
  pub threshold : ℕ
  pub signals : ℕ
  pub quantile : ℕ
  pub phase : Phase

-- "Started fresh, every number is 0, every threshold 1 and the desk idle."
abbrev pub fresh_coordinator : Settings → Coordinator
fresh_coordinator settings = record {
  estimates = replicate settings.universe 0;
  histogram = replicate value_count 0;
  total = 0;
  base = 0;
  threshold = 1;
  signals = 0;
  quantile = 0;
  phase = Idle;
}

-- ---- A coordinator with some parts changed

abbrev pub with_phase : Coordinator → Phase → Coordinator
with_phase c phase = record {
  estimates = c.estimates;
  histogram = c.histogram;
  total = c.total;
  base = c.base;
  threshold = c.threshold;
  signals = c.signals;
  quantile = c.quantile;
  phase = phase;
}

abbrev pub with_total : Coordinator → ℕ → Phase → Coordinator
with_total c total phase = record {
  estimates = c.estimates;
  histogram = c.histogram;
  total = total;
  base = c.base;
  threshold = c.threshold;
  signals = c.signals;
  quantile = c.quantile;
  phase = phase;
}

-- "base becomes the total": total, base and threshold change together.
abbrev pub with_base : Coordinator → ℕ → ℕ → Phase → Coordinator
with_base c base threshold phase = record {
  estimates = c.estimates;
  histogram = c.histogram;
  total = base;
  base = base;
  threshold = threshold;
  signals = c.signals;
  quantile = c.quantile;
  phase = phase;
}

abbrev pub with_quantile : Coordinator → ℕ → Phase → Coordinator
with_quantile c quantile phase = record {
  estimates = c.estimates;
  histogram = c.histogram;
  total = c.total;
  base = c.base;
  threshold = c.threshold;
  signals = c.signals;
  quantile = quantile;
  phase = phase;
}

-- "signals become 0", and the coordinator is idle again.
abbrev pub at_rest : Coordinator → Coordinator
at_rest c = record {
  estimates = c.estimates;
  histogram = c.histogram;
  total = c.total;
  base = c.base;
  threshold = c.threshold;
  signals = 0;
  quantile = c.quantile;
  phase = Idle;
}

-- The coordinator after a call, and the messages that go out.
pub record CoordinatorStep : Type 0 where
  pub coordinator : Coordinator
  pub messages : List Message

abbrev pub step : Coordinator → List Message → CoordinatorStep
step c messages = record { coordinator = c; messages = messages }

-- ---- Kinds 1 and 2, at an idle coordinator

-- "Kind 1 adds to the code's number."
abbrev pub takes_item_report : Coordinator → Message → CoordinatorStep
takes_item_report c m =
    let estimates = set c.estimates m.a (get_or c.estimates m.a 0 + m.b) in
    step (record {
      estimates = estimates;
      histogram = c.histogram;
      total = c.total;
      base = c.base;
      threshold = c.threshold;
      signals = c.signals;
      quantile = c.quantile;
      phase = c.phase;
    }) []

-- "At k signals the desk closes the round": this report is the k-th.
abbrev pub closes_round : Settings → Coordinator → Bool
closes_round settings c = eqb (c.signals + 1) settings.sites

-- "Kind 2 adds to the total and to signals; while the threshold is 1 it also counts the draw's
-- class. At k signals the desk closes the round: it polls decks 0 to k - 1".
abbrev pub takes_count_report : Settings → Coordinator → Message → CoordinatorStep
takes_count_report settings c m =
    let counts = if eqb c.threshold 1 then one_more_at c.histogram m.b else c.histogram in
    step (record {
      estimates = c.estimates;
      histogram = counts;
      total = c.total + m.a;
      base = c.base;
      threshold = c.threshold;
      signals = c.signals + 1;
      quantile = c.quantile;
      phase = if closes_round settings c then Collecting 0 else Idle;
    }) (if closes_round settings c then poll 0 ∷ [] else [])

-- ---- Kind 4: collecting

-- "middle = (low + high) / 2 rounded down"
abbrev pub middle : ℕ → ℕ → ℕ
middle low high = (low + high) / 2

-- "base becomes the total; the new threshold .. If that is 2 or more, the desk halves the interval
-- 0 to 1023"; otherwise it announces.
abbrev pub closed : Settings → Coordinator → ℕ → CoordinatorStep
closed settings c total =
    let threshold = threshold_of settings total in
    if leb 2 threshold
    then step (with_base c total threshold (Probing 0 0 top_value 0))
    (probe 0 (middle 0 top_value) ∷ [])
    else step (with_base c total threshold (Announcing 0)) []

-- "the total gains the answers"; the next deck is polled, and after the last the round is closed.
abbrev pub takes_poll_answer : Settings → Coordinator → ℕ → Message → CoordinatorStep
takes_poll_answer settings c site m =
    let total = c.total + m.a in
    if ltb (site + 1) settings.sites
    then step (with_total c total (Collecting (site + 1))) (poll (site + 1) ∷ [])
    else closed settings c total

-- ---- Kind 6: probing

-- "until low = high .. What remains is the class."
abbrev pub narrowed : Coordinator → ℕ → ℕ → CoordinatorStep
narrowed c low high =
    if eqb low high
    then step (with_quantile c low (Announcing 0)) []
    else step (with_phase c (Probing 0 low high 0)) (probe 0 (middle low high) ∷ [])

-- "high = middle if 1000 × sum ≥ q × base, else low = middle + 1"
abbrev pub enough : ℕ → ℕ → ℕ → Bool
enough rank base count = leb (rank * base) (1000 * count)

abbrev pub halved : Settings → Coordinator → ℕ → ℕ → ℕ → CoordinatorStep
halved settings c low high count =
    if enough settings.rank c.base count
    then narrowed c low (middle low high)
    else narrowed c (middle low high + 1) high

-- "each deck in turn gets 5 and answers 6"
abbrev pub takes_probe_answer : Settings → Coordinator → ℕ → ℕ → ℕ → ℕ → Message → CoordinatorStep
takes_probe_answer settings c site low high sum m =
    let sum' = sum + m.b in
    if ltb (site + 1) settings.sites
    then step (with_phase c (Probing (site + 1) low high sum'))
    (probe (site + 1) (middle low high) ∷ [])
    else halved settings c low high sum'

-- ---- Any message, and the announcements

abbrev pub receives_in : Settings → Coordinator → Phase → Message → CoordinatorStep
receives_in settings c Idle m =
    if is_item_report m then takes_item_report c m else takes_count_report settings c m
receives_in settings c (Collecting site) m = takes_poll_answer settings c site m
receives_in settings c (Probing site low high sum) m =
    takes_probe_answer settings c site low high sum m
receives_in settings c (Announcing site) m = step c []

abbrev pub coordinator_receives : Settings → Coordinator → Message → CoordinatorStep
coordinator_receives settings c m = receives_in settings c c.phase m

abbrev pub is_idle : Phase → Bool
is_idle Idle = true
is_idle (Collecting site) = false
is_idle (Probing site low high sum) = false
is_idle (Announcing site) = false

abbrev pub is_announcing : Phase → Bool
is_announcing Idle = false
is_announcing (Collecting site) = false
is_announcing (Probing site low high sum) = false
is_announcing (Announcing site) = true

-- "Last, kind 7 goes to decks 0 to k - 1, and signals become 0."
abbrev pub announced_in : Settings → Coordinator → Phase → CoordinatorStep
announced_in settings c Idle = step c []
announced_in settings c (Collecting site) = step c []
announced_in settings c (Probing site low high sum) = step c []
announced_in settings c (Announcing site) =
    step
    (if ltb (site + 1) settings.sites then with_phase c (Announcing (site + 1)) else at_rest c)
    (announcement site c.threshold c.base ∷ [])

abbrev pub announced : Settings → Coordinator → CoordinatorStep
announced settings c = announced_in settings c c.phase

-- ---- Refusals of a message, and of an announcement that is wanted

-- "kinds 1 and 2 are due while it is idle, kind 4 while it collects and kind 6 while it probes,
-- each of these two only from the deck that the phase names. While announcing .. no kind is due."
abbrev pub due_in : Phase → Message → Bool
due_in Idle m = is_item_report m || is_count_report m
due_in (Collecting site) m = is_poll_answer m && eqb m.site site
due_in (Probing site low high sum) m = is_probe_answer m && eqb m.site site
due_in (Announcing site) m = false

-- The class that a kind 6 must name.
abbrev pub asked_value : Phase → ℕ
asked_value Idle = 0
asked_value (Collecting site) = 0
asked_value (Probing site low high sum) = middle low high
asked_value (Announcing site) = 0

-- A class above 1023 where the message table gives one: a of kind 6, b of kind 2 at threshold 1.
abbrev pub names_large_value : Coordinator → Message → Bool
names_large_value c m =
    is_probe_answer m && ltb top_value m.a
    || is_count_report m && eqb c.threshold 1 && ltb top_value m.b

-- "1 and 2 other than the threshold, 4 not below it, 6 for another class or above 1,000,000,000;
-- .. an a or b that must be 0"
abbrev pub wrong_at_coordinator : Coordinator → Message → Bool
wrong_at_coordinator c m =
    is_item_report m && not (eqb m.b c.threshold)
    || is_count_report m && not (eqb m.a c.threshold)
    || is_count_report m && not (eqb c.threshold 1) && not (is_zero m.b)
    || is_poll_answer m && (leb c.threshold m.a || not (is_zero m.b))
    || is_probe_answer m && (not (eqb m.a (asked_value c.phase)) || ltb site_limit m.b)

-- Kind, code, class and amounts of a message: 9, 6, 7, 10.
abbrev pub coordinator_due_refusal : Settings → Coordinator → Message → ℕ
coordinator_due_refusal settings c m =
    when (not (due_in c.phase m)) message_not_due
    or_else when (is_item_report m && leb settings.universe m.a) unknown_item
    or_else when (names_large_value c m) value_too_large
    or_else when (wrong_at_coordinator c m) amount_not_due
    or_else no_refusal

abbrev pub coordinator_refusal : Settings → Coordinator → Message → ℕ
coordinator_refusal settings c m =
    when (leb settings.sites m.site) unknown_site
    or_else coordinator_due_refusal settings c m

-- "a kind 7 wanted from a desk that isn't announcing"
abbrev pub announcement_refusal : Coordinator → ℕ
announcement_refusal c = when (not (is_announcing c.phase)) message_not_due
