-- The lines given in a history, single and in batches, touches and refused ones too: the rules over
-- these accept exactly the draws that the calls accepted, in the order given (document 01, "Whole
-- lists of draws").
--
--   of_arrival refusal              whether a refusal says something of the arrival: 5, 6, 7, 8
--   decided, kept_out arrivals answer   a batch's arrivals: those that it decided on, and the rest
--   Handed, handed_by step          the draws that a call was handed, and how many it decided on
--   refusal_by step                 the number that the call answered
--   given_by, kept_out_by step      the first of them, and the rest
--   given_in, kept_out_in history   the same over a whole history, in order
--   AsGiven settings given state    what the rules say of the draws given
--   NothingLost step                no draw that a call was handed is left out of both
use Rattle.std.specs.Prelude.{◌≡◌, Bool, ◌&&◌, ◌||◌, List, [], ◌∷◌, ◌++◌, ℕ, suc, eqb, ltb, leb, take, drop, if◌then◌else◌}
use Rattle.model.specs.declared.Settings.{Settings}
use Rattle.model.specs.declared.Arrival.{Arrival}
use Rattle.model.specs.Choice.{between, is_zero}
use Rattle.model.specs.Refusals.{no_refusal, unknown_site, site_full}
use Rattle.model.specs.Runs.{run_of}
use Rattle.tracker_steps.specs.Steps.{BatchHeld}
use Rattle.history.specs.State.{State, site_start, Slices}
use Rattle.history.specs.Steps.{batch, single, Refuses, arrival_left, site_message_refused, coordinator_message_refused, announcement_refused, batch_takes_none, Step, arrives, delivers, refuses}
use Rattle.history.specs.Histories.{Reachable, started, stepped, reopened}

-- ---- What a call decides on

-- "deck ≥ k", "code ≥ u", "class > 1023", "deck full". 1, 2, 3, 4 and 11 refuse the call, and 14
-- its log: an arrival that they stop is not decided, and may be given again.
abbrev pub of_arrival : ℕ → Bool
of_arrival refusal = between unknown_site refusal site_full

-- A batch decides on all that it accepts, and on the arrival that it refuses for its own sake.
abbrev pub decided_count : BatchHeld → ℕ
decided_count answer =
    if of_arrival answer.refusal then suc answer.accepted else answer.accepted

abbrev pub decided : List Arrival → BatchHeld → List Arrival
decided arrivals answer = take (decided_count answer) arrivals

-- What an earlier refusal or 14 kept out: the arrivals behind the one that stopped the batch, and
-- the one that 14 stopped; all of them where the call was refused when it started.
abbrev pub kept_out : List Arrival → BatchHeld → List Arrival
kept_out arrivals answer = drop (decided_count answer) arrivals

-- ---- The draws that a call is handed

-- The draws that a call of the list was handed, and how many of them it decided on.
pub record Handed : Type 0 where
  pub arrivals : List Arrival
  pub count : ℕ

abbrev pub no_draw : Handed
no_draw = record { arrivals = []; count = 0 }

abbrev pub batch_handed : List Arrival → BatchHeld → Handed
batch_handed arrivals answer = record { arrivals = arrivals; count = decided_count answer }

-- A single draw that was refused, or a touch, which may be accepted.
abbrev pub draw_handed : Arrival → ℕ → Handed
draw_handed arrival refusal = record {
  arrivals = arrival ∷ [];
  count = if is_zero refusal || of_arrival refusal then 1 else 0;
}

-- "every call is given these": whether two calls have the same settings.
abbrev pub same_settings : Settings → Settings → Bool
same_settings one other =
    eqb one.sites other.sites
    && eqb one.epsilon other.epsilon
    && eqb one.phi other.phi
    && eqb one.rank other.rank
    && eqb one.capacity other.capacity
    && eqb one.universe other.universe

-- Whether a refused draw or a touch is one of the list: under its settings, at the site that it
-- names, with the memory from where that site's starts; at any site, where it names none.
abbrev pub own_draw : Settings → Settings → ℕ → Arrival → ℕ → Bool
own_draw settings given which arrival start =
    same_settings given settings
    && ltb which settings.sites
    && (eqb which arrival.site || leb settings.sites arrival.site)
    && eqb start (site_start settings which)

-- Whether a batch call is: under its settings, with both memories from where they start.
abbrev pub own_batch : Settings → Settings → Slices → Bool
own_batch settings given slices =
    same_settings given settings && is_zero slices.site_from && is_zero slices.coordinator_from

abbrev pub handed_refused : {before after : State} → Settings → Refuses before after → Handed
handed_refused settings (arrival_left given which arrival start words part answer _ _) =
    if own_draw settings given which arrival start
    then draw_handed arrival answer.refusal else no_draw
handed_refused settings (site_message_refused _ _ _ _ _ _ _ _ _) = no_draw
handed_refused settings (coordinator_message_refused _ _ _ _ _ _ _ _) = no_draw
handed_refused settings (announcement_refused _ _ _ _ _ _) = no_draw
handed_refused settings (batch_takes_none given slices arrivals log answer _ _) =
    if own_batch settings given slices then batch_handed arrivals answer else no_draw

abbrev pub handed_by : {settings : Settings} {before after : State}
    → Step settings before after
    → Handed
handed_by (arrives (batch _ _ arrivals log answer _ _)) = batch_handed arrivals answer
handed_by (arrives (single arrival words part answer _ _ _ _)) =
    record { arrivals = arrival ∷ []; count = 1 }
handed_by (delivers step) = no_draw
handed_by {settings} (refuses step) = handed_refused settings step

-- The number that a call with draws answers; other steps are handed none.
abbrev pub refusal_of_refused : {before after : State} → Refuses before after → ℕ
refusal_of_refused (arrival_left given which arrival start words part answer _ _) =
    answer.refusal
refusal_of_refused (site_message_refused _ _ _ _ _ _ _ _ _) = no_refusal
refusal_of_refused (coordinator_message_refused _ _ _ _ _ _ _ _) = no_refusal
refusal_of_refused (announcement_refused _ _ _ _ _ _) = no_refusal
refusal_of_refused (batch_takes_none given slices arrivals log answer _ _) =
    answer.refusal

abbrev pub refusal_by : {settings : Settings} {before after : State}
    → Step settings before after
    → ℕ
refusal_by (arrives (batch _ _ arrivals log answer _ _)) = answer.refusal
refusal_by (arrives (single arrival words part answer _ _ _ _)) = answer.refusal
refusal_by (delivers step) = no_refusal
refusal_by (refuses step) = refusal_of_refused step

-- ---- The draws given in a history

-- Those that a call decided on, accepted or refused, and those that it kept out.
abbrev pub given_by : {settings : Settings} {before after : State}
    → Step settings before after
    → List Arrival
given_by step = take (handed_by step).count (handed_by step).arrivals

abbrev pub kept_out_by : {settings : Settings} {before after : State}
    → Step settings before after
    → List Arrival
kept_out_by step = drop (handed_by step).count (handed_by step).arrivals

-- In the order of the calls; a closing is given none.
abbrev pub given_in : {settings : Settings} {state : State} → Reachable settings state → List
    Arrival
given_in (started _ _ _ _ _ _ _ _ _ _ _ _) = []
given_in (stepped before after earlier step) = given_in earlier ++ given_by step
given_in (reopened _ _ _ _ _ _ _ _ _ _ _ earlier _ _ _ _) = given_in earlier

abbrev pub kept_out_in : {settings : Settings} {state : State}
    → Reachable settings state
    → List Arrival
kept_out_in (started _ _ _ _ _ _ _ _ _ _ _ _) = []
kept_out_in (stepped before after earlier step) = kept_out_in earlier ++ kept_out_by step
kept_out_in (reopened _ _ _ _ _ _ _ _ _ _ _ earlier _ _ _ _) = kept_out_in earlier

-- ---- What is claimed of them

-- Of the draws that were given.
pub record AsGiven (settings : Settings) (given : List Arrival) (state : State) : Type 0 where
  -- the rules accept the same draws of them as the calls did, in the order given
  pub accepted_are : (run_of settings given).accepted ≡ state.accepted
  -- and come to the same network and messages
  pub run_is : run_of settings given ≡ run_of settings state.accepted

-- Of each call: what it was handed it decided on, or kept out; and kept out nothing, if it was not
-- refused.
pub record NothingLost {settings : Settings} {before after : State}
    (step : Step settings before after) : Type 0 where
  pub all_named : given_by step ++ kept_out_by step ≡ (handed_by step).arrivals
  pub none_kept_out : refusal_by step ≡ no_refusal
      → kept_out_by step ≡ []
