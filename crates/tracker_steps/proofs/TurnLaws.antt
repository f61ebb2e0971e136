-- The turn of an arrival, as the code takes it.
--
--   turn_observes                            what the site's observation asks
--   turn_refused, turn_touched, turn_taken   the three ways that it goes
use mathlib.Core.Path.{◌≡◌, refl, sym, ap, ◌∙◌}
use mathlib.Core.Bool.{true, false}
use mathlib.Core.List.{List}
use Prim.Native.Nat.{ℕ}
use lib.ListN.{length}
use Rattle.model.specs.declared.Settings.{Settings}
use Rattle.model.specs.declared.Arrival.{Arrival}
use Rattle.model.specs.declared.SiteRecord.{SiteRecord}
use Rattle.model.specs.Refusals.{no_refusal}
use Rattle.model.specs.Draws.{is_draw}
use Rattle.site_steps.specs.declared.Observed.{Observed}
use Rattle.model.specs.Held.{record_at}
use Rattle.tracker_queue.specs.Log.{log_room}
use Rattle.tracker_delivery.specs.Holding.{underway_in}
use Rattle.tracker_delivery.specs.Arriving.{ArrivalAsks, SiteAsks, SiteSays, out_of}
use Rattle.tracker_delivery.proofs.SiteLaws.{site_few}
use Rattle.tracker_steps.specs.Steps.{BatchHeld, places_refusal, one_refusal, resting_in, OneAsks}
use Rattle.tracker_steps.specs.Turns.{TurnOutcome, place_of, own_of, left_turn, with_site_memory, TurnAsks, refused, touched, taken, TurnSays}
use Rattle.tracker_steps.proofs.RefusalLaws.{place_known}
use Rattle.tracker_steps.proofs.BatchLaws.{refusal_is, one_asks}

-- ---- The turn

abbrev pub taken_turn : Observed → TurnOutcome
taken_turn observed = record {
  refusal = no_refusal;
  taken = 1;
  site = observed.site;
  out = out_of observed;
}

module _ {settings : Settings} {own : SiteRecord} {written : ℕ} (arrival : Arrival) {numbers : ℕ}
    {memory : List ℕ} where
  -- ---- The refusal that the code finds

  module _ (refusal : ℕ)
      (is : refusal ≡ places_refusal settings own arrival numbers written) where
    -- It is the model's.
    found_is : (now : BatchHeld) → own ≡ own_of now.held.sites arrival
        → written ≡ now.written
        → numbers ≡ length now.log
        → (u : OneAsks settings (with_site_memory now memory))
        → refusal ≡ one_refusal settings (log_room u.given.log) u.batch arrival
    found_is now own_is written_is numbers_are u =
        is
        ∙ (λ j. places_refusal settings (own_is j) arrival (numbers_are j) (written_is j))
        ∙ refusal_is u arrival

    pub turn_refused : (refusal ≡ no_refusal → ⊥)
        → (turn : TurnOutcome)
        → turn ≡ left_turn refusal 0 own
        → TurnSays settings own written arrival numbers memory turn memory
    turn_refused some turn turn_is = record {
      told = λ now own_is written_is numbers_are u.
          let found = found_is now own_is written_is numbers_are u in
          refused (record {
            due = λ none. some (found ∙ none);
            turn_is = turn_is ∙ (λ j. left_turn (found j) 0 (own_is j));
            memory_kept = refl;
          });
    }

    -- ---- An arrival that is not refused

    module _ (none : refusal ≡ no_refusal) where
      none_due : (now : BatchHeld) → own ≡ own_of now.held.sites arrival
          → written ≡ now.written
          → numbers ≡ length now.log
          → (u : OneAsks settings (with_site_memory now memory))
          → one_refusal settings (log_room u.given.log) u.batch arrival ≡ no_refusal
      none_due now own_is written_is numbers_are u =
          sym (found_is now own_is written_is numbers_are u) ∙ none

      pub turn_touched : is_draw arrival ≡ false
          → (turn : TurnOutcome)
          → turn ≡ left_turn no_refusal 1 own
          → TurnSays settings own written arrival numbers memory turn memory
      turn_touched no_draw turn turn_is = record {
        told = λ now own_is written_is numbers_are u.
            touched (record {
              no_draw = no_draw;
              none_due = none_due now own_is written_is numbers_are u;
              turn_is = turn_is ∙ ap (left_turn no_refusal 1) own_is;
              memory_kept = refl;
            });
      }

    module _ (none : refusal ≡ no_refusal) (is_draw_lem : is_draw arrival ≡ true) where
      module _ (now : BatchHeld) (own_is : own ≡ own_of now.held.sites arrival)
          (written_is : written ≡ now.written) (numbers_are : numbers ≡ length now.log)
          (u : OneAsks settings (with_site_memory now memory)) where
        abbrev arrival_asks : ArrivalAsks settings arrival
            (resting_in (with_site_memory now memory))
        arrival_asks =
            one_asks u arrival is_draw_lem (none_due none now own_is written_is numbers_are u)

        place_own : place_of arrival ≡ arrival.site
        place_own = place_known arrival (site_few arrival_asks)

        own_read : own ≡ record_at now.held arrival.site
        own_read = own_is ∙ ap (record_at now.held) place_own

      pub turn_observes : TurnAsks settings own written arrival numbers memory
          → SiteAsks settings own arrival memory
      turn_observes u = record {
        underway = underway_in (resting_in u.now);
        coordinator_memory = u.now.held.coordinator_memory;
        log = u.now.log;
        asks = arrival_asks u.now u.own_is u.written_is u.numbers_are u.asks;
        own_is = own_read u.now u.own_is u.written_is u.numbers_are u.asks;
      }

      pub turn_taken : (observed : Observed) (after : List ℕ)
          → SiteSays settings own arrival memory after observed
          → TurnSays settings own written arrival numbers memory (taken_turn observed) after
      turn_taken observed after says = record {
        told = λ now own_is written_is numbers_are u.
            taken (record {
              is_draw_lem = is_draw_lem;
              none_due = none_due none now own_is written_is numbers_are u;
              refusal_none = refl;
              taken_one = refl;
              place_is = place_own now own_is written_is numbers_are u;
              taken =
                  says.takes (underway_in (resting_in now)) now.held.coordinator_memory
                  now.log
                  (arrival_asks now own_is written_is numbers_are u)
                  (own_read now own_is written_is numbers_are u);
            });
      }
