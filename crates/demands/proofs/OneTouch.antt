-- A single touch leaves everything as it was.
--
--   others_left       all other sites too
--   touch_or_draw     by which of the two an arrival is
use mathlib.Core.Path.{◌≡◌, refl, sym, ap, subst}
use mathlib.Core.Bool.{Bool, true, false}
use mathlib.Core.List.{List}
use Prim.Native.Nat.{ℕ}
use Rattle.model.specs.declared.Settings.{Settings}
use Rattle.model.specs.declared.Arrival.{Arrival}
use Rattle.model.specs.Draws.{is_draw}
use Rattle.site.specs.Calls.{Observation, ObserveSays}
use Rattle.history.specs.State.{State, record_at, site_start, site_part}
use Rattle.history.specs.Steps.{after_single, arrival_left}
use Rattle.history.specs.Frame.{OthersKept}
use Rattle.history.proofs.Refused.{refused_same}

-- It leaves the other sites too as they were.
pub others_left : (settings : Settings) (state : State) (arrival : Arrival) (words : ℕ)
    (part : List ℕ) (answer : Observation)
    → ObserveSays settings (record_at state.held arrival.site) arrival
    (site_part settings state.held arrival.site words) part answer
    → is_draw arrival ≡ false
    → OthersKept settings arrival.site state.held
    (after_single settings state arrival words part answer).held
others_left settings state arrival words part answer says no_draw =
    let same = refused_same state _
    (arrival_left settings arrival.site arrival (site_start settings arrival.site) words part
    answer says (λ _. no_draw)) in
    subst (OthersKept settings arrival.site state.held)
    (sym (ap (λ (s : State). s.held) same))
    (record {
      earlier_parts = refl;
      later_parts = refl;
      other_records = λ other not-it. refl;
      coordinator = refl;
      coordinator_memory = refl;
    })

-- By which of the two an arrival is.
pub touch_or_draw : {A : Type 0} (arrival : Arrival)
    → (is_draw arrival ≡ false → A)
    → (is_draw arrival ≡ true → A)
    → A
touch_or_draw {A} arrival touch draw = by_draw (is_draw arrival) refl
  where
    by_draw : (drawn : Bool) → is_draw arrival ≡ drawn → A
    by_draw true is_draw_lem = draw is_draw_lem
    by_draw false no_draw = touch no_draw
