-- At rest the reading calls answer as the rules say of the arrivals accepted: the margin and the
-- quantile; the list is in ListReading.antt.
--
--   reads_right     list, margin and quantile
use mathlib.Core.Path.{◌≡◌, sym, ap, ◌∙◌}
use mathlib.Core.List.{List}
use Prim.Native.Nat.{ℕ, ◌+◌, ◌-◌, ◌*◌, ◌≤◌, ◌<◌}
use borrow.Author.Tests.{le-leb, lt-leb}
use Rattle.model.specs.declared.Settings.{Settings}
use Rattle.model.specs.declared.Arrival.{Arrival}
use Rattle.model.specs.Refusals.{no_refusal}
use Rattle.model.specs.Settings.{settings_refusal}
use Rattle.model.specs.Coordinator.{Coordinator}
use Rattle.model.specs.CoordinatorMemory.{coordinator_words, coordinator_memory_refusal}
use Rattle.model.specs.Reading.{margin, quantile_of}
use Rattle.model.specs.Runs.{Run, run_of}
use Rattle.model.specs.Claims.{counted, below, above, QuantilePromise, FirmQuantile}
use Rattle.model.proofs.Runs.Theorem.{demands_over_runs}
use Rattle.coordinator_reading.specs.Promises.{QuantileAnswer, MarginAnswer, MarginSays, QuantileSays}
use Rattle.history.specs.State.{State, coordinator_part}
use Rattle.history.proofs.Invariant.{StateOk, Resting}
use Rattle.history.proofs.Answers.{accepted_choice}
use Rattle.demands.specs.Reading.{rules_coordinator, MarginRight, QuantileRight, ReadsRight}
use Rattle.demands.proofs.AcceptedClaims.{memory_accepted, refused_by_rules}
use Rattle.demands.proofs.ListReading.{held_is, coordinator_is, tracks, over, back, before_draws, list_right}

module _ {settings : Settings} (passes : settings_refusal settings ≡ no_refusal)
    {n : ℕ} {state : State}
    (ok : StateOk settings n state) (rest : Resting settings state) where
  abbrev c : Coordinator
  c = rules_coordinator settings state

  abbrev run : Run
  run = run_of settings state.accepted

  -- ---- The margin

  module _ (words item : ℕ) (answer : MarginAnswer)
      (enough : coordinator_words settings ≤ words)
      (says : MarginSays settings state.held.coordinator item
      (coordinator_part state.held 0 words) answer) where
    margin_right : MarginRight settings state item answer
    margin_right = record {
      item_known = λ known.
          says.refusal ∙ (refused_by_rules passes ok).margin words item enough
          ∙ rw (lt-leb settings.universe item known);
      item_unknown = λ unknown.
          says.refusal ∙ (refused_by_rules passes ok).margin words item enough
          ∙ rw (le-leb settings.universe item unknown);
      margin_is = λ accepts.
          says.margin_is
          ∙ accepted_choice _ _ _ (sym says.refusal ∙ accepts)
          ∙ ap (λ (there : Coordinator). margin settings there item)
          (coordinator_is passes ok rest words enough);
      margin_zero = λ accepts none.
          says.margin_is
          ∙ accepted_choice _ _ _ (sym says.refusal ∙ accepts)
          ∙ ap (λ (there : Coordinator). margin settings there item)
          (coordinator_is passes ok rest words enough)
          ∙ (before_draws passes ok rest none).margins_zero item;
    }

  -- ---- The quantile

  module _ (words : ℕ) (answer : QuantileAnswer)
      (enough : coordinator_words settings ≤ words)
      (says : QuantileSays settings state.held.coordinator
      (coordinator_part state.held 0 words) answer) where
    none_refused : coordinator_memory_refusal settings state.held.coordinator
        (coordinator_part state.held 0 words)
        ≡ no_refusal
    none_refused = (memory_accepted passes ok).of_coordinator words enough

    quantile_is : answer.quantile ≡ quantile_of settings c
    quantile_is =
        says.quantile
        ∙ accepted_choice _ _ _ none_refused
        ∙ ap (quantile_of settings) (coordinator_is passes ok rest words enough)

    promise : QuantilePromise settings run
    promise = (tracks passes ok rest).quantile_within

    firm : FirmQuantile settings run
    firm = demands_over_runs.firm_quantile settings state.accepted passes

    -- The threshold that is held is the run's.
    threshold_one : state.held.coordinator.threshold ≡ 1 → c.threshold ≡ 1
    threshold_one one =
        sym (ap (λ (there : Coordinator). there.threshold) (held_is passes ok rest)) ∙ one

    quantile_right : QuantileRight settings state answer
    quantile_right = record {
      never_refused = says.refusal ∙ none_refused;
      quantile_is = quantile_is;
      nothing_at_start = λ empty.
          quantile_is
          ∙ promise.nothing_at_start
          (back passes ok rest (λ (arrivals : List Arrival). counted arrivals ≡ 0) empty);
      nothing_only_at_start = λ nothing.
          over passes ok rest (λ (arrivals : List Arrival). counted arrivals ≡ 0)
          (promise.nothing_only_at_start (sym quantile_is ∙ nothing));
      few_below = λ value is.
          over passes ok rest (λ (arrivals : List Arrival).
          1000 * below value arrivals ≤ (settings.rank + settings.epsilon) * counted arrivals)
          (promise.few_below value (sym quantile_is ∙ is));
      few_above = λ value is.
          over passes ok rest (λ (arrivals : List Arrival).
          1000 * above value arrivals
          ≤ (1000 - settings.rank + settings.epsilon) * counted arrivals)
          (promise.few_above value (sym quantile_is ∙ is));
      value_known = λ value is. firm.value_known value (sym quantile_is ∙ is);
      value_drawn = λ value is. firm.value_drawn value (sym quantile_is ∙ is);
      firm_below = λ value is.
          over passes ok rest (λ (arrivals : List Arrival).
          3000 * below value arrivals
          ≤ (3 * settings.rank + 2 * settings.epsilon) * counted arrivals)
          (firm.few_below value (sym quantile_is ∙ is));
      firm_above = λ value is.
          over passes ok rest (λ (arrivals : List Arrival).
          3000 * above value arrivals
          ≤ (3000 - 3 * settings.rank + 2 * settings.epsilon) * counted arrivals)
          (firm.few_above value (sym quantile_is ∙ is));
      exact_below = λ value is one.
          over passes ok rest (λ (arrivals : List Arrival).
          1000 * below value arrivals < settings.rank * counted arrivals)
          (firm.exact_below value (sym quantile_is ∙ is) (threshold_one one));
      exact_above = λ value is one.
          over passes ok rest (λ (arrivals : List Arrival).
          1000 * above value arrivals ≤ (1000 - settings.rank) * counted arrivals)
          (firm.exact_above value (sym quantile_is ∙ is) (threshold_one one));
    }

  -- The claim of demand 2 on the reading calls.
  pub reads_right : ReadsRight settings state
  reads_right = record {
    list = list_right passes ok rest;
    margins = margin_right;
    quantile = quantile_right;
  }
