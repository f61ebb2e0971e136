-- The calls that read the desk, at a bench that a history left at rest: `reads-bench`.
use Rattle.std.specs.Prelude.{Option, None, Some}
use mathlib.Core.Path.{◌≡◌, refl, sym, ap, ◌∙◌, subst}
use mathlib.Core.Bool.{true}
use mathlib.Core.List.{List}
use Prim.Native.Nat.{ℕ, ◌+◌, ◌≤◌, ◌<◌}
use native.Mathlib.Omega.{arith}
use lib.ListN.{length, get_or, take}
use Rattle.model.specs.declared.Settings.{Settings}
use Rattle.model.specs.Refusals.{no_refusal}
use Rattle.model.specs.CoordinatorMemory.{coordinator_words}
use Rattle.model.specs.Claims.{contains}
use Rattle.record_numbers.specs.Numbers.{settings_from}
use Rattle.coordinator_list.specs.Promises.{ListSays}
use Rattle.coordinator_reading.specs.Promises.{MarginSays, QuantileSays}
use Rattle.history.specs.State.{Held, State, coordinator_part}
use Rattle.demands.specs.Reading as History
use Rattle.history.proofs.Answers.{accepted_choice}
use Rattle.library_reading.specs.Reading.{class_number}
use Rattle.library_history.specs.Bench.{Bench, held_in}
use Rattle.library_history.specs.Calls.{Under}
use Rattle.library_history.specs.Reading.{ListCall, codes_in, CodesRight, MarginCall, MarginRight, ClassCall, ClassRight, ReadsRight}

module _ (settings : Settings) (bench : Bench) (state : State)
    (held_is : state.held ≡ held_in bench)
    (reads : History.ReadsRight settings state) where
  -- What is said of the bench's desk and settings is said of the state's.
  of_state : (Says : Settings → Held → Type 0) (given : Settings)
      → given ≡ settings
      → Says given (held_in bench)
      → Says settings state.held
  of_state Says given under says =
      subst (λ (held : Held). Says settings held) (sym held_is)
      (subst (λ (s : Settings). Says s (held_in bench)) under says)

  codes_right : (call : ListCall bench)
      → Under settings call.settings
      → coordinator_words settings ≤ call.lent
      → CodesRight settings state call
  codes_right call under enough =
      let answer = call.says.listed in
      let right = reads.list call.lent call.codes.before call.codes.after answer enough
      (of_state (λ (s : Settings) (held : Held). ListSays s held.coordinator
      (coordinator_part held 0 call.lent) call.codes.before call.codes.after answer)
      (settings_from call.settings.before) under call.says.says) in
      let inner : call.answer ≡ no_refusal → answer.refusal ≡ no_refusal =
      λ none. sym call.says.refusal ∙ none in
      let codes : call.answer ≡ no_refusal
      → History.listed_in answer call.codes.after ≡ codes_in call =
      λ none. ap (λ (n : ℕ). take n call.codes.after)
      (sym (call.says.count_is ∙ accepted_choice answer.refusal _ _ (inner none))) in
      record {
        places_enough = λ places. call.says.refusal ∙ right.never_too_short places;
        thousand_enough = λ places. call.says.refusal ∙ right.thousand_places places;
        heavy_listed = λ none code known some share.
            subst (λ (l : List ℕ). contains code l ≡ true) (codes none)
            (right.heavy_listed (inner none) code known some share);
        listed_firm = λ none code listed.
            right.listed_firm (inner none) code
            (subst (λ (l : List ℕ). contains code l ≡ true) (sym (codes none)) listed);
        rising = λ none i inside.
            subst (λ (l : List ℕ). i + 1 < length l → get_or l i 0 < get_or l (i + 1) 0)
            (codes none)
            (right.rising (inner none) i) inside;
      }

  margin_right : (call : MarginCall bench)
      → Under settings call.settings
      → coordinator_words settings ≤ call.lent
      → MarginRight settings state call
  margin_right call under enough =
      let answer = call.says.read in
      let right = reads.margins call.lent call.code answer enough
      (of_state (λ (s : Settings) (held : Held). MarginSays s held.coordinator call.code
      (coordinator_part held 0 call.lent) answer)
      (settings_from call.settings.before) under call.says.says) in
      record {
        code_known = λ known. call.says.refusal ∙ right.item_known known;
        margin_is = λ none.
            let inner : answer.refusal ≡ no_refusal = sym call.says.refusal ∙ none in
            call.says.margin_is
            ∙ accepted_choice answer.refusal _ _ inner
            ∙ right.margin_is inner;
      }

  class_right : (call : ClassCall bench)
      → Under settings call.settings
      → coordinator_words settings ≤ call.lent
      → ClassRight settings state call.class.after call.answer
  class_right call under enough =
      let answer = call.says.read in
      let right = reads.quantile call.lent answer enough
      (of_state (λ (s : Settings) (held : Held). QuantileSays s held.coordinator
      (coordinator_part held 0 call.lent) answer)
      (settings_from call.settings.before) under call.says.says) in
      let number = call.says.class_is
      ∙ accepted_choice answer.refusal _ _ right.never_refused in
      by_class answer right call.class.after call.answer
      (call.says.refusal ∙ right.never_refused) answer.quantile refl number
    where
      by_class : (answer : _) → History.QuantileRight settings state answer
          → (class refusal : ℕ)
          → refusal ≡ no_refusal
          → (quantile : Option ℕ)
          → answer.quantile ≡ quantile
          → class ≡ class_number quantile
          → ClassRight settings state class refusal
      by_class answer right class refusal none None is number =
          let early = right.nothing_only_at_start is in
          record {
            never_refused = none;
            none_at_start = λ start. number;
            class_known = λ some. absurd (omega (arith, early, some));
            class_drawn = λ some. absurd (omega (arith, early, some));
            few_below = λ some. absurd (omega (arith, early, some));
            few_above = λ some. absurd (omega (arith, early, some));
          }
      by_class answer right class refusal none (Some value) is number =
          subst (λ (c : ℕ). ClassRight settings state c refusal) (sym number)
          (record {
            never_refused = none;
            none_at_start = λ start. ap class_number (sym is ∙ right.nothing_at_start start);
            class_known = λ some. right.value_known value is;
            class_drawn = λ some. right.value_drawn value is;
            few_below = λ some. right.few_below value is;
            few_above = λ some. right.few_above value is;
          })

  pub reads_bench : ReadsRight settings bench state
  reads_bench = record { list = codes_right; margins = margin_right; class = class_right }
