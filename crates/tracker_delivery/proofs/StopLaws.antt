-- What a test of whether something stopped a batch or a delivery says of its number.
--
--   stopped, goes_on              something did; nothing did
--   some_stopped, not_stopped    the same, where the test asks whether nothing did
use Rattle.std.specs.Prelude.{Option, Some, None}
use Rattle.std.specs.Option.{is_some}
use mathlib.Core.Path.{◌≡◌, refl, sym, ap, ◌∙◌}
use mathlib.Core.Bool.{Bool, true, false, not}
use Rattle.std.proofs.lemmas.Bool.{false≢true}
use Rattle.model.specs.declared.Refusal.{Refusal}
use Rattle.model.specs.Refusals.{no_refusal}
use Rattle.model.proofs.Thresholds.RefusalLaws.{some_number}
use Rattle.tracker_delivery.specs.Stops.{stop_number}

module _ {test : Bool} where
  pub stopped : (stop : Option Refusal) → test ≡ is_some stop → test ≡ true
      → stop_number stop ≡ no_refusal
      → ⊥
  stopped (Some refusal) is holds none = some_number refusal none
  stopped None is holds none = false≢true (sym is ∙ holds)

  pub goes_on : (stop : Option Refusal) → test ≡ is_some stop → test ≡ false → stop ≡ None
  goes_on (Some refusal) is fails = absurd (false≢true (sym fails ∙ is))
  goes_on None is fails = refl

  -- The same by whether nothing did.
  pub not_stopped : (stop : Option Refusal) → is_some stop ≡ not test → test ≡ true
      → stop_number stop ≡ no_refusal
  not_stopped (Some refusal) is holds = absurd (false≢true (sym (is ∙ ap not holds)))
  not_stopped None is holds = refl

  pub some_stopped : (stop : Option Refusal) → is_some stop ≡ not test → test ≡ false
      → stop_number stop ≡ no_refusal
      → ⊥
  some_stopped (Some refusal) is fails none = some_number refusal none
  some_stopped None is fails none = false≢true (is ∙ ap not fails)
