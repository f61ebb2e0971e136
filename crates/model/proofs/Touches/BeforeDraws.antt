-- While there is no draw, nothing is read and nothing was sent, whatever touches there were.
--
--   before_draws_of     from the bounds on the coordinator's numbers and on messages
use mathlib.Core.Path.{◌≡◌, refl}
use mathlib.Core.List.{List, [], ◌∷◌}
use lib.IntN.{pos}
use Prim.Native.Nat.{ℕ, ◌-◌, ◌*◌, ◌≤◌}
use native.Mathlib.Nat.{mul-zero}
use native.Mathlib.Omega.{arith}
use lib.ListN.{length, get_or}
use Rattle.model.specs.declared.Settings.{Settings}
use Rattle.model.specs.declared.Arrival.{Arrival}
use Rattle.model.specs.declared.Message.{Message}
use Rattle.model.specs.Reading.{held_side, needed_side, margin, difference}
use Rattle.model.specs.Runs.{Run}
use Rattle.model.specs.Claims.{counted, count_of, Estimates, FewMessages, QuantilePromise, BeforeDraws}
use Rattle.model.proofs.BetweenArrivals.ListLaws.{list_law}

none_of : (item : ℕ) (arrivals : List Arrival) → counted arrivals ≡ 0 → count_of item arrivals ≡ 0
none_of item [] none = refl
none_of item (arrival ∷ arrivals) none = absurd (omega (arith, none))

empty : (messages : List Message) → length messages ≤ 0 → messages ≡ []
empty [] none = refl
empty (m ∷ messages) none = absurd (omega (arith, none))

module _ (settings : Settings) {run : Run} (none : counted run.accepted ≡ 0)
    (near : Estimates settings run) (few : FewMessages settings run)
    (quantile : QuantilePromise settings run) where
  no_total : run.network.coordinator.total ≡ 0
  no_total = omega (arith, near.total_le, none)

  no_estimate : (item : ℕ) → get_or run.network.coordinator.estimates item 0 ≡ 0
  no_estimate item =
      omega (arith, near.estimate_le item, none_of item run.accepted none)

  -- Both sides of the list rule are 0.
  zero_margin : (item : ℕ) → margin settings run.network.coordinator item ≡ pos 0
  zero_margin item =
      let held : held_side run.network.coordinator item ≡ 0 =
      omega (arith, no_estimate item) in
      let needed : needed_side settings run.network.coordinator ≡ 0 =
      rw no_total (mul-zero (2 * settings.phi - settings.epsilon)) in
      λ j. difference (held j) (needed j)

  pub before_draws_of : BeforeDraws settings run
  before_draws_of = record {
    nothing_listed = (list_law settings run.network.coordinator).empty_at_start no_total;
    no_class = quantile.nothing_at_start none;
    margins_zero = λ item. zero_margin item;
    no_message_lem = empty run.messages (rw none at few.per_arrival);
  }
