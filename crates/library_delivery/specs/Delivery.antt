-- What a draw with full delivery promises: the promise of `deliver_arrival`, on the records that
-- the rows stand for; and the rows where it accepts.
--
--   HandDeliverySays        the rows that are written
--   DeliveryExported        the promise of the call
use Rattle.std.specs.Prelude.{◌≡◌, [], ◌∷◌, ℕ}
use Rattle.model.specs.Held.{held_by}
use Rattle.single_outcome.specs.Delivery.{DeliveryOutcome, DeliverySays}
use Rattle.record_numbers.specs.Numbers.{settings_from, arrival_from, sites_from, sites_numbers, coordinator_read, coordinator_numbers}
use Rattle.library_rows.specs.Rows.{Row, handed_out}

-- Both records, how many messages went out, and what stopped the delivery.
pub record HandDeliverySays (done : DeliveryOutcome) (decks desk delivery : Row) : Type 0 where
  pub decks_are : decks.after
      ≡ handed_out done.refusal (sites_numbers done.sites) decks.before
  pub desk_is : desk.after
      ≡ handed_out done.refusal (coordinator_numbers done.coordinator) desk.before
  pub delivery_is : delivery.after
      ≡ handed_out done.refusal (done.carried ∷ (done.stopped ∷ [])) delivery.before

pub record DeliveryExported (settings decks desk deck_memory desk_memory draw delivery : Row)
    (answer : ℕ) : Type 0 where
  pub done : DeliveryOutcome
  pub says : DeliverySays (settings_from settings.before) (arrival_from draw.before)
      (held_by (sites_from decks.before) (coordinator_read desk.before) deck_memory.before
      desk_memory.before)
      (held_by done.sites done.coordinator deck_memory.after desk_memory.after) done
  pub refusal : answer ≡ done.refusal
  pub rows : HandDeliverySays done decks desk delivery
