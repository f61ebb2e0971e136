-- Demand 3 of every history: the bounds on messages, at rest and in mid-delivery, and after each of
-- the accepted arrivals. n is `counted state.accepted`: the draws accepted so far, of class 1 or
-- more; touches are not among them.
--
--   FewFollow settings before after   the messages of one arrival more
--   Third settings state              all of demand 3
use Rattle.std.specs.Prelude.{◌≡◌, ℕ, suc, ◌+◌, ◌-◌, ◌*◌, ◌≤◌, ◌<◌, length, take}
use Rattle.model.specs.declared.Settings.{Settings}
use Rattle.model.specs.Limits.{most_messages, messages_per_arrival, allowance_factor, firm_messages, firm_messages_per_digit}
use Rattle.model.specs.Settings.{digits, allowance}
use Rattle.model.specs.Runs.{Run, run_of}
use Rattle.model.specs.Claims.{counted, FewMessages, FirmMessages}
use Rattle.history.specs.State.{State}
use Rattle.demands.specs.Counts.{Counted}

-- "At most 23 × k + 2 messages follow one draw": a run, and the run with one arrival more.
pub record FewFollow (settings : Settings) (before after : Run) : Type 0 where
  -- all that went out before it comes first
  pub messages_stay : take (length before.messages) after.messages ≡ before.messages
  pub few_more : length after.messages
      ≤ length before.messages + most_messages settings

-- At rest and in mid-delivery.
pub record Third (settings : Settings) (state : State) : Type 0 where
  -- "e × messages ≤ 150,000 × k × (digits + 1)"
  pub within_digits : settings.epsilon * length state.messages
      ≤ allowance_factor settings * (settings.sites * (digits (counted state.accepted) + 1))
  -- "messages ≤ 25 × n"
  pub per_arrival : length state.messages
      ≤ messages_per_arrival settings * counted state.accepted
  -- the allowance is what its call answers
  pub within_allowance : length state.messages ≤ allowance settings (counted state.accepted)
  -- firmer than the first: only the digits after the second cost more
  pub within_later_digits : settings.epsilon * length state.messages
      ≤ firm_messages settings * settings.sites
      + firm_messages_per_digit settings * (settings.sites * (digits (counted state.accepted) - 2))
  -- the same after each of the accepted arrivals, inside a batch as well: of the messages of the
  -- first n arrivals (`messages-after-each`), which are accepted whole (`fronts-accepted`)
  pub few_messages_after_each : (n : ℕ)
      → FewMessages settings (run_of settings (take n state.accepted))
  pub firm_messages_after_each : (n : ℕ)
      → FirmMessages settings (run_of settings (take n state.accepted))
  -- and few for each of them
  pub few_follow : (n : ℕ)
      → n < counted state.accepted
      → FewFollow settings (run_of settings (take n state.accepted))
      (run_of settings (take (suc n) state.accepted))
  -- the same of what the network counts
  pub counts : Counted settings state
