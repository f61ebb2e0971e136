-- What a network counts of its messages (request N5), at rest and in mid-delivery: "The bench total
-- is their sum, and the planner's allowance is still compared with that sum."
--
--   Counted settings state     each site's count, and their sum
use Rattle.std.specs.Prelude.{◌≡◌, ℕ, ◌+◌, ◌-◌, ◌*◌, ◌≤◌, ◌<◌, length}
use Rattle.model.specs.declared.Settings.{Settings}
use Rattle.model.specs.Limits.{messages_per_arrival, allowance_factor, firm_messages, firm_messages_per_digit}
use Rattle.model.specs.Settings.{digits, allowance}
use Rattle.model.specs.MessageCounts.{count_at, naming, total_count}
use Rattle.model.specs.Claims.{counted}
use Rattle.history.specs.State.{State}

pub record Counted (settings : Settings) (state : State) : Type 0 where
  -- "a message belongs to the deck it names": for each of the k sites, the messages of the logs
  -- that name it
  pub counts_are : (j : ℕ)
      → j < settings.sites
      → count_at state.held.sites.messages j ≡ naming j state.log
  -- nothing is counted for any other
  pub counts_past : (j : ℕ)
      → settings.sites ≤ j
      → count_at state.held.sites.messages j ≡ 0
  -- the logs hold as many messages as the batch calls answered
  pub log_length : length state.log ≡ state.logged
  -- "The bench total is their sum": the sum of these answers
  pub count_is_sum : total_count settings state.held.sites ≡ state.logged
  -- "the planner's allowance is still compared with that sum": both bounds and the allowance
  pub total_within_digits : settings.epsilon * total_count settings state.held.sites
      ≤ allowance_factor settings * (settings.sites * (digits (counted state.accepted) + 1))
  pub total_per_arrival : total_count settings state.held.sites
      ≤ messages_per_arrival settings * counted state.accepted
  pub total_within_allowance : total_count settings state.held.sites
      ≤ allowance settings (counted state.accepted)
  pub total_within_later_digits : settings.epsilon * total_count settings state.held.sites
      ≤ firm_messages settings * settings.sites
      + firm_messages_per_digit settings * (settings.sites * (digits (counted state.accepted) - 2))
  -- where every draw came by a batch call, the sum is that of all messages
  pub all_by_batches : state.log ≡ state.messages
      → total_count settings state.held.sites ≡ length state.messages
