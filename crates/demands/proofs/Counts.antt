-- What a network counts of its messages, of every state that has the invariant: each message of the
-- logs at the site that it names, and so their sum is the number of these messages.
--
--   counted_of     the claim, from the bounds on all messages
use mathlib.Core.Path.{◌≡◌, sym, ap, ◌∙◌}
use mathlib.Core.List.{List}
use Prim.Native.Nat.{ℕ, ◌+◌, ◌-◌, ◌*◌, ◌≤◌, ◌<◌}
use native.Mathlib.Nat.{mul-le-mul_left}
use native.Mathlib.Omega.{arith}
use lib.ListN.{length, take}
use Rattle.model.specs.declared.Settings.{Settings}
use Rattle.model.specs.Refusals.{no_refusal}
use Rattle.model.specs.Limits.{most_sites, messages_per_arrival, allowance_factor, firm_messages, firm_messages_per_digit}
use Rattle.model.specs.Settings.{settings_refusal, digits, allowance}
use Rattle.model.specs.SiteMemory.{sum}
use Rattle.model.specs.MessageCounts.{count_at, naming, total_count}
use Rattle.model.specs.Claims.{counted}
use Rattle.model.proofs.Thresholds.SettingsLaws.{settled}
use Rattle.history.specs.State.{State}
use Rattle.history.proofs.LoggedCounts.{naming_of_log, past_of_log, total_of_log}
use Rattle.history.proofs.Invariant.{StateOk}
use Rattle.demands.specs.Counts.{Counted}

module _ {settings : Settings} (passes : settings_refusal settings ≡ no_refusal)
    {n : ℕ} {state : State}
    (ok : StateOk settings n state) where
  abbrev k : ℕ
  k = settings.sites

  few_sites : k ≤ most_sites
  few_sites = (settled settings passes).sites.at_most

  counts_are : (j : ℕ) → j < k → count_at state.held.sites.messages j ≡ naming j state.log
  counts_are j below =
      ap (λ (counts : List ℕ). count_at counts j) ok.counts_are
      ∙ naming_of_log state.log j (omega (arith, below, few_sites))

  counts_past : (j : ℕ) → k ≤ j → count_at state.held.sites.messages j ≡ 0
  counts_past j past =
      ap (λ (counts : List ℕ). count_at counts j) ok.counts_are
      ∙ past_of_log state.log k ok.log_named j past

  total_is : total_count settings state.held.sites ≡ state.logged
  total_is =
      ap (λ (counts : List ℕ). sum (take k counts)) ok.counts_are
      ∙ total_of_log state.log k ok.log_named few_sites
      ∙ ok.log_length

  -- What was logged is among the messages.
  total_few : total_count settings state.held.sites ≤ length state.messages
  total_few = omega (arith, total_is, ok.logged_within)

  pub counted_of :
      settings.epsilon * length state.messages
      ≤ allowance_factor settings * (settings.sites * (digits (counted state.accepted) + 1))
      → length state.messages ≤ messages_per_arrival settings * counted state.accepted
      → length state.messages ≤ allowance settings (counted state.accepted)
      → settings.epsilon * length state.messages
      ≤ firm_messages settings * settings.sites
      + firm_messages_per_digit settings * (settings.sites * (digits (counted state.accepted) - 2))
      → Counted settings state
  counted_of digits_bound arrivals-bound allowance-bound firm-bound =
      let scaled = mul-le-mul_left settings.epsilon total_few in
      record {
        counts_are = counts_are;
        counts_past = counts_past;
        log_length = ok.log_length;
        count_is_sum = total_is;
        total_within_digits = omega (arith, scaled, digits_bound);
        total_per_arrival = omega (arith, total_few, arrivals-bound);
        total_within_allowance = omega (arith, total_few, allowance-bound);
        total_within_later_digits = omega (arith, scaled, firm-bound);
        all_by_batches = λ same. total_is ∙ sym ok.log_length ∙ ap length same;
      }
