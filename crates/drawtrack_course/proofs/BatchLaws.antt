-- A batch of one arrival.
--
--   one_refusal, one_taken       with a log long enough: refused as the rules say, or taken
--   left_of, says_of              what the batch call answers and leaves, by its contract
use Rattle.std.specs.Prelude.{if◌then◌else◌}
use mathlib.Core.Path.{◌≡◌, refl, sym, ap, ◌∙◌}
use mathlib.Core.Bool.{Bool, true, false}
use mathlib.Core.List.{[], ◌∷◌}
use Prim.Native.Nat.{ℕ, ◌-◌, ◌≤◌}
use native.Mathlib.Omega.{arith}
use lib.ListN.{length}
use borrow.Author.Tests.{eqb-true, le-ltb}
use Rattle.model.specs.declared.Settings.{Settings}
use Rattle.model.specs.declared.Arrival.{Arrival}
use Rattle.model.specs.Choice.{is_zero}
use Rattle.model.specs.Refusals.{◌or_else◌, no_refusal}
use Rattle.model.specs.Draws.{is_draw}
use Rattle.model.specs.Limits.{most_messages}
use Rattle.model.specs.SiteMemory.{overwrite}
use Rattle.model.specs.CoordinatorMemory.{coordinator_record, coordinator_memory}
use Rattle.model.specs.NetworkMemory.{sites_memory}
use Rattle.model.specs.Network.{Network, after_line}
use Rattle.model.specs.Runs.{line_refusal_in, Batch, batch_refusal, batch_from, batch_of}
use Rattle.tracker.specs.Batch.{BatchCall, BatchHeld, BatchSays, batch_in, unless_refused, sites_after, message_numbers}
use Rattle.history.proofs.Answers.{or_accepted}
use Rattle.drawtrack_steps.specs.Steps.{draw_refusal}

-- ---- A batch of one

module _ (settings : Settings) (room : ℕ) (network : Network) (arrival : Arrival)
    (enough : most_messages settings ≤ room) where
  abbrev refusal : ℕ
  refusal = line_refusal_in settings network arrival

  abbrev one : Batch
  one = batch_of settings room network (arrival ∷ [])

  -- The log has room, so 14 is never met.
  test_is : batch_refusal settings network (room - 0) arrival ≡ refusal
  test_is =
      rw (le-ltb (room - 0) (most_messages settings) (omega arith))
      (ap (λ (later : ℕ). refusal or_else later) (either_way (is_draw arrival)) ∙ or_accepted
      refusal)
    where
      either_way : (drawn : Bool) → (if drawn then no_refusal else no_refusal) ≡ no_refusal
      either_way true = refl
      either_way false = refl

  pub one_refusal : one.refusal ≡ refusal
  one_refusal = by_test (is_zero refusal) refl
    where
      by_test : (none : Bool) → is_zero refusal ≡ none → one.refusal ≡ refusal
      by_test true none = rw (test_is, none, batch_from) (sym (eqb-true refusal 0 none))
      by_test false some = rw (test_is, some, batch_from) test_is

  pub record One : Type 0 where
    pub messages_are : one.messages ≡ (after_line settings network arrival).messages
    pub accepted_is : one.accepted ≡ 1

  pub one_taken : is_zero refusal ≡ true → One
  one_taken none = record {
    messages_are = rw (test_is, none, batch_from);
    accepted_is = rw (test_is, none, batch_from);
  }

-- ---- The batch call's answer, by its contract

abbrev pub left_of : BatchCall → BatchHeld
left_of call = record {
  refusal = draw_refusal call;
  accepted = unless_refused call (batch_in call).accepted 0;
  written = unless_refused call (length (batch_in call).messages) 0;
  held = record {
    sites = unless_refused call (sites_after call) call.held.sites;
    coordinator =
        unless_refused call (coordinator_record (batch_in call).network.coordinator)
        call.held.coordinator;
    site_memory =
        unless_refused call
        (sites_memory call.settings (batch_in call).network.sites call.held.site_memory)
        call.held.site_memory;
    coordinator_memory =
        unless_refused call
        (coordinator_memory (batch_in call).network.coordinator call.held.coordinator_memory)
        call.held.coordinator_memory;
  };
  log =
      unless_refused call (overwrite (message_numbers (batch_in call).messages) call.log)
      call.log;
}

pub says_of : (call : BatchCall) → BatchSays call (left_of call)
says_of call = record {
  refusal = refl;
  accepted = refl;
  written = refl;
  sites = refl;
  coordinator = refl;
  site_memory = refl;
  coordinator_memory = refl;
  log = refl;
}
