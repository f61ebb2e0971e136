-- What the calls on sites answer when they are refused and when they are not: the contracts of
-- Calls from the refusal and, where there is none, from the step's promise.
--
--   draw_taken, touch_not_taken, refused_not_taken      which arrivals are taken
--   observe_asks, observe_refused, observing            an arrival
--   receive_asks                                        a message
use Rattle.std.specs.Prelude.{Result, Ok, Err, IsErrAnd}
use Prim.Native.Nat.{ℕ}
use mathlib.Core.Path.{◌≡◌, ap, sym, ◌∙◌}
use mathlib.Core.Bool.{true, false}
use mathlib.Core.List.{List}
use native.Mathlib.Omega.{arith}
use lib.Dec.{leb}
use Rattle.model.specs.declared.Settings.{Settings}
use Rattle.model.specs.declared.Arrival.{Arrival}
use Rattle.model.specs.declared.Message.{Message}
use Rattle.model.specs.declared.SiteRecord.{SiteRecord}
use Rattle.model.specs.declared.Refusal.{Refusal}
use Rattle.model.specs.Refusals.{no_refusal, number_of}
use Rattle.model.specs.Draws.{is_draw, is_taken}
use Rattle.model.specs.SiteMemory.{site_in, site_memory_refusal}
use Rattle.model.proofs.Thresholds.RefusalLaws.{both_accepted, passed, some_number}
use Rattle.model.proofs.Touches.DrawLaws.{line_draw, takes, not_taken, touch_left}
use Rattle.site_memory.proofs.ReadyLaws.{step_ready}
use Rattle.site_steps.specs.declared.Observed.{Observed}
use Rattle.site_steps.specs.Steps.{ObserveAsks}
use Rattle.site_receiving.specs.Receiving.{ReceiveAsks}
use Rattle.site_receiving.proofs.ReceiveLaws.{message_due}
use Rattle.site.specs.Calls.{observation, observe_refusal, ObserveSays, receive_refusal}

-- ---- An arrival

module _ (arrival : Arrival) (refusal : ℕ) where
  pub draw_taken : true ≡ is_draw arrival → no_refusal ≡ refusal → is_taken arrival refusal ≡ true
  draw_taken is_draw_lem none = takes arrival refusal (sym is_draw_lem) (sym none)

  pub touch_not_taken : false ≡ is_draw arrival → is_taken arrival refusal ≡ false
  touch_not_taken no_draw = touch_left arrival refusal (sym no_draw)

  pub refused_not_taken : (row : Refusal)
      → number_of row ≡ refusal
      → is_taken arrival refusal ≡ false
  refused_not_taken row same =
      not_taken arrival refusal (λ none. absurd (some_number row (same ∙ none)))

module _
    (settings : Settings)
    (numbers : SiteRecord)
    (arrival : Arrival)
    (before : List ℕ) where
  pub observe_asks : true ≡ is_draw arrival
      → no_refusal ≡ observe_refusal settings numbers arrival before
      → ObserveAsks settings numbers arrival before
  observe_asks is_draw_lem none =
      let parts = both_accepted (site_memory_refusal settings numbers before) _ (sym none) in
      record {
        ready = step_ready settings numbers before parts.first_accepted;
        not_refused =
            sym (line_draw settings (site_in settings numbers before) arrival (sym is_draw_lem))
            ∙ parts.later_accepted;
      }

  -- A refused arrival changes nothing.
  pub observe_refused : (row : Refusal) (answer : Result Observed Refusal)
      → IsErrAnd answer (λ refusal. refusal ≡ row)
      → number_of row ≡ observe_refusal settings numbers arrival before
      → ObserveSays settings numbers arrival before before (observation numbers answer)
  observe_refused row (Ok answer) is same = absurd is
  observe_refused row (Err refusal) is same =
      let known = ap number_of is ∙ same in
      let test = refused_not_taken arrival _ refusal known in
      record {
        refusal = known;
        site = rw test;
        count = rw test;
        first = rw test;
        second = rw test;
        memory = rw test;
      }

-- What the check of `observe` goes by.
pub ruleset observing = (observe_asks, draw_taken, touch_not_taken)

-- ---- A message

module _
    (settings : Settings)
    (numbers : SiteRecord)
    (which : ℕ)
    (m : Message)
    (memory : List ℕ) where
  pub receive_asks : no_refusal ≡ receive_refusal settings numbers which m memory
      → ReceiveAsks settings numbers m memory
  receive_asks none =
      let parts = both_accepted (site_memory_refusal settings numbers memory) _ (sym none) in
      let own_row =
      passed (leb settings.sites which) 5 _ (omega arith) parts.later_accepted in
      let due = message_due settings (site_in settings numbers memory) which m
      own_row.later_accepted in
      record {
        ready = step_ready settings numbers memory parts.first_accepted;
        value_known = due.value_known;
      }
