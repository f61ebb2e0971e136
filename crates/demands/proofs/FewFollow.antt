-- The messages of one arrival more, after every list of arrivals: those before it, and 23 × k + 2
-- at most that follow it.
--
--   few_follow     the claim
use mathlib.Core.Path.{◌≡◌, sym, ap, ◌∙◌, subst}
use mathlib.Core.List.{List, [], ◌∷◌}
use Prim.Native.Nat.{ℕ, suc, ◌<◌}
use native.Mathlib.Omega.{arith}
use lib.ListN.{length, get_or, take, length-append}
use lib.Seq.{take-suc, take-append_seam, take-length}
use Rattle.model.specs.declared.Settings.{Settings}
use Rattle.model.specs.declared.Arrival.{Arrival}
use Rattle.model.specs.Refusals.{no_refusal}
use Rattle.model.specs.Settings.{settings_refusal}
use Rattle.model.specs.Network.{after_arrival}
use Rattle.model.specs.Runs.{with_arrival, is_taken_in, run_one, run_of}
use Rattle.model.proofs.Deliveries.DeliveryTheorem.{delivery_claims}
use Rattle.model.proofs.Runs.RunLaws.{run_from_append}
use Rattle.model.proofs.Soundness.NeverFalls.{either}
use Rattle.model.proofs.Runs.Theorem.{demands_over_runs}
use Rattle.demands.specs.Third.{FewFollow}

-- Past the end of a list: any arrival.
no_arrival : Arrival
no_arrival = record { site = 0; item = 0; value = 0 }

module _ (settings : Settings) (passes : settings_refusal settings ≡ no_refusal) where
  -- An arrival that is taken adds the messages of its delivery; any other adds none.
  one_follows : (arrivals : List Arrival) (arrival : Arrival)
      → FewFollow settings (run_of settings arrivals)
      (run_one settings (run_of settings arrivals) arrival)
  one_follows arrivals arrival =
      let run = run_of settings arrivals in
      let sent = (after_arrival settings run.network arrival).messages in
      let few = delivery_claims.few_messages settings run.network arrival
      (demands_over_runs.tracks settings arrivals passes).at_rest in
      either (FewFollow settings run) (is_taken_in settings run.network arrival)
      (with_arrival settings run arrival) run
      (record {
        messages_stay = take-append_seam run.messages sent;
        few_more = omega (arith, length-append run.messages sent, few);
      })
      (record { messages_stay = take-length run.messages; few_more = omega arith })

  -- The claim, of each arrival of a list.
  pub few_follow : (arrivals : List Arrival) (n : ℕ)
      → n < length arrivals
      → FewFollow settings (run_of settings (take n arrivals))
      (run_of settings (take (suc n) arrivals))
  few_follow arrivals n inside =
      let arrival = get_or arrivals n no_arrival in
      let one_more : run_of settings (take (suc n) arrivals)
      ≡ run_one settings (run_of settings (take n arrivals)) arrival =
      ap (run_of settings) (take-suc arrivals n no_arrival inside)
      ∙ run_from_append settings _ (take n arrivals) (arrival ∷ []) in
      subst (FewFollow settings (run_of settings (take n arrivals))) (sym one_more)
      (one_follows (take n arrivals) arrival)
