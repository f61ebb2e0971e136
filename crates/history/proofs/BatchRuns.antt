-- A batch is a run over the arrivals that it accepts: its network, and its messages after those of
-- the run before it. PROOF.md section 7.
--
--   GoesOn settings run arrivals batch after   what a batch that goes on adds to batch and run
--   batch_goes_on                              every batch does so
--   BatchRun, batch_run                        the same for a whole batch
use mathlib.Core.Path.{◌≡◌, refl, sym, ap, ◌∙◌}
use mathlib.Core.Bool.{Bool, true, false}
use mathlib.Core.List.{List, [], ◌∷◌, ◌++◌, append_assoc, append-nil}
use Prim.Native.Nat.{ℕ, suc, ◌+◌, ◌-◌}
use native.Mathlib.Omega.{arith}
use lib.ListN.{length, take}
use borrow.Author.Tests.{eqb-true}
use Rattle.model.specs.declared.Settings.{Settings}
use Rattle.model.specs.declared.Arrival.{Arrival}
use Rattle.model.specs.declared.Message.{Message}
use Rattle.model.specs.Choice.{is_zero}
use Rattle.model.specs.Refusals.{no_refusal}
use Rattle.model.specs.Draws.{draws_of}
use Rattle.model.specs.Network.{Network, after_line}
use Rattle.model.specs.Runs.{Run, line_refusal_in, run_one, run_from, Batch, batch_refusal, batch_from, batch_of}
use Rattle.model.proofs.Thresholds.RefusalLaws.{both_accepted}
use Rattle.model.proofs.Touches.DrawLaws.{LineTaken, line_taken}
use Rattle.model.proofs.Touches.DrawLists.{draws_of_append}

-- What a batch that goes on adds to a batch, and to the run that it goes on from.
pub record GoesOn (settings : Settings) (run : Run) (arrivals : List Arrival) (batch after : Batch)
    : Type 0 where
  -- how many it accepts, and the messages that these send
  pub taken : ℕ
  pub sent : List Message
  pub accepted_is : after.accepted ≡ batch.accepted + taken
  pub messages_are : after.messages ≡ batch.messages ++ sent
  pub network_is : after.network ≡ (run_from settings run (take taken arrivals)).network
  pub run_accepted : (run_from settings run (take taken arrivals)).accepted
      ≡ run.accepted ++ draws_of (take taken arrivals)
  pub run_messages : (run_from settings run (take taken arrivals)).messages ≡ run.messages ++ sent

module _ (settings : Settings) (room : ℕ) where
  -- A batch that stops here accepts no more.
  stops : (run : Run) (arrivals : List Arrival) (batch : Batch) (refusal : ℕ)
      → batch.network ≡ run.network
      → GoesOn settings run arrivals batch (record {
        network = batch.network;
        accepted = batch.accepted;
        messages = batch.messages;
        refusal = refusal;
      })
  stops run arrivals batch refusal same = record {
    taken = 0;
    sent = [];
    accepted_is = omega arith;
    messages_are = sym (append-nil batch.messages);
    network_is = same;
    run_accepted = sym (append-nil run.accepted);
    run_messages = sym (append-nil run.messages);
  }

  -- The batch with one arrival more.
  abbrev pub next_batch : Batch → Arrival → Batch
  next_batch batch arrival = record {
    network = (after_line settings batch.network arrival).network;
    accepted = batch.accepted + 1;
    messages = batch.messages ++ (after_line settings batch.network arrival).messages;
    refusal = no_refusal;
  }

  -- One arrival accepted, and what the rest of the batch then adds.
  accepts_one : (run : Run) (arrival : Arrival) (arrivals : List Arrival) (batch after : Batch)
      → batch.network ≡ run.network
      → LineTaken settings run arrival
      → GoesOn settings (run_one settings run arrival) arrivals (next_batch batch arrival) after
      → GoesOn settings run (arrival ∷ arrivals) batch after
  accepts_one run arrival arrivals batch after same one later =
      let own = (after_line settings run.network arrival).messages in
      let others = take later.taken arrivals in
      let own_same : (after_line settings batch.network arrival).messages ≡ own =
      ap (λ (network : Network). (after_line settings network arrival).messages) same in
      record {
        taken = suc later.taken;
        sent = own ++ later.sent;
        accepted_is = later.accepted_is ∙ omega arith;
        messages_are =
            later.messages_are
            ∙ ap (λ (ms : List Message). (batch.messages ++ ms) ++ later.sent) own_same
            ∙ append_assoc batch.messages own later.sent;
        network_is = later.network_is;
        run_accepted =
            later.run_accepted
            ∙ ap (λ (xs : List Arrival). xs ++ draws_of others) one.accepted_are
            ∙ append_assoc run.accepted (draws_of (arrival ∷ [])) (draws_of others)
            ∙ ap (λ (xs : List Arrival). run.accepted ++ xs)
            (sym (draws_of_append (arrival ∷ []) others));
        run_messages =
            later.run_messages
            ∙ ap (λ (ms : List Message). ms ++ later.sent) one.messages_are
            ∙ append_assoc run.messages own later.sent;
      }

  -- By recursion on the arrivals: each is accepted, or stops the batch.
  pub batch_goes_on : (arrivals : List Arrival) (run : Run) (batch : Batch)
      → batch.network ≡ run.network
      → GoesOn settings run arrivals batch (batch_from settings room batch arrivals)
  batch_goes_on [] run batch same = stops run [] batch batch.refusal same
  batch_goes_on (arrival ∷ arrivals) run batch same =
      by_refusal (is_zero refusal) refl (batch_goes_on arrivals)
    where
      refusal : ℕ
      refusal = batch_refusal settings batch.network (room - length batch.messages) arrival

      by_refusal : (none : Bool) → is_zero refusal ≡ none
          → ((next : Run) (b : Batch) → b.network ≡ next.network
          → GoesOn settings next arrivals b (batch_from settings room b arrivals))
          → GoesOn settings run (arrival ∷ arrivals) batch
          (batch_from settings room batch (arrival ∷ arrivals))
      by_refusal true none later =
          let one : LineTaken settings run arrival =
          line_taken settings run arrival
          (ap (λ (network : Network). line_refusal_in settings network arrival) (sym same)
          ∙ (both_accepted _ _ (eqb-true refusal 0 none)).first_accepted) in
          rw (none, batch_from)
          (accepts_one run arrival arrivals batch
          (batch_from settings room (next_batch batch arrival) arrivals) same one
          (later (run_one settings run arrival) (next_batch batch arrival)
          (ap (λ (network : Network). (after_line settings network arrival).network) same
          ∙ one.network_is)))
      by_refusal false some later =
          rw (some, batch_from) (stops run (arrival ∷ arrivals) batch refusal same)

-- ---- A whole batch

-- A run that has accepted nothing and stands at this network.
abbrev pub run_at : Network → Run
run_at network = record { network = network; accepted = []; messages = [] }

-- A batch from the start: a run over as many arrivals as it accepts.
pub record BatchRun (settings : Settings) (run : Run) (arrivals : List Arrival) (batch : Batch)
    : Type 0 where
  pub network_is : batch.network
      ≡ (run_from settings run (take batch.accepted arrivals)).network
  pub run_accepted : (run_from settings run (take batch.accepted arrivals)).accepted
      ≡ run.accepted ++ draws_of (take batch.accepted arrivals)
  pub run_messages : (run_from settings run (take batch.accepted arrivals)).messages
      ≡ run.messages ++ batch.messages

-- The number taken is the number accepted, and the messages sent are all its messages.
pub batch_run : (settings : Settings) (room : ℕ) (arrivals : List Arrival) (run : Run)
    → BatchRun settings run arrivals (batch_of settings room run.network arrivals)
batch_run settings room arrivals run =
    let on = batch_goes_on settings room arrivals run _ refl in
    let after = batch_of settings room run.network arrivals in
    let as_many : after.accepted ≡ on.taken = on.accepted_is ∙ omega arith in
    record {
      network_is = rw as_many on.network_is;
      run_accepted = rw as_many on.run_accepted;
      run_messages =
          rw as_many
          (on.run_messages
          ∙ ap (λ (ms : List Message). run.messages ++ ms) (sym on.messages_are));
    }
