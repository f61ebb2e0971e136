-- A batch call that is lent a front of each memory: where these are too short it is refused when it
-- starts and changes nothing; otherwise it is the call with all of both memories lent.
--
--   LentBatch, lent_batch     one or the other
--   of_lent_batch             so what holds in both cases holds of the state then
use mathlib.Core.Path.{◌≡◌, refl, sym, ap, ◌∙◌, subst}
use mathlib.Core.Bool.{Bool, true, false}
use mathlib.Core.List.{List, ◌++◌}
use Prim.Native.Nat.{ℕ, ◌*◌, ◌≤◌}
use native.Mathlib.Omega.{arith}
use lib.ListN.{length, take, drop, length-append, take-append-drop}
use borrow.Author.Tests.{eqb-true, eqb-false}
use Rattle.model.specs.declared.Settings.{Settings}
use Rattle.model.specs.declared.Arrival.{Arrival}
use Rattle.model.specs.Choice.{is_zero}
use Rattle.model.specs.Refusals.{no_refusal}
use Rattle.model.specs.Settings.{settings_refusal}
use Rattle.model.specs.SiteMemory.{site_words, overwrite}
use Rattle.model.specs.CoordinatorMemory.{coordinator_record, coordinator_memory}
use Rattle.model.specs.Network.{Network}
use Rattle.model.specs.NetworkMemory.{site_records, sites_memory}
use Rattle.model.specs.Draws.{draws_of}
use Rattle.model.specs.MessageCounts.{counted_up}
use Rattle.model.specs.Runs.{Batch, batch_of}
use Rattle.model.specs.SoundNetwork.{Sound}
use Rattle.model.proofs.Soundness.ConsistentNetwork.{Passes, passes_of}
use Rattle.tracker.specs.Batch.{BatchCall, BatchSays, start_refusal, batch_in, unless_refused, log_room, message_numbers, BatchHeld}
use Rattle.history.specs.State.{Held, State, AtRest, fronts, lending, with_part, put_back}
use Rattle.history.specs.Steps.{batch_call, after_batch, batch_takes_none}
use Rattle.history.proofs.Answers.{accepted_choice, refused_choice}
use Rattle.history.proofs.CoordinatorFronts.{front_then, overwrite_front}
use Rattle.site_memory.proofs.SitesFronts.{sites_memory_front}
use Rattle.history.proofs.NetworkFronts.{network_front}
use Rattle.history.proofs.Invariant.{StateOk}
use Rattle.history.proofs.Accepted.{held_sound}
use Rattle.history.proofs.BatchedState as Batched
use Rattle.history.proofs.Refused.{refused_same}

module _ {settings : Settings} (passes : settings_refusal settings ≡ no_refusal)
    {n : ℕ} (before : State)
    (ok : StateOk settings n before) (at_rest : AtRest before)
    (site_count coordinator_count : ℕ) (arrivals : List Arrival) (log : List ℕ)
    (answer : BatchHeld)
    (says : BatchSays
    (batch_call settings (lending before.held (fronts site_count coordinator_count)) arrivals log)
    answer) where
  abbrev held : Held
  held = before.held

  abbrev on_fronts : BatchCall
  on_fronts = batch_call settings (lending held (fronts site_count coordinator_count)) arrivals log

  abbrev on_all : BatchCall
  on_all = batch_call settings held arrivals log

  abbrev back : BatchHeld
  back = put_back held (fronts site_count coordinator_count) answer

  -- What the step comes to.
  pub data LentBatch : Type 0 where
    nothing_changed : (start_refusal on_fronts ≡ no_refusal → ⊥)
        → after_batch before arrivals back ≡ before
        → LentBatch
    as_all_lent : BatchSays on_all back → LentBatch

  -- ---- Refused when it starts

  unchanged : (start_refusal on_fronts ≡ no_refusal → ⊥)
      → after_batch before arrivals back ≡ before
  unchanged refused =
      refused_same before _
      (batch_takes_none settings (fronts site_count coordinator_count) arrivals log answer says
      (ap (λ (n : ℕ). draws_of (take n arrivals))
      (says.accepted ∙ refused_choice (start_refusal on_fronts) _ _ refused)))

  -- ---- Accepted

  module _ (none : start_refusal on_fronts ≡ no_refusal) where
    abbrev sites_front : List ℕ
    sites_front = take site_count held.site_memory

    abbrev coordinator_front : List ℕ
    coordinator_front = take coordinator_count held.coordinator_memory

    long : Passes settings held.sites held.coordinator sites_front coordinator_front
    long =
        passes_of settings held.sites held.coordinator sites_front coordinator_front none

    batch_same : batch_in on_fronts ≡ batch_in on_all
    batch_same =
        ap (λ (network : Network). batch_of settings (log_room log) network arrivals)
        (network_front passes held ok.lengths (held_sound passes ok).sites_sound site_count
        coordinator_count long.sites_long long.coordinator_long)

    -- The network that the batch comes to is sound.
    sound : Sound settings (batch_in on_all).network
    sound = Batched.sound_then passes before ok at_rest arrivals log

    -- What is answered by the batch on the fronts is answered by the batch on all.
    answered : {A : Type 0} (x given given' : A) (of : Batch → A)
        → x ≡ unless_refused on_fronts (of (batch_in on_fronts)) given
        → x ≡ unless_refused on_all (of (batch_in on_all)) given'
    answered x given given' of is =
        is
        ∙ accepted_choice (start_refusal on_fronts) _ _ none
        ∙ ap of batch_same
        ∙ sym (accepted_choice (start_refusal on_all) _ _
        (Batched.none passes before ok at_rest arrivals log))

    sites_then : back.held.site_memory
        ≡ sites_memory settings (batch_in on_all).network.sites held.site_memory
    sites_then =
        let sites = (batch_in on_all).network.sites in
        let room : length sites * site_words settings ≤ length sites_front =
        rw sound.all_sites long.sites_long in
        ap (with_part held.site_memory 0 site_count)
        (says.site_memory
        ∙ accepted_choice (start_refusal on_fronts) _ _ none
        ∙ ap (λ (batch : Batch). sites_memory settings batch.network.sites sites_front)
        batch_same)
        ∙ front_then held.site_memory site_count (sites_memory settings sites sites_front)
        ∙ sym (sites_memory_front settings sites sites_front (drop site_count held.site_memory)
        room)
        ∙ ap (sites_memory settings sites) (take-append-drop site_count held.site_memory)

    coordinator_then : back.held.coordinator_memory
        ≡ coordinator_memory (batch_in on_all).network.coordinator held.coordinator_memory
    coordinator_then =
        let c = (batch_in on_all).network.coordinator in
        let numbers = sound.coordinator_sound.numbers in
        let room : length (c.estimates ++ c.histogram) ≤ length coordinator_front =
        omega (
          arith,
          length-append c.estimates c.histogram,
          numbers.estimates_length,
          numbers.histogram_length,
          long.coordinator_long,
        ) in
        ap (with_part held.coordinator_memory 0 coordinator_count)
        (says.coordinator_memory
        ∙ accepted_choice (start_refusal on_fronts) _ _ none
        ∙ ap (λ (batch : Batch). coordinator_memory batch.network.coordinator coordinator_front)
        batch_same)
        ∙ overwrite_front (c.estimates ++ c.histogram) coordinator_count
        held.coordinator_memory room

    whole : BatchSays on_all back
    whole =
        let all_accepted = Batched.none passes before ok at_rest arrivals log in
        record {
          refusal = answered answer.refusal _ _ (λ (batch : Batch). batch.refusal)
              says.refusal;
          accepted = answered answer.accepted _ _ (λ (batch : Batch). batch.accepted)
              says.accepted;
          written = answered answer.written _ _ (λ (batch : Batch). length batch.messages)
              says.written;
          sites = answered answer.held.sites _ _
              (λ (batch : Batch). record {
                records = site_records batch.network.sites held.sites.records;
                messages = counted_up held.sites.messages batch.messages;
              })
              says.sites;
          coordinator = answered answer.held.coordinator _ _
              (λ (batch : Batch). coordinator_record batch.network.coordinator)
              says.coordinator;
          site_memory = sites_then ∙ sym (accepted_choice (start_refusal on_all) _ _ all_accepted);
          coordinator_memory =
              coordinator_then ∙ sym (accepted_choice (start_refusal on_all) _ _ all_accepted);
          log = answered answer.log _ _
              (λ (batch : Batch). overwrite (message_numbers batch.messages) log)
              says.log;
        }

  -- By what the start answers.
  pub lent_batch : LentBatch
  lent_batch = by_refusal (is_zero (start_refusal on_fronts)) refl
    where
      by_refusal : (none : Bool) → is_zero (start_refusal on_fronts) ≡ none → LentBatch
      by_refusal true none = as_all_lent (whole (eqb-true (start_refusal on_fronts) 0 none))
      by_refusal false some =
          let refused = eqb-false (start_refusal on_fronts) 0 some in
          nothing_changed refused (unchanged refused)

  -- What holds of the state before, and of the state after the call with all memory lent.
  pub of_lent_batch : (P : State → Type 0)
      → P before
      → (BatchSays on_all back → P (after_batch before arrivals back))
      → P (after_batch before arrivals back)
  of_lent_batch P unmoved moved = by_case lent_batch
    where
      by_case : LentBatch → P (after_batch before arrivals back)
      by_case (nothing_changed refused same) = subst P (sym same) unmoved
      by_case (as_all_lent all) = moved all
