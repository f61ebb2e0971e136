-- The two starts: accepted they begin a history, refused they leave all as it was.
--
--   started_history                both accepted
--   start_decks_long, start_desk_long        the rows are then as long as C has them
--   start_decks_left, start_desk_left        one of them, refused
use mathlib.Core.Path.{◌≡◌, sym, ap, ◌∙◌, subst}
use mathlib.Core.List.{List}
use Prim.Native.Nat.{ℕ}
use lib.ListN.{length, take}
use Rattle.model.specs.declared.Settings.{Settings}
use Rattle.model.specs.Refusals.{no_refusal}
use Rattle.record_numbers.specs.Numbers.{sites_width, sites_from, sites_numbers, coordinator_read, coordinator_numbers}
use Rattle.site_start.specs.Starts.{StartSitesSays}
use Rattle.coordinator.specs.Calls.{StartCoordinatorSays}
use Rattle.history.specs.Histories.{start_state, Reachable, started}
use Rattle.history.proofs.Answers.{accepted_choice, refused_choice}
use Rattle.history.proofs.Refused.{part_same}
use Rattle.library_history.specs.Bench.{Bench, held_in, with_front}
use Rattle.library_history.specs.Calls.{Under, StartDecksCall, after_start_decks, StartDeskCall, after_start_desk}
use Rattle.library_history.specs.Used.{fresh_state}
use Rattle.library_history.specs.Claims.{desk_width}
use Rattle.library_history.proofs.OwnRows.{sites_own, coordinator_own}
use Rattle.library_history.proofs.RecordRows.{handed, length_sites_numbers, length_coordinator_numbers}

-- ---- The decks

module _ {bench : Bench} (call : StartDecksCall bench) where
  pub start_decks_long : call.answer ≡ no_refusal → length call.decks ≡ sites_width
  start_decks_long accepts =
      ap length (call.says.decks_are
      ∙ accepted_choice call.says.started.refusal _ _ (sym call.says.refusal ∙ accepts))
      ∙ length_sites_numbers call.says.started.sites

  module _ (refused : call.answer ≡ no_refusal → ⊥) where
    no_decks : call.says.started.refusal ≡ no_refusal → ⊥
    no_decks accepts = refused (call.says.refusal ∙ accepts)

    pub decks_stay : call.decks ≡ bench.decks
    decks_stay = call.says.decks_are ∙ refused_choice _ _ _ no_decks

    pub start_decks_left : held_in (after_start_decks call) ≡ held_in bench
    start_decks_left =
        let left : call.memory.left ≡ take call.memory.count bench.deck_memory =
        call.says.says.memory
        ∙ refused_choice _ _ _ (λ none. no_decks (call.says.says.refusal ∙ none)) in
        let memory = ap (λ (numbers : List ℕ). with_front bench.deck_memory
        (record { count = call.memory.count; left = numbers })) left
        ∙ part_same bench.deck_memory 0 call.memory.count in
        λ i. record {
          sites = sites_from (decks_stay i);
          coordinator = (held_in bench).coordinator;
          site_memory = memory i;
          coordinator_memory = bench.desk_memory;
        }

-- ---- The desk

module _ {bench : Bench} (call : StartDeskCall bench) where
  pub start_desk_long : call.answer ≡ no_refusal → length call.desk ≡ desk_width
  start_desk_long accepts =
      ap length (call.says.desk_is
      ∙ accepted_choice call.says.started.refusal _ _ (sym call.says.refusal ∙ accepts))
      ∙ length_coordinator_numbers call.says.started.coordinator

  module _ (refused : call.answer ≡ no_refusal → ⊥) where
    no_desk : call.says.started.refusal ≡ no_refusal → ⊥
    no_desk accepts = refused (call.says.refusal ∙ accepts)

    pub desk_stays : call.desk ≡ bench.desk
    desk_stays = call.says.desk_is ∙ refused_choice _ _ _ no_desk

    pub start_desk_left : held_in (after_start_desk call) ≡ held_in bench
    start_desk_left =
        let left : call.memory.left ≡ take call.memory.count bench.desk_memory =
        call.says.says.memory
        ∙ refused_choice _ _ _ (λ none. no_desk (call.says.says.refusal ∙ none)) in
        let memory = ap (λ (numbers : List ℕ). with_front bench.desk_memory
        (record { count = call.memory.count; left = numbers })) left
        ∙ part_same bench.desk_memory 0 call.memory.count in
        λ i. record {
          sites = (held_in bench).sites;
          coordinator = coordinator_read (desk_stays i);
          site_memory = bench.deck_memory;
          coordinator_memory = memory i;
        }

-- ---- Both

pub started_history : (settings : Settings) (bench : Bench) (decks : StartDecksCall bench)
    (desk : StartDeskCall (after_start_decks decks))
    → Under settings decks.settings
    → decks.answer ≡ no_refusal
    → Under settings desk.settings
    → desk.answer ≡ no_refusal
    → Reachable settings (fresh_state (after_start_desk desk))
started_history settings bench decks desk decks-under decks-accepts desk-under desk_accepts =
    let sites = decks.says.started in
    let coordinator = desk.says.started in
    let sites_accepted : sites.refusal ≡ no_refusal = sym decks.says.refusal ∙ decks-accepts in
    let accepted : coordinator.refusal ≡ no_refusal = sym desk.says.refusal ∙ desk_accepts in
    let memory = with_front bench.deck_memory decks.memory in
    let desk_memory = with_front bench.desk_memory desk.memory in
    let first = start_state sites.sites coordinator.coordinator memory desk_memory in
    let reached : Reachable settings first =
    started bench.deck_memory decks.memory.count decks.memory.left sites
    bench.desk_memory desk.memory.count desk.memory.left coordinator
    (subst (λ (s : Settings). StartSitesSays s (take decks.memory.count bench.deck_memory)
    decks.memory.left sites) decks-under decks.says.says) sites_accepted
    (subst (λ (s : Settings). StartCoordinatorSays s
    (take desk.memory.count bench.desk_memory) desk.memory.left coordinator)
    desk-under desk.says.says) accepted in
    let decks_are : sites_from decks.decks ≡ sites.sites =
    handed sites_from (sites_numbers sites.sites) sites.sites bench.decks decks.decks
    sites.refusal decks.says.decks_are
    (λ none. sites_own first reached) (λ no. absurd (no sites_accepted)) in
    let desk_is : coordinator_read desk.desk ≡ coordinator.coordinator =
    handed coordinator_read (coordinator_numbers coordinator.coordinator)
    coordinator.coordinator bench.desk desk.desk coordinator.refusal
    desk.says.desk_is (λ none. coordinator_own first reached)
    (λ no. absurd (no accepted)) in
    subst (Reachable settings)
    (λ i. start_state (sym decks_are i) (sym desk_is i) memory desk_memory)
    reached
