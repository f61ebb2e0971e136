-- A call that accepts no draw leaves everything as it was: its contract hands back records and
-- memory as they were given, and putting them back changes nothing. For every state, arisen or
-- not.
--
--   part_same        a part of a memory put back as it was
--   refused_same     the state after such a call
use mathlib.Core.Path.{◌≡◌, refl, sym, ap, ◌∙◌}
use mathlib.Core.Bool.{false}
use mathlib.Core.List.{List, ◌++◌}
use Prim.Native.Nat.{ℕ}
use lib.ListN.{set, take, drop, take-append-drop}
use lib.Seq.{set-get_or, drop-drop}
use Rattle.model.specs.declared.SiteRecord.{SiteRecord}
use Rattle.model.specs.declared.CoordinatorRecord.{CoordinatorRecord}
use Rattle.model.specs.Refusals.{no_refusal}
use Rattle.site.specs.Calls as SiteCalls
use Rattle.model.proofs.Touches.DrawLaws.{not_taken}
use Rattle.coordinator.specs.Calls as CoordinatorCalls
use Rattle.history.specs.State.{Held, State, record_at, part_of, coordinator_part, lending, with_part, after_site_call, after_coordinator_call, holding, no_record}
use Rattle.history.specs.Steps.{after_batch, Refuses, arrival_left, site_message_refused, coordinator_message_refused, announcement_refused, batch_takes_none}
use Rattle.history.proofs.Answers.{refused_choice, left_choice}
use Rattle.history.proofs.EmptyBatch.{batch_same}

-- A part of a memory put back as it was.
pub part_same : (memory : List ℕ) (start words : ℕ)
    → with_part memory start words (take words (drop start memory)) ≡ memory
part_same memory start words =
    ap (λ (behind : List ℕ). take start memory ++ behind)
    (ap (λ (tail : List ℕ). take words (drop start memory) ++ tail)
    (sym (drop-drop words start memory))
    ∙ take-append-drop words (drop start memory))
    ∙ take-append-drop start memory

module _ (held : Held) where
  -- A site's record and the sites' memory put back as they were.
  site_same : (which : ℕ) (numbers : SiteRecord) (memory : List ℕ)
      → numbers ≡ record_at held which
      → memory ≡ held.site_memory
      → after_site_call held which numbers memory ≡ held
  site_same which numbers memory same-record same_memory =
      let records : set held.sites.records which numbers ≡ held.sites.records =
      ap (set held.sites.records which) same-record
      ∙ set-get_or held.sites.records which no_record in
      λ i. record {
        sites = record { records = records i; messages = held.sites.messages };
        coordinator = held.coordinator;
        site_memory = same_memory i;
        coordinator_memory = held.coordinator_memory;
      }

  coordinator_same : (numbers : CoordinatorRecord) (memory : List ℕ)
      → numbers ≡ held.coordinator
      → memory ≡ held.coordinator_memory
      → after_coordinator_call held numbers memory ≡ held
  coordinator_same numbers memory same-record same_memory = λ i. record {
    sites = held.sites;
    coordinator = same-record i;
    site_memory = held.site_memory;
    coordinator_memory = same_memory i;
  }

-- ---- Each call

-- Call by call: the contract hands back what was given.
pub refused_same : (before after : State) → Refuses before after → after ≡ before
refused_same before after
    (arrival_left given which arrival start words part answer says touches) =
    let left : SiteCalls.observe_takes given (record_at before.held which) arrival
    (part_of before.held start words) ≡ false =
    not_taken arrival _ (λ none. touches (says.refusal ∙ none)) in
    ap (holding before)
    (site_same before.held which answer.site
    (with_part before.held.site_memory start words part)
    (says.site ∙ left_choice _ _ _ left)
    (ap (with_part before.held.site_memory start words)
    (says.memory ∙ left_choice _ _ _ left)
    ∙ part_same before.held.site_memory start words))
refused_same before after
    (site_message_refused given which number m start words answer says refused) =
    let refusal = SiteCalls.receive_refusal given (record_at before.held which) number m
    (part_of before.held start words) in
    let no : refusal ≡ no_refusal → ⊥ = λ none. refused (says.refusal ∙ none) in
    ap (holding before)
    (site_same before.held which answer.site before.held.site_memory
    (says.site ∙ refused_choice refusal _ _ no) refl)
refused_same before after
    (coordinator_message_refused given m start words part answer says refused) =
    let refusal = CoordinatorCalls.receive_refusal given before.held.coordinator m
    (coordinator_part before.held start words) in
    let no : refusal ≡ no_refusal → ⊥ = λ none. refused (says.refusal ∙ none) in
    ap (holding before)
    (coordinator_same before.held answer.coordinator
    (with_part before.held.coordinator_memory start words part)
    (says.answer.coordinator ∙ refused_choice refusal _ _ no)
    (ap (with_part before.held.coordinator_memory start words)
    (says.memory ∙ refused_choice refusal _ _ no)
    ∙ part_same before.held.coordinator_memory start words))
refused_same before after (announcement_refused given start words answer says refused) =
    let refusal = CoordinatorCalls.announce_refusal given before.held.coordinator
    (coordinator_part before.held start words) in
    let no : refusal ≡ no_refusal → ⊥ = λ none. refused (says.refusal ∙ none) in
    ap (holding before)
    (coordinator_same before.held answer.coordinator before.held.coordinator_memory
    (says.answer.coordinator ∙ refused_choice refusal _ _ no) refl)
refused_same before after
    (batch_takes_none given slices arrivals log answer says nothing) =
    let held = before.held in
    -- the law of a whole network lent, of a state that holds the slices alone
    let same : after_batch (holding before (lending held slices)) arrivals answer
    ≡ holding before (lending held slices) =
    batch_same (holding before (lending held slices)) given arrivals log answer says
    nothing in
    let site_memory =
    ap (with_part held.site_memory slices.site_from slices.site_count)
    (ap (λ (state : State). state.held.site_memory) same)
    ∙ part_same held.site_memory slices.site_from slices.site_count in
    let coordinator_memory =
    ap (with_part held.coordinator_memory slices.coordinator_from slices.coordinator_count)
    (ap (λ (state : State). state.held.coordinator_memory) same)
    ∙ part_same held.coordinator_memory slices.coordinator_from
    slices.coordinator_count in
    λ i. record {
      held = record {
        sites = (same i).held.sites;
        coordinator = (same i).held.coordinator;
        site_memory = site_memory i;
        coordinator_memory = coordinator_memory i;
      };
      waiting = before.waiting;
      accepted = (same i).accepted;
      messages = (same i).messages;
      log = (same i).log;
      logged = (same i).logged;
    }
