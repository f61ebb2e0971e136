-- A call's contract kept on a front of the memory is the contract kept on all of it, with the rest
-- as it was: so what is proved of calls that are lent a whole memory holds of calls that are lent
-- as much as is enough (document 01: "longer is fine, the rest untouched").
--
--   start_says_whole, starts_whole     the two start calls
--   receives_whole, announces_whole    a message at the coordinator, and the next kind 7
use mathlib.Core.Path.{◌≡◌, sym, ap, ◌∙◌, subst}
use mathlib.Core.List.{List, ◌++◌}
use Prim.Native.Nat.{ℕ, ◌≤◌}
use native.Mathlib.Omega.{arith}
use lib.Dec.{ltb}
use lib.ListN.{length, take, replicate, length-replicate, length-append}
use borrow.Author.Tests.{le-ltb}
use Rattle.model.specs.declared.Settings.{Settings}
use Rattle.model.specs.declared.Message.{Message}
use Rattle.model.specs.declared.CoordinatorRecord.{CoordinatorRecord}
use Rattle.model.specs.Choice.{is_zero}
use Rattle.model.specs.Refusals.{when, ◌or_else◌, no_refusal, memory_too_short}
use Rattle.model.specs.Limits.{value_count}
use Rattle.model.specs.Settings.{settings_refusal}
use Rattle.model.specs.Coordinator.{Coordinator, CoordinatorStep, fresh_coordinator, coordinator_receives, coordinator_refusal, announced, announcement_refusal}
use Rattle.model.specs.CoordinatorMemory.{coordinator_words, coordinator_in, coordinator_memory, coordinator_memory_refusal}
use Rattle.model.specs.NetworkMemory.{sites_words}
use Rattle.model.proofs.Thresholds.RefusalLaws.{both_accepted}
use Rattle.model.proofs.Thresholds.TestedMemory.{length_tested}
use Rattle.coordinator_kinds.proofs.MemoryLaws.{estimates_long, histogram_long}
use Rattle.site_start.specs.Starts.{SitesStart}
use Rattle.site_start.specs.Starts as SiteStarts
use Rattle.coordinator.specs.Calls.{Reception, CoordinatorStart}
use Rattle.coordinator.specs.Calls as CoordinatorCalls
use Rattle.history.specs.State.{with_part}
use Rattle.history.proofs.Answers.{accepted_choice}
use Rattle.history.proofs.CoordinatorFronts.{whole_long, overwrite_front, coordinator_in_front, on_front, coordinator_long}
use Rattle.history.proofs.KeptLengths.{length_received}

-- ---- The start calls

-- A start that is accepted had so many numbers.
started_long : (settings : Settings) (words many : ℕ)
    → (settings_refusal settings or_else when (ltb many words) memory_too_short or_else no_refusal)
    ≡ no_refusal
    → words ≤ many
started_long settings words many none = (length_tested settings words many _ none).memory_long

-- As much as is enough, or more: 4 does not tell.
started_same : (settings : Settings) (words n : ℕ) (memory : List ℕ)
    → words ≤ length (take n memory)
    → (settings_refusal settings
    or_else when (ltb (length (take n memory)) words) memory_too_short or_else no_refusal)
    ≡ (settings_refusal settings
    or_else when (ltb (length memory) words) memory_too_short or_else no_refusal)
started_same settings words n memory long =
    let short : ltb (length (take n memory)) words ≡ ltb (length memory) words =
    le-ltb (length (take n memory)) words long
    ∙ sym (le-ltb (length memory) words (whole_long words n memory long)) in
    λ i. settings_refusal settings or_else when (short i) memory_too_short or_else no_refusal

module _ (settings : Settings) (n : ℕ) (memory part : List ℕ) (answer : SitesStart)
    (says : SiteStarts.StartSitesSays settings (take n memory) part answer)
    (accepts : answer.refusal ≡ no_refusal) where
  -- The contract of the whole memory lent.
  pub start_says_whole : SiteStarts.StartSitesSays settings memory (with_part memory 0 n part)
      answer
  start_says_whole =
      let words = sites_words settings in
      let none : SiteStarts.start_refusal settings (take n memory) ≡ no_refusal =
      sym says.refusal ∙ accepts in
      let long = started_long settings words (length (take n memory)) none in
      let same : SiteStarts.start_refusal settings (take n memory)
      ≡ SiteStarts.start_refusal settings memory =
      started_same settings words n memory long in
      record {
        refusal = says.refusal ∙ same;
        sites = says.sites;
        memory =
            ap (with_part memory 0 n) (says.memory ∙ accepted_choice _ _ _ none)
            ∙ overwrite_front (replicate words 0) n memory
            (omega (arith, length-replicate {A = ℕ} words 0, long))
            ∙ sym (accepted_choice _ _ _ (sym same ∙ none));
      }

module _ (settings : Settings) (n : ℕ) (memory part : List ℕ) (answer : CoordinatorStart)
    (says : CoordinatorCalls.StartCoordinatorSays settings (take n memory) part answer)
    (accepts : answer.refusal ≡ no_refusal) where
  -- The contract of the whole memory lent.
  pub starts_whole : CoordinatorCalls.StartCoordinatorSays settings memory
      (with_part memory 0 n part) answer
  starts_whole =
      let words = coordinator_words settings in
      let fresh = fresh_coordinator settings in
      let none : CoordinatorCalls.start_refusal settings (length (take n memory)) ≡ no_refusal =
      sym says.refusal ∙ accepts in
      let long = started_long settings words (length (take n memory)) none in
      let same : CoordinatorCalls.start_refusal settings (length (take n memory))
      ≡ CoordinatorCalls.start_refusal settings (length memory) =
      started_same settings words n memory long in
      let width : length (fresh.estimates ++ fresh.histogram) ≡ words =
      length-append fresh.estimates fresh.histogram
      ∙ omega (
        arith,
        length-replicate {A = ℕ} settings.universe 0,
        length-replicate {A = ℕ} value_count 0,
      ) in
      record {
        refusal = says.refusal ∙ same;
        coordinator = says.coordinator;
        memory =
            ap (with_part memory 0 n) (says.memory ∙ accepted_choice _ _ _ none)
            ∙ overwrite_front (fresh.estimates ++ fresh.histogram) n memory
            (omega (arith, width, long))
            ∙ sym (accepted_choice _ _ _ (sym same ∙ none));
      }

-- ---- A message on a front

-- What is handed back, of equal refusals and equal steps.
hands_same : {one two : ℕ} {given done : CoordinatorStep} {numbers : CoordinatorRecord}
    {answer : Reception}
    → one ≡ two
    → given ≡ done
    → CoordinatorCalls.ReceivedSays (is_zero one) given numbers answer
    → CoordinatorCalls.ReceivedSays (is_zero two) done numbers answer
hands_same {one} {two} {given} {done} {numbers} {answer} refusals steps hands =
    subst
    (λ (step : CoordinatorStep). CoordinatorCalls.ReceivedSays (is_zero two) step numbers answer)
    steps
    (subst (λ (refusal : ℕ). CoordinatorCalls.ReceivedSays (is_zero refusal) given numbers answer)
    refusals hands)

module _ (settings : Settings) (numbers : CoordinatorRecord) (m : Message) (n : ℕ)
    (memory part : List ℕ) (answer : Reception)
    (says : CoordinatorCalls.CoordinatorReceiveSays settings numbers m (take n memory) part answer)
    (accepts : answer.refusal ≡ no_refusal) where
  none : CoordinatorCalls.receive_refusal settings numbers m (take n memory) ≡ no_refusal
  none = sym says.refusal ∙ accepts

  long : coordinator_words settings ≤ length (take n memory)
  long =
      coordinator_long settings numbers (take n memory)
      (both_accepted (coordinator_memory_refusal settings numbers (take n memory)) _ none
      ).first_accepted

  abbrev afterwards : List ℕ → Coordinator
  afterwards lent =
      (coordinator_receives settings (coordinator_in settings numbers lent) m).coordinator

  read : coordinator_in settings numbers (take n memory) ≡ coordinator_in settings numbers memory
  read = coordinator_in_front settings numbers n memory long

  same : CoordinatorCalls.receive_refusal settings numbers m (take n memory)
      ≡ CoordinatorCalls.receive_refusal settings numbers m memory
  same =
      on_front settings numbers n memory long
      (λ (refusal : ℕ) (c : Coordinator). refusal or_else coordinator_refusal settings c m)

  -- The numbers written are as many as were read.
  fits : length ((afterwards (take n memory)).estimates ++ (afterwards (take n memory)).histogram)
      ≤ length (take n memory)
  fits =
      let c = coordinator_in settings numbers (take n memory) in
      let kept = length_received settings c m in
      let after = afterwards (take n memory) in
      omega (
        arith,
        length-append after.estimates after.histogram,
        kept.estimates,
        kept.values,
        estimates_long settings numbers (take n memory) long,
        histogram_long settings numbers (take n memory) long,
        long,
      )

  memory_whole : with_part memory 0 n part ≡ coordinator_memory (afterwards memory) memory
  memory_whole =
      ap (with_part memory 0 n) (says.memory ∙ accepted_choice _ _ _ none)
      ∙ overwrite_front
      ((afterwards (take n memory)).estimates ++ (afterwards (take n memory)).histogram) n memory
      fits
      ∙ ap (λ (c : Coordinator).
      coordinator_memory (coordinator_receives settings c m).coordinator memory) read

  -- The contract of the whole memory lent.
  pub receives_whole : CoordinatorCalls.CoordinatorReceiveSays settings numbers m memory
      (with_part memory 0 n part) answer
  receives_whole = record {
    refusal = says.refusal ∙ same;
    answer = hands_same same (ap (λ (c : Coordinator). coordinator_receives settings c m) read)
        says.answer;
    memory = memory_whole ∙ sym (accepted_choice _ _ _ (sym same ∙ none));
  }

-- ---- The next kind 7 on a front

module _ (settings : Settings) (numbers : CoordinatorRecord) (n : ℕ) (memory : List ℕ)
    (answer : Reception)
    (says : CoordinatorCalls.AnnounceSays settings numbers (take n memory) answer)
    (accepts : answer.refusal ≡ no_refusal) where
  -- The contract of the whole memory lent.
  pub announces_whole : CoordinatorCalls.AnnounceSays settings numbers memory answer
  announces_whole =
      let none : CoordinatorCalls.announce_refusal settings numbers (take n memory) ≡ no_refusal =
      sym says.refusal ∙ accepts in
      let long = coordinator_long settings numbers (take n memory)
      (both_accepted (coordinator_memory_refusal settings numbers (take n memory)) _ none
      ).first_accepted in
      let read = coordinator_in_front settings numbers n memory long in
      let same : CoordinatorCalls.announce_refusal settings numbers (take n memory)
      ≡ CoordinatorCalls.announce_refusal settings numbers memory =
      on_front settings numbers n memory long
      (λ (refusal : ℕ) (c : Coordinator). refusal or_else announcement_refusal c) in
      record {
        refusal = says.refusal ∙ same;
        answer = hands_same same (ap (announced settings) read) says.answer;
      }
