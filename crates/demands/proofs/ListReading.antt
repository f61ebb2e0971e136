-- At rest the list call answers as the rules say of the arrivals accepted: the coordinator that is
-- held is the run's, and the claims over runs hold of it.
--
--   held_is, coordinator_is   the coordinator that is held, also in a front of its memory
--   tracks, over, back        the claims over runs, of the arrivals accepted
--   list_right                the list
use mathlib.Core.Path.{◌≡◌, refl, sym, ap, ◌∙◌, subst}
use mathlib.Core.Bool.{Bool, true, false}
use mathlib.Core.List.{List}
use Prim.Native.Nat.{ℕ, ◌+◌, ◌-◌, ◌*◌, ◌≤◌, ◌<◌}
use native.Mathlib.Nat.{mul-le-mul_right}
use native.Mathlib.Omega.{arith}
use lib.Dec.{ltb}
use lib.ListN.{length, get_or, take, drop}
use lib.Seq.{take-append_seam}
use borrow.Author.Tests.{eqb-true, eqb-false, lt-ltb, le-ltb}
use Rattle.laws.proofs.Tests.{and_false}
use Rattle.model.specs.declared.Settings.{Settings}
use Rattle.model.specs.declared.Arrival.{Arrival}
use Rattle.model.specs.Choice.{is_zero}
use Rattle.model.specs.Refusals.{when, no_refusal, list_too_short}
use Rattle.model.specs.Settings.{settings_refusal}
use Rattle.model.specs.Coordinator.{Coordinator}
use Rattle.model.specs.CoordinatorMemory.{coordinator_words, coordinator_in}
use Rattle.model.specs.Reading.{needed_side, is_listed, heavy_hitters}
use Rattle.model.specs.Network.{Network}
use Rattle.model.specs.Runs.{Run, run_of}
use Rattle.model.specs.Claims.{counted, count_of, contains, Tracks, ListLaw, ListSize, BeforeDraws}
use Rattle.model.proofs.Runs.Theorem.{demands_over_runs}
use Rattle.coordinator_list.specs.Promises.{ListAnswer, ListSays, list_refusal}
use Rattle.history.specs.State.{State, network_of, coordinator_part}
use Rattle.history.proofs.Invariant.{StateOk, Resting}
use Rattle.history.proofs.Accepted.{coordinator_front}
use Rattle.history.proofs.Answers.{accepted_choice, refused_choice}
use Rattle.demands.specs.Reading.{rules_coordinator, listed_in, FirmShare, ListRight}
use Rattle.demands.proofs.AcceptedClaims.{refused_by_rules}
use Rattle.demands.proofs.FirmShares.{listed_firm}

module _ {settings : Settings} (passes : settings_refusal settings ≡ no_refusal)
    {n : ℕ} {state : State}
    (ok : StateOk settings n state) (rest : Resting settings state) where
  -- The rules' coordinator, and their run.
  abbrev c : Coordinator
  c = rules_coordinator settings state

  abbrev run : Run
  run = run_of settings state.accepted

  -- The coordinator that is held is the run's, also in a front of its memory.
  pub held_is : (network_of settings state.held).coordinator ≡ c
  held_is = ap (λ (network : Network). network.coordinator) rest.network_is

  pub coordinator_is : (words : ℕ)
      → coordinator_words settings ≤ words
      → coordinator_in settings state.held.coordinator (coordinator_part state.held 0 words)
      ≡ c
  coordinator_is words enough =
      coordinator_front passes ok words (λ (refusal : ℕ) (there : Coordinator). there) enough
      ∙ held_is

  pub tracks : Tracks settings run
  tracks = demands_over_runs.tracks settings state.accepted passes

  list_law : ListLaw settings c
  list_law = demands_over_runs.list_law settings c

  -- What a claim over the run's arrivals says of those accepted.
  pub over : (P : List Arrival → Type 0) → P run.accepted → P state.accepted
  over P holds = subst P rest.accepted_are holds

  pub back : (P : List Arrival → Type 0) → P state.accepted → P run.accepted
  back P holds = subst P (sym rest.accepted_are) holds

  -- While no draw is accepted.
  pub before_draws : counted state.accepted ≡ 0 → BeforeDraws settings run
  before_draws none =
      demands_over_runs.before_draws settings state.accepted passes
      (back (λ (arrivals : List Arrival). counted arrivals ≡ 0) none)

  -- ---- The list

  module _ (words : ℕ) (before after : List ℕ) (answer : ListAnswer)
      (enough : coordinator_words settings ≤ words)
      (says : ListSays settings state.held.coordinator (coordinator_part state.held 0 words)
      before after answer) where
    abbrev listed : List ℕ
    listed = heavy_hitters settings c

    refusal_is : answer.refusal ≡ when (ltb (length before) (length listed)) list_too_short
    refusal_is =
        says.refusal
        ∙ (refused_by_rules passes ok).list words (length before) enough
        ∙ ap (λ (there : Coordinator).
        when (ltb (length before) (length (heavy_hitters settings there))) list_too_short)
        held_is

    -- An accepted call has written the list over the front of the lent one.
    list_is : answer.refusal ≡ no_refusal → listed_in answer after ≡ listed
    list_is accepts =
        let part = coordinator_part state.held 0 words in
        let none : list_refusal settings state.held.coordinator part (length before)
        ≡ no_refusal = sym says.refusal ∙ accepts in
        let held_list = heavy_hitters settings
        (coordinator_in settings state.held.coordinator part) in
        let count = says.count ∙ accepted_choice _ _ _ none in
        let list = says.list ∙ accepted_choice _ _ _ none in
        (λ i. take (count i) (list i))
        ∙ take-append_seam held_list (drop (length held_list) before)
        ∙ ap (heavy_hitters settings) (coordinator_is words enough)

    -- The number that it answers is no more than the list holds.
    few_listed : answer.count ≤ length listed
    few_listed = by_refusal (is_zero rule) refl
      where
        rule : ℕ
        rule =
            list_refusal settings state.held.coordinator (coordinator_part state.held 0 words)
            (length before)

        held_list : List ℕ
        held_list =
            heavy_hitters settings
            (coordinator_in settings state.held.coordinator
            (coordinator_part state.held 0 words))

        by_refusal : (none : Bool) → is_zero rule ≡ none → answer.count ≤ length listed
        by_refusal true none =
            let count : answer.count ≡ length held_list =
            says.count ∙ accepted_choice _ _ _ (eqb-true rule 0 none) in
            let same : length held_list ≡ length listed =
            ap (λ (there : Coordinator). length (heavy_hitters settings there))
            (coordinator_is words enough) in
            omega (arith, count, same)
        by_refusal false some =
            let count : answer.count ≡ 0 =
            says.count ∙ refused_choice _ _ _ (eqb-false rule 0 some) in
            omega (arith, count)

    -- What bounds the list bounds that number.
    of_count : (factor bound : ℕ) → length listed * factor ≤ bound → answer.count * factor ≤ bound
    of_count factor bound within = omega (arith, mul-le-mul_right factor few_listed, within)

    -- What holds of the rules' list holds of the answered one.
    of_list : (P : List ℕ → Type 0) → answer.refusal ≡ no_refusal → P listed
        → P (listed_in answer after)
    of_list P accepts holds = subst P (sym (list_is accepts)) holds

    heavy_in_list : (item : ℕ) → item < settings.universe → 1 ≤ counted state.accepted
        → settings.phi * counted state.accepted ≤ 1000 * count_of item state.accepted
        → contains item listed ≡ true
    heavy_in_list item known some heavy =
        let yes : is_listed settings c item ≡ true =
        tracks.heavy_listed item
        (back (λ (arrivals : List Arrival). 1 ≤ counted arrivals) some)
        (back (λ (arrivals : List Arrival).
        settings.phi * counted arrivals ≤ 1000 * count_of item arrivals) heavy) in
        list_law.listed_exactly item ∙ rw (lt-ltb item settings.universe known, yes)

    light_not_in_list : (item : ℕ)
        → 1000 * count_of item state.accepted
        < (settings.phi - settings.epsilon) * counted state.accepted
        → contains item listed ≡ false
    light_not_in_list item light =
        let no : is_listed settings c item ≡ false =
        tracks.light_unlisted item
        (back (λ (arrivals : List Arrival).
        1000 * count_of item arrivals
        < (settings.phi - settings.epsilon) * counted arrivals) light) in
        list_law.listed_exactly item ∙ rw no (and_false (ltb item settings.universe))

    -- With places enough it is accepted.
    long_enough : length listed ≤ length before → answer.refusal ≡ no_refusal
    long_enough places = refusal_is ∙ rw (le-ltb (length before) (length listed) places)

    size : ListSize settings run
    size = demands_over_runs.list_size settings state.accepted passes

    -- The claim on the list.
    pub list_right : ListRight settings state before after answer
    list_right = record {
      enough_places = long_enough;
      too_few_places = λ few.
          refusal_is ∙ rw (lt-ltb (length before) (length listed) few);
      list_is = list_is;
      heavy_listed = λ accepts item known some heavy.
          of_list (λ (items : List ℕ). contains item items ≡ true) accepts
          (heavy_in_list item known some heavy);
      light_unlisted = λ accepts item light.
          of_list (λ (items : List ℕ). contains item items ≡ false) accepts
          (light_not_in_list item light);
      listed_firm = λ accepts item holds.
          over (FirmShare settings item)
          (listed_firm settings passes state.accepted item
          (sym (ap (contains item) (list_is accepts)) ∙ holds));
      nothing_listed = λ none.
          omega (arith, few_listed, ap length (before_draws none).nothing_listed);
      rising = λ accepts.
          of_list (λ (items : List ℕ).
          (i : ℕ) → i + 1 < length items → get_or items i 0 < get_or items (i + 1) 0) accepts
          list_law.rising;
      shares =
          of_count (needed_side settings c) (2000 * counted state.accepted)
          (over (λ (arrivals : List Arrival).
          length listed * needed_side settings c ≤ 2000 * counted arrivals) size.shares);
      shares_of_all =
          of_count ((2 * settings.phi - settings.epsilon) * (3000 - settings.epsilon)) 6000000
          size.shares_of_all;
      never_too_short = λ places. long_enough (omega (arith, size.at_most, places));
      thousand_places = λ places. long_enough (omega (arith, size.at_most_thousand, places));
    }
