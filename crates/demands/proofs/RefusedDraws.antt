-- A touch, and a draw that is refused for its own sake, by 5, 6, 7 or 8, leave no trace in the
-- rules' run over the draws accepted: refused by a single call or by the batch that it stops, at
-- rest or in mid-delivery.
--
--   touch_no_trace             a single touch
--   draw_no_trace              a single draw
--   batch_no_trace             the arrival that stops a batch, at rest
--   touches_no_trace           those that a batch accepts which takes no draw, at any time
--   refused_batch_no_trace     and the arrival that stops it
use mathlib.Core.Path.{◌≡◌, refl, sym, ap, ◌∙◌, subst}
use mathlib.Core.Bool.{Bool, true, false, false≢true, ◌||◌}
use mathlib.Core.List.{List, [], ◌∷◌}
use Prim.Native.Nat.{ℕ, zero, suc, ◌≤◌, ◌<◌}
use native.Mathlib.Omega.{arith}
use lib.Dec.{eqb, leb}
use lib.ListN.{length, take, drop, length-take}
use borrow.Author.Tests.{eqb-true, eqb-false, leb-true, leb-false, lt-ltb}
use Rattle.model.specs.declared.Settings.{Settings}
use Rattle.model.specs.declared.Arrival.{Arrival}
use Rattle.model.specs.Choice.{is_zero}
use Rattle.model.specs.Refusals.{no_refusal, memory_too_short, unknown_site}
use Rattle.model.specs.Settings.{settings_refusal}
use Rattle.model.specs.Draws.{is_draw, draws_of}
use Rattle.model.specs.Site.{address_refusal, line_refusal}
use Rattle.model.specs.SiteMemory.{site_words}
use Rattle.model.specs.Network.{Network, site_at}
use Rattle.model.specs.Runs.{Run, with_arrival, is_taken_in, run_one, run_from, run_of, Batch, batch_of}
use Rattle.model.proofs.Runs.RunLaws.{run_from_draws}
use Rattle.model.proofs.Touches.DrawLaws.{line_known, touch_left, refused_left}
use Rattle.model.proofs.Touches.DrawLists.{draws_of_draw, draws_of_touch}
use Rattle.model.proofs.Soundness.ConsistentNetwork.{passes_of}
use Rattle.site.specs.Calls.{Observation}
use Rattle.site.specs.Calls as SiteCalls
use Rattle.tracker.specs.Batch.{BatchCall, BatchHeld, BatchSays, start_refusal, batch_in, log_room}
use Rattle.history.specs.State.{Held, State, AtRest, network_of, record_at, site_start, site_part, fronts, lending}
use Rattle.history.specs.Steps.{batch_call}
use Rattle.history.proofs.Answers.{accepted_choice, refused_choice}
use Rattle.history.proofs.BatchRuns.{run_at}
use Rattle.history.proofs.NetworkFronts.{network_front}
use Rattle.history.proofs.Invariant.{StateOk}
use Rattle.history.proofs.Accepted.{held_sound}
use Rattle.history.proofs.LentBatch.{LentBatch, nothing_changed, as_all_lent, lent_batch}
use Rattle.history.proofs.BatchedState as Batched
use Rattle.demands.specs.Given.{of_arrival}
use Rattle.demands.proofs.AcceptedClaims.{refused_by_rules}
use Rattle.demands.proofs.BatchStops.{batch_stops, not_of_arrival}
use Rattle.demands.proofs.SiteArrivals.{taken_same}

module _ {settings : Settings} (passes : settings_refusal settings ≡ no_refusal)
    {n : ℕ} (before : State)
    (ok : StateOk settings n before) where
  abbrev held : Held
  held = before.held

  abbrev run : Run
  run = run_of settings before.accepted

  -- An arrival that the rules do not take leaves no trace.
  no_trace : (arrival : Arrival)
      → is_taken_in settings run.network arrival ≡ false
      → run_from settings run (arrival ∷ []) ≡ run
  no_trace arrival left = rw left

  -- And so does one that the network that is held does not take, in mid-delivery too.
  no_trace_held : (arrival : Arrival)
      → is_taken_in settings (network_of settings held) arrival ≡ false
      → run_from settings run (arrival ∷ []) ≡ run
  no_trace_held arrival left =
      no_trace arrival (sym (taken_same passes ok.standing arrival) ∙ left)

  -- A refusal that is of an arrival is none.
  some_refusal : (refusal : ℕ) → of_arrival refusal ≡ true → refusal ≡ no_refusal → ⊥
  some_refusal refusal of none = false≢true (sym (ap of_arrival none) ∙ of)

  -- ---- A single touch, or a single draw that is refused

  pub touch_no_trace : (arrival : Arrival)
      → is_draw arrival ≡ false
      → run_from settings run (arrival ∷ []) ≡ run
  touch_no_trace arrival no_draw =
      no_trace arrival (touch_left arrival _ no_draw)

  module _ (which : ℕ) (arrival : Arrival) (words : ℕ) (part : List ℕ) (answer : Observation)
      (known : which < settings.sites)
      (own : (eqb which arrival.site || leb settings.sites arrival.site) ≡ true)
      (says : SiteCalls.ObserveSays settings (record_at held which) arrival
      (site_part settings held which words) part answer)
      (of : of_arrival answer.refusal ≡ true) where
    -- Its memory was long enough: 4 is not of an arrival.
    enough : site_words settings ≤ words
    enough = by_length (leb (site_words settings) words) refl
      where
        by_length : (test : Bool) → leb (site_words settings) words ≡ test
            → site_words settings ≤ words
        by_length true long = leb-true (site_words settings) words long
        by_length false short =
            let given = site_part settings held which words in
            let few : length given < site_words settings =
            omega (
              arith,
              length-take words (drop (site_start settings which) held.site_memory),
              leb-false (site_words settings) words short,
            ) in
            let four : answer.refusal ≡ memory_too_short =
            says.refusal ∙ rw (passes, lt-ltb (length given) (site_words settings) few) in
            absurd (false≢true (sym (ap of_arrival four) ∙ of))

    by_rules : answer.refusal
        ≡ line_refusal settings (site_at (network_of settings held) which) arrival
    by_rules =
        says.refusal ∙ (refused_by_rules passes ok).arrival which words arrival known enough

    -- At its own site; or it names none, and is refused by 5.
    pub draw_no_trace : run_from settings run (arrival ∷ []) ≡ run
    draw_no_trace = by_name (eqb which arrival.site) refl own
      where
        by_name : (test : Bool) → eqb which arrival.site ≡ test
            → (test || leb settings.sites arrival.site) ≡ true
            → run_from settings run (arrival ∷ []) ≡ run
        by_name true same _ =
            no_trace_held arrival
            (refused_left settings (network_of settings held) arrival (λ none.
            some_refusal answer.refusal of
            (by_rules
            ∙ ap (λ (j : ℕ). line_refusal settings (site_at (network_of settings held) j) arrival)
            (eqb-true which arrival.site same)
            ∙ none)))
        by_name false other unknown =
            no_trace arrival
            (refused_left settings run.network arrival (λ none.
            let five : address_refusal settings arrival ≡ unknown_site = rw unknown in
            let same : ◌≡◌ {A = ℕ} unknown_site no_refusal =
            sym five
            ∙ line_known settings (site_at run.network arrival.site) arrival none in
            omega arith))

  -- ---- A batch

  -- A batch call on so much of both memories, at rest: the arrival that stops it leaves no trace.
  pub batch_no_trace : (site_count coordinator_count : ℕ) (arrivals : List Arrival) (log : List ℕ)
      (answer : BatchHeld)
      → AtRest before
      → BatchSays
      (batch_call settings (lending held (fronts site_count coordinator_count)) arrivals log) answer
      → of_arrival answer.refusal ≡ true
      → run_from settings run (take (suc answer.accepted) arrivals)
      ≡ run_from settings run (take answer.accepted arrivals)
  batch_no_trace site_count coordinator_count arrivals log answer rest says of =
      by_case
      (lent_batch passes before ok rest site_count coordinator_count arrivals log answer says)
    where
      by_case : LentBatch passes before ok rest site_count coordinator_count arrivals log answer
          says
          → run_from settings run (take (suc answer.accepted) arrivals)
          ≡ run_from settings run (take answer.accepted arrivals)
      by_case (nothing_changed refused same) =
          let is = says.refusal ∙ refused_choice _ _ _ refused in
          absurd (false≢true
          (sym (not_of_arrival
          (batch_call settings (lending held (fronts site_count coordinator_count)) arrivals log)
          passes refused)
          ∙ ap of_arrival (sym is)
          ∙ of))
      by_case (as_all_lent all) =
          let none = Batched.none passes before ok rest arrivals log in
          let model : batch_of settings (log_room log) (network_of settings held) arrivals
          ≡ batch_of settings (log_room log) run.network arrivals =
          ap (λ (network : Network). batch_of settings (log_room log) network arrivals)
          (Batched.rest passes before ok rest arrivals log).network_is in
          let refusal = all.refusal ∙ accepted_choice _ _ _ none
          ∙ ap (λ (b : Batch). b.refusal) model in
          let taken = all.accepted ∙ accepted_choice _ _ _ none
          ∙ ap (λ (b : Batch). b.accepted) model in
          subst (λ (m : ℕ).
          run_from settings run (take (suc m) arrivals) ≡ run_from settings run (take m arrivals))
          (sym taken)
          ((batch_stops settings (log_room log) arrivals run).no_trace
          (ap of_arrival (sym refusal) ∙ of))

  -- A run that has accepted nothing and stands where the network that is held does.
  abbrev there : Run
  there = run_at (network_of settings held)

  -- An arrival that leaves no trace there was not taken.
  left_there : (arrival : Arrival)
      → run_one settings there arrival ≡ there
      → is_taken_in settings (network_of settings held) arrival ≡ false
  left_there arrival alone = by_test (is_taken_in settings (network_of settings held) arrival) refl
    where
      by_test : (taken : Bool) → is_taken_in settings (network_of settings held) arrival ≡ taken
          → is_taken_in settings (network_of settings held) arrival ≡ false
      by_test true taken =
          let one : run_one settings there arrival ≡ with_arrival settings there arrival =
          rw taken in
          let longer : ◌≡◌ {A = ℕ} 1 0 = ap (λ (r : Run). length r.accepted) (sym one ∙ alone) in
          absurd (omega arith)
      by_test false left = left

  -- Touches, and then an arrival that leaves no trace.
  front_no_trace : (m : ℕ) (arrivals : List Arrival)
      → draws_of (take m arrivals) ≡ []
      → run_from settings there (take (suc m) arrivals)
      ≡ run_from settings there (take m arrivals)
      → run_from settings run (take (suc m) arrivals) ≡ run
  front_no_trace m [] no_draws same = refl
  front_no_trace zero (arrival ∷ arrivals) no_draws same =
      no_trace_held arrival (left_there arrival same)
  front_no_trace (suc m) (arrival ∷ arrivals) no_draws same =
      by_draw (is_draw arrival) refl (front_no_trace m arrivals)
    where
      by_draw : (drawn : Bool) → is_draw arrival ≡ drawn
          → (draws_of (take m arrivals) ≡ []
          → run_from settings there (take (suc m) arrivals)
          ≡ run_from settings there (take m arrivals)
          → run_from settings run (take (suc m) arrivals) ≡ run)
          → run_from settings run (arrival ∷ take (suc m) arrivals) ≡ run
      by_draw true is_draw_lem later =
          let longer : suc (length (draws_of (take m arrivals))) ≡ 0 =
          ap length (sym (draws_of_draw arrival (take m arrivals) is_draw_lem) ∙ no_draws) in
          absurd (omega (arith, longer))
      by_draw false no_draw later =
          let here : run_one settings run arrival ≡ run = touch_no_trace arrival no_draw in
          let gone : run_one settings there arrival ≡ there =
          rw (touch_left arrival _ no_draw) in
          ap (λ (r : Run). run_from settings r (take (suc m) arrivals)) here
          ∙ later (sym (draws_of_touch arrival (take m arrivals) no_draw) ∙ no_draws)
          (ap (λ (r : Run). run_from settings r (take (suc m) arrivals)) (sym gone)
          ∙ same
          ∙ ap (λ (r : Run). run_from settings r (take m arrivals)) gone)

  -- The arrivals that a batch accepted, if it took no draw.
  pub touches_no_trace : (arrivals : List Arrival)
      → draws_of arrivals ≡ []
      → run_from settings run arrivals ≡ run
  touches_no_trace arrivals no_draws =
      sym (run_from_draws settings run arrivals) ∙ ap (run_from settings run) no_draws

  -- A batch call that accepts no draw, and the arrival that stops it.
  pub refused_batch_no_trace : (site_count coordinator_count : ℕ) (arrivals : List Arrival)
      (log : List ℕ) (answer : BatchHeld)
      → BatchSays
      (batch_call settings (lending held (fronts site_count coordinator_count)) arrivals log) answer
      → draws_of (take answer.accepted arrivals) ≡ []
      → of_arrival answer.refusal ≡ true
      → run_from settings run (take (suc answer.accepted) arrivals) ≡ run
  refused_batch_no_trace site_count coordinator_count arrivals log answer says nothing of =
      by_start (is_zero (start_refusal call)) refl
    where
      call : BatchCall
      call = batch_call settings (lending held (fronts site_count coordinator_count)) arrivals log

      by_start : (none : Bool) → is_zero (start_refusal call) ≡ none
          → run_from settings run (take (suc answer.accepted) arrivals) ≡ run
      by_start true none =
          let accepts = eqb-true (start_refusal call) 0 none in
          let long = passes_of settings held.sites held.coordinator
          (take site_count held.site_memory) (take coordinator_count held.coordinator_memory)
          accepts in
          let model : batch_in call
          ≡ batch_of settings (log_room log) (network_of settings held) arrivals =
          ap (λ (network : Network). batch_of settings (log_room log) network arrivals)
          (network_front passes held ok.lengths (held_sound passes ok).sites_sound site_count
          coordinator_count long.sites_long long.coordinator_long) in
          let refusal = says.refusal ∙ accepted_choice _ _ _ accepts
          ∙ ap (λ (b : Batch). b.refusal) model in
          let taken = says.accepted ∙ accepted_choice _ _ _ accepts
          ∙ ap (λ (b : Batch). b.accepted) model in
          front_no_trace answer.accepted arrivals nothing
          (subst (λ (m : ℕ).
          run_from settings there (take (suc m) arrivals)
          ≡ run_from settings there (take m arrivals)) (sym taken)
          ((batch_stops settings (log_room log) arrivals there).no_trace
          (ap of_arrival (sym refusal) ∙ of)))
      by_start false some =
          let refused = eqb-false (start_refusal call) 0 some in
          let is = says.refusal ∙ refused_choice _ _ _ refused in
          absurd (false≢true
          (sym (not_of_arrival call passes refused) ∙ ap of_arrival (sym is) ∙ of))
