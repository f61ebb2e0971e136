-- Runs cut into parts: a run goes on where its front ended, touches and refused arrivals leave no
-- trace, and every front of the accepted arrivals is accepted whole.
--
--   newly_accepted settings run arrivals  those of the arrivals that the run accepts, in order
--   run_from_append, run_from_accepted    a run over two lists; a run over what it accepts
--   Extends, run_from_extends             what was accepted and sent stays
--   run_from_draws, run_drawn             a run over the draws alone; what it accepts are draws
--   runs_cut                              the claims on cuts, of every list
use Rattle.std.specs.Prelude.{if◌then◌else◌}
use mathlib.Core.Path.{◌≡◌, refl, sym, ap, ◌∙◌}
use mathlib.Core.Bool.{Bool, true, false}
use mathlib.Core.List.{List, [], ◌∷◌, ◌++◌, append-nil, append_assoc}
use Prim.Native.Nat.{ℕ, zero, suc}
use lib.ListN.{take}
use lib.Seq.{take-append_seam}
use Rattle.model.specs.declared.Settings.{Settings}
use Rattle.model.specs.declared.Arrival.{Arrival}
use Rattle.model.specs.declared.Message.{Message}
use Rattle.model.specs.Draws.{is_draw, draws_of}
use Rattle.model.specs.Network.{after_arrival}
use Rattle.model.specs.Runs.{is_taken_in, Run, fresh_run, run_one, run_from, run_of}
use Rattle.model.specs.Cuts.{Cuts}
use Rattle.model.proofs.Touches.DrawLaws.{taken_drawn, touch_left}
use Rattle.model.proofs.Touches.DrawLists.{draws_of_draw, draws_of_append}

-- Whether a run accepts an arrival as a draw.
abbrev accepts : Settings → Run → Arrival → Bool
accepts settings run arrival = is_taken_in settings run.network arrival

-- Those of the arrivals that the run accepts, one after another.
pub newly_accepted : Settings → Run → List Arrival → List Arrival
newly_accepted settings run [] = []
newly_accepted settings run (arrival ∷ arrivals) =
    (if is_taken_in settings run.network arrival then arrival ∷ [] else [])
    ++ newly_accepted settings (run_one settings run arrival) arrivals

module _ (settings : Settings) where
  -- A run over two lists goes on where the first ended.
  pub run_from_append : (run : Run) (front later : List Arrival)
      → run_from settings run (front ++ later)
      ≡ run_from settings (run_from settings run front) later
  run_from_append run [] later = refl
  run_from_append run (arrival ∷ front) later =
      run_from_append (run_one settings run arrival) front later

  -- ---- What was accepted and sent stays

  -- All that was accepted and sent stays, in front.
  pub record Extends (run after : Run) : Type 0 where
    pub later_accepted : List Arrival
    pub later_messages : List Message
    pub accepted_are : after.accepted ≡ run.accepted ++ later_accepted
    pub messages_are : after.messages ≡ run.messages ++ later_messages

  extends_self : (run : Run) → Extends run run
  extends_self run = record {
    later_accepted = [];
    later_messages = [];
    accepted_are = sym (append-nil run.accepted);
    messages_are = sym (append-nil run.messages);
  }

  extends_one : (run : Run) (arrival : Arrival) → Extends run (run_one settings run arrival)
  extends_one run arrival = by_test (accepts settings run arrival) refl
    where
      by_test : (taken : Bool) → accepts settings run arrival ≡ taken
          → Extends run (run_one settings run arrival)
      by_test true taken = rw taken (record {
        later_accepted = arrival ∷ [];
        later_messages = (after_arrival settings run.network arrival).messages;
        accepted_are = refl;
        messages_are = refl;
      })
      by_test false refused = rw refused (extends_self run)

  extends_both : {run middle after : Run}
      → Extends run middle
      → Extends middle after
      → Extends run after
  extends_both {run} first second = record {
    later_accepted = first.later_accepted ++ second.later_accepted;
    later_messages = first.later_messages ++ second.later_messages;
    accepted_are =
        second.accepted_are
        ∙ (ap {B = List Arrival} (λ xs. xs ++ second.later_accepted) first.accepted_are
        ∙ append_assoc run.accepted first.later_accepted second.later_accepted);
    messages_are =
        second.messages_are
        ∙ (ap {B = List Message} (λ xs. xs ++ second.later_messages) first.messages_are
        ∙ append_assoc run.messages first.later_messages second.later_messages);
  }

  -- A run extends the run that it started from.
  pub run_from_extends : (run : Run) (later : List Arrival)
      → Extends run (run_from settings run later)
  run_from_extends run [] = extends_self run
  run_from_extends run (arrival ∷ later) =
      extends_both (extends_one run arrival)
      (run_from_extends (run_one settings run arrival) later)

  -- ---- What a run accepts

  accepted_newly : (run : Run) (arrivals : List Arrival)
      → (run_from settings run arrivals).accepted
      ≡ run.accepted ++ newly_accepted settings run arrivals
  unfolding newly_accepted
  accepted_newly run [] = sym (append-nil run.accepted)
  accepted_newly run (arrival ∷ arrivals) =
      by_test (accepts settings run arrival) refl
      (accepted_newly (run_one settings run arrival) arrivals)
    where
      by_test : (taken : Bool) → accepts settings run arrival ≡ taken
          → (run_from settings (run_one settings run arrival) arrivals).accepted
          ≡ (run_one settings run arrival).accepted
          ++ newly_accepted settings (run_one settings run arrival) arrivals
          → (run_from settings (run_one settings run arrival) arrivals).accepted
          ≡ run.accepted
          ++ ((if accepts settings run arrival then arrival ∷ [] else [])
          ++ newly_accepted settings (run_one settings run arrival) arrivals)
      by_test true taken later =
          rw taken (rw taken at later ∙ append_assoc run.accepted (arrival ∷ []) _)
      by_test false refused later = rw refused (rw refused at later)

  -- A run over what it accepts is the same run.
  pub run_from_accepted : (run : Run) (arrivals : List Arrival)
      → run_from settings run (newly_accepted settings run arrivals)
      ≡ run_from settings run arrivals
  unfolding newly_accepted
  run_from_accepted run [] = refl
  run_from_accepted run (arrival ∷ arrivals) =
      by_test (accepts settings run arrival) refl
      (run_from_accepted (run_one settings run arrival) arrivals)
    where
      by_test : (taken : Bool) → accepts settings run arrival ≡ taken
          → run_from settings (run_one settings run arrival)
          (newly_accepted settings (run_one settings run arrival) arrivals)
          ≡ run_from settings (run_one settings run arrival) arrivals
          → run_from settings run
          ((if taken then arrival ∷ [] else [])
          ++ newly_accepted settings (run_one settings run arrival) arrivals)
          ≡ run_from settings (run_one settings run arrival) arrivals
      by_test true taken later = later
      by_test false refused later = rw refused (rw refused at later)

  newly_cons : (run : Run) (arrival : Arrival) (arrivals : List Arrival)
      → accepts settings run arrival ≡ true
      → newly_accepted settings run (arrival ∷ arrivals)
      ≡ arrival ∷ newly_accepted settings (run_one settings run arrival) arrivals
  unfolding newly_accepted
  newly_cons run arrival arrivals taken = rw taken

  -- Every front of what a run accepts is accepted whole.
  newly_front : (run : Run) (n : ℕ) (arrivals : List Arrival)
      → newly_accepted settings run (take n (newly_accepted settings run arrivals))
      ≡ take n (newly_accepted settings run arrivals)
  unfolding newly_accepted
  newly_front run zero arrivals = refl
  newly_front run (suc n) [] = refl
  newly_front run (suc n) (arrival ∷ arrivals) =
      by_test (accepts settings run arrival) refl
      (newly_front (run_one settings run arrival) n arrivals)
      (newly_front (run_one settings run arrival) (suc n) arrivals)
    where
      by_test : (taken : Bool) → accepts settings run arrival ≡ taken
          → newly_accepted settings (run_one settings run arrival)
          (take n (newly_accepted settings (run_one settings run arrival) arrivals))
          ≡ take n (newly_accepted settings (run_one settings run arrival) arrivals)
          → newly_accepted settings (run_one settings run arrival)
          (take (suc n) (newly_accepted settings (run_one settings run arrival) arrivals))
          ≡ take (suc n) (newly_accepted settings (run_one settings run arrival) arrivals)
          → newly_accepted settings run
          (take (suc n) ((if taken then arrival ∷ [] else [])
          ++ newly_accepted settings (run_one settings run arrival) arrivals))
          ≡ take (suc n) ((if taken then arrival ∷ [] else [])
          ++ newly_accepted settings (run_one settings run arrival) arrivals)
      by_test true taken front longer =
          newly_cons run arrival
          (take n (newly_accepted settings (run_one settings run arrival) arrivals)) taken
          ∙ ap {B = List Arrival} (λ xs. arrival ∷ xs) front
      by_test false refused front longer = rw refused (rw refused at longer)

  -- ---- Touches

  -- A run over the draws of a list is the run over the list.
  pub run_from_draws : (run : Run) (arrivals : List Arrival)
      → run_from settings run (draws_of arrivals) ≡ run_from settings run arrivals
  run_from_draws run [] = refl
  run_from_draws run (arrival ∷ arrivals) =
      by_draw (is_draw arrival) refl (λ next. run_from_draws next arrivals)
    where
      by_draw : (drawn : Bool) → is_draw arrival ≡ drawn
          → ((next : Run)
          → run_from settings next (draws_of arrivals) ≡ run_from settings next arrivals)
          → run_from settings run (draws_of (arrival ∷ arrivals))
          ≡ run_from settings (run_one settings run arrival) arrivals
      by_draw true is_draw_lem later = rw is_draw_lem (later (run_one settings run arrival))
      by_draw false no_draw later =
          rw (no_draw, touch_left arrival _ no_draw) (later run)

  drawn_one : (run : Run) (arrival : Arrival)
      → draws_of run.accepted ≡ run.accepted
      → draws_of (run_one settings run arrival).accepted ≡ (run_one settings run arrival).accepted
  drawn_one run arrival drawn = by_test (accepts settings run arrival) refl
    where
      by_test : (taken : Bool) → accepts settings run arrival ≡ taken
          → draws_of (run_one settings run arrival).accepted
          ≡ (run_one settings run arrival).accepted
      by_test true taken =
          let one = draws_of_draw arrival [] (taken_drawn arrival _ taken) in
          rw taken (draws_of_append run.accepted (arrival ∷ []) ∙ rw (drawn, one))
      by_test false left = rw left drawn

  drawn_from : (run : Run) (arrivals : List Arrival)
      → draws_of run.accepted ≡ run.accepted
      → draws_of (run_from settings run arrivals).accepted
      ≡ (run_from settings run arrivals).accepted
  drawn_from run [] drawn = drawn
  drawn_from run (arrival ∷ arrivals) drawn =
      drawn_from (run_one settings run arrival) arrivals (drawn_one run arrival drawn)

  -- Whatever a run accepts is a draw.
  pub run_drawn : (arrivals : List Arrival)
      → draws_of (run_of settings arrivals).accepted ≡ (run_of settings arrivals).accepted
  run_drawn arrivals = drawn_from (fresh_run settings) arrivals refl

  -- ---- The claims

  -- The claims on cuts, of every list of arrivals.
  pub runs_cut : (arrivals : List Arrival) → Cuts settings arrivals
  runs_cut arrivals = record {
    in_parts = λ later. run_from_append (fresh_run settings) arrivals later;
    accepted_stay = λ later.
        let extends = run_from_extends (run_of settings arrivals) later in
        rw (run_from_append (fresh_run settings) arrivals later, extends.accepted_are)
        (take-append_seam (run_of settings arrivals).accepted extends.later_accepted);
    messages_stay = λ later.
        let extends = run_from_extends (run_of settings arrivals) later in
        rw (run_from_append (fresh_run settings) arrivals later, extends.messages_are)
        (take-append_seam (run_of settings arrivals).messages extends.later_messages);
    touches_change_nothing = run_from_draws (fresh_run settings) arrivals;
    accepted_drawn = run_drawn arrivals;
    refused_change_nothing =
        ap (run_of settings) (accepted_newly (fresh_run settings) arrivals)
        ∙ run_from_accepted (fresh_run settings) arrivals;
    fronts_accepted = λ n.
        rw (accepted_newly (fresh_run settings) arrivals)
        (accepted_newly (fresh_run settings) _ ∙ newly_front (fresh_run settings) n arrivals);
  }
