-- Runs cut into parts (document 01, "Whole lists of draws").
--
--   Cuts settings arrivals     a run cut into parts, and a run of what was accepted
use Rattle.std.specs.Prelude.{◌≡◌, List, ◌++◌, ℕ, length, take}
use Rattle.model.specs.declared.Settings.{Settings}
use Rattle.model.specs.declared.Arrival.{Arrival}
use Rattle.model.specs.Draws.{draws_of}
use Rattle.model.specs.Runs.{run_from, run_of}

-- How a run over a list hangs together with runs over its parts.
pub record Cuts (settings : Settings) (arrivals : List Arrival) : Type 0 where
  -- a run goes on where its front ended
  pub in_parts : (later : List Arrival)
      → run_of settings (arrivals ++ later) ≡ run_from settings (run_of settings arrivals) later
  -- what a front accepted and sent stays, as the front of what the whole accepted and sent
  pub accepted_stay : (later : List Arrival)
      → take (length (run_of settings arrivals).accepted)
      (run_of settings (arrivals ++ later)).accepted
      ≡ (run_of settings arrivals).accepted
  pub messages_stay : (later : List Arrival)
      → take (length (run_of settings arrivals).messages)
      (run_of settings (arrivals ++ later)).messages
      ≡ (run_of settings arrivals).messages
  -- request N2: touches leave no trace, so leaving them all out gives the same run, with its
  -- network and its messages
  pub touches_change_nothing : run_of settings (draws_of arrivals) ≡ run_of settings arrivals
  -- and no accepted arrival is a touch: n is over "draws of class 1 or more"
  pub accepted_drawn : draws_of (run_of settings arrivals).accepted
      ≡ (run_of settings arrivals).accepted
  -- refused arrivals leave no trace: the run over the accepted ones is the same run
  pub refused_change_nothing : run_of settings (run_of settings arrivals).accepted
      ≡ run_of settings arrivals
  -- and every front of the accepted arrivals is itself accepted whole
  pub fronts_accepted : (n : ℕ)
      → (run_of settings (take n (run_of settings arrivals).accepted)).accepted
      ≡ take n (run_of settings arrivals).accepted
