-- The batch call at the edge: what it hands back where a log is too short or a draw is refused, and
-- where it is refused when it starts. (What it is made of stands in crate `model`'s specs/Edges.)
use Rattle.std.specs.Prelude.{◌≡◌, List, [], ◌∷◌, ℕ, replicate}
use Rattle.model.specs.declared.Arrival.{Arrival}
use Rattle.model.specs.NetworkMemory.{fresh_sites}
use Rattle.model.specs.Held.{held_by}
use Rattle.model.specs.Instances.{settings_a, draw, draws}
use Rattle.model.specs.TouchInstances.{touch}
use Rattle.model.specs.Edges.Inputs.{fresh_numbers}
use Rattle.model.specs.Edges.Networks.{stopped_draws}
use Rattle.tracker.specs.Batch.{BatchCall, log_room, start_refusal, batch_in, unless_refused, sites_after}

-- Settings A on a fresh network that has counted 7 messages of each site: these draws, site memory
-- of so many numbers, a log of so many.
abbrev pub call_with : List Arrival → ℕ → ℕ → BatchCall
call_with arrivals numbers places = record {
  settings = settings_a;
  held = held_by (record { records = fresh_sites.records; messages = replicate 32 7 }) fresh_numbers
      (replicate numbers 0) (replicate 1034 0);
  arrivals = arrivals;
  log = replicate places 0;
}

-- The number that a call answers, and how many draws it accepted.
abbrev pub refusal_of : BatchCall → ℕ
refusal_of call = unless_refused call (batch_in call).refusal (start_refusal call)

abbrev pub accepted_of : BatchCall → ℕ
accepted_of call = unless_refused call (batch_in call).accepted 0

pub record BatchCallEdges : Type 0 where
  -- a record of the log is four numbers: 25 records need 100, and 99 hold 24
  pub log_99 : log_room (replicate 99 0) ≡ 24
  pub log_100 : log_room (replicate 100 0) ≡ 25
  pub one_fits : refusal_of (call_with (draws 1) 1048 100) ≡ 0
  pub one_lacks : refusal_of (call_with (draws 1) 1048 99) ≡ 14
  -- two draws of five messages each leave 20 of 30 records
  pub third_lacks : refusal_of (call_with (draws 3) 1048 120) ≡ 14
  pub two_accepted : accepted_of (call_with (draws 3) 1048 120) ≡ 2
  -- the count of site 0 grows by what was written, 7 and 10; counts 1 to 31 stay
  pub counted : (sites_after (call_with (draws 3) 1048 120)).messages ≡ 17 ∷ replicate 31 7
  -- a refused draw after an accepted one
  pub stopped : refusal_of (call_with stopped_draws 1048 400) ≡ 6
  pub stopped_accepted : accepted_of (call_with stopped_draws 1048 400) ≡ 1
  -- request N2: touches are accepted and counted with no log, and change nothing
  pub touches : refusal_of (call_with (touch ∷ touch ∷ []) 1048 0) ≡ 0
  pub touches_accepted : accepted_of (call_with (touch ∷ touch ∷ []) 1048 0) ≡ 2
  pub touches_unlogged : (sites_after (call_with (touch ∷ touch ∷ []) 1048 0)).messages
      ≡ replicate 32 7
  -- between two draws with a log for one: 14 before the second draw
  pub between : refusal_of (call_with (draw ∷ touch ∷ draw ∷ []) 1048 100) ≡ 14
  pub between_accepted : accepted_of (call_with (draw ∷ touch ∷ draw ∷ []) 1048 100) ≡ 2
  -- refused when it starts, with draws that would be refused as well
  pub four_first : refusal_of (call_with stopped_draws 1047 0) ≡ 4
  pub none_accepted : accepted_of (call_with (draws 1) 1047 400) ≡ 0
