-- A start that is not refused is within the program's limits.
--
--   Served, served      what the tests of a start leave: all within the limits
use mathlib.Core.Path.{◌≡◌}
use mathlib.Core.Bool.{◌||◌}
use Prim.Native.Nat.{ℕ, ◌≤◌}
use native.Mathlib.Omega.{arith}
use lib.Dec.{ltb}
use borrow.Author.Tests.{ltb-false}
use Rattle.laws.proofs.Tests.{neither_of_or}
use Rattle.model.specs.declared.Settings.{Settings}
use Rattle.model.specs.Refusals.{no_refusal, memory_too_short}
use Rattle.model.specs.Settings.{settings_refusal}
use Rattle.model.proofs.Thresholds.RefusalLaws.{both_accepted, passed}
use Rattle.model.specs.Transcript.{beyond_program}
use Rattle.drawtrack_start.specs.Limits.{program_sites, program_capacity, program_universe, site_room, coordinator_room}
use Rattle.drawtrack_start.specs.Start.{shorter_than_limits, start_refusal_of}

pub record Served (settings : Settings) (site_numbers coordinator_numbers : ℕ) : Type 0 where
  pub passes : settings_refusal settings ≡ no_refusal
  pub few_sites : settings.sites ≤ program_sites
  pub few_counters : settings.capacity ≤ program_capacity
  pub few_items : settings.universe ≤ program_universe
  pub sites_long : site_room ≤ site_numbers
  pub coordinator_long : coordinator_room ≤ coordinator_numbers

pub served : (line : ℕ) (settings : Settings) (bytes site_numbers coordinator_numbers : ℕ)
    → start_refusal_of line settings bytes site_numbers coordinator_numbers ≡ no_refusal
    → Served settings site_numbers coordinator_numbers
served line settings bytes site_numbers coordinator_numbers none =
    let rows = both_accepted line _ none in
    let later = both_accepted (settings_refusal settings) _ rows.later_accepted in
    let within = passed (beyond_program settings bytes) memory_too_short _ (omega arith)
    later.later_accepted in
    let long = passed (shorter_than_limits site_numbers coordinator_numbers) memory_too_short _
    (omega arith) within.later_accepted in
    let three = neither_of_or
    (ltb 4 settings.sites || ltb 100 settings.capacity || ltb 1000 settings.universe) _
    within.test_failed in
    let two = neither_of_or (ltb 4 settings.sites || ltb 100 settings.capacity) _
    three.first_false in
    let one = neither_of_or (ltb 4 settings.sites) _ two.first_false in
    let both = neither_of_or (ltb site_numbers site_room) _ long.test_failed in
    record {
      passes = later.first_accepted;
      few_sites = ltb-false 4 settings.sites one.first_false;
      few_counters = ltb-false 100 settings.capacity one.second_false;
      few_items = ltb-false 1000 settings.universe two.second_false;
      sites_long = ltb-false site_numbers site_room both.first_false;
      coordinator_long = ltb-false coordinator_numbers coordinator_room both.second_false;
    }
