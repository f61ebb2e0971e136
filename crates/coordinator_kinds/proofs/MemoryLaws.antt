-- Laws of the coordinator in lent memory (document 01, "Desk": a number for each code and 1024
-- class counts): what a step writes, and the coordinator read back from what was written.
--
--   memory_kept, memory_item, memory_value   the memory after a step, as the code writes it
--   estimates_long, histogram_long           the size of what is read
--   written_coordinator                      reading back what was written
use Rattle.std.specs.Prelude.{if◌then◌else◌}
use mathlib.Core.Path.{◌≡◌, refl, sym}
use mathlib.Core.Bool.{Bool, true, false}
use mathlib.Core.List.{List}
use Prim.Native.Nat.{ℕ, ◌+◌, ◌≤◌, ◌<◌}
use borrow.Author.Tests.{eqb-true}
use lib.Dec.{eqb}
use native.Mathlib.Omega.{arith}
use lib.ListN.{length, get_or, set, take, drop, length-drop}
use lib.Seq.{get_or-take, get_or-drop, length-take-le}
use Rattle.laws.proofs.Overwrite.{overwritten_kept, overwritten_set_first, overwritten_set_second, first_written, second_written}
use Rattle.model.specs.declared.Settings.{Settings}
use Rattle.model.specs.declared.Message.{Message}
use Rattle.model.specs.declared.CoordinatorRecord.{CoordinatorRecord}
use Rattle.model.specs.Limits.{value_count}
use Rattle.model.specs.Site.{one_more_at}
use Rattle.model.specs.Coordinator.{Coordinator, takes_item_report, takes_count_report}
use Rattle.model.specs.CoordinatorMemory.{coordinator_in, coordinator_record, coordinator_memory, coordinator_words}

module _ (settings : Settings) (numbers : CoordinatorRecord) (memory : List ℕ)
    (long : coordinator_words settings ≤ length memory) where
  -- A coordinator as it was read, written back.
  pub memory_kept : memory ≡ coordinator_memory (coordinator_in settings numbers memory) memory
  memory_kept = sym (overwritten_kept settings.universe value_count memory long)

  -- A kind 1 sets its item's number.
  pub memory_item : (m : Message)
      → m.a < settings.universe
      → set memory m.a (get_or memory m.a 0 + m.b)
      ≡ coordinator_memory (takes_item_report (coordinator_in settings numbers memory)
      m).coordinator
      memory
  memory_item m known =
      rw (get_or-take settings.universe memory m.a 0 known)
      (sym (overwritten_set_first settings.universe value_count memory long m.a _ known))

  -- A kind 2 sets its value's count while the threshold is 1.
  pub memory_value : (m : Message)
      → (numbers.threshold ≡ 1 → m.b < value_count)
      → (if eqb numbers.threshold 1
      then one_more_at memory (settings.universe + m.b) else memory)
      ≡ coordinator_memory (takes_count_report settings (coordinator_in settings numbers memory) m
      ).coordinator memory
  memory_value m known = by_threshold (eqb numbers.threshold 1) refl
    where
      by_threshold : (is_one : Bool)
          → eqb numbers.threshold 1 ≡ is_one
          → (if eqb numbers.threshold 1
          then one_more_at memory (settings.universe + m.b) else memory)
          ≡ coordinator_memory (takes_count_report settings
          (coordinator_in settings numbers memory) m
          ).coordinator memory
      by_threshold true test =
          let within = known (eqb-true numbers.threshold 1 test) in
          rw (
            test,
            get_or-take value_count (drop settings.universe memory) m.b 0 within,
            get_or-drop,
          )
          (sym (overwritten_set_second settings.universe value_count memory long m.b _ within))
      by_threshold false test = rw test memory_kept

-- ---- Reading

-- What is read has as many estimates and value counts as the settings say.
pub estimates_long : (settings : Settings) (numbers : CoordinatorRecord) (memory : List ℕ)
    → coordinator_words settings ≤ length memory
    → length (coordinator_in settings numbers memory).estimates ≡ settings.universe
estimates_long settings numbers memory long =
    length-take-le settings.universe memory (omega arith)

pub histogram_long : (settings : Settings) (numbers : CoordinatorRecord) (memory : List ℕ)
    → coordinator_words settings ≤ length memory
    → length (coordinator_in settings numbers memory).histogram ≡ value_count
histogram_long settings numbers memory long =
    let back : value_count ≤ length (drop settings.universe memory) =
    rw (length-drop settings.universe memory) (omega arith) in
    length-take-le value_count (drop settings.universe memory) back

-- A coordinator with as many estimates and value counts as the settings say, read back.
pub written_coordinator : (settings : Settings) (c : Coordinator) (memory : List ℕ)
    → length c.estimates ≡ settings.universe
    → length c.histogram ≡ value_count
    → coordinator_in settings (coordinator_record c) (coordinator_memory c memory) ≡ c
written_coordinator settings c memory estimates_long histogram_long =
    let estimates : take settings.universe (coordinator_memory c memory) ≡ c.estimates =
    rw (← estimates_long) (first_written c.estimates c.histogram memory) in
    let histogram : take value_count (drop settings.universe (coordinator_memory c memory)) ≡
    c.histogram =
    rw (← estimates_long, ← histogram_long) (second_written c.estimates c.histogram memory) in
    rw (estimates, histogram)
