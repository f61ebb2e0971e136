-- The list call (document 01, "Reading the desk"): what it promises, where it accepts and where it
-- refuses, and what the functions behind it ask besides what reading asks (crate
-- `coordinator_reading`).
--
--   list_refusal            the chain of tests
--   ListAnswer, list_answer   what the call comes to, from its answer
--   ListSays                   the promise
--   hitters_in, rule_holds  the heavy hitters in record and memory; the list rule of an item
--   WriteListedAsks, WriteListedSays       the pass that writes the list
use Rattle.std.specs.Prelude.{◌≡◌, Bool, ◌&&◌, List, ℕ, Result, Ok, Err, ◌*◌, ◌≤◌, leb, ltb, length, if◌then◌else◌}
use Rattle.model.specs.declared.Settings.{Settings}
use Rattle.model.specs.declared.CoordinatorRecord.{CoordinatorRecord}
use Rattle.model.specs.Choice.{is_zero}
use Rattle.model.specs.declared.Refusal.{Refusal}
use Rattle.model.specs.Refusals.{when, ◌or_else◌, no_refusal, list_too_short, number_of}
use Rattle.model.specs.SiteMemory.{overwrite}
use Rattle.model.specs.CoordinatorMemory.{coordinator_in, coordinator_memory_refusal}
use Rattle.model.specs.Reading.{heavy_hitters}
use Rattle.coordinator_reading.specs.Promises.{ReadAsks, side_needed}

-- ---- The list

-- 1, 2, 3; 4, 11; then 12 for a list of too few places.
abbrev pub list_refusal : Settings → CoordinatorRecord → List ℕ → ℕ → ℕ
list_refusal settings numbers memory places =
    coordinator_memory_refusal settings numbers memory
    or_else when (ltb places (length (heavy_hitters settings
    (coordinator_in settings numbers memory))))
    list_too_short
    or_else no_refusal

-- What the list call comes to: the refusal, or 0, and how many items it wrote.
pub record ListAnswer : Type 0 where
  pub refusal : ℕ
  pub count : ℕ

abbrev pub list_answer : Result ℕ Refusal → ListAnswer
list_answer (Ok count) = record { refusal = no_refusal; count = count }
list_answer (Err refusal) = record { refusal = number_of refusal; count = 0 }

-- "Places of a list .. after the last one written keep what they held."
pub record ListSays (settings : Settings) (numbers : CoordinatorRecord)
    (memory before after : List ℕ) (r : ListAnswer) : Type 0 where
  pub refusal : r.refusal ≡ list_refusal settings numbers memory (length before)
  pub count :
      r.count
      ≡ (if is_zero (list_refusal settings numbers memory (length before))
      then length (heavy_hitters settings (coordinator_in settings numbers memory))
      else 0)
  pub list :
      after
      ≡ (if is_zero (list_refusal settings numbers memory (length before))
      then overwrite (heavy_hitters settings (coordinator_in settings numbers memory)) before
      else before)

-- ---- What is asked inside

-- The heavy hitters of the coordinator that record and memory hold.
abbrev pub hitters_in : Settings → CoordinatorRecord → List ℕ → List ℕ
hitters_in settings numbers memory = heavy_hitters settings (coordinator_in settings numbers memory)

-- What reading asks, and a list with a place for each item that is listed.
pub record WriteListedAsks (settings : Settings) (numbers : CoordinatorRecord)
    (memory list : List ℕ)
    : Type 0 where
  pub reading : ReadAsks settings numbers memory
  pub places : length (hitters_in settings numbers memory) ≤ length list

-- The listed items at the front of the list, and their number.
pub record WriteListedSays (settings : Settings) (numbers : CoordinatorRecord)
    (memory before after : List ℕ) (r : ℕ) : Type 0 where
  pub count : r ≡ length (hitters_in settings numbers memory)
  pub list : after ≡ overwrite (hitters_in settings numbers memory) before

-- The list rule, over the bare numbers.
abbrev pub rule_holds : Settings → ℕ → ℕ → Bool
rule_holds settings total number = leb 1 total && leb (side_needed settings total) (2000 * number)
