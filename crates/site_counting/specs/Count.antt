-- The contract of counting an item in the counters of a site's memory.
--
--   CountItemAsks memory capacity used                 what the step requires
--   CountItemSays before after capacity used item answer   what it promises
use Rattle.std.specs.Prelude.{◌≡◌, Option, List, ℕ, ◌*◌, ◌≤◌, ◌<◌, length}
use Rattle.model.specs.declared.Left.{Left}
use Rattle.model.specs.Counters.{Counter, counter_at, Placement, placement_for, place_of, counters_after, leaving_by}
use Rattle.model.specs.SiteMemory.{counters_in, counter_numbers, overwrite}
use Rattle.site_counters.specs.Stored.{greatest_word, counter_of, PartsWithin}
use Rattle.site_counting.specs.declared.Counted.{Counted}

-- The counters lie within the memory, no count is at the end of its range, and the parts of each
-- are within it.
pub record CountItemAsks (memory : List ℕ) (capacity used : ℕ) : Type 0 where
  pub fits : 4 * capacity ≤ length memory
  pub some : 1 ≤ capacity
  pub within : used ≤ capacity
  pub small : (place : ℕ) → place < used
      → (counter_at (counters_in used memory) place).count < greatest_word
  pub parts_within : (place : ℕ) → place < used
      → PartsWithin (counter_at (counters_in used memory) place)

abbrev pub placement : List ℕ → ℕ → ℕ → ℕ → Placement
placement memory capacity used item = placement_for capacity (counters_in used memory) item

abbrev pub place_in : List ℕ → ℕ → ℕ → ℕ → ℕ
place_in memory capacity used item =
    place_of (placement memory capacity used item) (counters_in used memory)

abbrev pub counters_then : List ℕ → ℕ → ℕ → ℕ → List Counter
counters_then memory capacity used item =
    counters_after (placement memory capacity used item) (counters_in used memory) item

-- Request N1: "The slot step should also say which code left and how many unsent draws went".
abbrev pub leaving_in : List ℕ → ℕ → ℕ → ℕ → Option Left
leaving_in memory capacity used item =
    leaving_by (placement memory capacity used item) (counters_in used memory)

-- Where the item was counted, the counters in use then, its counter, who left and the memory.
pub record CountItemSays
    (before after : List ℕ)
    (capacity used item : ℕ)
    (answer : Counted) : Type 0 where
  pub place : answer.place ≡ place_in before capacity used item
  pub used_then : answer.used ≡ length (counters_then before capacity used item)
  pub counter : counter_of answer.counter
      ≡ counter_at (counters_then before capacity used item) (place_in before capacity used item)
  pub leaving : answer.leaving ≡ leaving_in before capacity used item
  pub memory : after ≡ overwrite (counter_numbers (counters_then before capacity used item)) before
