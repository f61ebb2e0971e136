-- The sum of the counts of messages, added up one by one: at most what 64 bits hold.
use mathlib.Core.Path.{◌≡◌, ◌∙◌}
use mathlib.Core.List.{List, [], ◌∷◌}
use Prim.Native.Nat.{ℕ, ◌+◌, ◌≤◌, min}
use native.Mathlib.Omega.{arith}
use Rattle.std.specs.List.{fold}
use Rattle.model.specs.SiteMemory.{sum}
use Rattle.message_counts.specs.Totals.{largest_count}

held_on : (total : ℕ) (counts : List ℕ)
    → total ≤ largest_count
    → fold (λ total n. min (total + n) largest_count) total counts
    ≡ min (total + sum counts) largest_count
held_on total [] held = omega arith
held_on total (count ∷ counts) held =
    held_on (min (total + count) largest_count) counts (omega arith) ∙ omega arith

pub held_sum : (counts : List ℕ)
    → fold (λ total n. min (total + n) largest_count) 0 counts ≡ min (sum counts) largest_count
held_sum counts = held_on 0 counts (omega arith) ∙ omega arith
