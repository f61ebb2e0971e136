-- The order in which counters are replaced, as the scan tests it.
use Rattle.std.specs.Prelude.{Bool, ◌&&◌, ◌||◌, ℕ, eqb, ltb}

-- The order of replacement, by count and of equals by item: `precedes` on the numbers alone.
abbrev pub ordered : ℕ → ℕ → ℕ → ℕ → Bool
ordered count item leastCount leastItem =
    ltb count leastCount || eqb count leastCount && ltb item leastItem
