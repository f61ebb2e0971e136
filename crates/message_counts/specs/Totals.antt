-- The sum of the counts of messages as a machine number (request N5).
--
--   largest_count               what 64 bits hold at most
--   total_held settings counts  the sum of the counts of the k sites, or that number where the sum
--                               is above it
use Rattle.std.specs.Prelude.{List, ℕ, min, take}
use Rattle.model.specs.declared.Settings.{Settings}
use Rattle.model.specs.SiteMemory.{sum}

abbrev pub largest_count : ℕ
largest_count = 18446744073709551615

-- "The bench total is their sum": of every network that arises it is far below what 64 bits hold.
abbrev pub total_held : Settings → List ℕ → ℕ
total_held settings counts = min (sum (take settings.sites counts)) largest_count
