-- `site_search::is_before` meets its contract: two counts, each with an item of four bytes behind
-- it, compare as one number.
use mathlib.Core.Path.{◌≡◌, refl}
use mathlib.Core.Bool.{Bool, true, false, ◌&&◌, ◌||◌}
use Prim.Native.Nat.{ℕ, ◌+◌, ◌*◌, ◌<◌}
use native.Mathlib.Omega.{arith}
use lib.Dec.{eqb, ltb}
use borrow.Author.Rules.{rules}
use borrow.Author.Tests.{lt-ltb, le-ltb, ltb-true, ltb-false, eqb-true, eqb-false}
use Rattle.site_search.specs.Order.{ordered}
use Rattle.site_search.proofs.is_before.Goals as goal

module _ (count item leastCount leastItem : ℕ) (small : item < 4294967296)
    (least-small : leastItem < 4294967296) where
  abbrev rank : ℕ
  rank = 4294967296 * count + item

  abbrev least : ℕ
  least = 4294967296 * leastCount + leastItem

  by_item : count ≡ leastCount
      → (test : Bool) → ltb item leastItem ≡ test
      → ltb rank least ≡ test
  by_item same true below =
      lt-ltb rank least (omega (arith, same, ltb-true item leastItem below))
  by_item same false above =
      le-ltb rank least (omega (arith, same, ltb-false item leastItem above))

  by_count : (less : Bool) → ltb count leastCount ≡ less
      → (same : Bool) → eqb count leastCount ≡ same
      → ltb rank least ≡ (less || same && ltb item leastItem)
  by_count true below same same-is =
      lt-ltb rank least (omega (arith, small, ltb-true count leastCount below))
  by_count false above true same-is =
      by_item (eqb-true count leastCount same-is) (ltb item leastItem) refl
  by_count false above false other =
      le-ltb rank least
      (omega (
        arith,
        least-small,
        ltb-false count leastCount above,
        eqb-false count leastCount other,
      ))

  one_number : ltb rank least ≡ ordered count item leastCount leastItem
  one_number = by_count (ltb count leastCount) refl (eqb count leastCount) refl

pub returns : goal.returns
returns c = one_number c.args.count c.args.item c.args.least_count c.args.least_item
    (search rules) (search rules)
