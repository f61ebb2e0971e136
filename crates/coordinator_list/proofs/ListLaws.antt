-- Laws of the list of heavy hitters, walked item by item.
--
--   listed_snoc                    one item more decides one place more
--   Counting, counting_yes, counting_no, counting_end       the walk that counts
--   Fitting, fitting_yes, fitting_no, fits_all, fits_not, fits_end   up to a number of places
--   listed_few                     no more items are listed than there are
use Rattle.std.specs.Prelude.{if◌then◌else◌}
use mathlib.Core.Path.{◌≡◌, ap, sym, ◌∙◌}
use mathlib.Core.Bool.{Bool, true, false}
use mathlib.Core.List.{List, [], ◌∷◌, ◌++◌, append_assoc, append-nil}
use Prim.Native.Nat.{ℕ, zero, suc, ◌+◌, ◌-◌, ◌≤◌, ◌<◌}
use native.Mathlib.Numerals.{add-one}
use native.Mathlib.Omega.{arith}
use lib.ListN.{length, length-append}
use lib.Dec.{leb}
use borrow.Author.Tests.{le-leb, lt-leb}
use Rattle.model.specs.declared.Settings.{Settings}
use Rattle.model.specs.Coordinator.{Coordinator}
use Rattle.model.specs.Reading.{is_listed, listed_from, heavy_hitters}

module _ (settings : Settings) (c : Coordinator) where
  -- The item alone where it is listed, else nothing.
  abbrev pub one_listed : ℕ → List ℕ
  one_listed item = if is_listed settings c item then item ∷ [] else []

  -- The items listed among the first.
  abbrev pub listed_below : ℕ → List ℕ
  listed_below items = listed_from items 0 settings c

  snoc_from : (more item : ℕ)
      → listed_from (more + 1) item settings c
      ≡ listed_from more item settings c ++ one_listed (item + more)
  snoc_from zero item =
      let here : item + 0 ≡ item = omega arith in
      append-nil (one_listed item) ∙ ap one_listed (sym here)
  snoc_from (suc more) item =
      let one_more : suc more + 1 ≡ suc (more + 1) = omega arith in
      let there : item + 1 + more ≡ item + suc more = omega arith in
      ap (λ (n : ℕ). listed_from n item settings c) one_more
      ∙ ap (λ (l : List ℕ). one_listed item ++ l) (snoc_from more (item + 1))
      ∙ sym (append_assoc (one_listed item) (listed_from more (item + 1) settings c)
      (one_listed (item + 1 + more)))
      ∙ ap (λ (n : ℕ). (one_listed item ++ listed_from more (item + 1) settings c) ++ one_listed n)
      there

  pub listed_snoc : (items : ℕ)
      → listed_below (items + 1) ≡ listed_below items ++ one_listed items
  listed_snoc items =
      let here : 0 + items ≡ items = omega arith in
      snoc_from items 0 ∙ ap (λ (n : ℕ). listed_below items ++ one_listed n) here

  pub listed_yes : (items : ℕ)
      → is_listed settings c items ≡ true
      → listed_below (items + 1) ≡ listed_below items ++ (items ∷ [])
  listed_yes items yes-listed =
      listed_snoc items
      ∙ ap (λ (test : Bool). listed_below items ++ (if test then items ∷ [] else [])) yes-listed

  pub listed_no : (items : ℕ)
      → is_listed settings c items ≡ false
      → listed_below (items + 1) ≡ listed_below items
  listed_no items no-listed =
      listed_snoc items
      ∙ ap (λ (test : Bool). listed_below items ++ (if test then items ∷ [] else [])) no-listed
      ∙ append-nil (listed_below items)

  one_few : (item : ℕ) → length (one_listed item) ≤ 1
  one_few item = by_test (is_listed settings c item)
    where
      by_test : (test : Bool) → length (if test then item ∷ [] else []) ≤ 1
      by_test true = omega arith
      by_test false = omega arith

  -- One item more adds at most one place, and takes none away.
  pub record Longer (items : ℕ) : Type 0 where
    pub no_less : length (listed_below items) ≤ length (listed_below (items + 1))
    pub one_at_most : length (listed_below (items + 1)) ≤ length (listed_below items) + 1

  longer : (items : ℕ) → Longer items
  longer items =
      let whole : length (listed_below (items + 1)) ≡ length (listed_below items) + length
      (one_listed items) =
      ap length (listed_snoc items) ∙ length-append (listed_below items) (one_listed items) in
      record {
        no_less = omega arith;
        one_at_most = omega (arith, one_few items);
      }

  pub listed_few : (items : ℕ) → length (listed_below items) ≤ items
  listed_few zero = omega arith
  listed_few (suc items) =
      let more : length (listed_below (items + 1)) ≤ items + 1 =
      omega (arith, listed_few items, (longer items).one_at_most) in
      rw (add-one items) at more

  -- Among more items no fewer are listed.
  pub listed_le : (items more : ℕ) → length (listed_below items) ≤ length
      (listed_below (items + more))
  listed_le items zero =
      let same : items + 0 ≡ items = omega arith in
      rw same (omega arith)
  listed_le items (suc more) =
      let next : items + more + 1 ≡ items + suc more = omega arith in
      rw (← next) (omega (arith, listed_le items more, (longer (items + more)).no_less))

  -- ---- Counting

  pub record Counting (count item : ℕ) : Type 0 where
    pub place : item ≤ settings.universe
    pub counted : count ≡ length (listed_below item)

  pub counting_yes : (count item : ℕ)
      → Counting count item
      → item < settings.universe
      → is_listed settings c item ≡ true
      → Counting (count + 1) (item + 1)
  counting_yes count item so_far inside yes-listed = record {
    place = omega arith;
    counted = omega (
      arith,
      so_far.counted,
      ap length (listed_yes item yes-listed),
      length-append (listed_below item) (item ∷ []),
    );
  }

  pub counting_no : (count item : ℕ)
      → Counting count item
      → item < settings.universe
      → is_listed settings c item ≡ false
      → Counting count (item + 1)
  counting_no count item so_far inside no-listed = record {
    place = omega arith;
    counted = omega (arith, so_far.counted, ap length (listed_no item no-listed));
  }

  pub counting_end : (count item : ℕ)
      → Counting count item
      → settings.universe ≤ item
      → count ≡ length (heavy_hitters settings c)
  counting_end count item so_far past =
      let last : item ≡ settings.universe = omega (arith, so_far.place) in
      so_far.counted ∙ ap (λ (n : ℕ). length (listed_below n)) last

  -- A listed item is not among those counted before it.
  pub one_more_listed : (count item : ℕ)
      → Counting count item
      → item < settings.universe
      → is_listed settings c item ≡ true
      → count < length (heavy_hitters settings c)
  one_more_listed count item so_far inside yes-listed =
      let next = counting_yes count item so_far inside yes-listed in
      let rest : item + 1 + (settings.universe - (item + 1)) ≡ settings.universe = omega arith in
      let bound = listed_le (item + 1) (settings.universe - (item + 1)) in
      let whole : length (listed_below (item + 1)) ≤ length (heavy_hitters settings c) = rw rest at
      bound in
      omega (arith, next.counted)

  -- ---- Counting up to a number of places

  pub record Fitting (places count item : ℕ) : Type 0 where
    pub counting : Counting count item
    pub within : count ≤ places

  -- A place for every item is one for every listed item.
  pub fits_all : (places : ℕ)
      → settings.universe ≤ places
      → leb (length (heavy_hitters settings c)) places ≡ true
  fits_all places long =
      le-leb (length (heavy_hitters settings c)) places
      (omega (arith, listed_few settings.universe))

  pub fitting_yes : (places count item : ℕ)
      → Fitting places count item
      → item < settings.universe
      → is_listed settings c item ≡ true
      → count + 1 ≤ places
      → Fitting places (count + 1) (item + 1)
  fitting_yes places count item so_far inside yes-listed room = record {
    counting = counting_yes count item so_far.counting inside yes-listed;
    within = room;
  }

  pub fitting_no : (places count item : ℕ)
      → Fitting places count item
      → item < settings.universe
      → is_listed settings c item ≡ false
      → Fitting places count (item + 1)
  fitting_no places count item so_far inside no-listed = record {
    counting = counting_no count item so_far.counting inside no-listed;
    within = so_far.within;
  }

  -- A listed item after as many as there are places has none.
  pub fits_not : (places count item : ℕ)
      → Fitting places count item
      → item < settings.universe
      → is_listed settings c item ≡ true
      → places < count + 1
      → leb (length (heavy_hitters settings c)) places ≡ false
  fits_not places count item so_far inside yes-listed full =
      lt-leb (length (heavy_hitters settings c)) places
      (omega (arith, one_more_listed count item so_far.counting inside yes-listed))

  pub fits_end : (places count item : ℕ)
      → Fitting places count item
      → settings.universe ≤ item
      → leb (length (heavy_hitters settings c)) places ≡ true
  fits_end places count item so_far past =
      le-leb (length (heavy_hitters settings c)) places
      (omega (arith, so_far.within, counting_end count item so_far.counting past))
