-- The three ways in which an item is counted, each from the tests that lead there: it has a
-- counter, it takes the next unused one, or it replaces the one of least count.
--
--   least_within, small_at, parts_at               places and counts within their bounds
--   counted_own, counted_unused, counted_replaced   the promise of `count_item` for each way
use Rattle.std.specs.Prelude.{Option, Some, None}
use Prim.Native.Nat.{ℕ, ◌+◌, ◌<◌, ◌≤◌}
use mathlib.Core.Path.{◌≡◌, ap, sym, ◌∙◌, subst}
use mathlib.Core.List.{List, [], ◌∷◌, ◌++◌}
use mathlib.Core.Bool.{true, false}
use native.Mathlib.Omega.{arith}
use lib.ListN.{length, set, length-set, length-append}
use lib.Seq.{get_or-set_same, get_or-append_seam}
use lib.Dec.{ltb}
use borrow.Author.Tests.{lt-ltb, le-ltb}
use Rattle.model.specs.declared.Left.{Left}
use Rattle.model.specs.Counters.{Counter, no_counter, counter_at, unreported, find, least_place, Placement, place_of, one_more_of, first_of, replacing, left_with, leaving_by}
use Rattle.model.specs.Counters.Placement.{own, unused, replaced}
use Rattle.model.specs.SiteMemory.{counters_in}
use Rattle.model.proofs.OneSite.CounterLaws.{least_place_is}
use Rattle.model.proofs.Soundness.ConsistentSites.{length_counters_in}
use Rattle.site_counters.specs.Stored.{greatest_word, stored_at, set_counter, counter_of, PartsWithin}
use Rattle.site_counters.proofs.CounterMemory.{counter_at_counters_in, overwrite_set, overwrite_append}
use Rattle.site_counting.specs.declared.Counted.{Counted}
use Rattle.site_counting.specs.Count.{CountItemAsks, CountItemSays, placement, place_in, counters_then, leaving_in}

-- ---- Places and counts within their bounds

module _ (memory : List ℕ) (capacity used : ℕ) (asks : CountItemAsks memory capacity used) where
  -- With every counter in use, the least count has a place.
  pub least_within : capacity ≤ used → least_place (counters_in used memory) < used
  least_within full =
      let count = length_counters_in used memory in
      omega (
        arith,
        count,
        (least_place_is (counters_in used memory) (omega (arith, count, asks.some))).inside,
      )

  -- A count in memory can grow by one.
  pub small_at : (place : ℕ) → place < used → (stored_at memory place).count < greatest_word
  small_at place within =
      let same = ap (λ (x : Counter). x.count) (counter_at_counters_in used place memory within) in
      omega (arith, same, asks.small place within)

  -- The parts of a counter in memory are within its count.
  pub parts_at : (place : ℕ) → place < used → PartsWithin (stored_at memory place)
  parts_at place within =
      subst PartsWithin (counter_at_counters_in used place memory within)
      (asks.parts_within place within)

module _
    (before after : List ℕ)
    (capacity used item : ℕ)
    (asks : CountItemAsks before capacity used)
    (answer : Counted)
    (found : ℕ)
    (found_is : found ≡ find item (counters_in used before)) where
  -- ---- Which way is taken

  placement_own : found < used → placement before capacity used item ≡ own found
  placement_own within =
      let test : ltb (find item (counters_in used before)) (length (counters_in used before)) ≡
      true =
      rw (length_counters_in used before, ← found_is) (lt-ltb found used within) in
      rw (test, ← found_is)

  placement_unused : used ≤ found → used < capacity → placement before capacity used item ≡ unused
  placement_unused past room =
      let counters = counters_in used before in
      let test : ltb (find item counters) (length counters) ≡ false =
      rw (length_counters_in used before, ← found_is) (le-ltb found used past) in
      let free : ltb (length (counters_in used before)) capacity ≡ true =
      rw (length_counters_in used before) (lt-ltb used capacity room) in
      rw (test, free)

  placement_replaced : used ≤ found → capacity ≤ used
      → placement before capacity used item ≡ replaced (least_place (counters_in used before))
  placement_replaced past full =
      let counters = counters_in used before in
      let test : ltb (find item counters) (length counters) ≡ false =
      rw (length_counters_in used before, ← found_is) (le-ltb found used past) in
      let free : ltb (length (counters_in used before)) capacity ≡ false =
      rw (length_counters_in used before) (le-ltb used capacity full) in
      rw (test, free)

  -- ---- What is then promised

  -- A counter in use is overwritten.
  counted_set : (place : ℕ) (x : Counter) (left : Option Left)
      → place < used
      → place_in before capacity used item ≡ place
      → counters_then before capacity used item ≡ set (counters_in used before) place x
      → leaving_in before capacity used item ≡ left
      → answer.place ≡ place
      → answer.used ≡ used
      → counter_of answer.counter ≡ x
      → answer.leaving ≡ left
      → after ≡ set_counter before place x
      → CountItemSays before after capacity used item answer
  counted_set place x left within place_is counters-are left_is same_place same-used
      same-counter same_left stored =
      let inside : place < length (counters_in used before) =
      rw (length_counters_in used before) within in
      record {
        place = same_place ∙ sym place_is;
        used_then = same-used
            ∙ sym (ap length counters-are
            ∙ length-set (counters_in used before) place x
            ∙ length_counters_in used before);
        counter = rw (counters-are, place_is)
            (same-counter ∙ sym (get_or-set_same (counters_in used before) place x no_counter
            inside));
        leaving = same_left ∙ sym left_is;
        memory = rw counters-are
            (stored
            ∙ sym
            (overwrite_set used before (omega (arith, asks.fits, asks.within)) place x within));
      }

  pub counted_own : (old : Counter)
      → old ≡ stored_at before found
      → found < used
      → answer.place ≡ found
      → answer.used ≡ used
      → counter_of answer.counter ≡ one_more_of old
      → answer.leaving ≡ None
      → after ≡ set_counter before found (one_more_of old)
      → CountItemSays before after capacity used item answer
  counted_own old old-is within =
      let way = placement_own within in
      let same = counter_at_counters_in used found before within ∙ sym old-is in
      counted_set found (one_more_of old) None within
      (ap (λ (p : Placement). place_of p (counters_in used before)) way)
      (rw (way, same))
      (ap (λ (p : Placement). leaving_by p (counters_in used before)) way)

  pub counted_replaced : (least : ℕ) (old : Counter)
      → least ≡ least_place (counters_in used before)
      → old ≡ stored_at before least
      → used ≤ found
      → capacity ≤ used
      → answer.place ≡ least
      → answer.used ≡ used
      → counter_of answer.counter ≡ replacing old item
      → answer.leaving ≡ Some (left_with old.item (unreported old))
      → after ≡ set_counter before least (replacing old item)
      → CountItemSays before after capacity used item answer
  counted_replaced least old least-is old-is past full =
      let way = placement_replaced past full in
      let within : least < used =
      omega (arith, least-is, least_within before capacity used asks full) in
      let same = counter_at_counters_in used least before within ∙ sym old-is in
      counted_set least (replacing old item) (Some (left_with old.item (unreported old))) within
      (ap (λ (p : Placement). place_of p (counters_in used before)) way ∙ sym least-is)
      (rw (way, ← least-is, same))
      (rw (way, ← least-is, same))

  pub counted_unused : used ≤ found
      → used < capacity
      → answer.place ≡ used
      → answer.used ≡ used + 1
      → counter_of answer.counter ≡ first_of item
      → answer.leaving ≡ None
      → after ≡ set_counter before used (first_of item)
      → CountItemSays before after capacity used item answer
  counted_unused past room same_place same-used same-counter same_left stored =
      let way = placement_unused past room in
      let counters = counters_in used before in
      let count = length_counters_in used before in
      let last = ap (λ (n : ℕ). counter_at (counters ++ (first_of item ∷ [])) n) count in
      record {
        place = rw (way, count) same_place;
        used_then = rw (way, length-append) (omega (arith, count, same-used));
        counter = rw way
            (same-counter ∙ sym (get_or-append_seam counters (first_of item) [] no_counter));
        leaving =
            same_left ∙ sym (ap (λ (p : Placement). leaving_by p (counters_in used before)) way);
        memory = rw way
            (stored
            ∙ sym (overwrite_append used before (first_of item) (omega (arith, asks.fits))));
      }
