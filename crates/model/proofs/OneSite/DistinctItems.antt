-- Counters that hold no item twice, and items that no counter holds, after one counter is changed
-- or added (PROOF.md S1).
--
--   Absent item counters         no counter holds the item
--   Apart counters               no two counters hold the same item
--   apart_set, apart_snoc        it stays so if the new counter's item is nowhere else
--   AbsentSet, absent_of_set     an item absent after a change: where it was absent before
--   absent_before_set, AbsentSnoc, absent_of_snoc
use mathlib.Core.Path.{◌≡◌}
use mathlib.Core.List.{List, [], ◌∷◌, ◌++◌}
use Prim.Native.Nat.{ℕ, ◌+◌, ◌<◌}
use native.Mathlib.Omega.{arith}
use native.Mathlib.Decide.{ℕ_discrete, dec_lt}
use lib.ListN.{length, set, length-set}
use lib.Seq.{get_or-set_same, get_or-set_other}
use Rattle.laws.proofs.Lists.{length_snoc, get_d_snoc_old, get_d_snoc_new}
use Rattle.model.specs.Counters.{Counter, no_counter, counter_at}

-- No counter holds the item.
pub record Absent (item : ℕ) (counters : List Counter) : Type 0 where
  pub nowhere : (j : ℕ) → j < length counters → (counter_at counters j).item ≡ item → ⊥

-- No two counters hold the same item.
pub record Apart (counters : List Counter) : Type 0 where
  pub same_place : (i j : ℕ)
      → i < length counters
      → j < length counters
      → (counter_at counters i).item ≡ (counter_at counters j).item
      → i ≡ j

-- ---- One counter changed

module _ (counters : List Counter) (place : ℕ) (counter : Counter)
    (inside : place < length counters) where
  abbrev changed : List Counter
  changed = set counters place counter

  same_length : length changed ≡ length counters
  same_length = length-set counters place counter

  here : counter_at changed place ≡ counter
  here = get_or-set_same counters place counter no_counter inside

  there : (j : ℕ) → (j ≡ place → ⊥) → counter_at changed j ≡ counter_at counters j
  there j other = get_or-set_other counters place j counter no_counter other

  -- Items stay apart if the new counter's item is nowhere else.
  pub apart_set : Apart counters
      → ((j : ℕ) → j < length counters → (j ≡ place → ⊥)
      → (counter_at counters j).item ≡ counter.item → ⊥)
      → Apart changed
  apart_set apart new = record { same_place = by_places }
    where
      was_inside : (j : ℕ) → j < length changed → j < length counters
      was_inside j below = omega (arith, same_length)

      by_place : (i j : ℕ) → i < length changed → j < length changed
          → (counter_at changed i).item ≡ (counter_at changed j).item
          → Dec (i ≡ place) → Dec (j ≡ place) → i ≡ j
      by_place i j i< j< same (yes i-here) (yes j-here) = omega arith
      by_place i j i< j< same (yes i-here) (no j-there) =
          absurd (new j (was_inside j j<) j-there (cc (there j j-there, here)))
      by_place i j i< j< same (no i-there) (yes j-here) =
          absurd (new i (was_inside i i<) i-there (cc (there i i-there, here)))
      by_place i j i< j< same (no i-there) (no j-there) =
          apart.same_place i j (was_inside i i<) (was_inside j j<)
          (cc (there i i-there, there j j-there))

      by_places : (i j : ℕ) → i < length changed → j < length changed
          → (counter_at changed i).item ≡ (counter_at changed j).item → i ≡ j
      by_places i j i< j< same =
          by_place i j i< j< same (ℕ_discrete i place) (ℕ_discrete j place)

  -- What an item that is absent after the change was before it.
  pub record AbsentSet (item : ℕ) : Type 0 where
    pub not_new : counter.item ≡ item → ⊥
    pub not_elsewhere : (j : ℕ) → j < length counters → (j ≡ place → ⊥)
        → (counter_at counters j).item ≡ item → ⊥

  -- An item that is absent now was neither the new one nor elsewhere.
  pub absent_of_set : (item : ℕ) → Absent item changed → AbsentSet item
  absent_of_set item absent = record {
    not_new = λ same. absent.nowhere place (omega (arith, same_length)) (cc here);
    not_elsewhere =
        λ j j< other same. absent.nowhere j (omega (arith, same_length)) (cc (there j other));
  }

  -- Absent before as well, if the counter that was changed did not hold it.
  pub absent_before_set : (item : ℕ)
      → Absent item changed
      → ((counter_at counters place).item ≡ item → ⊥)
      → Absent item counters
  absent_before_set item absent not-old = record { nowhere = by_places }
    where
      by_place : (j : ℕ) → j < length counters → (counter_at counters j).item ≡ item
          → Dec (j ≡ place) → ⊥
      by_place j j< same (yes j-here) = not-old (cc)
      by_place j j< same (no j-there) = (absent_of_set item absent).not_elsewhere j j< j-there same

      by_places : (j : ℕ) → j < length counters → (counter_at counters j).item ≡ item → ⊥
      by_places j j< same = by_place j j< same (ℕ_discrete j place)

-- ---- One counter added

module _ (counters : List Counter) (counter : Counter) where
  abbrev extended : List Counter
  extended = counters ++ (counter ∷ [])

  longer : length extended ≡ length counters + 1
  longer = length_snoc counters counter

  old_place : (j : ℕ) → j < length counters → counter_at extended j ≡ counter_at counters j
  old_place j j< = get_d_snoc_old no_counter counters counter j j<

  new_place : counter_at extended (length counters) ≡ counter
  new_place = get_d_snoc_new no_counter counters counter

  -- What an item that is absent after a counter was added was before it.
  pub record AbsentSnoc (item : ℕ) : Type 0 where
    pub not_new : counter.item ≡ item → ⊥
    pub absent_before : Absent item counters

  -- An item that is absent now was absent before, and is not the new one.
  pub absent_of_snoc : (item : ℕ) → Absent item extended → AbsentSnoc item
  absent_of_snoc item absent = record {
    not_new = λ same. absent.nowhere (length counters) (omega (arith, longer)) (cc new_place);
    absent_before = record {
      nowhere = λ j j< same. absent.nowhere j (omega (arith, longer)) (cc (old_place j j<));
    };
  }

  -- Items stay apart if the new counter's item was absent.
  pub apart_snoc : Apart counters → Absent counter.item counters → Apart extended
  apart_snoc apart new = record { same_place = by_places }
    where
      is_last : (j : ℕ) → j < length extended → (j < length counters → ⊥) → j ≡ length counters
      is_last j below outside = omega (arith, longer)

      by_place : (i j : ℕ) → i < length extended → j < length extended
          → (counter_at extended i).item ≡ (counter_at extended j).item
          → Dec (i < length counters) → Dec (j < length counters) → i ≡ j
      by_place i j i< j< same (yes i-old) (yes j-old) =
          apart.same_place i j i-old j-old (cc (old_place i i-old, old_place j j-old))
      by_place i j i< j< same (yes i-old) (no j-new) =
          absurd (new.nowhere i i-old (cc (old_place i i-old, new_place, is_last j j< j-new)))
      by_place i j i< j< same (no i-new) (yes j-old) =
          absurd (new.nowhere j j-old (cc (old_place j j-old, new_place, is_last i i< i-new)))
      by_place i j i< j< same (no i-new) (no j-new) =
          omega (arith, is_last i i< i-new, is_last j j< j-new)

      by_places : (i j : ℕ) → i < length extended → j < length extended
          → (counter_at extended i).item ≡ (counter_at extended j).item → i ≡ j
      by_places i j i< j< same =
          by_place i j i< j< same (dec_lt i (length counters)) (dec_lt j (length counters))
