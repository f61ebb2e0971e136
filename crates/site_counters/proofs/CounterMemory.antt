-- Counters read from a memory and written to it: that reading gives back what was written, and that
-- storing one counter in memory is setting one counter of the list.
--
--   length_counter_numbers  four numbers for each counter
--   counters_kept       the counters that a memory holds, written over it, leave it as it is
--   counters_read       counters written in front are read back
--   counter_at_counters_in  one counter of these
--   set_counter_set     a counter stored at a place in use
--   set_reported        the last number of a counter set
--   overwrite_set, overwrite_append   the same, over the memory that the counters were read from
use Prim.Native.Nat.{ℕ, zero, suc, ◌+◌, ◌*◌, ◌<◌, ◌≤◌}
use mathlib.Core.Path.{◌≡◌, refl, ap, sym, ◌∙◌, subst⁻¹}
use mathlib.Core.List.{List, [], ◌∷◌, ◌++◌}
use native.Mathlib.Omega.{arith}
use lib.ListN.{length, set, drop, length-set}
use lib.Seq.{get_or-drop}
use Rattle.laws.proofs.FlatMemory.{four, four_suc}
use Rattle.laws.proofs.Fronts.{overwritten_sets, row_stores}
use Rattle.model.specs.Counters.{Counter, counter_at}
use Rattle.model.specs.SiteMemory.{counters_in, counter_numbers, overwrite}
use Rattle.model.proofs.Soundness.ConsistentSites.{length_counters_in}
use Rattle.site_counters.specs.Stored.{stored_at, set_counter}

-- ---- Lengths

pub length_counter_numbers : (counters : List Counter)
    → length (counter_numbers counters) ≡ 4 * length counters
length_counter_numbers [] = refl
length_counter_numbers (counter ∷ counters) = omega (arith, length_counter_numbers counters)

-- ---- Read and written

-- A record of four in front of a list.
abbrev in_front : Counter → List ℕ → List ℕ
in_front counter rest =
    counter.item ∷ (counter.count ∷ (counter.overestimate ∷ (counter.reported ∷ rest)))

pub counters_kept : (n : ℕ) (memory : List ℕ)
    → 4 * n ≤ length memory
    → overwrite (counter_numbers (counters_in n memory)) memory ≡ memory
counters_kept zero memory fits = refl
counters_kept (suc n) memory fits =
    let parts = four memory (omega arith) in
    let shorter : 4 * n ≤ length parts.rest = omega (arith, ap length parts.whole) in
    subst⁻¹ (λ (m : List ℕ). overwrite (counter_numbers (counters_in (suc n) m)) m ≡ m) parts.whole
    (ap (λ (l : List ℕ). parts.first ∷ (parts.second ∷ (parts.third ∷ (parts.fourth ∷ l))))
    (counters_kept n parts.rest shorter))

pub counters_read : (counters : List Counter) (rest : List ℕ)
    → counters_in (length counters) (counter_numbers counters ++ rest) ≡ counters
counters_read [] rest = refl
counters_read (counter ∷ counters) rest =
    ap (λ (l : List Counter). counter ∷ l) (counters_read counters rest)

stored_at_suc : (memory : List ℕ) (i : ℕ) → stored_at (drop 4 memory) i ≡ stored_at memory (suc i)
stored_at_suc memory i =
    let e : 4 + 4 * i ≡ 4 * suc i = omega arith in
    let e1 : 4 + (4 * i + 1) ≡ 4 * suc i + 1 = omega arith in
    let e2 : 4 + (4 * i + 2) ≡ 4 * suc i + 2 = omega arith in
    let e3 : 4 + (4 * i + 3) ≡ 4 * suc i + 3 = omega arith in
    rw (
      get_or-drop 4 memory (4 * i) 0,
      get_or-drop 4 memory (4 * i + 1) 0,
      get_or-drop 4 memory (4 * i + 2) 0,
      get_or-drop 4 memory (4 * i + 3) 0,
      e,
      e1,
      e2,
      e3,
    )

pub counter_at_counters_in : (n i : ℕ) (memory : List ℕ)
    → i < n
    → counter_at (counters_in n memory) i ≡ stored_at memory i
counter_at_counters_in zero i memory within = absurd (omega arith)
counter_at_counters_in (suc n) zero memory within = refl
counter_at_counters_in (suc n) (suc i) memory within =
    counter_at_counters_in n i (drop 4 memory) (omega arith) ∙ stored_at_suc memory i

-- ---- One counter stored

set_counter_suc : (first x : Counter) (rest : List ℕ) (i : ℕ)
    → set_counter (in_front first rest) (suc i) x ≡ in_front first (set_counter rest i x)
set_counter_suc first x rest i =
    let e : 4 * suc i ≡ suc (suc (suc (suc (4 * i)))) = omega arith in
    rw (four_suc i 1, four_suc i 2, four_suc i 3, e)

pub set_counter_set : (counters : List Counter) (rest : List ℕ) (i : ℕ) (x : Counter)
    → i < length counters
    → set_counter (counter_numbers counters ++ rest) i x ≡ counter_numbers (set counters i x) ++
    rest
set_counter_set [] rest i x within = absurd (omega arith)
set_counter_set (counter ∷ counters) rest zero x within = refl
set_counter_set (counter ∷ counters) rest (suc i) x within =
    set_counter_suc counter x (counter_numbers counters ++ rest) i
    ∙ ap (in_front counter) (set_counter_set counters rest i x (omega arith))

-- A counter with another reported number.
abbrev pub with_reported : Counter → ℕ → Counter
with_reported counter reported = record {
  item = counter.item;
  count = counter.count;
  overestimate = counter.overestimate;
  reported = reported;
}

pub set_reported : (counters : List Counter) (rest : List ℕ) (i reported : ℕ)
    → i < length counters
    → set (counter_numbers counters ++ rest) (4 * i + 3) reported
    ≡ counter_numbers (set counters i (with_reported (counter_at counters i) reported)) ++ rest
set_reported [] rest i reported within = absurd (omega arith)
set_reported (counter ∷ counters) rest zero reported within = refl
set_reported (counter ∷ counters) rest (suc i) reported within =
    rw (four_suc i 3)
    (ap (in_front counter) (set_reported counters rest i reported (omega arith)))

-- ---- The same, over the memory that the counters were read from

module _ (n : ℕ) (memory : List ℕ) (fits : 4 * n ≤ length memory) where
  pub overwrite_set : (i : ℕ) (x : Counter)
      → i < n
      → overwrite (counter_numbers (set (counters_in n memory) i x)) memory ≡ set_counter memory i x
  overwrite_set i x within =
      let counters = counters_in n memory in
      let inside : i < length counters = rw (length_counters_in n memory) within in
      let same : length (counter_numbers (set counters i x)) ≡ length (counter_numbers counters) =
      length_counter_numbers (set counters i x)
      ∙ ap (λ (l : ℕ). 4 * l) (length-set counters i x)
      ∙ sym (length_counter_numbers counters) in
      let rest = drop (length (counter_numbers counters)) memory in
      ap (λ (l : ℕ). counter_numbers (set counters i x) ++ drop l memory) same
      ∙ sym (set_counter_set counters rest i x inside)
      ∙ ap (λ (l : List ℕ). set_counter l i x) (counters_kept n memory fits)

-- One counter more.
counter_numbers_snoc : (counters : List Counter) (x : Counter)
    → counter_numbers counters ++ counter_numbers (x ∷ []) ≡ counter_numbers (counters ++ (x ∷ []))
counter_numbers_snoc [] x = refl
counter_numbers_snoc (counter ∷ counters) x = ap (in_front counter)
    (counter_numbers_snoc counters x)

pub overwrite_append : (n : ℕ) (memory : List ℕ) (x : Counter)
    → 4 * n + 4 ≤ length memory
    → overwrite (counter_numbers (counters_in n memory ++ (x ∷ []))) memory ≡ set_counter memory n x
overwrite_append n memory x fits =
    let counters = counters_in n memory in
    let width : length (counter_numbers counters) ≡ 4 * n =
    length_counter_numbers counters ∙ ap (λ (l : ℕ). 4 * l) (length_counters_in n memory) in
    ap (λ (l : List ℕ). overwrite l memory) (sym (counter_numbers_snoc counters x))
    ∙ sym (overwritten_sets (counter_numbers counters) (counter_numbers (x ∷ [])) memory (4 * n)
    width fits)
    ∙ sym (row_stores (overwrite (counter_numbers counters) memory) (4 * n)
    x.item (x.count ∷ (x.overestimate ∷ (x.reported ∷ []))))
    ∙ ap (λ (l : List ℕ). set_counter l n x) (counters_kept n memory (omega arith))
