-- The quantile against the arrivals: while the threshold is 1 (PROOF.md N4), and later (N5). n is
-- the number of all arrivals.
--
--   EarlyValues, early_fresh, early_arrival   the coordinator's histogram is the true one
--   least_value_is                            the least value of a true histogram
--   LateQuantile, late_arrival                a value that was right at the base
--   late_of_halving                           what halving finds is right, for a free number h
use Rattle.std.specs.Prelude.{Option, Some}
use mathlib.Core.Path.{◌≡◌, refl, sym, ap, ◌∙◌}
use mathlib.Core.Bool.{Bool, true, false, false≢true}
use mathlib.Core.List.{List, [], ◌∷◌, ◌++◌}
use Prim.Native.Nat.{ℕ, zero, suc, ◌+◌, ◌*◌, ◌^◌, ◌≤◌, ◌<◌}
use native.Mathlib.Nat.{mul-le-mul_right}
use native.Mathlib.Omega.{arith}
use native.Mathlib.Decide.{dec_lt}
use lib.Dec.{ltb}
use lib.ListN.{length, length-set, replicate, length-replicate}
use borrow.Author.Tests.{leb-true, leb-false, le-leb}
use Rattle.model.specs.declared.Arrival.{Arrival}
use Rattle.model.specs.Limits.{top_value, value_count}
use Rattle.model.specs.Site.{one_more_at, up_to}
use Rattle.model.specs.Coordinator.{enough}
use Rattle.model.specs.Reading.{least_value_from, least_value}
use Rattle.model.specs.Claims.{counted, below, above}
use Rattle.model.proofs.Deliveries.Halving.{halve, Least, Rising, halve_is_least}
use Rattle.model.proofs.OneSite.ArrivalLaws.{one_if_le, counted_snoc, below_snoc, above_snoc, below_zero, below_mono, below_above, up_to_zeros, up_to_one_more}

-- ---- While the threshold is 1

-- N4: the coordinator counts every value, as often as it arrived.
pub record EarlyValues (histogram : List ℕ) (accepted : List Arrival) : Type 0 where
  pub long : length histogram ≡ value_count
  pub counts : (value : ℕ) → up_to value histogram ≡ below (value + 1) accepted

-- No arrival, no count.
pub early_fresh : EarlyValues (replicate value_count 0) []
early_fresh = record {
  long = length-replicate {A = ℕ} value_count 0;
  counts = λ value. up_to_zeros value value_count;
}

-- An arrival whose value is counted keeps it.
pub early_arrival : (histogram : List ℕ) (accepted : List Arrival) (arrival : Arrival)
    → arrival.value < value_count
    → EarlyValues histogram accepted
    → EarlyValues (one_more_at histogram arrival.value) (accepted ++ (arrival ∷ []))
early_arrival histogram accepted arrival value_known early = record {
  long = length-set histogram arrival.value _ ∙ early.long;
  counts = λ value.
      rw (below_snoc (value + 1) accepted arrival)
      (omega (
        arith,
        early.counts value,
        up_to_one_more value histogram arrival.value (omega (arith, early.long)),
      ));
}

-- An answer that is the least value with enough arrivals at or below it.
pub record QuantileIs (goal : ℕ) (accepted : List Arrival) (answer : Option ℕ) : Type 0 where
  pub value : ℕ
  pub is_value : answer ≡ Some value
  pub below_low : 1000 * below value accepted < goal
  pub up_to_high : goal ≤ 1000 * below (value + 1) accepted

module _ (rank total top : ℕ) (accepted : List Arrival)
    (reached : rank * total ≤ 1000 * below (top + 1) accepted) where
  -- The scan from a value on: `before` arrivals are below it, which are not enough.
  least_value_from_is : (value before : ℕ) (counts : List ℕ)
      → ((w : ℕ) → before + up_to w counts ≡ below (value + w + 1) accepted)
      → before ≡ below value accepted
      → 1000 * before < rank * total
      → QuantileIs (rank * total) accepted (least_value_from rank total value before counts)
  least_value_from_is value before [] rest before-is few =
      absurd (omega (
        arith,
        rest top,
        below_mono (top + 1) (value + top + 1) accepted (omega arith),
      ))
  least_value_from_is value before (count ∷ counts) rest before-is few =
      by_count (enough rank total (before + count)) refl
      (least_value_from_is (value + 1) (before + count) counts later with_count)
    where
      with_count : before + count ≡ below (value + 1) accepted
      with_count =
          let none : value + 0 + 1 ≡ value + 1 = omega arith in
          rest 0 ∙ ap (λ (z : ℕ). below z accepted) none

      later : (w : ℕ) → before + count + up_to w counts ≡ below (value + 1 + w + 1) accepted
      later w =
          let same : value + suc w + 1 ≡ value + 1 + w + 1 = omega arith in
          omega (arith, rest (suc w), ap (λ (z : ℕ). below z accepted) same)

      by_count : (found : Bool) → enough rank total (before + count) ≡ found
          → (1000 * (before + count) < rank * total
          → QuantileIs (rank * total) accepted
          (least_value_from rank total (value + 1) (before + count) counts))
          → QuantileIs (rank * total) accepted
          (least_value_from rank total value before (count ∷ counts))
      by_count true found next = rw (found, least_value_from) (record {
        value = value;
        is_value = refl;
        below_low = omega arith;
        up_to_high =
            omega (arith, with_count, leb-true (rank * total) (1000 * (before + count)) found);
      })
      by_count false not_found next =
          rw (not_found, least_value_from)
          (next (leb-false (rank * total) (1000 * (before + count)) not_found))

  -- The least value of a true histogram, once there is an arrival.
  pub least_value_is : (histogram : List ℕ)
      → EarlyValues histogram accepted
      → 1 ≤ rank * total
      → QuantileIs (rank * total) accepted (least_value rank total histogram)
  least_value_is histogram early some =
      least_value_from_is 0 0 histogram (λ w. from_start w) (sym (below_zero accepted))
      (omega arith)
    where
      from_start : (w : ℕ) → 0 + up_to w histogram ≡ below (0 + w + 1) accepted
      from_start w =
          let same : 0 + w + 1 ≡ w + 1 = omega arith in
          omega (arith, early.counts w, ap (λ (z : ℕ). below z accepted) same)

-- ---- Later

-- N5: a value that was right at the base, when the arrivals were as many as the base.
pub record LateQuantile (rank quantile base : ℕ) (accepted : List Arrival) : Type 0 where
  pub value_known : quantile ≤ top_value
  pub few_below : 1000 * below quantile accepted + 1000 * base
      ≤ rank * base + 1000 * counted accepted
  pub few_above : 1000 * above quantile accepted + rank * base ≤ 1000 * counted accepted

-- An arrival adds at most 1000 on the left and exactly 1000 on the right.
pub late_arrival : {rank quantile base : ℕ} {accepted : List Arrival} (arrival : Arrival)
    → LateQuantile rank quantile base accepted
    → LateQuantile rank quantile base (accepted ++ (arrival ∷ []))
late_arrival {rank} {quantile} {base} {accepted} arrival late = record {
  value_known = late.value_known;
  few_below =
      omega (
        arith,
        counted_snoc accepted arrival,
        below_snoc quantile accepted arrival,
        one_if_le (ltb arrival.value quantile),
      );
  few_above =
      omega (
        arith,
        counted_snoc accepted arrival,
        above_snoc quantile accepted arrival,
        one_if_le (ltb quantile arrival.value),
      );
}

module _ (rank : ℕ) (accepted : List Arrival) (test : ℕ → Bool)
    (test_is : (v : ℕ) → test v ≡ enough rank (counted accepted) (below (v + 1) accepted)) where
  abbrev n : ℕ
  n = counted accepted

  rising : Rising test
  rising v w v≤w holds =
      test_is w ∙ le-leb (rank * n) (1000 * below (w + 1) accepted)
      (omega (
        arith,
        below_mono (v + 1) (w + 1) accepted (omega arith),
        leb-true (rank * n) (1000 * below (v + 1) accepted) (sym (test_is v) ∙ holds),
      ))

  -- The least value with enough at or below it: too few are below it, and above it are the others.
  late_of_least : (value : ℕ)
      → Least test value
      → value ≤ top_value
      → LateQuantile rank value (counted accepted) accepted
  late_of_least value least known = record {
    value_known = known;
    few_below = omega (arith, too_few value least.fails_below);
    few_above =
        omega (
          arith,
          below_above value accepted,
          leb-true (rank * n) (1000 * below (value + 1) accepted)
              (sym (test_is value) ∙ least.holds),
        );
  }
    where
      too_few : (w : ℕ) → ((lower : ℕ) → lower < w → test lower ≡ false)
          → 1000 * below w accepted ≤ rank * counted accepted
      too_few zero fails = omega (arith, below_zero accepted)
      too_few (suc w) fails =
          let next : w + 1 ≡ suc w = omega arith in
          omega (
            arith,
            ap (λ (z : ℕ). below z accepted) next,
            leb-false (rank * n) (1000 * below (w + 1) accepted)
                (sym (test_is w) ∙ fails w (omega arith)),
          )

  -- All arrivals are at or below the top value, and rank is at most 1000: halving finds the least.
  pub late_of_halving : (h top : ℕ)
      → rank ≤ 1000
      → top < 2 ^ h
      → top ≤ top_value
      → above top accepted ≡ 0
      → LateQuantile rank (halve test h 0 top) (counted accepted) accepted
  late_of_halving h top rank-le wide known none_above =
      late_of_least (halve test h 0 top) found (by_top (dec_lt top (halve test h 0 top)))
    where
      at_top : test top ≡ true
      at_top =
          test_is top ∙ le-leb (rank * n) (1000 * below (top + 1) accepted)
          (omega (arith, below_above top accepted, mul-le-mul_right (counted accepted) rank-le))

      found : Least test (halve test h 0 top)
      found =
          halve_is_least test rising h 0 top (omega arith) (omega arith) at_top
          (λ lower below_zero. absurd (omega arith))

      -- The test holds at the top, and at nothing below the value found.
      by_top : Dec (top < halve test h 0 top) → halve test h 0 top ≤ top_value
      by_top (yes beyond) =
          absurd (false≢true (sym (found.fails_below top beyond) ∙ at_top))
      by_top (no within) = omega arith
