-- What the quantile is worth between arrivals (PROOF.md section 3, "Quantile within e").
--
-- Letters: k sites, e epsilon, q rank, n all arrivals, t the threshold.
--
--   quantile_of_ok          the whole promise
--   firm_quantile_of_ok     within 2e / 3, and exact while the threshold is 1
use Rattle.std.specs.Prelude.{Option, None, Some}
use mathlib.Core.Path.{◌≡◌, ap, subst}
use Prim.Native.Nat.{ℕ, ◌+◌, ◌-◌, ◌*◌, ◌≤◌, ◌<◌}
use native.Mathlib.Nat.{mul-le-mul_left, mul-le-mul_right, mul-le-mul}
use native.Mathlib.Omega.{arith}
use native.Mathlib.Decide.{dec_lt}
use borrow.Author.Tests.{eq-eqb, ne_eqb}
use Rattle.laws.proofs.Arithmetic.{mul_gap}
use Rattle.model.specs.declared.Settings.{Settings}
use Rattle.model.specs.Limits.{top_value, least_drawn}
use Rattle.model.specs.Reading.{quantile_of}
use Rattle.model.specs.Runs.{Run}
use Rattle.model.specs.Claims.{counted, below, above, QuantilePromise, FirmQuantile}
use Rattle.model.proofs.Thresholds.SettingsLaws.{Settled}
use Rattle.model.proofs.OneSite.ArrivalLaws.{below_mono, below_above}
use Rattle.model.proofs.BetweenArrivals.QuantileLaws.{QuantileIs, least_value_is, LateQuantile}
use Rattle.model.proofs.BetweenArrivals.EstimateBounds.{RunOk, times_threshold, pending_few, all_counted, base_le_total, threshold_paid}

-- A value is one, and the only one, that an answer gives.
same_value : (answer : Option ℕ) (v w : ℕ) → answer ≡ Some v → answer ≡ Some w → v ≡ w
same_value answer v w is-v is-w = cc

value_or_nothing : (answer : Option ℕ) (v : ℕ) → answer ≡ Some v → answer ≡ None → ⊥
value_or_nothing answer v is_value is-nothing =
    let impossible : ◌≡◌ {A = ℕ} 0 1 = cc in omega arith

module _ {settings : Settings} {run : Run} (fit : Settled settings) (ok : RunOk settings run) where
  abbrev k : ℕ
  k = settings.sites

  abbrev e : ℕ
  e = settings.epsilon

  abbrev q : ℕ
  q = settings.rank

  abbrev n : ℕ
  n = counted run.accepted

  abbrev t : ℕ
  t = run.network.coordinator.threshold

  abbrev base : ℕ
  base = run.network.coordinator.base

  abbrev answer : Option ℕ
  answer = quantile_of settings run.network.coordinator

  base_le : base ≤ n
  base_le = omega (arith, base_le_total fit ok, all_counted fit ok)

  -- ---- While the threshold is 1

  total_is_all : t ≡ 1 → run.network.coordinator.total ≡ n
  total_is_all one =
      let none : t - 1 ≡ 0 = omega arith in
      omega (arith, all_counted fit ok, pending_few fit ok, ap (λ (z : ℕ). k * z) none)

  early_answer : t ≡ 1 → 1 ≤ n → QuantileIs (q * n) run.accepted answer
  early_answer one some =
      rw (eq-eqb t 1 one, total_is_all one, ne_eqb n 0 (λ none. omega arith))
      (least_value_is q n top_value run.accepted reached run.network.coordinator.histogram
      (ok.early_values one) (mul-le-mul fit.rank.at_least some))
    where
      reached : q * n ≤ 1000 * below (top_value + 1) run.accepted
      reached =
          omega (
            arith,
            below_above top_value run.accepted,
            ok.sites_ok.values_known,
            mul-le-mul_right n fit.rank.at_most,
          )

  -- ---- Later

  late_answer : 2 ≤ t → answer ≡ Some run.network.coordinator.quantile
  late_answer two = rw (ne_eqb t 1 (λ one. omega arith))

  -- Few arrivals came since the close: n - base < 2 × k × t, and 3000 × k × t ≤ e × base.
  few_since : 2 ≤ t → 3000 * n ≤ 3000 * base + 2 * (e * base)
  few_since two =
      omega (
        arith,
        threshold_paid fit ok two,
        times_threshold fit ok,
        pending_few fit ok,
        all_counted fit ok,
        ok.total_is,
        mul-le-mul_right t ok.few_signals,
      )

  some_base : 2 ≤ t → 1 ≤ base
  some_base two = by_base (dec_lt 0 base)
    where
      by_base : Dec (0 < base) → 1 ≤ base
      by_base (yes some) = some
      by_base (no none) =
          let no-base : base ≡ 0 = omega arith in
          absurd (omega (
            arith,
            ap (λ (z : ℕ). e * z) no-base,
            threshold_paid fit ok two,
            mul-le-mul fit.sites.at_least two,
          ))

  some_arrival : 2 ≤ t → 1 ≤ n
  some_arrival two = omega (arith, some_base two, base_le)

  -- ---- Both

  -- What a value that is answered is worth.
  record ValueOk (value : ℕ) : Type 0 where
    value_known : value ≤ top_value
    value_drawn : above 0 run.accepted ≡ n → least_drawn ≤ value
    few_below : 3000 * below value run.accepted ≤ (3 * q + 2 * e) * n
    few_above : 3000 * above value run.accepted ≤ (3000 - 3 * q + 2 * e) * n
    exact_below : t ≡ 1 → 1000 * below value run.accepted < q * n
    exact_above : t ≡ 1 → 1000 * above value run.accepted ≤ (1000 - q) * n

  -- The value that the answer gives.
  record AnswerOk : Type 0 where
    value : ℕ
    is_value : answer ≡ Some value
    value_ok : ValueOk value

  complement : (1000 - q) * n + q * n ≡ 1000 * n
  complement =
      let split : (1000 - q) + q ≡ 1000 = omega (arith, fit.rank.at_most) in
      omega (arith, ap (λ (z : ℕ). z * n) split)

  thrice_complement : (3000 - 3 * q) * n ≡ 3 * ((1000 - q) * n)
  thrice_complement =
      let split : 3000 - 3 * q ≡ 3 * (1000 - q) = omega (arith, fit.rank.at_most) in
      omega (arith, ap (λ (z : ℕ). z * n) split)

  -- All values are at most 1023, so a value with fewer than n arrivals below it is one of them.
  value_of_few_below : (value : ℕ) → 1000 * below value run.accepted < q * n → value ≤ top_value
  value_of_few_below value few = by_value (dec_lt top_value value)
    where
      by_value : Dec (top_value < value) → value ≤ top_value
      by_value (yes beyond) =
          absurd (omega (
            arith,
            few,
            below_mono (top_value + 1) value run.accepted (omega arith),
            below_above top_value run.accepted,
            ok.sites_ok.values_known,
            mul-le-mul_right n fit.rank.at_most,
          ))
      by_value (no within) = omega arith

  -- Where all arrivals are above 0, none is at or below it, so 0 has not enough of them.
  positive : (value goal : ℕ) → 1 ≤ goal
      → 1000 * above value run.accepted + goal ≤ 1000 * n
      → above 0 run.accepted ≡ n
      → least_drawn ≤ value
  positive value goal some few all-drawn = by_value (dec_lt 0 value)
    where
      by_value : Dec (0 < value) → least_drawn ≤ value
      by_value (yes more) = more
      by_value (no none) =
          let at_zero : value ≡ 0 = omega arith in
          absurd (omega (
            arith,
            few,
            some,
            all-drawn,
            ap (λ (v : ℕ). above v run.accepted) at_zero,
          ))

  answer_ok : 1 ≤ n → AnswerOk
  answer_ok some = by_threshold (dec_lt t 2)
    where
      early : QuantileIs (q * n) run.accepted answer → AnswerOk
      early found =
          let exact : 1000 * above found.value run.accepted ≤ (1000 - q) * n =
          omega (
            arith,
            found.up_to_high,
            below_above found.value run.accepted,
            complement,
          ) in
          record {
            value = found.value;
            is_value = found.is_value;
            value_ok = record {
              value_known = value_of_few_below found.value found.below_low;
              value_drawn =
                  positive found.value (q * n) (mul-le-mul fit.rank.at_least some)
                  (omega (arith, exact, complement));
              few_below = omega (arith, found.below_low);
              few_above = omega (arith, exact, thrice_complement);
              exact_below = λ one. found.below_low;
              exact_above = λ one. exact;
            };
          }

      late : 2 ≤ t
          → LateQuantile q run.network.coordinator.quantile base run.accepted
          → AnswerOk
      late two right = record {
        value = run.network.coordinator.quantile;
        is_value = late_answer two;
        value_ok = record {
          value_known = right.value_known;
          value_drawn =
              positive run.network.coordinator.quantile (q * base)
              (mul-le-mul fit.rank.at_least (some_base two)) right.few_above;
          few_below =
              omega (
                arith,
                right.few_below,
                few_since two,
                mul-le-mul_left q base_le,
                mul-le-mul_left e base_le,
              );
          few_above =
              omega (
                arith,
                right.few_above,
                few_since two,
                complement,
                thrice_complement,
                mul-le-mul_left e base_le,
                mul_gap fit.rank.at_most base_le,
              );
          exact_below = λ one. absurd (omega arith);
          exact_above = λ one. absurd (omega arith);
        };
      }

      by_threshold : Dec (t < 2) → AnswerOk
      by_threshold (yes less) =
          early (early_answer (omega (arith, ok.account.threshold_positive)) some)
      by_threshold (no more) = late (omega arith) (ok.late_quantile (omega arith))

  no_answer : n ≡ 0 → answer ≡ None
  no_answer none = rw (eq-eqb t 1 one, total_is_all one, none)
    where
      one : t ≡ 1
      one = by_threshold (dec_lt t 2)
        where
          by_threshold : Dec (t < 2) → t ≡ 1
          by_threshold (yes less) = omega (arith, ok.account.threshold_positive)
          by_threshold (no more) = absurd (omega (arith, some_arrival (omega arith)))

  -- An answer, or none, by whether there is an arrival.
  answered : (value : ℕ) → answer ≡ Some value → ValueOk value
  answered value is_value = by_count (dec_lt 0 n)
    where
      by_count : Dec (0 < n) → ValueOk value
      by_count (yes some) =
          let found : AnswerOk = answer_ok some in
          subst ValueOk
          (same_value answer found.value value found.is_value is_value) found.value_ok
      by_count (no none) =
          absurd (value_or_nothing answer value is_value (no_answer (omega arith)))

  -- Firmer than the promise: two thirds of e, and exact at first; above 0, where all arrivals are.
  pub firm_quantile_of_ok : above 0 run.accepted ≡ n → FirmQuantile settings run
  firm_quantile_of_ok all-drawn = record {
    value_known = λ value is_value. omega (arith, (answered value is_value).value_known);
    value_drawn = λ value is_value. (answered value is_value).value_drawn all-drawn;
    few_below = λ value is_value. omega (arith, (answered value is_value).few_below);
    few_above = λ value is_value. omega (arith, (answered value is_value).few_above);
    exact_below = λ value is_value one. omega (arith, (answered value is_value).exact_below one);
    exact_above = λ value is_value one. omega (arith, (answered value is_value).exact_above one);
  }

  -- The promise: nothing exactly at the start, and few below and above.
  pub quantile_of_ok : QuantilePromise settings run
  quantile_of_ok = record {
    nothing_at_start = no_answer;
    nothing_only_at_start = λ is-nothing. by_count is-nothing (dec_lt 0 n);
    few_below = λ value is_value. omega (arith, (answered value is_value).few_below);
    few_above = λ value is_value.
        omega (arith, (answered value is_value).few_above, thrice_complement);
  }
    where
      by_count : answer ≡ None → Dec (0 < n) → n ≡ 0
      by_count is-nothing (yes some) =
          let found : AnswerOk = answer_ok some in
          absurd (value_or_nothing answer found.value found.is_value is-nothing)
      by_count is-nothing (no none) = omega arith
