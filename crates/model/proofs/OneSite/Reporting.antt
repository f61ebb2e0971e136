-- A site's item reports: a counter after its report, and what the reports say of an item's arrivals
-- (PROOF.md S3, S6).
--
--   saved_report                  "kind 1 goes out and sent grows by it": the counters stay right
--   below_report, sum_report      the unreported arrivals then
--   Near, reports_near            no more is reported of an item than arrived, and hardly less
use mathlib.Core.Path.{◌≡◌, sym, ap, ◌∙◌}
use mathlib.Core.List.{List}
use Prim.Native.Nat.{ℕ, ◌+◌, ◌*◌, ◌≤◌, ◌<◌}
use native.Mathlib.Nat.{mul-le-mul_left, mul-le-mul_right}
use native.Mathlib.Omega.{arith}
use native.Mathlib.Decide.{dec_lt}
use lib.ListN.{length, set, length-set}
use Rattle.laws.proofs.Lists.{all_set}
use Rattle.laws.proofs.Sums.{sum_of, sum_of_set, sum_of_least}
use Rattle.model.specs.Counters.{Counter, no_counter, counter_at, unreported, find, after_report}
use Rattle.model.specs.Site.{report_at}
use Rattle.model.proofs.OneSite.CounterLaws.{Found, find_is}
use Rattle.model.proofs.OneSite.DistinctItems.{Absent, apart_set, absent_of_set, absent_before_set}
use Rattle.model.proofs.OneSite.SpaceSaving.{CounterOk, NotHeld, Saved, GrowsAt}
use Rattle.model.proofs.OneSite.Counting.{Counted}

-- ---- A report

module _ {arrived reported reported' : ℕ → ℕ} {capacity n threshold item place lost : ℕ}
    {before counters : List Counter}
    (positive : 1 ≤ threshold)
    (told : GrowsAt item threshold reported reported')
    (saved : Saved arrived reported capacity n counters)
    (counted : Counted threshold item place lost before counters)
    (due : threshold ≤ unreported (counter_at counters place)) where
  abbrev after : Counter
  after = after_report threshold (counter_at counters place)

  elsewhere : (j : ℕ) → j < length counters → (j ≡ place → ⊥)
      → (counter_at counters j).item ≡ (counter_at counters place).item → ⊥
  elsewhere j j< other same = other (saved.apart.same_place j place j< counted.inside same)

  after_ok : CounterOk arrived reported' capacity n after
  after_ok =
      let ok : CounterOk arrived reported capacity n (counter_at counters place) =
      saved.held place counted.inside in
      let grown : reported' (counter_at counters place).item
      ≡ reported (counter_at counters place).item + threshold =
      rw counted.holds told.grown in
      record {
        amounts_fit = omega (arith, due);
        arrived_le_count = ok.arrived_le_count;
        reported_low = omega arith;
        reported_high = omega arith;
        overestimate_low = ok.overestimate_low;
      }

  others_ok : (j : ℕ) → j < length counters → (j ≡ place → ⊥)
      → CounterOk arrived reported' capacity n (counter_at counters j)
  others_ok j j< other =
      let ok : CounterOk arrived reported capacity n (counter_at counters j) = saved.held j j< in
      let unchanged : reported' (counter_at counters j).item
      ≡ reported (counter_at counters j).item =
      told.same _ (λ same. elsewhere j j< other (same ∙ sym counted.holds)) in
      record {
        amounts_fit = ok.amounts_fit;
        arrived_le_count = ok.arrived_le_count;
        reported_low = omega arith;
        reported_high = omega arith;
        overestimate_low = ok.overestimate_low;
      }

  others_not_held : (other : ℕ) → Absent other (set counters place after)
      → NotHeld arrived reported' capacity (set counters place after) other
  others_not_held other absent =
      let differs : (counter_at counters place).item ≡ other → ⊥ =
      (absent_of_set counters place after counted.inside other absent).not_new in
      let ok : NotHeld arrived reported capacity counters other =
      saved.not_held other
      (absent_before_set counters place after counted.inside other absent differs) in
      let unchanged : reported' other ≡ reported other =
      told.same other (λ same. differs (counted.holds ∙ sym same)) in
      record {
        reported_le = omega arith;
        arrived_le_counts =
            all_set (λ x. arrived other ≤ x.count) no_counter counters place after counted.inside
            (ok.arrived_le_counts place counted.inside) (λ j j< _. ok.arrived_le_counts j j<);
        none_arrived = λ room. ok.none_arrived (omega (arith, length-set counters place after));
      }

  -- The report moves an amount from unreported to reported; nothing else moves.
  pub saved_report : Saved arrived reported' capacity n (report_at threshold place counters)
  saved_report = record {
    within = omega (arith, length-set counters place after);
    counts_add_up =
        omega (arith, sum_of_set (λ x. x.count) no_counter counters place after counted.inside);
    apart = apart_set counters place after counted.inside saved.apart elsewhere;
    held = all_set (CounterOk arrived reported' capacity n) no_counter counters place after
        counted.inside after_ok others_ok;
    not_held = others_not_held;
  }

  -- All unreported are below the threshold again.
  pub below_report : (j : ℕ) → j < length (report_at threshold place counters)
      → unreported (counter_at (report_at threshold place counters) j) < threshold
  below_report =
      all_set (λ x. unreported x < threshold) no_counter counters place after counted.inside
      (omega (arith, counted.here_le)) counted.others_below

  -- The amount of the report moves from unreported to reported.
  pub sum_report : sum_of unreported (report_at threshold place counters) + threshold
      ≡ sum_of unreported counters
  sum_report =
      omega (arith, due, sum_of_set unreported no_counter counters place after counted.inside)

-- ---- What the reports are worth

-- The reports of an item against its arrivals: no more, and hardly less, with unreported at most w.
pub record Near (arrived reported : ℕ → ℕ) (capacity n w item : ℕ) : Type 0 where
  pub reported_le : reported item ≤ arrived item
  pub arrived_near : capacity * arrived item ≤ capacity * (reported item + w) + n

module _ {arrived reported : ℕ → ℕ} {capacity n : ℕ} {counters : List Counter}
    (saved : Saved arrived reported capacity n counters) (item w : ℕ)
    (few : (j : ℕ) → j < length counters → unreported (counter_at counters j) ≤ w) where
  abbrev NearHere : Type 0
  NearHere = Near arrived reported capacity n w item

  -- In its counter: arrived ≤ count = overestimate + reported there + unreported. Without one: not
  -- arrived at all, or as often as the least count says, and capacity × that ≤ n.
  pub reports_near : Near arrived reported capacity n w item
  reports_near = by_place (dec_lt (find item counters) (length counters))
    where
      found : Found item counters (find item counters)
      found = find_is item counters

      in_counter : find item counters < length counters → NearHere
      in_counter inside =
          let ok : CounterOk arrived reported capacity n (counter_at counters (find item counters))
          =
          saved.held (find item counters) inside in
          let arrivals : arrived (counter_at counters (find item counters)).item ≡ arrived item =
          ap arrived (found.holds inside) in
          let reports : reported (counter_at counters (find item counters)).item ≡ reported item =
          ap reported (found.holds inside) in
          let bound : arrived item
          ≤ (counter_at counters (find item counters)).overestimate + (reported item + w) =
          omega (arith, few (find item counters) inside) in
          record {
            reported_le = omega arith;
            arrived_near = omega (arith, mul-le-mul_left capacity bound);
          }

      without : NotHeld arrived reported capacity counters item
          → Dec (length counters < capacity)
          → NearHere
      without ok (yes room) = record {
        reported_le = ok.reported_le;
        arrived_near = omega (arith, ap (λ (z : ℕ). capacity * z) (ok.none_arrived room));
      }
      without ok (no full) =
          let all-used : capacity ≤ length counters = omega arith in
          record {
            reported_le = ok.reported_le;
            arrived_near = omega (
              arith,
              mul-le-mul_right (arrived item) all-used,
              sum_of_least (λ x. x.count) no_counter counters (arrived item) ok.arrived_le_counts,
            );
          }

      by_place : Dec (find item counters < length counters) → NearHere
      by_place (yes inside) = in_counter inside
      by_place (no outside) =
          without
          (saved.not_held item
          (record { nowhere = λ j j< same. found.lowest j (omega arith) same }))
          (dec_lt (length counters) capacity)
