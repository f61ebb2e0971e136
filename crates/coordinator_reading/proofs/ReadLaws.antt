-- What a coordinator that passed its tests is worth to the functions that read it, and the search
-- for the least value.
--
--   read_asks, margin_tested        accepted tests give what reading asks
--   sides_ask                       the sides of the list rule, by the number in memory
--   values_ask                      the value counts, as the code cuts them out of the memory
--   Searching, searching_fits, searching_found, searching_on, searching_end
--   quantile_at_one, quantile_kept     the cases of `quantile_of`
use Rattle.std.specs.Prelude.{None, Some, if◌then◌else◌}
use mathlib.Core.Path.{◌≡◌, ap, ◌∙◌}
use mathlib.Core.Bool.{Bool, true, false}
use mathlib.Core.List.{List, ◌∷◌}
use Prim.Native.Nat.{ℕ, ◌+◌, ◌-◌, ◌*◌, ◌≤◌, ◌<◌}
use native.Mathlib.Numerals.{add-one}
use native.Mathlib.Omega.{arith}
use lib.ListN.{length, get_or, take, drop, length-take, drop_of_length-le}
use lib.Seq.{get_or-take, drop-cons}
use lib.Dec.{leb}
use borrow.Author.Tests.{le-leb, lt-leb, leb-false, eq-eqb, ne_eqb}
use Rattle.model.specs.declared.Settings.{Settings}
use Rattle.model.specs.declared.CoordinatorRecord.{CoordinatorRecord}
use Rattle.model.specs.Choice.{is_zero}
use Rattle.model.specs.Refusals.{no_refusal}
use Rattle.model.specs.Limits.{coordinator_limit}
use Rattle.model.specs.Coordinator.{Coordinator, enough}
use Rattle.model.specs.CoordinatorMemory.{coordinator_in, coordinator_memory_refusal}
use Rattle.model.specs.Reading.{least_value, least_value_from, quantile_of}
use Rattle.model.proofs.Thresholds.RefusalLaws.{both_accepted, passed}
use Rattle.model.proofs.Thresholds.SettingsLaws.{settled}
use Rattle.model.proofs.BetweenArrivals.ReportLaws.{value_count_is}
use Rattle.model.proofs.Thresholds.TestedMemory.{coordinator_tested}
use Rattle.coordinator_memory.proofs.ConsistencyLaws.{histogram_part}
use Rattle.coordinator_memory.proofs.ReadyLaws.{within_of_consistent}
use Rattle.coordinator_reading.specs.Promises.{ReadAsks, SidesAsk, ValuesAsk, margin_refusal}

pub read_asks : (settings : Settings) (numbers : CoordinatorRecord) (memory : List ℕ)
    → coordinator_memory_refusal settings numbers memory ≡ no_refusal
    → ReadAsks settings numbers memory
read_asks settings numbers memory none =
    let facts = coordinator_tested settings numbers memory none in
    record {
      settings_accepted = facts.settings_accepted;
      memory_long = facts.memory_long;
      consistent = facts.consistent;
    }

-- Accepted tests of the margin: those of every call, and a known item.
pub record MarginTested (settings : Settings) (numbers : CoordinatorRecord) (item : ℕ)
    (memory : List ℕ)
    : Type 0 where
  pub asks : ReadAsks settings numbers memory
  pub item_known : item < settings.universe

pub margin_tested : (settings : Settings) (numbers : CoordinatorRecord) (item : ℕ) (memory : List ℕ)
    → margin_refusal settings numbers item memory ≡ no_refusal
    → MarginTested settings numbers item memory
margin_tested settings numbers item memory none =
    let rows = both_accepted (coordinator_memory_refusal settings numbers memory) _ none in
    let item-row = passed (leb settings.universe item) 6 _ (omega arith)
    rows.later_accepted in
    record {
      asks = read_asks settings numbers memory rows.first_accepted;
      item_known = leb-false _ _ item-row.test_failed;
    }

-- ---- The numbers of the list rule, and the value counts

module _ (settings : Settings) (numbers : CoordinatorRecord) (memory : List ℕ)
    (asks : ReadAsks settings numbers memory) where
  abbrev here : Coordinator
  here = coordinator_in settings numbers memory

  pub sides_ask : (item : ℕ)
      → item < settings.universe
      → SidesAsk settings numbers.total (get_or memory item 0)
  sides_ask item inside =
      let ranges = settled settings asks.settings_accepted in
      let within = within_of_consistent settings here asks.consistent in
      record {
        phi_small = ranges.phi.at_most;
        epsilon_within = ranges.phi_epsilon;
        total_within = within.total_within;
        number_within = rw (get_or-take settings.universe memory item 0 inside) at
            (within.estimates_within item);
      }

  pub values_ask : ValuesAsk settings.rank numbers.total
      (take (settings.universe + 1024 - settings.universe) (drop settings.universe memory))
  values_ask =
      let ranges = settled settings asks.settings_accepted in
      let within = within_of_consistent settings here asks.consistent in
      let part = histogram_part settings memory in
      record {
        rank_small = ranges.rank.at_most;
        total_within = within.total_within;
        few = rw (part, length-take) (omega arith);
        counts_within = rw part within.histogram_within;
      }

-- ---- The least value

-- No value before this one has enough; those from it on decide.
pub record Searching (rank total : ℕ) (counts : List ℕ) (below value : ℕ) : Type 0 where
  pub place : value ≤ length counts
  pub rest_decides :
      least_value rank total counts ≡ least_value_from rank total value below (drop value counts)
  pub small : below ≤ value * coordinator_limit

module _ (rank total : ℕ) (counts : List ℕ) where
  -- The sum with the next count is at most 1024 times the limit.
  pub searching_fits : (below value : ℕ)
      → ValuesAsk rank total counts
      → Searching rank total counts below value
      → value < length counts
      → below + get_or counts value 0 ≤ 1024 * coordinator_limit
  searching_fits below value asks so_far inside =
      omega (arith, asks.few, asks.counts_within value, so_far.small, value_count_is)

  drop_on : (value : ℕ)
      → value < length counts
      → drop value counts ≡ get_or counts value 0 ∷ drop (value + 1) counts
  drop_on value inside = rw (add-one value) (drop-cons counts value 0 inside)

  from_on : (value below : ℕ) (test : Bool)
      → value < length counts
      → enough rank total (below + get_or counts value 0) ≡ test
      → least_value_from rank total value below (drop value counts)
      ≡ elim test [
        | true ↦ Some value
        | false ↦ least_value_from rank total (value + 1) (below + get_or counts value 0)
            (drop (value + 1) counts)
      ]
  from_on value below test inside decides =
      ap (least_value_from rank total value below) (drop_on value inside)
      ∙ rw (decides, least_value_from)

  pub searching_found : (below value : ℕ)
      → Searching rank total counts below value
      → value < length counts
      → rank * total ≤ 1000 * (below + get_or counts value 0)
      → least_value rank total counts ≡ Some value
  searching_found below value so_far inside reached =
      so_far.rest_decides ∙ from_on value below true inside (le-leb _ _ reached)

  pub searching_on : (below value : ℕ)
      → Searching rank total counts below value
      → value < length counts
      → get_or counts value 0 ≤ coordinator_limit
      → 1000 * (below + get_or counts value 0) < rank * total
      → Searching rank total counts (below + get_or counts value 0) (value + 1)
  searching_on below value so_far inside count_small short = record {
    place = omega arith;
    rest_decides = so_far.rest_decides ∙ from_on value below false inside (lt-leb _ _ short);
    small = omega (arith, so_far.small);
  }

  pub searching_end : (below value : ℕ)
      → Searching rank total counts below value
      → length counts ≤ value
      → least_value rank total counts ≡ None
  searching_end below value so_far past =
      so_far.rest_decides
      ∙ ap (least_value_from rank total value below) (drop_of_length-le counts past)

-- ---- The quantile, by threshold and total

module _ (settings : Settings) (c : Coordinator) where
  pub quantile_at_one : c.threshold ≡ 1
      → quantile_of settings c
      ≡ (if is_zero c.total then None else least_value settings.rank c.total c.histogram)
  quantile_at_one one = rw (eq-eqb _ _ one)

  pub quantile_kept : (c.threshold ≡ 1 → ⊥) → quantile_of settings c ≡ Some c.quantile
  quantile_kept more = rw (ne_eqb _ _ more)
