-- The memory after an arrival: the counter stored, then reported, then the value counted, is the
-- model's site written to the memory.
--
--   counters_reported        the model's counters when an arrival's messages have gone out
--   length_counters_reported  a report changes no counter's place
--   memory_reported          the memory when the counter was stored and reported
--   memory_observed          the memory when the value was counted too
use Rattle.std.specs.Prelude.{if◌then◌else◌}
use Prim.Native.Nat.{ℕ, ◌+◌, ◌*◌, ◌<◌, ◌≤◌}
use mathlib.Core.Path.{◌≡◌, refl, ap, sym, ◌∙◌}
use mathlib.Core.List.{List, ◌++◌}
use mathlib.Core.Bool.{Bool, true, false}
use native.Mathlib.Omega.{arith}
use lib.ListN.{length, get_or, set, drop, length-set}
use Rattle.laws.proofs.FlatMemory.{get_d_overwritten, two_parts}
use Rattle.model.specs.declared.Settings.{Settings}
use Rattle.model.specs.declared.SiteRecord.{SiteRecord}
use Rattle.model.specs.declared.Arrival.{Arrival}
use Rattle.model.specs.Limits.{value_count}
use Rattle.model.specs.Counters.{Counter, counter_at}
use Rattle.model.specs.Site.{Site, observed, one_more_at, place_for, counters_with, report_at, reports_item}
use Rattle.model.specs.SiteMemory.{counter_words, site_words, site_in, site_memory, counter_numbers, overwrite}
use Rattle.site_counters.proofs.CounterMemory.{length_counter_numbers, with_reported, set_reported}
use Rattle.site_memory.proofs.ValueLaws.{get_d_values_at}

-- ---- A report in memory

-- One counter's last number set, over the memory that the counters were written to.
reported_stored : (counters : List Counter) (memory : List ℕ) (place amount : ℕ)
    → place < length counters
    → set (overwrite (counter_numbers counters) memory) (4 * place + 3)
    ((counter_at counters place).reported + amount)
    ≡ overwrite (counter_numbers (report_at amount place counters)) memory
reported_stored counters memory place amount within =
    let x = with_reported (counter_at counters place)
    ((counter_at counters place).reported + amount) in
    let same : length (counter_numbers (set counters place x)) ≡ length (counter_numbers counters) =
    length_counter_numbers (set counters place x)
    ∙ ap (λ (l : ℕ). 4 * l) (length-set counters place x)
    ∙ sym (length_counter_numbers counters) in
    set_reported counters (drop (length (counter_numbers counters)) memory) place
    ((counter_at counters place).reported + amount) within
    ∙ ap (λ (l : ℕ). counter_numbers (set counters place x) ++ drop l memory) (sym same)

module _ (settings : Settings) (site : Site) (arrival : Arrival) where
  abbrev pub counters_reported : List Counter
  counters_reported =
      if reports_item settings site arrival
      then report_at site.threshold (place_for settings site arrival)
      (counters_with settings site arrival)
      else counters_with settings site arrival

  pub length_counters_reported :
      length counters_reported ≡ length (counters_with settings site arrival)
  length_counters_reported = by_report (reports_item settings site arrival)
    where
      by_report : (due : Bool)
          → length (if due
          then report_at site.threshold (place_for settings site arrival)
          (counters_with settings site arrival)
          else counters_with settings site arrival)
          ≡ length (counters_with settings site arrival)
      by_report true = length-set (counters_with settings site arrival) _ _
      by_report false = refl

  -- The memory of the counters, reported if that is due.
  pub memory_reported : (before stored reported : List ℕ)
      → place_for settings site arrival < length (counters_with settings site arrival)
      → stored ≡ overwrite (counter_numbers (counters_with settings site arrival)) before
      → reported
      ≡ (if reports_item settings site arrival
      then set stored (4 * place_for settings site arrival + 3)
      ((counter_at (counters_with settings site arrival) (place_for settings site arrival)).reported
      + site.threshold)
      else stored)
      → reported ≡ overwrite (counter_numbers counters_reported) before
  memory_reported before stored reported within stored_is reported_is =
      reported_is ∙ by_report (reports_item settings site arrival)
    where
      by_report : (due : Bool)
          → (if due
          then set stored (4 * place_for settings site arrival + 3)
          ((counter_at (counters_with settings site arrival)
          (place_for settings site arrival)).reported
          + site.threshold)
          else stored)
          ≡ overwrite
          (counter_numbers
          (if due
          then report_at site.threshold (place_for settings site arrival)
          (counters_with settings site arrival)
          else counters_with settings site arrival))
          before
      by_report true =
          rw stored_is
          (reported_stored (counters_with settings site arrival) before
          (place_for settings site arrival) site.threshold within)
      by_report false = stored_is

-- ---- A value counted in memory

module _
    (settings : Settings)
    (numbers : SiteRecord)
    (arrival : Arrival)
    (before reported : List ℕ)
    (long : site_words settings ≤ length before)
    (known : arrival.value < value_count)
    (few : length (counters_with settings (site_in settings numbers before) arrival)
    ≤ settings.capacity)
    (reported_is : reported
    ≡ overwrite
    (counter_numbers (counters_reported settings (site_in settings numbers before) arrival))
    before) where
  -- The numbers of the counters end before those of the values.
  numbers_before :
      length (counter_numbers (counters_reported settings (site_in settings numbers before)
      arrival))
      ≤ counter_words settings
  numbers_before =
      let site = site_in settings numbers before in
      omega (
        arith,
        length_counter_numbers (counters_reported settings site arrival),
        length_counters_reported settings site arrival,
      )

  -- The value's count is still the one that the site had.
  pub value_kept : get_or reported (counter_words settings + arrival.value) 0
      ≡ get_or (site_in settings numbers before).histogram arrival.value 0
  value_kept =
      let site = site_in settings numbers before in
      ap (λ (l : List ℕ). get_or l (counter_words settings + arrival.value) 0) reported_is
      ∙ get_d_overwritten (counter_numbers (counters_reported settings site arrival)) before
      (counter_words settings + arrival.value) 0 (omega (arith, numbers_before))
      ∙ sym (get_d_values_at before (counter_words settings) long arrival.value known)

  pub memory_observed : one_more_at reported (counter_words settings + arrival.value)
      ≡ site_memory settings
      (observed settings (site_in settings numbers before) arrival).site
      before
  memory_observed =
      let site = site_in settings numbers before in
      let ws = counter_numbers (counters_reported settings site arrival) in
      let place = counter_words settings + arrival.value in
      ap (λ (n : ℕ). set reported place (n + 1)) value_kept
      ∙ ap (λ (l : List ℕ). set l place (get_or site.histogram arrival.value 0 + 1)) reported_is
      ∙ sym (two_parts (counter_words settings) value_count ws before arrival.value
      (get_or site.histogram arrival.value 0 + 1) numbers_before long known)
