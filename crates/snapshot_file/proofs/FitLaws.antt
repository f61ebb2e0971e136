-- Every number of a bench that saving accepts fits its width.
--
--   Passed, passed_of        what an accepted saving is worth
--   all_fit                  each number of each section fits
use mathlib.Core.Path.{◌≡◌, sym, ap, ◌∙◌, subst}
use mathlib.Core.Bool.{true, ◌||◌}
use mathlib.Core.List.{List, [], ◌∷◌, ◌++◌}
use Prim.Native.Nat.{ℕ, zero, suc, ◌+◌, ◌*◌, ◌^◌, ◌≤◌, ◌<◌}
use native.Mathlib.Nat.{mul-le-mul, div-le_self}
use native.Mathlib.Omega.{arith}
use lib.Dec.{ltb}
use lib.ListN.{length, take, drop, length-append, length-drop}
use lib.Seq.{take-add, take_at, drop_at, length-take-le, get_or-take}
use borrow.Author.Tests.{ltb-false}
use Rattle.laws.proofs.Tests.{both_true, neither_of_or}
use Rattle.model.specs.declared.Settings.{Settings}
use Rattle.model.specs.declared.SiteRecord.{SiteRecord}
use Rattle.model.specs.declared.Phase.{Phase}
use Rattle.model.specs.declared.Phase.TheVariants.{Idle, Collecting, Probing, Announcing}
use Rattle.model.specs.Refusals.{no_refusal, memory_too_short}
use Rattle.model.specs.Limits.{value_count, coordinator_limit}
use Rattle.model.specs.Settings.{settings_refusal}
use Rattle.model.specs.SiteMemory.{site_words, site_consistent}
use Rattle.model.specs.Coordinator.{Coordinator}
use Rattle.model.specs.CoordinatorMemory.{coordinator_words, coordinator_in}
use Rattle.model.specs.NetworkMemory.{sites_words, network_too_short, sites_consistent}
use Rattle.model.specs.SoundNetwork.{SoundCoordinator, SoundPhase, sum_of_phase}
use Rattle.model.specs.Held.{Held, held_consistent}
use Rattle.model.proofs.Thresholds.RefusalLaws.{both_accepted, passed}
use Rattle.model.proofs.Thresholds.SettingsLaws.{settled}
use Rattle.model.proofs.Thresholds.TestedMemory.{consistent_of}
use Rattle.model.proofs.BetweenArrivals.ReportLaws.{value_count_is}
use Rattle.model.proofs.Soundness.ConsistentSites.{length_counters_in, sound_of_consistent, dropped_of_consistent}
use Rattle.model.proofs.Soundness.ConsistentCoordinator.{CoordinatorWithin, coordinator_sound_of, coordinator_within_of}
use Rattle.model.proofs.Soundness.ConsistentNetwork.{BenchRows, bench_rows}
use Rattle.model.proofs.MessageCount.Counts.{few_counted_of}
use Rattle.record_numbers.specs.Numbers.{settings_numbers, site_numbers, coordinator_numbers, phase_numbers}
use Rattle.little_endian.specs.Numbers.{byte_range, AllBelow}
use Rattle.little_endian.specs.Sections.{Section, AllFit}
use Rattle.little_endian.proofs.NumberLaws.{all_below_take, all_below_drop, Each, each_below, all_below_append}
use Rattle.snapshot_file.specs.Layout.{desk_bytes, deck_bytes, pointer_bytes, desk_place, decks_place_of, file_length}
use Rattle.snapshot_file.specs.File.{own_counts, desk_numbers, deck_numbers, deck_sections, bench_sections, trailer_sections, file_sections, save_refusal}
use Rattle.snapshot_file.specs.Claims.{OfMachine}
use Rattle.snapshot_file.proofs.LayoutLaws.{Long}

-- ---- What an accepted saving is worth

pub record Passed (settings : Settings) (held : Held) (room : ℕ) : Type 0 where
  pub settings_accepted : settings_refusal settings ≡ no_refusal
  pub sites_long : sites_words settings ≤ length held.site_memory
  pub coordinator_long : coordinator_words settings ≤ length held.coordinator_memory
  pub room_enough : file_length settings ≤ room
  pub consistent : held_consistent settings held ≡ true

pub passed_of : (settings : Settings) (held : Held) (room : ℕ)
    → save_refusal settings held room ≡ no_refusal
    → Passed settings held room
passed_of settings held room none =
    let chain = both_accepted (settings_refusal settings) _ none in
    let short = passed
    (network_too_short settings held.site_memory held.coordinator_memory
    || ltb room (file_length settings)) memory_too_short _ (omega arith) chain.later_accepted in
    let both = neither_of_or
    (network_too_short settings held.site_memory held.coordinator_memory) _
    short.test_failed in
    let long = neither_of_or (ltb (length held.site_memory) (sites_words settings)) _
    both.first_false in
    record {
      settings_accepted = chain.first_accepted;
      sites_long = ltb-false _ _ long.first_false;
      coordinator_long = ltb-false _ _ long.second_false;
      room_enough = ltb-false _ _ both.second_false;
      consistent = consistent_of _ short.later_accepted;
    }

-- ---- The bounds

abbrev wide : ℕ
wide = byte_range ^ desk_bytes

abbrev narrow : ℕ
narrow = byte_range ^ deck_bytes

module _ (settings : Settings) (held : Held) (room : ℕ) (p : Passed settings held room)
    (machine : OfMachine settings held) where
  abbrev c : Coordinator
  c = coordinator_in settings held.coordinator held.coordinator_memory

  rows : BenchRows settings held.sites held.coordinator held.site_memory
      held.coordinator_memory
  rows = bench_rows settings held.sites held.coordinator held.site_memory
      held.coordinator_memory p.consistent

  within : CoordinatorWithin c
  within = coordinator_within_of settings c rows.coordinator_row

  sound : SoundCoordinator settings c
  sound =
      coordinator_sound_of settings c
      (length-take-le settings.universe held.coordinator_memory
      (omega (arith, p.coordinator_long)))
      (length-take-le value_count (drop settings.universe held.coordinator_memory)
      (omega (
        arith,
        p.coordinator_long,
        length-drop settings.universe
            held.coordinator_memory,
      )))
      rows.coordinator_row

  -- A threshold is at most what its base is multiplied by.
  threshold_small : c.threshold < wide
  threshold_small =
      let few : settings.epsilon ≤ 1000 =
      (settled settings p.settings_accepted).epsilon.at_most in
      let base_small : c.base ≤ coordinator_limit =
      omega (arith, sound.numbers.base_within, within.total_within) in
      let product : settings.epsilon * c.base ≤ 1000 * coordinator_limit =
      mul-le-mul few base_small in
      let quotient = div-le_self (settings.epsilon * c.base) (3000 * settings.sites) in
      rw sound.numbers.threshold_of_base (omega (arith, product, quotient))

  settings_fit : AllBelow wide (settings_numbers settings)
  settings_fit =
      let s = settled settings p.settings_accepted in
      each_below (settings_numbers settings) (
        omega (arith, s.sites.at_most),
        (
          omega (arith, s.epsilon.at_most),
          (
            omega (arith, s.phi.at_most),
            (
              omega (arith, s.rank.at_most),
              (
                omega (arith, s.capacity.at_most),
                (
                  omega (arith, s.universe.at_most),
                  tt,
                ),
              ),
            ),
          ),
        ),
      )

  -- The phase's five numbers.
  abbrev five_of : Phase → List ℕ
  five_of phase =
      let n = phase_numbers phase in
      n.which ∷ (n.site ∷ (n.low ∷ (n.high ∷ (n.sum ∷ []))))

  phase_fit : (phase : Phase) (signals : ℕ)
      → SoundPhase settings signals phase
      → sum_of_phase phase ≤ coordinator_limit
      → Each wide (five_of phase)
  phase_fit Idle signals ok small =
      (omega arith, (omega arith, (omega arith, (omega arith, (omega arith, tt)))))
  phase_fit (Collecting site) signals ok small =
      let few = (settled settings p.settings_accepted).sites.at_most in
      let known : site < wide = omega (arith, ok.site_known, few) in
      (omega arith, (known, (omega arith, (omega arith, (omega arith, tt)))))
  phase_fit (Probing site low high sum) signals ok small =
      let few = (settled settings p.settings_accepted).sites.at_most in
      let low_below = ok.interval.low_below in
      let high_within = ok.interval.high_within in
      let known : site < wide = omega (arith, ok.closing.site_known, few) in
      let low_small : low < wide = omega (arith, low_below, high_within) in
      let high_small : high < wide = omega (arith, high_within) in
      let sum_small : sum < wide = omega (arith, small) in
      (omega arith, (known, (low_small, (high_small, (sum_small, tt)))))
  phase_fit (Announcing site) signals ok small =
      let few = (settled settings p.settings_accepted).sites.at_most in
      let known : site < wide = omega (arith, ok.site_known, few) in
      (omega arith, (known, (omega arith, (omega arith, (omega arith, tt)))))

  signals_small : (phase : Phase) (signals : ℕ)
      → SoundPhase settings signals phase
      → signals < wide
  signals_small Idle signals ok =
      omega (arith, ok, (settled settings p.settings_accepted).sites.at_most)
  signals_small (Collecting site) signals ok =
      omega (arith, ok.all_signals, (settled settings p.settings_accepted).sites.at_most)
  signals_small (Probing site low high sum) signals ok =
      omega (
        arith,
        ok.closing.all_signals,
        (settled settings p.settings_accepted).sites.at_most,
      )
  signals_small (Announcing site) signals ok =
      omega (arith, ok.all_signals, (settled settings p.settings_accepted).sites.at_most)

  record_fit : AllBelow wide (coordinator_numbers held.coordinator)
  record_fit =
      let base_small : c.base < wide =
      omega (arith, sound.numbers.base_within, within.total_within) in
      let total_small : c.total < wide = omega (arith, within.total_within) in
      let class-small : c.quantile < wide = omega (arith, sound.numbers.quantile_within) in
      each_below (coordinator_numbers held.coordinator) (
        total_small,
        (
          base_small,
          (
            threshold_small,
            (
              signals_small c.phase c.signals sound.phase_sound,
              (
                class-small,
                phase_fit c.phase c.signals sound.phase_sound within.sum_within,
              ),
            ),
          ),
        ),
      )

  -- The memory is the estimates and the value counts.
  memory_fit : AllBelow wide (take (coordinator_words settings) held.coordinator_memory)
  memory_fit =
      rw (take-add settings.universe value_count held.coordinator_memory)
      (all_below_append (take settings.universe held.coordinator_memory)
      (take value_count (drop settings.universe held.coordinator_memory))
      (λ i inside. omega (arith, within.estimates_within i))
      (λ i inside. omega (arith, within.values_within i)))

  -- The counts of the k sites, none of them missing.
  counts_long : length (own_counts settings held) ≡ settings.sites
  counts_long =
      length-take-le settings.sites held.sites.messages
      (omega (
        arith,
        (settled settings p.settings_accepted).sites.at_most,
        machine.all_counts,
      ))

  counts_fit : AllBelow wide (own_counts settings held)
  counts_fit i inside =
      let own : i < settings.sites = omega (arith, counts_long, inside) in
      let few = few_counted_of settings.sites held.sites.messages rows.counts_row in
      rw (get_or-take settings.sites held.sites.messages i 0 own)
      (omega (arith, few.each_within i own))

  desk_fit : AllBelow wide (desk_numbers settings held)
  desk_fit =
      all_below_append (take (coordinator_words settings) held.coordinator_memory)
      (coordinator_numbers held.coordinator ++ own_counts settings held) memory_fit
      (all_below_append (coordinator_numbers held.coordinator) (own_counts settings held)
      record_fit counts_fit)

  deck_fit : (numbers : SiteRecord) (memory : List ℕ)
      → site_words settings ≤ length memory
      → AllBelow narrow (take (site_words settings) memory)
      → site_consistent settings numbers memory ≡ true
      → AllBelow narrow (deck_numbers settings numbers memory)
  deck_fit numbers memory long below passes =
      let site = sound_of_consistent settings numbers memory long passes in
      let dropped = dropped_of_consistent settings numbers memory long passes in
      let few = site.few_counters in
      let capacity = (settled settings p.settings_accepted).capacity.at_most in
      let used : numbers.used < narrow =
      omega (arith, few, capacity, length_counters_in numbers.used memory) in
      let arrivals : numbers.arrivals < narrow = omega (arith, site.arrivals_within) in
      let pending : numbers.pending < narrow =
      omega (arith, site.pending_below, site.threshold_within) in
      let threshold : numbers.threshold < narrow = omega (arith, site.threshold_within) in
      let gone : numbers.dropped < narrow = omega (arith, dropped, site.arrivals_within) in
      all_below_append (take (site_words settings) memory) (site_numbers numbers) below
      (each_below (site_numbers numbers) (arrivals, (pending, (threshold, (used, (gone, tt))))))

  decks_fit : (k : ℕ) (records : List SiteRecord) (memory : List ℕ)
      → k * site_words settings ≤ length memory
      → AllBelow narrow (take (k * site_words settings) memory)
      → sites_consistent k settings records memory ≡ true
      → AllFit (deck_sections k settings records memory)
  decks_fit zero records memory long below passes = tt
  decks_fit (suc k) [] memory long below passes = tt
  decks_fit (suc k) (first ∷ others) memory long below passes =
      let words = site_words settings in
      let both = both_true (site_consistent settings first memory) _ passes in
      let rest = drop words memory in
      let next : words + k * words ≡ suc k * words = omega arith in
      let parts : take (suc k * words) memory ≡ take words memory ++ take (k * words) rest =
      ap (λ (n : ℕ). take n memory) (sym next) ∙ take-add words (k * words) memory in
      let all = subst (AllBelow narrow) parts below in
      let front : length (take words memory) ≡ words = length-take-le words memory (omega arith) in
      let own : AllBelow narrow (take words memory) =
      subst (AllBelow narrow) (take_at (take words memory) (take (k * words) rest) words front)
      (all_below_take words (take words memory ++ take (k * words) rest)
      (omega (arith, front, length-append (take words memory) (take (k * words) rest))) all) in
      let behind : AllBelow narrow (take (k * words) rest) =
      subst (AllBelow narrow) (drop_at (take words memory) (take (k * words) rest) words front)
      (all_below_drop words (take words memory ++ take (k * words) rest) all) in (
        deck_fit first memory (omega arith) own both.first_true,
        decks_fit k others rest (omega (arith, length-drop words memory)) behind
            both.second_true,
      )

  trailer_fit : AllFit (trailer_sections settings)
  trailer_fit =
      let s = settled settings p.settings_accepted in
      let place : decks_place_of settings < byte_range ^ pointer_bytes =
      omega (arith, s.universe.at_most, s.sites.at_most, value_count_is) in (
        each_below (desk_place ∷ (decks_place_of settings ∷ [])) (omega arith, (place, tt)),
        (
          each_below (deck_bytes ∷ []) (omega arith, tt),
          tt,
        ),
      )

  pub long_of : Long settings held
  long_of = record {
    records_enough =
        omega (
          arith,
          (settled settings p.settings_accepted).sites.at_most,
          machine.all_records,
        );
    counts_enough =
        omega (
          arith,
          (settled settings p.settings_accepted).sites.at_most,
          machine.all_counts,
        );
    sites_long = p.sites_long;
    coordinator_long = p.coordinator_long;
  }

  fit_append : (first second : List Section) → AllFit first → AllFit second
      → AllFit (first ++ second)
  fit_append [] second fits others = others
  fit_append (s ∷ first) second fits others =
      (fits.0, fit_append first second fits.1 others)

  pub all_fit : AllFit (file_sections settings held)
  all_fit =
      fit_append (bench_sections settings held) (trailer_sections settings) (
        settings_fit,
        (
          desk_fit,
          decks_fit settings.sites held.sites.records held.site_memory p.sites_long
              machine.words_fit rows.sites_row,
        ),
      )
      trailer_fit
