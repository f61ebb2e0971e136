-- What a history holds in the network's own numbers of the sites' memory are machine numbers of
-- four bytes: the start's zeros, items below u, and counts of at most 1,000,000,000.
--
--   sites_below      sound sites written over machine numbers
--   of_machine       of every state of a history, from the fronts that are lent
use mathlib.Core.Path.{◌≡◌, sym, ap, ◌∙◌, subst}
use mathlib.Core.List.{List, [], ◌∷◌}
use Prim.Native.Nat.{ℕ, suc, ◌*◌, ◌^◌, ◌≤◌, ◌<◌}
use native.Mathlib.Omega.{arith}
use lib.ListN.{length, get_or, take, drop}
use lib.Seq.{take-take}
use Rattle.laws.proofs.Lists.{get_d_replicate_default}
use Rattle.model.specs.declared.Settings.{Settings}
use Rattle.model.specs.Refusals.{no_refusal}
use Rattle.model.specs.Limits.{site_limit}
use Rattle.model.specs.Settings.{settings_refusal}
use Rattle.model.specs.Counters.{Counter, counter_at}
use Rattle.model.specs.Site.{Site, fresh_site}
use Rattle.model.specs.SiteMemory.{counter_numbers, counter_words, site_words, site_memory, overwrite}
use Rattle.model.specs.NetworkMemory.{sites_words, sites_memory}
use Rattle.model.specs.SoundNetwork.{SoundCounter, SoundSite}
use Rattle.model.proofs.Thresholds.SettingsLaws.{settled}
use Rattle.little_endian.specs.Numbers.{byte_range, AllBelow}
use Rattle.little_endian.proofs.NumberLaws.{all_below_take, all_below_drop, each_below, all_below_append}
use Rattle.site_memory.proofs.ValueLaws.{get_d_le_sum}
use Rattle.site_memory.proofs.SitesMemoryLaws.{part_long, part_length, rest_long}
use Rattle.snapshot_file.specs.Layout.{deck_bytes}
use Rattle.snapshot_file.specs.Claims.{OfMachine}
use Rattle.history.specs.State.{Held, State, network_of, fronts, lending}
use Rattle.history.proofs.Answers.{words_enough}
use Rattle.history.proofs.LoggedCounts.{length_of_log}
use Rattle.history.proofs.Accepted.{held_sound}
use Rattle.history.proofs.Lasting.{Lasting, all_sites, long_front, front_written}

-- The numbers that four bytes can say.
abbrev narrow : ℕ
narrow = byte_range ^ deck_bytes

-- ---- A site

-- Four numbers for each counter in use.
counters_below : (universe arrivals threshold : ℕ) (counters : List Counter)
    → universe ≤ narrow
    → arrivals ≤ site_limit
    → ((place : ℕ) → place < length counters
    → SoundCounter universe arrivals threshold (counter_at counters place))
    → AllBelow narrow (counter_numbers counters)
counters_below universe arrivals threshold [] few within sound = λ i inside. absurd (omega arith)
counters_below universe arrivals threshold (counter ∷ counters) few within sound =
    let own : SoundCounter universe arrivals threshold counter = sound 0 (omega arith) in
    let item : counter.item < narrow = omega (arith, own.item_known) in
    let count : counter.count < narrow = omega (arith, own.count_within) in
    let over : counter.overestimate < narrow =
    omega (arith, own.count_within, own.within_count) in
    let reported : counter.reported < narrow =
    omega (arith, own.count_within, own.within_count) in
    let four : List ℕ =
    counter.item ∷ (counter.count ∷ (counter.overestimate ∷ (counter.reported ∷ []))) in
    all_below_append four (counter_numbers counters)
    (each_below four (item, (count, (over, (reported, tt)))))
    (counters_below universe arrivals threshold counters few within
    (λ place inside. sound (suc place) (omega arith)))

module _ {settings : Settings} (passes : settings_refusal settings ≡ no_refusal) where
  -- A sound site, written over machine numbers.
  site_below : (site : Site) (memory : List ℕ)
      → SoundSite settings site
      → counter_words settings ≤ length memory
      → AllBelow narrow memory
      → AllBelow narrow (site_memory settings site memory)
  site_below site memory sound long below =
      let words = counter_words settings in
      let numbers = counter_numbers site.counters in
      let few : settings.universe ≤ narrow =
      omega (arith, (settled settings passes).universe.at_most) in
      let counters = counters_below settings.universe site.arrivals site.threshold
      site.counters few sound.arrivals_within sound.counters_sound in
      let values : AllBelow narrow site.histogram =
      λ i inside.
      omega (
        arith,
        get_d_le_sum site.histogram i,
        sound.histogram_sum,
        sound.arrivals_within,
      ) in
      let front = take words memory in
      let behind = drop words memory in
      all_below_append (overwrite numbers front) (overwrite site.histogram behind)
      (all_below_append numbers (drop (length numbers) front) counters
      (all_below_drop (length numbers) front (all_below_take words memory long below)))
      (all_below_append site.histogram (drop (length site.histogram) behind) values
      (all_below_drop (length site.histogram) behind (all_below_drop words memory below)))

  -- Site after site.
  pub sites_below : (sites : List Site) (memory : List ℕ)
      → ((j : ℕ) → j < length sites → SoundSite settings (get_or sites j fresh_site))
      → length sites * site_words settings ≤ length memory
      → AllBelow narrow memory
      → AllBelow narrow (sites_memory settings sites memory)
  sites_below [] memory sound long below = below
  sites_below (site ∷ sites) memory sound long below =
      let words = site_words settings in
      let part = take words memory in
      let enough = part_long settings (length sites) memory long in
      all_below_append (site_memory settings site part)
      (sites_memory settings sites (drop words memory))
      (site_below site part (sound 0 (omega arith))
      (omega (arith, part_length settings (length sites) memory long))
      (all_below_take words memory enough below))
      (sites_below sites (drop words memory) (λ j inside. sound (suc j) (omega arith))
      (rest_long settings (length sites) memory long) (all_below_drop words memory below))

-- ---- A history

module _ {settings : Settings} (passes : settings_refusal settings ≡ no_refusal)
    {n : ℕ} (state : State) (start : Held) (now : Lasting settings start n state) where
  abbrev words : ℕ
  words = sites_words settings

  abbrev sites : List Site
  sites = (network_of settings state.held).sites

  -- The network's own numbers.
  own_below : AllBelow narrow (take words state.held.site_memory)
  own_below =
      let many = all_sites passes state start now in
      let zeros : AllBelow narrow (take words start.site_memory) =
      subst (AllBelow narrow) (sym now.fresh.site_memory)
      (λ i inside. rw (get_d_replicate_default {A = ℕ} 0 words i) (omega arith)) in
      subst (AllBelow narrow) (sym (front_written passes state start now))
      (sites_below passes sites (take words start.site_memory)
      (λ j inside. (held_sound passes now.ok).sites_sound j (omega (arith, many, inside)))
      (rw (many, long_front passes state start now) (omega arith))
      zeros)

  -- Lent from the front, as many of them as are asked for, or more.
  pub of_machine : (site_count coordinator_count : ℕ)
      → words ≤ length (take site_count state.held.site_memory)
      → OfMachine settings (lending state.held (fronts site_count coordinator_count))
  of_machine site_count coordinator_count long = record {
    all_records = now.ok.lengths.all_records;
    all_counts = ap length now.ok.counts_are ∙ length_of_log state.log;
    words_fit =
        subst (AllBelow narrow)
        (sym (take-take words site_count state.held.site_memory
        (words_enough words site_count state.held.site_memory long)))
        own_below;
  }
