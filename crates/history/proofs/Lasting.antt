-- What holds of every state of a history: the invariant, and that what is held comes of a fresh
-- start. A closing needs both together: saving looks at all of the network's own numbers, in use or
-- not, and reading makes records k to 31 fresh.
--
--   Lasting settings start n state    both, n steps of delivery after the last arrival
--   all_sites, front_written          the network's own numbers of the sites' memory: the sites,
--                                     written over the start's
--   lasting_carried                   both hold again of what is carried to other memories
use mathlib.Core.Path.{◌≡◌, sym, ap, ◌∙◌}
use mathlib.Core.List.{List, ◌++◌}
use Prim.Native.Nat.{ℕ, ◌*◌, ◌≤◌}
use native.Mathlib.Omega.{arith}
use lib.ListN.{length, take, drop, length-take, length-replicate, take-append-drop}
use lib.Seq.{length-take-le, take_at}
use Rattle.model.specs.declared.Settings.{Settings}
use Rattle.model.specs.Refusals.{no_refusal}
use Rattle.model.specs.Settings.{settings_refusal}
use Rattle.model.specs.Site.{Site}
use Rattle.model.specs.SiteMemory.{site_words}
use Rattle.model.specs.CoordinatorMemory.{coordinator_words}
use Rattle.model.specs.Network.{Network}
use Rattle.model.specs.NetworkMemory.{sites_words, sites_memory}
use Rattle.model.proofs.Thresholds.SettingsLaws.{settled}
use Rattle.site_memory.proofs.SitesMemoryLaws.{AllStorable, all_storable, length_sites_memory}
use Rattle.site_memory.proofs.SitesReading.{length_sites_in}
use Rattle.site_memory.proofs.SitesFronts.{sites_memory_front}
use Rattle.history.specs.State.{Held, State, network_of, front_in, carried_to, holding}
use Rattle.history.specs.Start.{StartedFresh}
use Rattle.history.proofs.Invariant.{StateOk}
use Rattle.history.proofs.Accepted.{held_sound}
use Rattle.history.proofs.FromStart.{FromStart}
use Rattle.history.proofs.Carried.{take_front_in, drop_front_in, front_in_long, same_network, ok_carried}

pub record Lasting (settings : Settings) (start : Held) (n : ℕ) (state : State) : Type 0 where
  pub ok : StateOk settings n state
  -- what was held at the start is fresh, and what is held now comes of it
  pub fresh : StartedFresh settings start
  pub from : FromStart settings start state.held

-- ---- A fresh start, carried

-- A memory is as long as a front of it that is known.
long_of_front : (words : ℕ) (memory : List ℕ)
    → length (take words memory) ≡ words
    → words ≤ length memory
long_of_front words memory is = omega (arith, is, length-take words memory)

module _ {settings : Settings} (start : Held) (fresh : StartedFresh settings start)
    (site_memory coordinator_memory : List ℕ) where
  -- Zeros in front say how long a memory is.
  start_sites_long : sites_words settings ≤ length start.site_memory
  start_sites_long =
      long_of_front (sites_words settings) start.site_memory
      (ap length fresh.site_memory ∙ length-replicate {A = ℕ} (sites_words settings) 0)

  start_coordinator_long : coordinator_words settings ≤ length start.coordinator_memory
  start_coordinator_long =
      long_of_front (coordinator_words settings) start.coordinator_memory
      (ap length fresh.coordinator_memory
      ∙ length-replicate {A = ℕ} (coordinator_words settings) 0)

  fresh_carried : StartedFresh settings
      (carried_to settings start site_memory coordinator_memory)
  fresh_carried = record {
    sites = fresh.sites;
    coordinator = fresh.coordinator;
    site_memory =
        take_front_in (sites_words settings) start.site_memory site_memory start_sites_long
        ∙ fresh.site_memory;
    coordinator_memory =
        take_front_in (coordinator_words settings) start.coordinator_memory coordinator_memory
        start_coordinator_long
        ∙ fresh.coordinator_memory;
  }

-- ---- What is held from it

module _ {settings : Settings} (passes : settings_refusal settings ≡ no_refusal)
    {n : ℕ} (state : State) (start : Held) (now : Lasting settings start n state) where
  abbrev words : ℕ
  words = sites_words settings

  abbrev sites : List Site
  sites = (network_of settings state.held).sites

  abbrev front : List ℕ
  front = take words start.site_memory

  pub all_sites : length sites ≡ settings.sites
  all_sites =
      length_sites_in settings.sites settings state.held.sites.records
      state.held.site_memory
      (omega (arith, now.ok.lengths.all_records, (settled settings passes).sites.at_most))

  stored : AllStorable settings sites
  stored = all_storable all_sites (held_sound passes now.ok).sites_sound

  pub long_front : length front ≡ words
  long_front = length-take-le words start.site_memory now.from.start_long

  fits : length sites * site_words settings ≤ length front
  fits = rw (all_sites, long_front) (omega arith)

  -- The network's own numbers of the sites' memory.
  pub front_written : take words state.held.site_memory ≡ sites_memory settings sites front
  front_written =
      ap (take words) now.from.site_memory
      ∙ ap (λ (memory : List ℕ). take words (sites_memory settings sites memory))
      (sym (take-append-drop words start.site_memory))
      ∙ ap (take words)
      (sites_memory_front settings sites front (drop words start.site_memory) fits)
      ∙ take_at (sites_memory settings sites front) (drop words start.site_memory) words
      (length_sites_memory settings sites front stored fits ∙ long_front)

  module _ (site_memory coordinator_memory : List ℕ) where
    -- Carried together, what is held comes of the start.
    from_then : FromStart settings (carried_to settings start site_memory coordinator_memory)
        (carried_to settings state.held site_memory coordinator_memory)
    from_then =
        let own = coordinator_words settings in
        let own-long = start_coordinator_long start now.fresh site_memory coordinator_memory in
        record {
          same_records = now.from.same_records;
          start_long = front_in_long words start.site_memory site_memory now.from.start_long;
          tails = record {
            records = now.from.tails.records;
            counts = now.from.tails.counts;
            site_memory =
                drop_front_in words state.held.site_memory site_memory
                now.ok.lengths.sites_long
                ∙ sym (drop_front_in words start.site_memory site_memory now.from.start_long);
            coordinator_memory =
                drop_front_in own state.held.coordinator_memory coordinator_memory
                now.ok.lengths.coordinator_long
                ∙ sym (drop_front_in own start.coordinator_memory coordinator_memory own-long);
          };
          site_memory =
              ap (λ (numbers : List ℕ). numbers ++ drop words site_memory) front_written
              ∙ sym (sites_memory_front settings sites front (drop words site_memory) fits)
              ∙ ap (λ (network : Network).
              sites_memory settings network.sites (front_in words start.site_memory site_memory))
              (sym (same_network passes state now.ok site_memory coordinator_memory));
        }

    -- All that holds of a state of a history.
    pub lasting_carried : Lasting settings
        (carried_to settings start site_memory coordinator_memory)
        n (holding state (carried_to settings state.held site_memory coordinator_memory))
    lasting_carried = record {
      ok = ok_carried passes state now.ok site_memory coordinator_memory;
      fresh = fresh_carried start now.fresh site_memory coordinator_memory;
      from = from_then;
    }
