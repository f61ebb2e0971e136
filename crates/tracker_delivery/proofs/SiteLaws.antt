-- An arrival at its site, as the code takes it: what the site's step requires, and the site
-- written to its part of the memory.
--
--   site_few, starts_small, starts_within   the arrival's site, and where its part starts
--   observe_asks                            what the site's step requires
--   site_takes                              what the state holds when the site has taken it
use mathlib.Core.Path.{◌≡◌, ap, ◌∙◌, subst⁻¹}
use mathlib.Core.List.{List, [], ◌++◌, append-nil}
use Prim.Native.Nat.{ℕ, ◌-◌, ◌*◌, ◌≤◌, ◌<◌}
use native.Mathlib.Omega.{arith}
use lib.ListN.{length, get_or, set, take, drop, length-drop, drop_of_length-le}
use Rattle.model.specs.declared.Settings.{Settings}
use Rattle.model.specs.declared.Arrival.{Arrival}
use Rattle.model.specs.declared.SiteRecord.{SiteRecord}
use Rattle.model.specs.Refusals.{no_refusal}
use Rattle.model.specs.Site.{Site, SiteStep, observed, arrival_refusal}
use Rattle.model.specs.Limits.{most_sites, most_site_words}
use Rattle.model.specs.SiteMemory.{site_words, site_in, site_record, site_memory}
use Rattle.model.specs.Network.{site_at}
use Rattle.model.specs.NetworkMemory.{sites_memory}
use Rattle.model.specs.SoundNetwork.{SoundSite}
use Rattle.model.proofs.Soundness.SoundSites.{sound_observed}
use Rattle.model.proofs.Soundness.NeverFewer.{observed_grows}
use Rattle.site_steps.specs.declared.Observed.{Observed}
use Rattle.site_steps.specs.Steps.{ObserveAsks, ObserveStepSays}
use Rattle.site_memory.proofs.OneSite.{storable}
use Rattle.site_memory.proofs.SitesMemoryLaws.{sites_memory_set}
use Rattle.site_memory.proofs.SitePart.{few_sites, start_small, part, part_is}
use Rattle.model.specs.Held.{no_record}
use Rattle.tracker_queue.specs.Sending.{queue_of}
use Rattle.tracker_delivery.specs.Holding.{Carrying, carrying, underway_in, Holds, Fits}
use Rattle.tracker_delivery.specs.Arriving.{ArrivalAsks, step_at, taken_at, Taken, out_of, put_back}
use Rattle.tracker_delivery.proofs.HoldingLaws.{Stored, part_long, part_starts, site_read, holds_site}
use Rattle.tracker_delivery.proofs.GoingLaws.{stored_of_sound, going_fit, going_taken}

module _ {settings : Settings} {arrival : Arrival} {carry : Carrying}
    (u : ArrivalAsks settings arrival carry) where
  abbrev j : ℕ
  j = arrival.site

  abbrev fits : Fits settings u.given
  fits = u.accepting.fits

  abbrev site : Site
  site = site_at u.network j

  abbrev after : SiteStep
  after = step_at settings u.network arrival

  stored : Stored settings u.network
  stored =
      let sound = u.accepting.sound in
      stored_of_sound sound.all_sites sound.sites_sound sound.coordinator_sound.numbers

  site_known : j < settings.sites
  site_known = (going_taken u.accepting).known.site_known

  pub site_few : j < most_sites
  site_few = few_sites (going_fit u.accepting) site_known

  pub starts_small : j * site_words settings ≤ most_sites * most_site_words
  starts_small = start_small (going_fit u.accepting) site_known

  pub starts_within : j * site_words settings ≤ length carry.held.site_memory
  starts_within = part_starts fits stored u.holds j site_known

  -- The site's record and its part of the memory, as the code names them.
  module _ (numbers : SiteRecord) (words : ℕ)
      (numbers_are : numbers ≡ get_or carry.held.sites.records j no_record)
      (words_are : words ≡ site_words settings) where
    abbrev own : List ℕ
    own = part carry.held.site_memory j words

    own_is : own ≡ drop (j * site_words settings) carry.held.site_memory
    own_is = part_is settings carry.held.site_memory j words words_are

    read : site_in settings numbers own ≡ site
    read = rw (numbers_are, own_is) (site_read fits stored u.holds j site_known)

    pub observe_asks : ObserveAsks settings numbers arrival own
    observe_asks = record {
      ready = record {
        settings_accepted = fits.settings_accepted;
        long_enough = rw own_is (part_long fits stored u.holds j site_known);
        site_sound = subst⁻¹ (SoundSite settings) read
            (u.accepting.sound.sites_sound j site_known);
      };
      not_refused =
          subst⁻¹ (λ (s : Site). arrival_refusal settings s arrival ≡ no_refusal) read
          u.accepting.taken;
    }

    module _ (answer : Observed) (part-after : List ℕ)
        (says : ObserveStepSays settings numbers arrival own part-after answer) where
      -- The memory with the part put back in its place.
      abbrev memory_after : List ℕ
      memory_after =
          let memory = carry.held.site_memory in
          take (j * words) memory
          ++ (part-after ++ drop (length memory - j * words) (drop (j * words) memory))

      memory_is : memory_after
          ≡ sites_memory settings (set u.network.sites j after.site)
          u.given.held.site_memory
      memory_is =
          let start = j * site_words settings in
          let memory = carry.held.site_memory in
          let nothing-past : drop (length memory - start) (drop start memory) ≡ [] =
          drop_of_length-le (drop start memory) {i = length memory - start}
          (omega (arith, length-drop start memory)) in
          let written : part-after ≡ site_memory settings after.site (drop start memory) =
          says.memory
          ∙ ap (λ (x : Site). site_memory settings (observed settings x arrival).site own) read
          ∙ ap (site_memory settings after.site) own_is in
          let sound_after =
          sound_observed (going_fit u.accepting).capacity.at_least (going_taken u.accepting)
          (u.accepting.sound.sites_sound j site_known) in
          rw (words_are, nothing-past, append-nil part-after, written, u.holds.site_memory)
          (sites_memory_set settings u.network.sites u.given.held.site_memory j after.site
          stored.sites_stored
          (storable sound_after)
          (observed_grows settings site arrival)
          (rw stored.all_sites fits.site_memory_long)
          (omega (arith, site_known, stored.all_sites)))

      changed : Holds settings u.given u.earlier (taken_at settings u.network arrival)
          (carrying (put_back (underway_in carry) j answer.site) memory_after
          carry.held.coordinator_memory carry.log)
      changed =
          let site_is : answer.site ≡ site_record after.site =
          says.gathered.site
          ∙ ap (λ (x : Site). site_record (observed settings x arrival).site) read in
          holds_site u.holds j after.site [] answer.site carry.waiting
          memory_after (omega (arith, site_known, stored.all_sites)) site_is u.holds.waiting
          memory_is

      out_is : out_of answer ≡ queue_of after.messages
      out_is =
          let gathered = says.gathered in
          (λ i. record {
            count = gathered.count i;
            first = gathered.first i;
            second = gathered.second i;
          })
          ∙ ap (λ (x : Site). queue_of (observed settings x arrival).messages) read

      pub site_takes : Taken settings u.given u.earlier u.network arrival (out_of answer)
          (carrying (put_back (underway_in carry) j answer.site) memory_after
          carry.held.coordinator_memory carry.log)
      site_takes = record { accepting = u.accepting; out_is = out_is; holds = changed }
