-- The network that records and memory hold, after a call on one site was put back: that site and
-- nothing else has changed. PROOF.md section 9, "Frame".
--
--   Lengths settings held        32 records, and memories that are long enough
--   SitesSound settings held     each of the k sites that are held is sound
--   site_is, site_part_lem       a site's record with its part of the memory is that site
--   site_memory_accepted         neither 4 nor 11 for it
--   network_site_written         a site's record and part put back
--   network_site_told            a site's record alone put back
use mathlib.Core.Path.{◌≡◌, sym, ap, ◌∙◌, subst}
use mathlib.Core.List.{List}
use Prim.Native.Nat.{ℕ, ◌+◌, ◌≤◌, ◌<◌}
use native.Mathlib.Nat.{mul-le-mul_right}
use native.Mathlib.Omega.{arith}
use lib.ListN.{length, set, drop, length-drop, length-set}
use borrow.Author.Tests.{le-ltb}
use Rattle.model.specs.declared.Settings.{Settings}
use Rattle.model.specs.declared.Message.{Message}
use Rattle.model.specs.Refusals.{no_refusal}
use Rattle.model.specs.Limits.{most_sites}
use Rattle.model.specs.Settings.{settings_refusal}
use Rattle.model.specs.Site.{Site, site_receives}
use Rattle.model.specs.SiteMemory.{site_words, site_in, site_record, site_memory, site_memory_refusal}
use Rattle.model.specs.CoordinatorMemory.{coordinator_words, coordinator_in}
use Rattle.model.specs.Network.{site_at, with_site}
use Rattle.model.specs.NetworkMemory.{sites_words, sites_in}
use Rattle.model.specs.SoundNetwork.{SoundSite, DroppedWithin}
use Rattle.model.proofs.Thresholds.SettingsLaws.{settled}
use Rattle.model.proofs.Soundness.ConsistentSites.{consistent_of_sound}
use Rattle.site_memory.proofs.SiteMemoryLaws.{site_in_site_memory}
use Rattle.site_memory.proofs.OneSite.{Storable}
use Rattle.site_memory.proofs.SitesReading.{get_d_sites_in, length_sites_in, used_within}
use Rattle.site_receiving.proofs.ReceiveLaws.{site_in_received}
use Rattle.history.specs.State.{Held, network_of, record_at, site_start, site_part, with_part, after_site_call, no_record}
use Rattle.history.proofs.SiteParts.{site_in_take, front_long}
use Rattle.history.proofs.SitesMemory.{offset, offset_is, sites_in_set, written, length_written, part_written, sites_in_written}

-- 32 records, and as much memory as the network needs.
pub record Lengths (settings : Settings) (held : Held) : Type 0 where
  pub all_records : length held.sites.records ≡ most_sites
  pub sites_long : sites_words settings ≤ length held.site_memory
  pub coordinator_long : coordinator_words settings ≤ length held.coordinator_memory

-- Each of the k sites that records and memory hold is sound.
abbrev pub SitesSound : Settings → Held → Type 0
SitesSound settings held =
    (j : ℕ) → j < settings.sites → SoundSite settings (site_at (network_of settings held) j)

-- ---- All records

module _ {settings : Settings} (passes : settings_refusal settings ≡ no_refusal) (held : Held)
    (lengths : Lengths settings held) where
  enough : settings.sites ≤ length held.sites.records
  enough = omega (arith, lengths.all_records, (settled settings passes).sites.at_most)

  -- No more counters in use than there are.
  pub used_at : SitesSound settings held
      → (j : ℕ) → j < settings.sites
      → (record_at held j).used ≤ settings.capacity
  used_at sound j known =
      let records = held.sites.records in
      used_within no_record settings.sites settings records held.site_memory
      (length_sites_in settings.sites settings records held.site_memory enough) j known
      (sound j known)

-- ---- One site

module _ {settings : Settings} (passes : settings_refusal settings ≡ no_refusal) (held : Held)
    (lengths : Lengths settings held) (sound : SitesSound settings held) (j : ℕ)
    (known : j < settings.sites) where
  abbrev words : ℕ
  words = site_words settings

  abbrev rest : List ℕ
  rest = drop (site_start settings j) held.site_memory

  -- The part of site j lies within the memory: (j + 1) * words ≤ k * words.
  pub in_memory : site_start settings j + words ≤ length held.site_memory
  in_memory =
      let next : j + 1 ≤ settings.sites = omega arith in
      omega (arith, mul-le-mul_right words next, lengths.sites_long)

  -- From the start of a site's part on there is room for the site.
  pub rest_long : words ≤ length rest
  rest_long = omega (arith, in_memory, length-drop (site_start settings j) held.site_memory)

  -- The record with the memory from there on is the site.
  pub site_is : site_at (network_of settings held) j ≡ site_in settings (record_at held j) rest
  site_is =
      get_d_sites_in no_record settings.sites settings held.sites.records
      held.site_memory j known (enough passes held lengths)

  -- A part of at least the site's own numbers holds the site.
  pub site_part_lem : (n : ℕ) → words ≤ n
      → site_in settings (record_at held j) (site_part settings held j n)
      ≡ site_at (network_of settings held) j
  site_part_lem n within =
      site_in_take settings (record_at held j) n rest (used_at passes held lengths sound j known)
      within rest_long
      ∙ sym site_is

  -- A part of at least the site's own numbers is long enough.
  pub part_long : (n : ℕ) → words ≤ n → words ≤ length (site_part settings held j n)
  part_long n enough = front_long words n rest enough rest_long

  -- Neither 4 nor 11 for a site's own record and part, if it has forgotten no more than arrived.
  pub site_memory_accepted : DroppedWithin (site_at (network_of settings held) j)
      → (n : ℕ) → words ≤ n
      → site_memory_refusal settings (record_at held j) (site_part settings held j n) ≡ no_refusal
  site_memory_accepted few_dropped n enough =
      let part = site_part settings held j n in
      let part_sound : SoundSite settings (site_in settings (record_at held j) part) =
      rw (site_part_lem n enough) (sound j known) in
      rw (
        passes,
        le-ltb (length part) words (part_long n enough),
        consistent_of_sound settings (record_at held j) part part_sound
            (subst DroppedWithin (sym (site_part_lem n enough)) few_dropped),
      )

  -- ---- Put back

  module _ (site : Site) (fits : Storable settings site) where
    abbrev put_back : ℕ → Held
    put_back n =
        after_site_call held j (site_record site)
        (with_part held.site_memory (site_start settings j) n
        (site_memory settings site (site_part settings held j n)))

    -- The site written where its part starts.
    pub memory_then : (n : ℕ) → words ≤ length (site_part settings held j n)
        → (put_back n).site_memory ≡ written settings (site_start settings j) site held.site_memory
    memory_then n long =
        part_written settings site fits (site_start settings j) n held.site_memory long

    -- Putting a part back keeps the lengths.
    pub lengths_site_written : (n : ℕ) → words ≤ length (site_part settings held j n)
        → Lengths settings (put_back n)
    lengths_site_written n long = record {
      all_records =
          length-set held.sites.records j (site_record site) ∙ lengths.all_records;
      sites_long =
          let same = ap length (memory_then n long)
          ∙ length_written settings site fits (site_start settings j) held.site_memory
          in_memory in
          omega (arith, same, lengths.sites_long);
      coordinator_long = lengths.coordinator_long;
    }

    -- The site as it was written, and every other as it was.
    pub network_site_written : (n : ℕ) → words ≤ length (site_part settings held j n)
        → network_of settings (put_back n) ≡ with_site (network_of settings held) j site
    network_site_written n long =
        let back = site_in_site_memory settings site rest fits.few_counters fits.all_values
        rest_long in
        let records = set held.sites.records j (site_record site) in
        let start = site_start settings j in
        let in-memory-at : offset words j + words ≤ length held.site_memory =
        omega (arith, in_memory, offset_is words j) in
        let read : sites_in settings.sites settings records (put_back n).site_memory
        ≡ set (sites_in settings.sites settings held.sites.records held.site_memory) j
        site =
        ap (sites_in settings.sites settings records)
        (memory_then n long
        ∙ ap (λ (from : ℕ). written settings from site held.site_memory)
        (sym (offset_is words j)))
        ∙ sites_in_written settings site fits settings.sites j held.sites.records
        (site_record site) no_record held.site_memory in-memory-at
        (λ i i<j. used_at passes held lengths sound i (omega arith))
        ∙ ap (set (sites_in settings.sites settings held.sites.records held.site_memory) j)
        (ap (λ (from : ℕ).
        site_in settings (site_record site)
        (site_memory settings site (drop from held.site_memory)))
        (offset_is words j)
        ∙ back) in
        ap (λ (sites : List Site).
        record {
          sites = sites;
          coordinator = coordinator_in settings held.coordinator held.coordinator_memory;
        })
        read

  -- A message at the site: its record alone is put back.
  abbrev told : Message → Held
  told m =
      after_site_call held j
      (site_record (site_receives (site_at (network_of settings held) j) m).site)
      held.site_memory

  -- Putting a record back keeps the lengths.
  pub lengths_site_told : (m : Message) → Lengths settings (told m)
  lengths_site_told m = record {
    all_records = length-set held.sites.records j _ ∙ lengths.all_records;
    sites_long = lengths.sites_long;
    coordinator_long = lengths.coordinator_long;
  }

  -- The site as the message left it, and every other as it was.
  pub network_site_told : (m : Message)
      → network_of settings (told m)
      ≡ with_site (network_of settings held) j
      (site_receives (site_at (network_of settings held) j) m).site
  network_site_told m =
      let site = (site_receives (site_at (network_of settings held) j) m).site in
      let back : site_in settings (site_record site) (drop (offset words j) held.site_memory)
      ≡ site =
      rw (offset_is words j, site_is)
      (site_in_received settings (record_at held j) m rest) in
      ap (λ (sites : List Site).
      record {
        sites = sites;
        coordinator = coordinator_in settings held.coordinator held.coordinator_memory;
      })
      (sites_in_set settings settings.sites j held.sites.records (site_record site)
      held.site_memory
      ∙ ap (set (sites_in settings.sites settings held.sites.records held.site_memory) j)
      back)
