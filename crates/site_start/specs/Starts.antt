-- What starting sites answers, refused or not, and what it leaves in memory. A refused start leaves
-- the memory as it was, and hands out nothing; in its outcome the records are fresh all the same.
--
--   StartSitesSays       starting all sites
--   StartSiteSays        starting one
--   StartClaims          sites started one by one are as all started together
use Rattle.std.specs.Prelude.{◌≡◌, Result, Ok, Err, List, ℕ, ◌*◌, ◌<◌, leb, ltb, length, get_or, take, drop, replicate, if◌then◌else◌}
use Rattle.model.specs.declared.Settings.{Settings}
use Rattle.model.specs.declared.SiteRecord.{SiteRecord}
use Rattle.model.specs.declared.Sites.{Sites}
use Rattle.model.specs.declared.Refusal.{Refusal}
use Rattle.model.specs.Choice.{is_zero}
use Rattle.model.specs.Refusals.{when, ◌or_else◌, no_refusal, number_of, memory_too_short, unknown_site}
use Rattle.model.specs.Settings.{settings_refusal}
use Rattle.model.specs.Limits.{most_sites}
use Rattle.model.specs.Held.{no_record}
use Rattle.model.specs.Site.{fresh_site}
use Rattle.model.specs.SiteMemory.{site_words, site_record, overwrite}
use Rattle.model.specs.NetworkMemory.{sites_words, fresh_sites}

-- ---- Starting all sites

-- What starting all sites comes to, as the table of refusals tells it: a refusal or none, and fresh
-- records in every case.
pub record SitesStart : Type 0 where
  pub refusal : ℕ
  pub sites : Sites

abbrev pub sites_start : Result Sites Refusal → SitesStart
sites_start (Ok sites) = record { refusal = no_refusal; sites = sites }
sites_start (Err refusal) = record { refusal = number_of refusal; sites = fresh_sites }

-- "longer is fine, the rest untouched"
abbrev pub start_refusal : Settings → List ℕ → ℕ
start_refusal settings memory =
    settings_refusal settings
    or_else when (ltb (length memory) (sites_words settings)) memory_too_short
    or_else no_refusal

-- "Started fresh, every number is 0 (unused slots too)".
abbrev pub cleared : Settings → List ℕ → List ℕ
cleared settings memory = overwrite (replicate (sites_words settings) 0) memory

pub record StartSitesSays
    (settings : Settings)
    (before after : List ℕ)
    (answer : SitesStart) : Type 0 where
  pub refusal : answer.refusal ≡ start_refusal settings before
  pub sites : answer.sites ≡ fresh_sites
  pub memory : after
      ≡ (if is_zero (start_refusal settings before) then cleared settings before else before)

-- ---- Starting one site

-- What starting one site comes to: a refusal or none, and a fresh record in every case.
pub record SiteStart : Type 0 where
  pub refusal : ℕ
  pub site : SiteRecord

abbrev pub site_start_of : Result SiteRecord Refusal → SiteStart
site_start_of (Ok site) = record { refusal = no_refusal; site = site }
site_start_of (Err refusal) = record {
  refusal = number_of refusal;
  site = site_record fresh_site;
}

-- 1, 2, 3, 4, with memory of so many numbers; then 5 for the site's own number.
abbrev pub start_site_refusal : Settings → ℕ → ℕ → ℕ
start_site_refusal settings which words =
    settings_refusal settings
    or_else when (ltb words (site_words settings)) memory_too_short
    or_else when (leb settings.sites which) unknown_site
    or_else no_refusal

abbrev pub site_cleared : Settings → List ℕ → List ℕ
site_cleared settings memory = overwrite (replicate (site_words settings) 0) memory

pub record StartSiteSays
    (settings : Settings)
    (which : ℕ)
    (before after : List ℕ)
    (answer : SiteStart) : Type 0 where
  pub refusal : answer.refusal ≡ start_site_refusal settings which (length before)
  pub site : answer.site ≡ site_record fresh_site
  pub memory : after
      ≡ (if is_zero (start_site_refusal settings which (length before))
      then site_cleared settings before else before)

-- "In a bench the decks' memory stands one after another": each started in its own part is what
-- starting all of them leaves there, record and memory.
pub record StartClaims : Type 0 where
  pub record_same : (which : ℕ)
      → which < most_sites
      → get_or fresh_sites.records which no_record ≡ site_record fresh_site
  pub part_same : (settings : Settings) (memory part : List ℕ) (which : ℕ)
      → which < settings.sites
      → take (site_words settings) (drop (which * site_words settings) (cleared settings memory))
      ≡ take (site_words settings) (site_cleared settings part)
