-- What a step of a history leaves as it was, place by place (document 01: "longer is fine, the rest
-- untouched"). A call that accepts nothing leaves everything so.
--
--   TailsKept settings before after          what lies past the network: every step
--   OthersKept settings which before after   all but one site: an arrival at that site
use Rattle.std.specs.Prelude.{◌≡◌, ℕ, ◌+◌, take, drop}
use Rattle.model.specs.declared.Settings.{Settings}
use Rattle.model.specs.SiteMemory.{site_words}
use Rattle.model.specs.CoordinatorMemory.{coordinator_words}
use Rattle.model.specs.NetworkMemory.{sites_words}
use Rattle.history.specs.State.{Held, record_at, site_start}

-- What is no part of the network that the settings describe.
pub record TailsKept (settings : Settings) (before after : Held) : Type 0 where
  -- the records of sites k to 31
  pub records : drop settings.sites after.sites.records
      ≡ drop settings.sites before.sites.records
  -- their counts of messages
  pub counts : drop settings.sites after.sites.messages
      ≡ drop settings.sites before.sites.messages
  -- memory past the parts of the k sites
  pub site_memory : drop (sites_words settings) after.site_memory
      ≡ drop (sites_words settings) before.site_memory
  -- memory past the coordinator's numbers
  pub coordinator_memory : drop (coordinator_words settings) after.coordinator_memory
      ≡ drop (coordinator_words settings) before.coordinator_memory

-- All that a call on one site is not about.
pub record OthersKept (settings : Settings) (which : ℕ) (before after : Held) : Type 0 where
  -- the parts before the site's own, and all that lies behind it
  pub earlier_parts : take (site_start settings which) after.site_memory
      ≡ take (site_start settings which) before.site_memory
  pub later_parts : drop (site_start settings which + site_words settings) after.site_memory
      ≡ drop (site_start settings which + site_words settings) before.site_memory
  pub other_records : (other : ℕ)
      → (other ≡ which → ⊥)
      → record_at after other ≡ record_at before other
  pub coordinator : after.coordinator ≡ before.coordinator
  pub coordinator_memory : after.coordinator_memory ≡ before.coordinator_memory
