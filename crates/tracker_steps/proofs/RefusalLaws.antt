-- Refusals of an arrival in a batch: what the code finds from a record and the log's length is the
-- model's refusal in the network that they hold.
--
--   place_known, place_within                    the place of an arrival's site
--   places_refusal_is                            the model's refusal
use mathlib.Core.Path.{◌≡◌}
use Prim.Native.Nat.{ℕ, ◌-◌, ◌/◌, ◌<◌}
use native.Mathlib.Omega.{arith}
use native.Mathlib.Decide.{dec_lt}
use borrow.Author.Tests.{lt-ltb, le-ltb, le-leb}
use Rattle.model.specs.declared.Settings.{Settings}
use Rattle.model.specs.declared.Arrival.{Arrival}
use Rattle.model.specs.declared.SiteRecord.{SiteRecord}
use Rattle.model.specs.Limits.{most_sites}
use Rattle.model.specs.Messages.{message_width}
use Rattle.model.specs.Site.{Site, line_refusal}
use Rattle.model.specs.Network.{Network, site_at}
use Rattle.model.specs.Runs.{batch_refusal}
use Rattle.site_refusals.specs.Bare.{bare_site}
use Rattle.tracker_steps.specs.Steps.{places_refusal}
use Rattle.tracker_steps.specs.Turns.{place_of}

-- An arrival at a site that has a record is looked at there.
pub place_known : (arrival : Arrival) → arrival.site < most_sites → place_of arrival ≡ arrival.site
place_known arrival few = rw (lt-ltb arrival.site most_sites few)

pub place_within : (arrival : Arrival) → place_of arrival < most_sites
place_within arrival = by_site (dec_lt arrival.site most_sites)
  where
    by_site : Dec (arrival.site < most_sites) → place_of arrival < most_sites
    by_site (yes few) = rw (place_known arrival few) few
    by_site (no past) = rw (le-ltb arrival.site most_sites (omega (arith, past))) (omega arith)

-- A site's own number is all that is looked at, and only where the site is known.
same_refusal : (settings : Settings) (own site : Site) (arrival : Arrival)
    → (arrival.site < settings.sites → own.arrivals ≡ site.arrivals)
    → line_refusal settings own arrival ≡ line_refusal settings site arrival
same_refusal settings own site arrival same =
    by_site (dec_lt arrival.site settings.sites)
  where
    by_site : Dec (arrival.site < settings.sites)
        → line_refusal settings own arrival ≡ line_refusal settings site arrival
    by_site (yes known) = rw (same known)
    by_site (no past) = rw (le-leb settings.sites arrival.site (omega arith))

pub places_refusal_is : (settings : Settings) (own : SiteRecord) (arrival : Arrival)
    (numbers written : ℕ) (network : Network) (free : ℕ)
    → (arrival.site < settings.sites → own.arrivals ≡ (site_at network arrival.site).arrivals)
    → numbers / message_width - written ≡ free
    → places_refusal settings own arrival numbers written
    ≡ batch_refusal settings network free arrival
places_refusal_is settings own arrival numbers written network free same free-is =
    rw (
      same_refusal settings (bare_site own) (site_at network arrival.site) arrival same,
      free-is,
    )
