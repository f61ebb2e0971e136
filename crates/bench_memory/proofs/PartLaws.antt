-- The part of one site in memory that is long enough for all: where it starts, and that it fits.
--
--   site_few, starts_small, starts_within    site j's part starts within the memory
--   PartStarts, starts_at                    the same of its start as the code counts it
--   own_is, part_fits                        the part as the code names it
-- Letter: j a site.
use mathlib.Core.Path.{◌≡◌, ap}
use mathlib.Core.List.{List}
use Prim.Native.Nat.{ℕ, suc, ◌*◌, ◌≤◌, ◌<◌}
use native.Mathlib.Nat.{mul-le-mul_right}
use native.Mathlib.Omega.{arith}
use lib.ListN.{length, drop, length-drop}
use Rattle.model.specs.declared.Settings.{Settings}
use Rattle.model.specs.Limits.{most_sites, most_site_words}
use Rattle.model.specs.SiteMemory.{site_words}
use Rattle.model.proofs.Thresholds.SettingsLaws.{Settled, settled}
use Rattle.site_memory.specs.Promises.{MemoryFits}
use Rattle.site_memory.proofs.SitePart.{few_sites, start_small, part, part_is}
use Rattle.bench_memory.specs.Promises.{SitesFit}

-- A part of so many words starts early enough, and within the memory.
pub record PartStarts (memory : List ℕ) (j words : ℕ) : Type 0 where
  pub small : j * words ≤ most_sites * most_site_words
  pub within : j * words ≤ length memory

module _ {settings : Settings} {memory : List ℕ} (fits : SitesFit settings memory) where
  fit : Settled settings
  fit = settled settings fits.settings_accepted

  module _ (j : ℕ) (known : j < settings.sites) where
    pub site_few : j < most_sites
    site_few = few_sites fit known

    pub starts_small : j * site_words settings ≤ most_sites * most_site_words
    starts_small = start_small fit known

    more : suc j * site_words settings ≤ settings.sites * site_words settings
    more = mul-le-mul_right (site_words settings) known

    pub starts_within : j * site_words settings ≤ length memory
    starts_within = omega (arith, more, fits.long_enough)

    module _ (words : ℕ) (words_are : words ≡ site_words settings) where
      pub starts_at : PartStarts memory j words
      starts_at =
          let at_start = ap (λ (z : ℕ). j * z) words_are in
          record {
            small = omega (arith, starts_small, at_start);
            within = omega (arith, starts_within, at_start);
          }

      pub own_is : part memory j words ≡ drop (j * site_words settings) memory
      own_is = part_is settings memory j words words_are

      pub part_fits : MemoryFits settings (part memory j words)
      part_fits = record {
        settings_accepted = fits.settings_accepted;
        long_enough = rw (own_is, length-drop (j * site_words settings) memory)
            (omega (arith, more, fits.long_enough));
      }
