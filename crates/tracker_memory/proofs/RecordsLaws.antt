-- What a test or a sum over the records of all sites says of the sites that records and memory
-- hold, whatever the memory.
--
--   records_within    numbers of all records add up within so many times their limit
--   same_is           each site has a threshold
--   pending_is, arrivals_are   what all sites' pendings and arrivals add up to
--   pending_small, arrivals_small   their sums are far from what a machine number holds
-- Letter: k the sites.
use mathlib.Core.Path.{◌≡◌, refl, ap, ◌∙◌}
use mathlib.Core.List.{List, [], ◌∷◌}
use Prim.Native.Nat.{ℕ, zero, suc, ◌+◌, ◌*◌, ◌≤◌, ◌<◌}
use native.Mathlib.Omega.{arith}
use mathlib.Core.Bool.{◌&&◌}
use lib.Dec.{eqb}
use lib.ListN.{length, get_or, drop, take}
use Rattle.std.specs.List.{list_all, sum_by}
use Rattle.std.proofs.lemmas.List.Sums.{sum_by-cons, sum_by_more}
use Rattle.model.specs.declared.Settings.{Settings}
use Rattle.model.specs.declared.SiteRecord.{SiteRecord}
use Rattle.model.specs.declared.Sites.{Sites}
use Rattle.model.specs.Limits.{most_sites, site_limit}
use Rattle.model.specs.SiteMemory.{site_words}
use Rattle.model.specs.NetworkMemory.{sites_in, same_threshold, all_pending, all_arrivals}
use Rattle.model.specs.Held.{no_record}
use Rattle.model.proofs.Thresholds.SettingsLaws.{Settled, settled}
use Rattle.tracker_memory.specs.Promises.{RecordsFit}

abbrev pub pending_of : SiteRecord → ℕ
pending_of own = own.pending

abbrev pub arrivals_of : SiteRecord → ℕ
arrivals_of own = own.arrivals

pub records_within : (f : SiteRecord → ℕ) (limit k : ℕ) (records : List SiteRecord)
    → k ≤ length records
    → ((j : ℕ) → j < k → f (get_or records j no_record) ≤ limit)
    → sum_by f (take k records) ≤ k * limit
records_within f limit zero records enough each = omega arith
records_within f limit (suc k) records enough each =
    let e : suc k ≡ k + 1 = omega arith in
    rw e
    (omega (
      arith,
      sum_by_more f records k no_record (omega arith),
      each k (omega arith),
      records_within f limit k records (omega arith) (λ j j<. each j (omega arith)),
    ))

module _ (settings : Settings) where
  pub same_is : (threshold k : ℕ) (records : List SiteRecord) (memory : List ℕ)
      → k ≤ length records
      → list_all (λ (own : SiteRecord). eqb own.threshold threshold) (take k records)
      ≡ same_threshold threshold (sites_in k settings records memory)
  same_is threshold zero records memory enough = refl
  same_is threshold (suc k) [] memory enough = absurd (omega arith)
  same_is threshold (suc k) (own ∷ others) memory enough =
      ap (λ b. eqb own.threshold threshold && b)
      (same_is threshold k others (drop (site_words settings) memory) (omega arith))

  pub pending_is : (k : ℕ) (records : List SiteRecord) (memory : List ℕ)
      → k ≤ length records
      → sum_by pending_of (take k records) ≡ all_pending (sites_in k settings records memory)
  pending_is zero records memory enough = refl
  pending_is (suc k) [] memory enough = absurd (omega arith)
  pending_is (suc k) (own ∷ others) memory enough =
      sum_by-cons pending_of own (take k others)
      ∙ ap (λ (n : ℕ). own.pending + n)
      (pending_is k others (drop (site_words settings) memory) (omega arith))

  pub arrivals_are : (k : ℕ) (records : List SiteRecord) (memory : List ℕ)
      → k ≤ length records
      → sum_by arrivals_of (take k records) ≡ all_arrivals (sites_in k settings records memory)
  arrivals_are zero records memory enough = refl
  arrivals_are (suc k) [] memory enough = absurd (omega arith)
  arrivals_are (suc k) (own ∷ others) memory enough =
      sum_by-cons arrivals_of own (take k others)
      ∙ ap (λ (n : ℕ). own.arrivals + n)
      (arrivals_are k others (drop (site_words settings) memory) (omega arith))

-- ---- Numbers of records that fit

module _ {settings : Settings} {sites : Sites} (fits : RecordsFit settings sites) where
  fit : Settled settings
  fit = settled settings fits.settings_accepted

  pub pending_small : sum_by pending_of (take settings.sites sites.records)
      ≤ most_sites * site_limit
  pending_small = omega (
    arith,
    records_within pending_of site_limit settings.sites sites.records fits.all_records
        fits.pending_within,
    fit.sites.at_most,
  )

  pub arrivals_small : sum_by arrivals_of (take settings.sites sites.records)
      ≤ most_sites * site_limit
  arrivals_small = omega (
    arith,
    records_within arrivals_of site_limit settings.sites sites.records fits.all_records
        fits.arrivals_within,
    fit.sites.at_most,
  )
