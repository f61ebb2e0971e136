-- A bench that is closed is as consistent as before: only the parts that the settings need are
-- looked at, and the records and counts of its own sites.
--
--   site_front                                      a site, whatever follows its part
--   sites_closed, coordinator_closed, counts_closed, held_closed
use mathlib.Core.Path.{◌≡◌, refl, sym, ap, ◌∙◌}
use mathlib.Core.Bool.{Bool, true, ◌&&◌, false≢true}
use mathlib.Core.List.{List, [], ◌∷◌, ◌++◌}
use Prim.Native.Nat.{ℕ, zero, suc, ◌+◌, ◌-◌, ◌*◌, ◌≤◌}
use native.Mathlib.Omega.{arith}
use native.Mathlib.Decide.{dec_le}
use lib.Dec.{eqb, ltb, leb}
use lib.ListN.{length, take, drop, replicate, length-drop, take-append-drop}
use lib.Seq.{length-take-le, take-add, take-take, drop_at}
use borrow.Author.Tests.{lt-leb}
use Rattle.laws.proofs.Tests.{both_true, and_both}
use Rattle.model.specs.declared.Settings.{Settings}
use Rattle.model.specs.declared.SiteRecord.{SiteRecord}
use Rattle.model.specs.declared.CoordinatorRecord.{CoordinatorRecord}
use Rattle.model.specs.Choice.{between}
use Rattle.model.specs.Limits.{most_sites, value_count, site_limit, message_limit}
use Rattle.model.specs.Site.{Site, fresh_site}
use Rattle.model.specs.SiteMemory.{site_words, site_record, sum, counters_consistent, site_consistent}
use Rattle.model.specs.CoordinatorMemory.{coordinator_words, coordinator_in, coordinator_consistent}
use Rattle.model.specs.NetworkMemory.{sites_words, sites_consistent}
use Rattle.model.specs.MessageCounts.{counts_within}
use Rattle.model.specs.Held.{Held, held_consistent}
use Rattle.model.proofs.Soundness.ConsistentNetwork.{bench_rows}
use Rattle.site_memory.proofs.OneSite.{site_in_front}
use Rattle.snapshot_file.specs.Claims.{closed}

-- ---- The sites

-- The test of a site, by the site that is read.
abbrev passes : Settings → SiteRecord → Site → Bool
passes settings numbers site =
    leb numbers.used settings.capacity
    && counters_consistent settings site site.counters
    && leb site.arrivals site_limit
    && eqb (sum site.histogram) site.arrivals
    && ltb site.pending site.threshold
    && between 1 site.threshold site_limit
    && leb site.dropped site.arrivals

module _ (settings : Settings) where
  -- Consistent or not, whatever follows its part.
  pub site_front : (numbers : SiteRecord) (part rest : List ℕ)
      → site_words settings ≤ length part
      → site_consistent settings numbers (part ++ rest) ≡ site_consistent settings numbers part
  site_front numbers part rest long = by_used (dec_le numbers.used settings.capacity)
    where
      by_used : Dec (numbers.used ≤ settings.capacity)
          → site_consistent settings numbers (part ++ rest) ≡ site_consistent settings numbers part
      by_used (yes few) =
          ap (passes settings numbers) (site_in_front settings numbers part rest few long)
      by_used (no many) =
          rw (lt-leb numbers.used settings.capacity (omega (arith, many)))

  pub sites_closed : (k : ℕ) (records tail : List SiteRecord) (memory : List ℕ)
      → k * site_words settings ≤ length memory
      → sites_consistent k settings records memory ≡ true
      → sites_consistent k settings (take k records ++ tail) (take (k * site_words settings) memory)
      ≡ true
  sites_closed zero records tail memory long holds = refl
  sites_closed (suc k) [] tail memory long holds = absurd (false≢true holds)
  sites_closed (suc k) (first ∷ others) tail memory long holds =
      let words = site_words settings in
      let front = take (suc k * words) memory in
      let both = both_true (site_consistent settings first memory) _ holds in
      let long_front : length front ≡ suc k * words = length-take-le (suc k * words) memory long in
      let own = sym (site_front first front (drop (suc k * words) memory)
      (omega (arith, long_front)))
      ∙ ap (site_consistent settings first) (take-append-drop (suc k * words) memory)
      ∙ both.first_true in
      let next : words + k * words ≡ suc k * words = omega arith in
      let behind : drop words front ≡ take (k * words) (drop words memory) =
      ap (drop words) (ap (λ (n : ℕ). take n memory) (sym next) ∙ take-add words (k * words) memory)
      ∙ drop_at (take words memory) (take (k * words) (drop words memory)) words
      (length-take-le words memory (omega arith)) in
      and_both _ _ own
      (ap (sites_consistent k settings (take k others ++ tail)) behind
      ∙ sites_closed k others tail (drop words memory) (omega (arith, length-drop words memory))
      both.second_true)

-- ---- The coordinator

pub coordinator_closed : (settings : Settings) (numbers : CoordinatorRecord) (memory : List ℕ)
    → coordinator_words settings ≤ length memory
    → coordinator_in settings numbers (take (coordinator_words settings) memory)
    ≡ coordinator_in settings numbers memory
coordinator_closed settings numbers memory long =
    let u = settings.universe in
    let first : take u (take (u + value_count) memory) ≡ take u memory =
    take-take u (u + value_count) memory (omega arith) in
    let second : take value_count (drop u (take (u + value_count) memory))
    ≡ take value_count (drop u memory) =
    ap (λ (l : List ℕ). take value_count (drop u l)) (take-add u value_count memory)
    ∙ ap (take value_count)
    (drop_at (take u memory) (take value_count (drop u memory)) u
    (length-take-le u memory (omega arith)))
    ∙ take-take value_count value_count (drop u memory) (omega arith) in
    λ i. record {
      estimates = first i;
      histogram = second i;
      total = numbers.total;
      base = numbers.base;
      threshold = numbers.threshold;
      signals = numbers.signals;
      quantile = numbers.quantile;
      phase = numbers.phase;
    }

-- ---- The counts

none_counted_lem : (k n : ℕ) → counts_within k (replicate n 0) ≡ true
none_counted_lem zero n = refl
none_counted_lem (suc k) zero = refl
none_counted_lem (suc k) (suc n) = none_counted_lem k n

pub counts_closed : (k n : ℕ) (counts : List ℕ)
    → counts_within k counts ≡ true
    → counts_within k (take k counts ++ replicate n 0) ≡ true
counts_closed zero n counts holds = refl
counts_closed (suc k) n [] holds = none_counted_lem (suc k) n
counts_closed (suc k) n (count ∷ counts) holds =
    let both = both_true (leb count message_limit) _ holds in
    and_both _ _ both.first_true (counts_closed k n counts both.second_true)

-- ---- The bench

pub held_closed : (settings : Settings) (held : Held)
    → sites_words settings ≤ length held.site_memory
    → coordinator_words settings ≤ length held.coordinator_memory
    → held_consistent settings held ≡ true
    → held_consistent settings (closed settings held) ≡ true
held_closed settings held sites_long coordinator_long holds =
    let rows = bench_rows settings held.sites held.coordinator held.site_memory
    held.coordinator_memory holds in
    let sites = sites_closed settings settings.sites held.sites.records
    (replicate (most_sites - settings.sites) (site_record fresh_site)) held.site_memory
    sites_long rows.sites_row in
    let coordinator = ap (coordinator_consistent settings)
    (coordinator_closed settings held.coordinator held.coordinator_memory coordinator_long)
    ∙ rows.coordinator_row in
    let counts = counts_closed settings.sites (most_sites - settings.sites)
    held.sites.messages rows.counts_row in
    and_both _ _ (and_both _ _ sites coordinator) counts
