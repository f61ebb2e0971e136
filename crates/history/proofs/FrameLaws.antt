-- What lies past the numbers that are written stays: of a site in its part, of all sites, and of
-- the coordinator. PROOF.md section 9, "Frame".
--
--   drop_later                 two lists that are the same from a place on are so from a later one
--   take_written, drop_written one site written: before its part, and behind it
--   tail_site_records, tail_sites_memory  all sites written: what lies past them
--   tail_coordinator_memory    the coordinator written
use mathlib.Core.Path.{◌≡◌, refl, ap, sym, ◌∙◌}
use mathlib.Core.List.{List, [], ◌∷◌, ◌++◌}
use Prim.Native.Nat.{ℕ, ◌+◌, ◌-◌, ◌*◌, ◌≤◌}
use native.Mathlib.Omega.{arith}
use lib.ListN.{length, take, drop, length-drop, length-append}
use lib.Seq.{length-take-le, drop-drop, take_at, drop_at, drop-append-add}
use Rattle.model.specs.declared.Settings.{Settings}
use Rattle.model.specs.declared.SiteRecord.{SiteRecord}
use Rattle.model.specs.Limits.{value_count}
use Rattle.model.specs.Site.{Site}
use Rattle.model.specs.SiteMemory.{site_words, site_memory}
use Rattle.model.specs.Coordinator.{Coordinator}
use Rattle.model.specs.CoordinatorMemory.{coordinator_words, coordinator_memory}
use Rattle.model.specs.NetworkMemory.{sites_memory, site_records}
use Rattle.site_memory.proofs.OneSite.{Storable, length_written}
use Rattle.site_memory.proofs.SitesMemoryLaws.{AllStorable, later}
use Rattle.history.proofs.SitesMemory.{offset, written, drop_site_memory}

-- ---- Places further on

-- By m - n places more on both sides.
pub drop_later : {A : Type 0} (n m : ℕ) (xs ys : List A)
    → n ≤ m
    → drop n xs ≡ drop n ys
    → drop m xs ≡ drop m ys
drop_later {A} n m xs ys further same =
    let apart : n + (m - n) ≡ m = omega arith in
    ap (λ (i : ℕ). drop i xs) (sym apart)
    ∙ sym (drop-drop (m - n) n xs)
    ∙ ap (drop (m - n)) same
    ∙ drop-drop (m - n) n ys
    ∙ ap (λ (i : ℕ). drop i ys) apart

-- A place past a list of known length is a place of what follows it.
drop_past : (xs ys : List ℕ) (n m : ℕ) → length xs ≡ n → drop (n + m) (xs ++ ys) ≡ drop m ys
drop_past xs ys n m width =
    ap (λ (i : ℕ). drop (i + m) (xs ++ ys)) (sym width) ∙ drop-append-add xs ys m

module _ (settings : Settings) where
  abbrev words : ℕ
  words = site_words settings

  -- ---- One site written

  module _ (site : Site) (fits : Storable settings site)
      (start : ℕ) (memory : List ℕ)
      (long : start + words ≤ length memory) where
    front : length (take start memory) ≡ start
    front = length-take-le start memory (omega arith)

    -- What lies before the site's part.
    pub take_written : take start (written settings start site memory) ≡ take start memory
    take_written =
        take_at (take start memory) (site_memory settings site (drop start memory)) start front

    -- What lies behind the site's part.
    pub drop_written : drop (start + words) (written settings start site memory)
        ≡ drop (start + words) memory
    drop_written =
        drop_past (take start memory) (site_memory settings site (drop start memory)) start words
        front
        ∙ drop_site_memory settings site fits (drop start memory)
        (omega (arith, length-drop start memory))
        ∙ drop-drop words start memory

  -- ---- All sites written

  -- The records past those of the sites.
  pub tail_site_records : (sites : List Site) (records : List SiteRecord)
      → drop (length sites) (site_records sites records) ≡ drop (length sites) records
  tail_site_records [] records = refl
  tail_site_records (site ∷ sites) [] = refl
  tail_site_records (site ∷ sites) (first ∷ others) = tail_site_records sites others

  -- The memory past the parts of the sites.
  pub tail_sites_memory : (sites : List Site) (memory : List ℕ)
      → AllStorable settings sites
      → length sites * words ≤ length memory
      → drop (offset words (length sites)) (sites_memory settings sites memory)
      ≡ drop (offset words (length sites)) memory
  tail_sites_memory [] memory fit long = refl
  tail_sites_memory (site ∷ sites) memory fit long =
      let start = offset words (length sites) in
      let here = site_memory settings site (take words memory) in
      let width = length-take-le words memory (omega arith) in
      drop_past here (sites_memory settings sites (drop words memory)) words start
      (length_written settings site (take words memory) (fit.at 0 (omega arith))
      (omega (arith, width))
      ∙ width)
      ∙ tail_sites_memory sites (drop words memory) (later fit)
      (omega (arith, length-drop words memory))
      ∙ drop-drop start words memory

  -- ---- The coordinator written

  -- The memory past the coordinator's numbers.
  pub tail_coordinator_memory : (c : Coordinator) (memory : List ℕ)
      → length c.estimates ≡ settings.universe
      → length c.histogram ≡ value_count
      → drop (coordinator_words settings) (coordinator_memory c memory)
      ≡ drop (coordinator_words settings) memory
  tail_coordinator_memory c memory estimates values =
      let numbers = c.estimates ++ c.histogram in
      let width : length numbers ≡ coordinator_words settings =
      length-append c.estimates c.histogram ∙ omega (arith, estimates, values) in
      drop_at numbers (drop (length numbers) memory) (coordinator_words settings) width
      ∙ ap (λ (n : ℕ). drop n memory) width
