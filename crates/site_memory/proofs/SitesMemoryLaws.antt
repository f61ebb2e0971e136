-- The sites' memory: "In a bench the decks' memory stands one after another, deck 0 first." One
-- site written to it, the others as they were. PROOF.md section 9, "Frame".
--
--   AllStorable, all_storable      every site fits its part, as sound ones do
--   length_sites_memory            writing keeps the length
--   sites_memory_set               site j written to its part: that site set among all
--   sites_memory_kept              a site set with the same counters and values: nothing is written
--   site_records_set               the same of the records
-- Letter: j a site.
use mathlib.Core.Path.{◌≡◌, refl, ap, ◌∙◌}
use mathlib.Core.List.{List, [], ◌∷◌, ◌++◌, append_assoc}
use Prim.Native.Nat.{ℕ, zero, suc, ◌+◌, ◌*◌, ◌<◌, ◌≤◌}
use native.Mathlib.Omega.{arith}
use lib.ListN.{length, get_or, set, take, drop, length-append, length-drop}
use lib.Seq.{length-take-le, take-append-add, drop-append-add, take_at, drop_at, drop-drop}
use Rattle.model.specs.declared.Settings.{Settings}
use Rattle.model.specs.declared.SiteRecord.{SiteRecord}
use Rattle.model.specs.Site.{Site, fresh_site}
use Rattle.model.specs.SiteMemory.{site_words, site_record, site_memory}
use Rattle.model.specs.NetworkMemory.{sites_memory, site_records}
use Rattle.model.specs.SoundNetwork.{SoundSite}
use Rattle.site_memory.proofs.OneSite.{Storable, storable, site_memory_front, site_memory_again, length_written}

pub record AllStorable (settings : Settings) (sites : List Site) : Type 0 where
  pub at : (j : ℕ) → j < length sites → Storable settings (get_or sites j fresh_site)

pub all_storable : {settings : Settings} {sites : List Site}
    → length sites ≡ settings.sites
    → ((j : ℕ) → j < settings.sites → SoundSite settings (get_or sites j fresh_site))
    → AllStorable settings sites
all_storable all sound = record { at = λ j j<. storable (sound j (omega (arith, all))) }

pub later : {settings : Settings} {site : Site} {sites : List Site}
    → AllStorable settings (site ∷ sites)
    → AllStorable settings sites
later all = record { at = λ j j<. all.at (suc j) (omega arith) }

-- ---- Records

module _ (default : SiteRecord) where
  pub get_d_site_records : (sites : List Site) (numbers : List SiteRecord) (j : ℕ)
      → j < length sites
      → length sites ≤ length numbers
      → get_or (site_records sites numbers) j default ≡ site_record (get_or sites j fresh_site)
  get_d_site_records [] numbers j j< enough = absurd (omega arith)
  get_d_site_records (site ∷ sites) [] j j< enough = absurd (omega arith)
  get_d_site_records (site ∷ sites) (first ∷ others) zero j< enough = refl
  get_d_site_records (site ∷ sites) (first ∷ others) (suc j) j< enough =
      get_d_site_records sites others j (omega arith) (omega arith)

pub site_records_set : (sites : List Site) (numbers : List SiteRecord) (j : ℕ) (site : Site)
    → j < length sites
    → set (site_records sites numbers) j (site_record site) ≡ site_records (set sites j site)
    numbers
site_records_set [] numbers j site j< = absurd (omega arith)
site_records_set (first ∷ sites) [] zero site j< = refl
site_records_set (first ∷ sites) [] (suc j) site j< = refl
site_records_set (first ∷ sites) (number ∷ numbers) zero site j< = refl
site_records_set (first ∷ sites) (number ∷ numbers) (suc j) site j< =
    ap (λ (l : List SiteRecord). site_record first ∷ l)
    (site_records_set sites numbers j site (omega arith))

pub length_site_records : (sites : List Site) (numbers : List SiteRecord)
    → length (site_records sites numbers) ≡ length numbers
length_site_records [] numbers = refl
length_site_records (site ∷ sites) [] = refl
length_site_records (site ∷ sites) (first ∷ others) = ap suc (length_site_records sites others)

-- ---- Writing

-- The first part of a memory that has room for one site more.
module _ (settings : Settings) (more : ℕ) (memory : List ℕ)
    (long : suc more * site_words settings ≤ length memory) where
  pub part_long : site_words settings ≤ length memory
  part_long = omega arith

  pub part_length : length (take (site_words settings) memory) ≡ site_words settings
  part_length = length-take-le (site_words settings) memory part_long

  pub rest_long : more * site_words settings ≤ length (drop (site_words settings) memory)
  rest_long = rw (length-drop (site_words settings) memory) (omega arith)

  pub written_length : (site : Site)
      → Storable settings site
      → length (site_memory settings site (take (site_words settings) memory)) ≡ site_words settings
  written_length site fits =
      length_written settings site (take (site_words settings) memory) fits
      (omega (arith, part_length))
      ∙ part_length

pub length_sites_memory : (settings : Settings) (sites : List Site) (memory : List ℕ)
    → AllStorable settings sites
    → length sites * site_words settings ≤ length memory
    → length (sites_memory settings sites memory) ≡ length memory
length_sites_memory settings [] memory all long = refl
length_sites_memory settings (site ∷ sites) memory all long =
    let part = site_memory settings site (take (site_words settings) memory) in
    let rest = drop (site_words settings) memory in
    length-append part (sites_memory settings sites rest)
    ∙ omega (
      arith,
      written_length settings (length sites) memory long site (all.at 0 (omega arith)),
      length_sites_memory settings sites rest (later all)
          (rest_long settings (length sites) memory long),
      length-drop (site_words settings) memory,
    )

-- From site j's part on: its own, then those of the sites after it.
pub drop_sites_memory : (settings : Settings) (sites : List Site) (memory : List ℕ) (j : ℕ)
    → AllStorable settings sites
    → length sites * site_words settings ≤ length memory
    → j < length sites
    → drop (j * site_words settings) (sites_memory settings sites memory)
    ≡ site_memory settings (get_or sites j fresh_site)
    (take (site_words settings) (drop (j * site_words settings) memory))
    ++ sites_memory settings (drop (suc j) sites)
    (drop (site_words settings) (drop (j * site_words settings) memory))
drop_sites_memory settings [] memory j all long j< = absurd (omega arith)
drop_sites_memory settings (site ∷ sites) memory zero all long j< =
    let e : 0 * site_words settings ≡ 0 = omega arith in rw e
drop_sites_memory settings (site ∷ sites) memory (suc j) all long j< =
    let words = site_words settings in
    let part = site_memory settings site (take words memory) in
    let rest = drop words memory in
    let width : length part ≡ words =
    written_length settings (length sites) memory long site (all.at 0 (omega arith)) in
    let e : suc j * words ≡ length part + j * words = omega (arith, width) in
    let e' : words + j * words ≡ suc j * words = omega arith in
    ap (λ (n : ℕ). drop n (part ++ sites_memory settings sites rest)) e
    ∙ drop-append-add part (sites_memory settings sites rest) (j * words)
    ∙ drop_sites_memory settings sites rest j (later all)
    (rest_long settings (length sites) memory long) (omega arith)
    ∙ rw (drop-drop (j * words) words memory, e')

-- Site j written to its part of a memory that holds all sites: the same as that site set.
pub sites_memory_set : (settings : Settings) (sites : List Site) (memory : List ℕ) (j : ℕ)
    (site : Site)
    → AllStorable settings sites
    → Storable settings site
    → length (get_or sites j fresh_site).counters ≤ length site.counters
    → length sites * site_words settings ≤ length memory
    → j < length sites
    → take (j * site_words settings) (sites_memory settings sites memory)
    ++ site_memory settings site
    (drop (j * site_words settings) (sites_memory settings sites memory))
    ≡ sites_memory settings (set sites j site) memory
sites_memory_set settings [] memory j site all fits grows long j< = absurd (omega arith)
sites_memory_set settings (first ∷ sites) memory zero site all fits grows long j< =
    let words = site_words settings in
    let old = site_memory settings first (take words memory) in
    let rest = sites_memory settings sites (drop words memory) in
    let width : length old ≡ words =
    written_length settings (length sites) memory long first (all.at 0 (omega arith)) in
    let enough : words ≤ length (old ++ rest) =
    rw (length-append old rest) (omega (arith, width)) in
    let e : 0 * words ≡ 0 = omega arith in
    rw e
    (site_memory_front settings site (old ++ rest) fits enough
    ∙ ap (λ (l : List ℕ). site_memory settings site l ++ drop words (old ++ rest))
    (take_at old rest words width)
    ∙ ap (λ (l : List ℕ). site_memory settings site old ++ l) (drop_at old rest words width)
    ∙ ap (λ (l : List ℕ). l ++ rest)
    (site_memory_again settings first site (take words memory) (all.at 0 (omega arith)) fits grows
    (omega (arith, part_length settings (length sites) memory long))))
sites_memory_set settings (first ∷ sites) memory (suc j) site all fits grows long j< =
    let words = site_words settings in
    let part = site_memory settings first (take words memory) in
    let rest = sites_memory settings sites (drop words memory) in
    let width : length part ≡ words =
    written_length settings (length sites) memory long first (all.at 0 (omega arith)) in
    let e : suc j * words ≡ length part + j * words = omega (arith, width) in
    ap (λ (n : ℕ). take n (part ++ rest) ++ site_memory settings site (drop n (part ++ rest))) e
    ∙ ap (λ (l : List ℕ).
    l ++ site_memory settings site (drop (length part + j * words) (part ++ rest)))
    (take-append-add part rest (j * words))
    ∙ ap (λ (l : List ℕ). (part ++ take (j * words) rest) ++ site_memory settings site l)
    (drop-append-add part rest (j * words))
    ∙ append_assoc part (take (j * words) rest) (site_memory settings site (drop (j * words) rest))
    ∙ ap (λ (l : List ℕ). part ++ l)
    (sites_memory_set settings sites (drop words memory) j site (later all) fits grows
    (rest_long settings (length sites) memory long) (omega arith))

-- Counters and values are all that stands in memory.
pub sites_memory_kept : (settings : Settings) (sites : List Site) (memory : List ℕ) (j : ℕ)
    (site : Site)
    → site.counters ≡ (get_or sites j fresh_site).counters
    → site.histogram ≡ (get_or sites j fresh_site).histogram
    → sites_memory settings (set sites j site) memory ≡ sites_memory settings sites memory
sites_memory_kept settings [] memory j site counters_kept histogram_kept = refl
sites_memory_kept settings (first ∷ sites) memory zero site counters_kept histogram_kept =
    rw (counters_kept, histogram_kept)
sites_memory_kept settings (first ∷ sites) memory (suc j) site counters_kept histogram_kept =
    ap (λ (l : List ℕ). site_memory settings first (take (site_words settings) memory) ++ l)
    (sites_memory_kept settings sites (drop (site_words settings) memory) j site
    counters_kept histogram_kept)
