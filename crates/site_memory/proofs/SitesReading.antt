-- The sites read from their records and memory: one of them, all of them back from what was
-- written, and written again what was read.
--
--   site_in_sites_memory           site j read from a memory that holds all sites
--   get_d_sites_in, length_sites_in  one of the sites that were read, and how many they are
--   enough_records, used_within    what the records of sound sites are
--   sites_in_sites_memory          all sites read back
--   sites_memory_sites_in, site_records_sites_in  what was read, written again, changes nothing
-- Letters: j a site, k how many sites.
use mathlib.Core.Path.{◌≡◌, refl, ap, sym, ◌∙◌}
use mathlib.Core.List.{List, [], ◌∷◌, ◌++◌}
use Prim.Native.Nat.{ℕ, zero, suc, ◌+◌, ◌*◌, ◌<◌, ◌≤◌}
use native.Mathlib.Nat.{mul-le-mul_right}
use native.Mathlib.Omega.{arith}
use lib.ListN.{length, get_or, take, drop, take-append-drop, length-drop}
use lib.Seq.{length-take-le, drop_at, drop-drop}
use Rattle.model.specs.declared.Settings.{Settings}
use Rattle.model.specs.declared.SiteRecord.{SiteRecord}
use Rattle.model.specs.Site.{Site, fresh_site}
use Rattle.model.specs.SiteMemory.{site_words, counters_in, site_in, site_record, site_memory}
use Rattle.model.specs.NetworkMemory.{sites_in, sites_memory, site_records}
use Rattle.model.specs.SoundNetwork.{SoundSite}
use Rattle.model.proofs.Soundness.ConsistentSites.{length_counters_in}
use Rattle.site_memory.proofs.SiteMemoryLaws.{site_in_site_memory, site_memory_site_in, site_record_site_in}
use Rattle.site_memory.proofs.OneSite.{Storable, site_in_front, length_written}
use Rattle.site_memory.proofs.SitesMemoryLaws.{AllStorable, later, part_length, rest_long, drop_sites_memory, written_length}

-- ---- Read back

-- A site written to its part is read from it, whatever follows.
part_read : (settings : Settings) (site : Site) (part rest : List ℕ)
    → Storable settings site
    → site_words settings ≤ length part
    → site_in settings (site_record site) (site_memory settings site part ++ rest) ≡ site
part_read settings site part rest fits long =
    site_in_front settings (site_record site) (site_memory settings site part) rest
    fits.few_counters
    (rw (length_written settings site part fits long) long)
    ∙ site_in_site_memory settings site part fits.few_counters fits.all_values long

pub site_in_sites_memory : (settings : Settings) (sites : List Site) (memory : List ℕ) (j : ℕ)
    → AllStorable settings sites
    → length sites * site_words settings ≤ length memory
    → j < length sites
    → site_in settings (site_record (get_or sites j fresh_site))
    (drop (j * site_words settings) (sites_memory settings sites memory))
    ≡ get_or sites j fresh_site
site_in_sites_memory settings sites memory j all long j< =
    let words = site_words settings in
    let more : suc j * words ≤ length sites * words = mul-le-mul_right words (omega arith) in
    let left : words ≤ length (drop (j * words) memory) =
    rw (length-drop (j * words) memory) (omega arith) in
    let width : length (take words (drop (j * words) memory)) ≡ words =
    length-take-le words (drop (j * words) memory) left in
    ap (site_in settings (site_record (get_or sites j fresh_site)))
    (drop_sites_memory settings sites memory j all long j<)
    ∙ part_read settings (get_or sites j fresh_site) (take words (drop (j * words) memory))
    (sites_memory settings (drop (suc j) sites) (drop words (drop (j * words) memory)))
    (all.at j j<) (omega (arith, width))

pub sites_in_sites_memory : (settings : Settings) (sites : List Site) (numbers : List SiteRecord)
    (memory : List ℕ)
    → AllStorable settings sites
    → length sites ≤ length numbers
    → length sites * site_words settings ≤ length memory
    → sites_in (length sites) settings (site_records sites numbers)
    (sites_memory settings sites memory)
    ≡ sites
sites_in_sites_memory settings [] numbers memory all enough long = refl
sites_in_sites_memory settings (site ∷ sites) [] memory all enough long = absurd (omega arith)
sites_in_sites_memory settings (site ∷ sites) (first ∷ others) memory all enough long =
    let words = site_words settings in
    let fits = all.at 0 (omega arith) in
    let part = site_memory settings site (take words memory) in
    let rest = sites_memory settings sites (drop words memory) in
    let read : site_in settings (site_record site) (part ++ rest) ≡ site =
    part_read settings site (take words memory) rest fits
    (omega (arith, part_length settings (length sites) memory long)) in
    let dropped : drop words (part ++ rest) ≡ rest =
    drop_at part rest words (written_length settings (length sites) memory long site fits) in
    let others-read =
    sites_in_sites_memory settings sites others (drop words memory) (later all) (omega arith)
    (rest_long settings (length sites) memory long) in
    ap (λ (l : List ℕ).
    site_in settings (site_record site) (part ++ rest)
    ∷ sites_in (length sites) settings (site_records sites others) l) dropped
    ∙ ap (λ (l : List Site). site_in settings (site_record site) (part ++ rest) ∷ l) others-read
    ∙ ap (λ (s : Site). s ∷ sites) read

-- ---- The sites that were read

pub length_sites_in : (k : ℕ) (settings : Settings) (numbers : List SiteRecord) (memory : List ℕ)
    → k ≤ length numbers
    → length (sites_in k settings numbers memory) ≡ k
length_sites_in zero settings numbers memory enough = refl
length_sites_in (suc k) settings [] memory enough = absurd (omega arith)
length_sites_in (suc k) settings (first ∷ others) memory enough =
    ap suc (length_sites_in k settings others (drop (site_words settings) memory) (omega arith))

pub get_d_sites_in : (default : SiteRecord) (k : ℕ) (settings : Settings)
    (numbers : List SiteRecord)
    (memory : List ℕ) (j : ℕ)
    → j < k
    → k ≤ length numbers
    → get_or (sites_in k settings numbers memory) j fresh_site
    ≡ site_in settings (get_or numbers j default) (drop (j * site_words settings) memory)
get_d_sites_in default zero settings numbers memory j j< enough = absurd (omega arith)
get_d_sites_in default (suc k) settings [] memory j j< enough = absurd (omega arith)
get_d_sites_in default (suc k) settings (first ∷ others) memory zero j< enough =
    let e : 0 * site_words settings ≡ 0 = omega arith in rw e
get_d_sites_in default (suc k) settings (first ∷ others) memory (suc j) j< enough =
    let words = site_words settings in
    let e : words + j * words ≡ suc j * words = omega arith in
    get_d_sites_in default k settings others (drop words memory) j (omega arith) (omega arith)
    ∙ rw (drop-drop (j * words) words memory, e)

-- Where all sites are read, there is a record for each.
pub enough_records : (k : ℕ) (settings : Settings) (numbers : List SiteRecord) (memory : List ℕ)
    → length (sites_in k settings numbers memory) ≡ k
    → k ≤ length numbers
enough_records zero settings numbers memory all = omega arith
enough_records (suc k) settings [] memory all = absurd (omega (arith, all))
enough_records (suc k) settings (first ∷ others) memory all =
    omega (
      arith,
      enough_records k settings others (drop (site_words settings) memory) (omega (arith, all)),
    )

-- No record of a sound site has more counters in use than there is room for.
pub used_within : (default : SiteRecord) (k : ℕ) (settings : Settings) (numbers : List SiteRecord)
    (memory : List ℕ)
    → length (sites_in k settings numbers memory) ≡ k
    → (j : ℕ) → j < k
    → SoundSite settings (get_or (sites_in k settings numbers memory) j fresh_site)
    → (get_or numbers j default).used ≤ settings.capacity
used_within default k settings numbers memory all j j< sound =
    let used = (get_or numbers j default).used in
    let part = drop (j * site_words settings) memory in
    let few : length (counters_in used part) ≤ settings.capacity =
    rw (get_d_sites_in default k settings numbers memory j j<
    (enough_records k settings numbers memory all)) at sound.few_counters in
    omega (arith, few, length_counters_in used part)

-- ---- Written again

pub site_records_sites_in : (k : ℕ) (settings : Settings) (numbers : List SiteRecord)
    (memory : List ℕ)
    → site_records (sites_in k settings numbers memory) numbers ≡ numbers
site_records_sites_in zero settings numbers memory = refl
site_records_sites_in (suc k) settings [] memory = refl
site_records_sites_in (suc k) settings (first ∷ others) memory =
    ap (λ (r : SiteRecord).
    r ∷ site_records (sites_in k settings others (drop (site_words settings) memory)) others)
    (site_record_site_in settings first memory)
    ∙ ap (λ (l : List SiteRecord). first ∷ l)
    (site_records_sites_in k settings others (drop (site_words settings) memory))

-- Where no record has more counters in use than there is room for.
pub sites_memory_sites_in : (default : SiteRecord) (k : ℕ) (settings : Settings)
    (numbers : List SiteRecord) (memory : List ℕ)
    → ((j : ℕ) → j < k → (get_or numbers j default).used ≤ settings.capacity)
    → k ≤ length numbers
    → k * site_words settings ≤ length memory
    → sites_memory settings (sites_in k settings numbers memory) memory ≡ memory
sites_memory_sites_in default zero settings numbers memory few enough long = refl
sites_memory_sites_in default (suc k) settings [] memory few enough long = absurd (omega arith)
sites_memory_sites_in default (suc k) settings (first ∷ others) memory few enough long =
    let words = site_words settings in
    let part = take words memory in
    let rest = drop words memory in
    let part_fits : words ≤ length part = omega (arith, part_length settings k memory long) in
    let few-first : first.used ≤ settings.capacity = few 0 (omega arith) in
    let alone : site_in settings first memory ≡ site_in settings first part =
    ap (site_in settings first) (sym (take-append-drop words memory))
    ∙ site_in_front settings first part rest few-first part_fits in
    let others_kept =
    sites_memory_sites_in default k settings others rest (λ j j<. few (suc j) (omega arith))
    (omega arith) (rest_long settings k memory long) in
    ap (λ (s : Site). site_memory settings s part
    ++ sites_memory settings (sites_in k settings others rest) rest) alone
    ∙ ap (λ (l : List ℕ). l ++ sites_memory settings (sites_in k settings others rest) rest)
    (site_memory_site_in settings first part few-first part_fits)
    ∙ ap (λ (l : List ℕ). part ++ l) others_kept
    ∙ take-append-drop words memory
