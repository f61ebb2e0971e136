-- One site in a part of the sites' memory (document 01, "Deck"): only its own numbers are read and
-- written, so what lies past them may be there or not. PROOF.md section 9, "Frame".
--
--   site_in_take                      a site read from a part that holds its numbers
--   site_memory_append                a site written to such memory: what lies past stays
--   site_in_fresh                     the site of a fresh record in memory of zeros
use mathlib.Core.Path.{◌≡◌, ap, sym, ◌∙◌}
use mathlib.Core.List.{List, [], ◌++◌, append_assoc}
use Prim.Native.Nat.{ℕ, ◌≤◌}
use native.Mathlib.Omega.{arith}
use lib.ListN.{length, take, drop, replicate, length-take, length-replicate, take-append-drop, replicate-append-replicate, length-append}
use lib.Seq.{take-append-le, drop-append-le, take_at, drop_at}
use Rattle.model.specs.declared.Settings.{Settings}
use Rattle.model.specs.declared.SiteRecord.{SiteRecord}
use Rattle.model.specs.Limits.{value_count}
use Rattle.model.specs.Site.{Site, fresh_site}
use Rattle.model.specs.SiteMemory.{counter_words, site_words, site_in, site_record, site_memory}
use Rattle.site_memory.proofs.OneSite.{Storable, site_in_front, site_memory_front}

-- ---- A site read

-- The front of a memory that is long enough.
pub front_long : (words n : ℕ) (memory : List ℕ)
    → words ≤ n
    → words ≤ length memory
    → words ≤ length (take n memory)
front_long words n memory within long = omega (arith, length-take n memory)

-- A front that holds the site's numbers is enough.
pub site_in_take : (settings : Settings) (numbers : SiteRecord) (n : ℕ) (memory : List ℕ)
    → numbers.used ≤ settings.capacity
    → site_words settings ≤ n
    → site_words settings ≤ length memory
    → site_in settings numbers (take n memory) ≡ site_in settings numbers memory
site_in_take settings numbers n memory few within long =
    sym (site_in_front settings numbers (take n memory) (drop n memory) few
    (front_long (site_words settings) n memory within long))
    ∙ ap (site_in settings numbers) (take-append-drop n memory)

-- ---- A site written

-- What follows a site's numbers is not written. Both sides are the site's own numbers written, the
-- rest of xs, and ys.
pub site_memory_append : (settings : Settings) (site : Site) (xs ys : List ℕ)
    → Storable settings site
    → site_words settings ≤ length xs
    → site_memory settings site (xs ++ ys) ≡ site_memory settings site xs ++ ys
site_memory_append settings site xs ys fits long =
    let words = site_words settings in
    let longer : words ≤ length (xs ++ ys) = omega (arith, length-append xs ys) in
    let own = site_memory settings site (take words xs) in
    let front = take-append-le words xs ys long in
    let behind = drop-append-le words xs ys long in
    site_memory_front settings site (xs ++ ys) fits longer
    ∙ (λ i. site_memory settings site (front i) ++ behind i)
    ∙ sym (append_assoc own (drop words xs) ys)
    ∙ ap (λ (numbers : List ℕ). numbers ++ ys) (sym (site_memory_front settings site xs fits long))

-- ---- A fresh site

-- No counter in use, and zeros for value counts.
pub site_in_fresh : (settings : Settings) (rest : List ℕ)
    → site_in settings (site_record fresh_site) (replicate (site_words settings) 0 ++ rest) ≡
    fresh_site
site_in_fresh settings rest =
    let words = counter_words settings in
    let zeros : replicate (site_words settings) 0 ++ rest
    ≡ replicate words 0 ++ (replicate value_count 0 ++ rest) =
    ap (λ (numbers : List ℕ). numbers ++ rest)
    (sym (replicate-append-replicate {A = ℕ} words value_count 0))
    ∙ append_assoc (replicate words 0) (replicate value_count 0) rest in
    let values : take value_count (drop words (replicate (site_words settings) 0 ++ rest))
    ≡ replicate value_count 0 =
    ap (λ (memory : List ℕ). take value_count (drop words memory)) zeros
    ∙ ap (take value_count)
    (drop_at (replicate words 0) (replicate value_count 0 ++ rest) words
    (length-replicate {A = ℕ} words 0))
    ∙ take_at (replicate value_count 0) rest value_count (length-replicate {A = ℕ} value_count 0) in
    λ i. record {
      counters = [];
      histogram = values i;
      arrivals = 0;
      pending = 0;
      threshold = 1;
      dropped = 0;
    }
