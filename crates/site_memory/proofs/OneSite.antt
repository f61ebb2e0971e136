-- One site's part of a longer memory: reading looks at the part alone, writing changes the part
-- alone, and a site written twice is as if written the second time alone. Document 01, "Deck".
--
--   Storable, storable       a site that its part has room for, as a sound one is
--   overwritten_again        the front of a list overwritten twice
--   site_in_front            a site read from its part, whatever follows
--   site_memory_front        a site written to its part; the rest stays
--   site_memory_again        written over another with no more counters
use mathlib.Core.Path.{◌≡◌, refl, ap, sym, ◌∙◌, subst⁻¹}
use mathlib.Core.List.{List, [], ◌∷◌, ◌++◌, append_assoc}
use Prim.Native.Nat.{ℕ, zero, suc, ◌+◌, ◌-◌, ◌*◌, ◌≤◌}
use native.Mathlib.Omega.{arith}
use lib.ListN.{length, take, drop, length-drop}
use lib.Seq.{length-take-le, take-append-le, drop-append-le, drop-append-add, take-take, drop-drop, take-add, take_at, drop_at}
use Rattle.laws.proofs.FlatMemory.{four, overwritten, length_overwritten, overwritten_front}
use Rattle.model.specs.declared.Settings.{Settings}
use Rattle.model.specs.declared.SiteRecord.{SiteRecord}
use Rattle.model.specs.Limits.{value_count}
use Rattle.model.specs.Counters.{Counter}
use Rattle.model.specs.Site.{Site}
use Rattle.model.specs.SiteMemory.{counter_in, counters_in, counter_numbers, counter_words, site_words, site_in, site_memory, overwrite}
use Rattle.model.specs.SoundNetwork.{SoundSite}
use Rattle.site_counters.proofs.CounterMemory.{length_counter_numbers}
use Rattle.site_memory.proofs.SiteMemoryLaws.{length_site_memory}

pub record Storable (settings : Settings) (site : Site) : Type 0 where
  pub few_counters : length site.counters ≤ settings.capacity
  pub all_values : length site.histogram ≡ value_count

pub storable : {settings : Settings} {site : Site} → SoundSite settings site
    → Storable settings site
storable sound =
    record { few_counters = sound.few_counters; all_values = sound.histogram_length }

-- ---- Lists

module _ {A : Type 0} where
  -- What was written over the front is gone when as much or more is written over it.
  pub overwritten_again : (xs ys memory : List A)
      → length ys ≤ length xs
      → overwritten xs (overwritten ys memory) ≡ overwritten xs memory
  overwritten_again xs ys memory more =
      let n = length xs - length ys in
      let e : length xs ≡ length ys + n = omega arith in
      ap (λ (l : List A). xs ++ l)
      (ap (λ (k : ℕ). drop k (ys ++ drop (length ys) memory)) e
      ∙ drop-append-add ys (drop (length ys) memory) n
      ∙ drop-drop n (length ys) memory
      ∙ ap (λ (k : ℕ). drop k memory) (sym e))

  -- The numbers after the first n of the first n + k.
  drop_take : (n k : ℕ) (l : List A)
      → n ≤ length l
      → drop n (take (n + k) l) ≡ take k (drop n l)
  drop_take n k l fits =
      ap (drop n) (take-add n k l)
      ∙ drop_at (take n l) (take k (drop n l)) n (length-take-le n l fits)

-- ---- Reading

counters_in_front : (n : ℕ) (part rest : List ℕ)
    → 4 * n ≤ length part
    → counters_in n (part ++ rest) ≡ counters_in n part
counters_in_front zero part rest fits = refl
counters_in_front (suc n) part rest fits =
    let parts = four part (omega arith) in
    let shorter : 4 * n ≤ length parts.rest = omega (arith, ap length parts.whole) in
    subst⁻¹ (λ (l : List ℕ). counters_in (suc n) (l ++ rest) ≡ counters_in (suc n) l) parts.whole
    (ap (λ (l : List Counter).
    counter_in (parts.first ∷ (parts.second ∷ (parts.third ∷ (parts.fourth ∷ []))))
    ∷ l) (counters_in_front n parts.rest rest shorter))

pub site_in_front : (settings : Settings) (numbers : SiteRecord) (part rest : List ℕ)
    → numbers.used ≤ settings.capacity
    → site_words settings ≤ length part
    → site_in settings numbers (part ++ rest) ≡ site_in settings numbers part
site_in_front settings numbers part rest few long =
    let words = counter_words settings in
    let counters = counters_in_front numbers.used part rest (omega arith) in
    let back : value_count ≤ length (drop words part) = rw (length-drop words part) (omega arith) in
    let histogram : take value_count (drop words (part ++ rest))
    ≡ take value_count (drop words part) =
    ap (take value_count) (drop-append-le words part rest (omega arith))
    ∙ take-append-le value_count (drop words part) rest back in
    λ i. record {
      counters = counters i;
      histogram = histogram i;
      arrivals = numbers.arrivals;
      pending = numbers.pending;
      threshold = numbers.threshold;
      dropped = numbers.dropped;
    }

-- ---- Writing

module _ (settings : Settings) (site : Site) (memory : List ℕ)
    (fits : Storable settings site)
    (long : site_words settings ≤ length memory) where
  numbers_within : length (counter_numbers site.counters) ≤ counter_words settings
  numbers_within = omega (arith, length_counter_numbers site.counters, fits.few_counters)

  pub length_written : length (site_memory settings site memory) ≡ length memory
  length_written =
      length_site_memory settings site memory fits.few_counters fits.all_values long

  -- The part is written as if it stood alone, and what follows it stays.
  pub site_memory_front : site_memory settings site memory
      ≡ site_memory settings site (take (site_words settings) memory)
      ++ drop (site_words settings) memory
  site_memory_front =
      let words = counter_words settings in
      let front = overwrite (counter_numbers site.counters) (take words memory) in
      let values = site.histogram in
      let back = drop words memory in
      let room : value_count ≤ length back = rw (length-drop words memory) (omega arith) in
      let same-front : take words (take (site_words settings) memory) ≡ take words memory =
      take-take words (site_words settings) memory (omega arith) in
      let same_back : drop words (take (site_words settings) memory) ≡ take value_count back =
      drop_take words value_count memory (omega arith) in
      ap (λ (l : List ℕ). front ++ l)
      (overwritten_front values back value_count (omega (arith, fits.all_values)) room)
      ∙ sym (append_assoc front (overwrite values (take value_count back)) (drop value_count back))
      ∙ rw (same-front, same_back, drop-drop value_count words memory)

  front_length :
      length (overwrite (counter_numbers site.counters) (take (counter_words settings) memory))
      ≡ counter_words settings
  front_length =
      let front = length-take-le (counter_words settings) memory (omega arith) in
      length_overwritten (counter_numbers site.counters) (take (counter_words settings) memory)
      (rw front numbers_within)
      ∙ front

-- A site with at least as many counters takes the place of one that was written before.
pub site_memory_again : (settings : Settings) (old new : Site) (memory : List ℕ)
    → Storable settings old
    → Storable settings new
    → length old.counters ≤ length new.counters
    → site_words settings ≤ length memory
    → site_memory settings new (site_memory settings old memory) ≡ site_memory settings new memory
site_memory_again settings old new memory old-fits new-fits grows long =
    let words = counter_words settings in
    let front = overwrite (counter_numbers old.counters) (take words memory) in
    let back = overwrite old.histogram (drop words memory) in
    let width : length front ≡ words = front_length settings old memory old-fits long in
    let few : length (counter_numbers old.counters) ≤ length (counter_numbers new.counters) =
    omega (arith, length_counter_numbers old.counters, length_counter_numbers new.counters) in
    let same : length old.histogram ≤ length new.histogram =
    omega (arith, old-fits.all_values, new-fits.all_values) in
    rw (
      take_at front back words width,
      drop_at front back words width,
      overwritten_again (counter_numbers new.counters) (counter_numbers old.counters)
          (take words memory) few,
      overwritten_again new.histogram old.histogram (drop words memory) same,
    )
