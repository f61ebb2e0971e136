-- A site written to memory is read back, and the memory keeps its length.
--
--   length_site_memory    writing a site keeps the length
--   site_in_site_memory   what was written is what is read
--   site_memory_site_in   what was read, written again, leaves the memory as it is
--   site_record_site_in   the record of what was read is the record it was read from
use Prim.Native.Nat.{ℕ, ◌≤◌}
use mathlib.Core.Path.{◌≡◌, ap, sym, ◌∙◌}
use mathlib.Core.List.{List, ◌++◌, append_assoc}
use native.Mathlib.Omega.{arith}
use lib.ListN.{length, take, drop, length-append, length-drop}
use lib.Seq.{length-take-le, take_at, drop_at}
use Rattle.laws.proofs.FlatMemory.{length_overwritten, overwritten_front, overwritten_take}
use Rattle.model.specs.declared.Settings.{Settings}
use Rattle.model.specs.declared.SiteRecord.{SiteRecord}
use Rattle.model.specs.Limits.{value_count}
use Rattle.model.specs.Site.{Site}
use Rattle.model.specs.SiteMemory.{counter_words, site_words, site_in, site_record, site_memory, counters_in, counter_numbers, overwrite}
use Rattle.model.proofs.Soundness.ConsistentSites.{length_counters_in}
use Rattle.site_counters.proofs.CounterMemory.{length_counter_numbers, counters_read, counters_kept}

-- A site whose counters and values fit its memory.
module _
    (settings : Settings)
    (site : Site)
    (memory : List ℕ)
    (few : length site.counters ≤ settings.capacity)
    (values : length site.histogram ≡ value_count)
    (long : site_words settings ≤ length memory) where
  numbers_within : length (counter_numbers site.counters) ≤ counter_words settings
  numbers_within = omega (arith, length_counter_numbers site.counters)

  front_long : counter_words settings ≤ length memory
  front_long = omega arith

  -- The part of the counters keeps its length, and so does the part of the values.
  length_front :
      length (overwrite (counter_numbers site.counters) (take (counter_words settings) memory))
      ≡ counter_words settings
  length_front =
      let front = length-take-le (counter_words settings) memory front_long in
      length_overwritten (counter_numbers site.counters) (take (counter_words settings) memory)
      (rw front numbers_within)
      ∙ front

  length_back : length (overwrite site.histogram (drop (counter_words settings) memory))
      ≡ length (drop (counter_words settings) memory)
  length_back =
      length_overwritten site.histogram (drop (counter_words settings) memory)
      (rw (values, length-drop) (omega arith))

  pub length_site_memory : length (site_memory settings site memory) ≡ length memory
  length_site_memory =
      length-append
      (overwrite (counter_numbers site.counters) (take (counter_words settings) memory))
      (overwrite site.histogram (drop (counter_words settings) memory))
      ∙ omega (
        arith,
        length_front,
        length_back,
        length-drop (counter_words settings) memory,
      )

  counters_back : counters_in (length site.counters) (site_memory settings site memory)
      ≡ site.counters
  counters_back = rw append_assoc (counters_read site.counters _)

  values_back : take value_count (drop (counter_words settings) (site_memory settings site memory))
      ≡ site.histogram
  values_back =
      let words = counter_words settings in
      let front = overwrite (counter_numbers site.counters) (take words memory) in
      let rest = drop (length site.histogram) (drop words memory) in
      ap (take value_count) (drop_at front (site.histogram ++ rest) words length_front)
      ∙ take_at site.histogram rest value_count values

  pub site_in_site_memory : site_in settings (site_record site) (site_memory settings site memory)
      ≡ site
  site_in_site_memory = λ i. record {
    counters = counters_back i;
    histogram = values_back i;
    arrivals = site.arrivals;
    pending = site.pending;
    threshold = site.threshold;
    dropped = site.dropped;
  }

-- Reading a site and writing it again changes nothing.
pub site_memory_site_in : (settings : Settings) (numbers : SiteRecord) (memory : List ℕ)
    → numbers.used ≤ settings.capacity
    → site_words settings ≤ length memory
    → site_memory settings (site_in settings numbers memory) memory ≡ memory
site_memory_site_in settings numbers memory few long =
    let words = counter_words settings in
    let ws = counter_numbers (counters_in numbers.used memory) in
    let short : length ws ≤ words =
    omega (
      arith,
      length_counter_numbers (counters_in numbers.used memory),
      length_counters_in numbers.used memory,
    ) in
    let back : value_count ≤ length (drop words memory) =
    rw (length-drop words memory) (omega arith) in
    ap (λ (l : List ℕ). overwrite ws (take words memory) ++ l)
    (overwritten_take value_count (drop words memory) back)
    ∙ sym (overwritten_front ws memory words short (omega arith))
    ∙ counters_kept numbers.used memory (omega arith)

-- The record of a site that was read is the record that it was read from.
pub site_record_site_in : (settings : Settings) (numbers : SiteRecord) (memory : List ℕ)
    → site_record (site_in settings numbers memory) ≡ numbers
site_record_site_in settings numbers memory = λ i. record {
  arrivals = numbers.arrivals;
  pending = numbers.pending;
  threshold = numbers.threshold;
  used = length_counters_in numbers.used memory i;
  dropped = numbers.dropped;
}
