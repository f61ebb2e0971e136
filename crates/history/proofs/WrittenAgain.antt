-- Records and the coordinator's memory read, and written over others that differ from them in the
-- network's own numbers alone.
--
--   records_over             the records that were read, written over others with the same tail
--   coordinator_over         the coordinator that was read, the same
use mathlib.Core.Path.{◌≡◌, sym, ap, ◌∙◌}
use mathlib.Core.List.{List, [], ◌∷◌, ◌++◌}
use Prim.Native.Nat.{ℕ, zero, suc, ◌≤◌}
use native.Mathlib.Omega.{arith}
use lib.ListN.{length, drop, length-append, length-drop}
use lib.Seq.{length-take-le}
use Rattle.model.specs.declared.Settings.{Settings}
use Rattle.model.specs.declared.SiteRecord.{SiteRecord}
use Rattle.model.specs.declared.CoordinatorRecord.{CoordinatorRecord}
use Rattle.model.specs.Limits.{value_count}
use Rattle.model.specs.SiteMemory.{site_words}
use Rattle.model.specs.CoordinatorMemory.{coordinator_words, coordinator_in, coordinator_memory}
use Rattle.model.specs.NetworkMemory.{sites_in, site_records}
use Rattle.coordinator_kinds.proofs.MemoryLaws.{memory_kept}
use Rattle.site_memory.proofs.SiteMemoryLaws.{site_record_site_in}

module _ (settings : Settings) where
  -- The records of the sites that were read, over records with the same tail.
  pub records_over : (k : ℕ) (numbers start : List SiteRecord) (memory : List ℕ)
      → k ≤ length numbers
      → length start ≡ length numbers
      → drop k numbers ≡ drop k start
      → site_records (sites_in k settings numbers memory) start ≡ numbers
  records_over zero numbers start memory enough same tails = sym tails
  records_over (suc k) [] start memory enough same tails = absurd (omega arith)
  records_over (suc k) (first ∷ others) [] memory enough same tails = absurd (omega arith)
  records_over (suc k) (first ∷ others) (x ∷ xs) memory enough same tails =
      let own = site_record_site_in settings first memory in
      let behind = records_over k others xs (drop (site_words settings) memory) (omega arith)
      (omega arith) tails in
      λ i. own i ∷ behind i

  -- The coordinator that was read, over memory with the same tail.
  pub coordinator_over : (numbers : CoordinatorRecord) (memory start : List ℕ)
      → coordinator_words settings ≤ length memory
      → drop (coordinator_words settings) memory ≡ drop (coordinator_words settings) start
      → coordinator_memory (coordinator_in settings numbers memory) start ≡ memory
  coordinator_over numbers memory start long tails =
      let u = settings.universe in
      let c = coordinator_in settings numbers memory in
      let width : length (c.estimates ++ c.histogram) ≡ coordinator_words settings =
      length-append c.estimates c.histogram
      ∙ omega (
        arith,
        length-take-le u memory (omega arith),
        length-take-le value_count (drop u memory) (omega (arith, length-drop u memory)),
      ) in
      ap (λ (behind : List ℕ). (c.estimates ++ c.histogram) ++ behind)
      (ap (λ (n : ℕ). drop n start) width
      ∙ sym tails
      ∙ ap (λ (n : ℕ). drop n memory) (sym width))
      ∙ sym (memory_kept settings numbers memory long)
