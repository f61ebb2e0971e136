-- The sites in a longer memory, and sites written again. Only the sites' own parts are read and
-- written (document 01: "longer is fine, the rest untouched"); and sites written over others with
-- no more counters are as if written alone.
--
--   sites_in_front, sites_memory_front  read and written, whatever follows
--   sites_memory_again                 later sites, with no fewer counters, over earlier ones
use mathlib.Core.Path.{◌≡◌, refl, sym, ap, ◌∙◌}
use mathlib.Core.List.{List, [], ◌∷◌, ◌++◌, append_assoc}
use Prim.Native.Nat.{ℕ, zero, suc, ◌*◌, ◌≤◌, ◌<◌}
use native.Mathlib.Omega.{arith}
use lib.ListN.{length, get_or, take, drop}
use lib.Seq.{take-append-le, drop-append-le, take_at, drop_at}
use Rattle.model.specs.declared.Settings.{Settings}
use Rattle.model.specs.declared.SiteRecord.{SiteRecord}
use Rattle.model.specs.Site.{Site}
use Rattle.model.specs.SiteMemory.{site_words, site_memory}
use Rattle.model.specs.NetworkMemory.{sites_in, sites_memory}
use Rattle.model.proofs.Soundness.NeverFewer.{NoFewer, no_fewer_later}
use Rattle.site_memory.proofs.OneSite.{site_in_front, site_memory_again}
use Rattle.site_memory.proofs.SitesMemoryLaws.{AllStorable, later, part_long, part_length, rest_long, written_length}

-- ---- The sites read and written

module _ (settings : Settings) where
  -- Whatever follows their parts.
  pub sites_in_front : (default : SiteRecord) (k : ℕ) (numbers : List SiteRecord)
      (part rest : List ℕ)
      → ((j : ℕ) → j < k → (get_or numbers j default).used ≤ settings.capacity)
      → k * site_words settings ≤ length part
      → sites_in k settings numbers (part ++ rest) ≡ sites_in k settings numbers part
  sites_in_front default zero numbers part rest few long = refl
  sites_in_front default (suc k) [] part rest few long = refl
  sites_in_front default (suc k) (first ∷ others) part rest few long =
      let words = site_words settings in
      let own = site_in_front settings first part rest (few 0 (omega arith))
      (part_long settings k part long) in
      let behind = ap (sites_in k settings others)
      (drop-append-le words part rest (part_long settings k part long))
      ∙ sites_in_front default k others (drop words part) rest
      (λ j inside. few (suc j) (omega arith)) (rest_long settings k part long) in
      λ i. own i ∷ behind i

  -- Each site in its part; what follows them stays.
  pub sites_memory_front : (sites : List Site) (part rest : List ℕ)
      → length sites * site_words settings ≤ length part
      → sites_memory settings sites (part ++ rest) ≡ sites_memory settings sites part ++ rest
  sites_memory_front [] part rest long = refl
  sites_memory_front (site ∷ sites) part rest long =
      let words = site_words settings in
      let enough = part_long settings (length sites) part long in
      let own = ap (site_memory settings site) (take-append-le words part rest enough) in
      let others = ap (sites_memory settings sites) (drop-append-le words part rest enough)
      ∙ sites_memory_front sites (drop words part) rest
      (rest_long settings (length sites) part long) in
      (λ i. own i ++ others i)
      ∙ sym (append_assoc (site_memory settings site (take words part))
      (sites_memory settings sites (drop words part)) rest)

  -- ---- Written again

  -- Later sites over earlier ones: as if the later ones alone were written.
  pub sites_memory_again : (old new : List Site) (memory : List ℕ)
      → AllStorable settings old
      → AllStorable settings new
      → length old ≡ length new
      → NoFewer old new
      → length new * site_words settings ≤ length memory
      → sites_memory settings new (sites_memory settings old memory)
      ≡ sites_memory settings new memory
  sites_memory_again [] [] memory old-fit new-fit same grows long = refl
  sites_memory_again [] (y ∷ ys) memory old-fit new-fit same grows long = absurd (omega arith)
  sites_memory_again (x ∷ xs) [] memory old-fit new-fit same grows long = absurd (omega arith)
  sites_memory_again (x ∷ xs) (y ∷ ys) memory old-fit new-fit same grows long =
      let words = site_words settings in
      let part = site_memory settings x (take words memory) in
      let rest = sites_memory settings xs (drop words memory) in
      let width : length part ≡ words =
      written_length settings (length ys) memory long x (old-fit.at 0 (omega arith)) in
      let front = take_at part rest words width in
      let behind = drop_at part rest words width in
      let own = site_memory_again settings x y (take words memory) (old-fit.at 0 (omega arith))
      (new-fit.at 0 (omega arith)) (grows.at 0)
      (omega (arith, part_length settings (length ys) memory long)) in
      let others = sites_memory_again xs ys (drop words memory) (later old-fit) (later new-fit)
      (omega arith) (no_fewer_later grows) (rest_long settings (length ys) memory long) in
      (λ i. site_memory settings y (front i) ++ sites_memory settings ys (behind i))
      ∙ (λ i. own i ++ others i)
