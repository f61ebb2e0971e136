-- The sites that a start leaves: fresh records, and zeros in their memory. PROOF.md section 9,
-- "Decode/encode".
--
--   sites_in_fresh    they are read as fresh sites
use mathlib.Core.Path.{◌≡◌, refl, ap, sym, ◌∙◌}
use mathlib.Core.List.{List, ◌∷◌, ◌++◌, append_assoc}
use Prim.Native.Nat.{ℕ, zero, suc, ◌+◌, ◌*◌, ◌≤◌}
use native.Mathlib.Omega.{arith}
use lib.ListN.{drop, replicate, length-replicate, replicate-append-replicate}
use lib.Seq.{drop_at}
use Rattle.model.specs.declared.Settings.{Settings}
use Rattle.model.specs.Site.{fresh_site}
use Rattle.model.specs.SiteMemory.{site_words, site_in, site_record}
use Rattle.model.specs.NetworkMemory.{sites_in}
use Rattle.history.proofs.SiteParts.{site_in_fresh}

module _ (settings : Settings) where
  abbrev words : ℕ
  words = site_words settings

  zeros_split : (k : ℕ) (rest : List ℕ)
      → replicate (suc k * words) 0 ++ rest
      ≡ replicate words 0 ++ (replicate (k * words) 0 ++ rest)
  zeros_split k rest =
      let total : suc k * words ≡ words + k * words = omega arith in
      ap (λ (n : ℕ). replicate n 0 ++ rest) total
      ∙ ap (λ (numbers : List ℕ). numbers ++ rest)
      (sym (replicate-append-replicate {A = ℕ} words (k * words) 0))
      ∙ append_assoc (replicate words 0) (replicate (k * words) 0) rest

  -- Fresh records and zeros are fresh sites.
  pub sites_in_fresh : (k n : ℕ) (rest : List ℕ)
      → k ≤ n
      → sites_in k settings (replicate n (site_record fresh_site)) (replicate (k * words) 0 ++ rest)
      ≡ replicate k fresh_site
  sites_in_fresh zero n rest enough = refl
  sites_in_fresh (suc k) zero rest enough = absurd (omega arith)
  sites_in_fresh (suc k) (suc n) rest enough =
      let later = replicate (k * words) 0 ++ rest in
      let own : site_in settings (site_record fresh_site) (replicate (suc k * words) 0 ++ rest)
      ≡ fresh_site =
      ap (site_in settings (site_record fresh_site)) (zeros_split k rest)
      ∙ site_in_fresh settings later in
      let others =
      ap (λ (memory : List ℕ).
      sites_in k settings (replicate n (site_record fresh_site)) (drop words memory))
      (zeros_split k rest)
      ∙ ap (sites_in k settings (replicate n (site_record fresh_site)))
      (drop_at (replicate words 0) later words (length-replicate {A = ℕ} words 0))
      ∙ sites_in_fresh k n rest (omega arith) in
      λ i. own i ∷ others i
