-- All sites in their records and memory, one part after another: what is read, and what is read
-- after one part was written. PROOF.md section 9, "Frame".
--
--   offset words which              where a site's part starts
--   sites_in_set                    one record changed: that site alone
--   sites_in_written                one part written, with its record: that site alone
--   part_written                    a part as a call left it, put back in its place
use mathlib.Core.Path.{◌≡◌, refl, ap, sym, ◌∙◌}
use mathlib.Core.List.{List, [], ◌∷◌, ◌++◌, append_assoc}
use Prim.Native.Nat.{ℕ, zero, suc, ◌+◌, ◌*◌, ◌≤◌, ◌<◌}
use native.Mathlib.Omega.{arith}
use lib.ListN.{length, get_or, set, take, drop, length-append, length-drop, take-append-drop}
use lib.Seq.{length-take-le, take-add, drop-drop, drop_at}
use Rattle.model.specs.declared.Settings.{Settings}
use Rattle.model.specs.declared.SiteRecord.{SiteRecord}
use Rattle.model.specs.Site.{Site}
use Rattle.model.specs.SiteMemory.{site_words, site_in, site_memory}
use Rattle.model.specs.NetworkMemory.{sites_in}
use Rattle.site_memory.proofs.OneSite.{Storable, site_in_front}
use Rattle.site_memory.proofs.OneSite as OneSite
use Rattle.history.specs.State.{with_part}
use Rattle.history.proofs.SiteParts.{site_in_take, site_memory_append}

-- ---- Where parts start

-- So many parts of so many numbers each.
abbrev pub offset : ℕ → ℕ → ℕ
offset words zero = 0
offset words (suc which) = words + offset words which

-- A product, as document 01 has it.
pub offset_is : (words which : ℕ) → offset words which ≡ which * words
offset_is words zero = omega arith
offset_is words (suc which) = omega (arith, offset_is words which)

module _ (settings : Settings) where
  abbrev words : ℕ
  words = site_words settings

  -- ---- One record changed

  -- A record changed, the memory as it was.
  pub sites_in_set : (k j : ℕ) (records : List SiteRecord) (numbers : SiteRecord) (memory : List ℕ)
      → sites_in k settings (set records j numbers) memory
      ≡ set (sites_in k settings records memory) j
      (site_in settings numbers (drop (offset words j) memory))
  sites_in_set zero j records numbers memory = refl
  sites_in_set (suc k) j [] numbers memory = refl
  sites_in_set (suc k) zero (first ∷ others) numbers memory = refl
  sites_in_set (suc k) (suc j) (first ∷ others) numbers memory =
      ap (λ (sites : List Site). site_in settings first memory ∷ sites)
      (sites_in_set k j others numbers (drop words memory)
      ∙ ap (λ (rest : List ℕ).
      set (sites_in k settings others (drop words memory)) j (site_in settings numbers rest))
      (drop-drop (offset words j) words memory))

  -- ---- One part written

  -- The memory with a site written where its part starts.
  abbrev pub written : ℕ → Site → List ℕ → List ℕ
  written start site memory = take start memory ++ site_memory settings site (drop start memory)

  module _ (site : Site) (fits : Storable settings site) where
    -- Writing a site keeps the length.
    pub length_written : (start : ℕ) (memory : List ℕ)
        → start + words ≤ length memory
        → length (written start site memory) ≡ length memory
    length_written start memory long =
        let behind : words ≤ length (drop start memory) =
        omega (arith, length-drop start memory) in
        length-append (take start memory) (site_memory settings site (drop start memory))
        ∙ omega (
          arith,
          length-take-le start memory (omega arith),
          length-drop start memory,
          OneSite.length_written settings site (drop start memory) fits behind,
        )

    -- A part as a call left it, put back: the site written where its part starts.
    pub part_written : (start n : ℕ) (memory : List ℕ)
        → words ≤ length (take n (drop start memory))
        → with_part memory start n (site_memory settings site (take n (drop start memory)))
        ≡ written start site memory
    part_written start n memory long =
        let rest = drop start memory in
        ap (λ (behind : List ℕ). take start memory ++ behind)
        (ap (λ (tail : List ℕ). site_memory settings site (take n rest) ++ tail)
        (sym (drop-drop n start memory))
        ∙ sym (site_memory_append settings site (take n rest) (drop n rest) fits long)
        ∙ ap (site_memory settings site) (take-append-drop n rest))

    -- What lies past a site's own numbers is as it was.
    pub drop_site_memory : (memory : List ℕ)
        → words ≤ length memory
        → drop words (site_memory settings site memory) ≡ drop words memory
    drop_site_memory memory long =
        let front = length-take-le words memory long in
        ap (drop words)
        (ap (site_memory settings site) (sym (take-append-drop words memory))
        ∙ site_memory_append settings site (take words memory) (drop words memory) fits
        (omega (arith, front)))
        ∙ drop_at (site_memory settings site (take words memory)) (drop words memory) words
        (OneSite.length_written settings site (take words memory) fits (omega (arith, front))
        ∙ front)

    -- A record changed, and the site written in its part.
    pub sites_in_written : (k j : ℕ) (records : List SiteRecord) (numbers default : SiteRecord)
        (memory : List ℕ)
        → offset words j + words ≤ length memory
        → ((i : ℕ) → i < j → (get_or records i default).used ≤ settings.capacity)
        → sites_in k settings (set records j numbers) (written (offset words j) site memory)
        ≡ set (sites_in k settings records memory) j
        (site_in settings numbers (site_memory settings site (drop (offset words j) memory)))
    sites_in_written zero j records numbers default memory long small = refl
    sites_in_written (suc k) j [] numbers default memory long small = refl
    sites_in_written (suc k) zero (first ∷ others) numbers default memory long small =
        ap (λ (rest : List ℕ).
        site_in settings numbers (site_memory settings site memory) ∷ sites_in k settings others
        rest)
        (drop_site_memory memory (omega arith))
    sites_in_written (suc k) (suc j) (first ∷ others) numbers default memory long small =
        let start = offset words j in
        let rest = drop words memory in
        let front = length-take-le words memory (omega arith) in
        let later : drop (words + start) memory ≡ drop start rest =
        sym (drop-drop start words memory) in
        let apart : written (words + start) site memory
        ≡ take words memory ++ written start site rest =
        (λ i. take-add words start memory i ++ site_memory settings site (later i))
        ∙ append_assoc (take words memory) (take start rest)
        (site_memory settings site (drop start rest)) in
        let first-same : site_in settings first (written (words + start) site memory)
        ≡ site_in settings first memory =
        ap (site_in settings first) apart
        ∙ site_in_front settings first (take words memory) (written start site rest)
        (small 0 (omega arith)) (omega (arith, front))
        ∙ site_in_take settings first words memory (small 0 (omega arith)) (omega arith)
        (omega arith) in
        let behind : drop words (written (words + start) site memory) ≡ written start site rest =
        ap (drop words) apart
        ∙ drop_at (take words memory) (written start site rest) words front in
        let others-are = ap (sites_in k settings (set others j numbers)) behind
        ∙ sites_in_written k j others numbers default rest
        (omega (arith, length-drop words memory)) (λ i i<j. small (suc i) (omega arith))
        ∙ ap (λ (tail : List ℕ).
        set (sites_in k settings others rest) j
        (site_in settings numbers (site_memory settings site tail)))
        (drop-drop start words memory) in
        λ i. first-same i ∷ others-are i
