-- A walk over the sites by number: what the test of all sites is when the first of them are done.
--
--   Passing, passing_on, passing_fails   the sites before j are consistent
-- Letters: k the sites, j one of them.
use mathlib.Core.Path.{◌≡◌, sym, ap, ◌∙◌}
use mathlib.Core.Bool.{Bool, true, false, ◌&&◌}
use mathlib.Core.List.{List, []}
use Prim.Native.Nat.{ℕ, suc, ◌+◌, ◌-◌, ◌*◌, ◌≤◌, ◌<◌}
use native.Mathlib.Omega.{arith}
use native.Mathlib.Decide.{dec_lt}
use lib.ListN.{length, get_or, drop, drop_of_length-le, get_or-eq_default}
use lib.Seq.{drop-cons, drop-drop}
use Rattle.laws.proofs.Tests.{and_false}
use Rattle.model.specs.declared.Settings.{Settings}
use Rattle.model.specs.declared.SiteRecord.{SiteRecord}
use Rattle.model.specs.SiteMemory.{site_words, site_consistent}
use Rattle.model.specs.NetworkMemory.{sites_consistent}
use Rattle.model.specs.Held.{no_record}

-- Whether the sites from j on, of k, are consistent.
abbrev pub later_consistent : ℕ → Settings → List SiteRecord → List ℕ → ℕ → Bool
later_consistent k settings records memory j =
    sites_consistent (k - j) settings (drop j records) (drop (j * site_words settings) memory)

module _ (k : ℕ) (settings : Settings) (records : List SiteRecord) (memory : List ℕ) where
  -- The memory past the part of site j.
  past_part : (j : ℕ)
      → drop (site_words settings) (drop (j * site_words settings) memory)
      ≡ drop (suc j * site_words settings) memory
  past_part j =
      let words = site_words settings in
      let e : j * words + words ≡ suc j * words = omega arith in
      drop-drop words (j * words) memory ∙ ap (λ (n : ℕ). drop n memory) e

  -- A record that is missing has threshold 0, and no pending is below that.
  missing : (part : List ℕ) → site_consistent settings no_record part ≡ false
  missing part = simp and_false

  consistent_on : (j : ℕ) → j < k
      → later_consistent k settings records memory j
      ≡ (site_consistent settings (get_or records j no_record)
      (drop (j * site_words settings) memory)
      && later_consistent k settings records memory (suc j))
  consistent_on j j< = by_length (dec_lt j (length records))
    where
      e : k - j ≡ suc (k - suc j)
      e = omega arith

      by_length : Dec (j < length records)
          → later_consistent k settings records memory j
          ≡ (site_consistent settings (get_or records j no_record)
          (drop (j * site_words settings) memory)
          && later_consistent k settings records memory (suc j))
      by_length (yes inside) = rw (e, drop-cons records j no_record inside, past_part j)
      by_length (no past) =
          let none : drop j records ≡ [] = drop_of_length-le records {i = j} (omega arith) in
          let zeros : get_or records j no_record ≡ no_record =
          get_or-eq_default records no_record {n = j} (omega arith) in
          rw (e, none, zeros, missing (drop (j * site_words settings) memory))

  pub record Passing (j : ℕ) : Type 0 where
    pub within : j ≤ k
    pub later_decide : sites_consistent k settings records memory
        ≡ later_consistent k settings records memory j

  module _ (j : ℕ) (passing : Passing j) where
    pub passing_on : j < k
        → site_consistent settings (get_or records j no_record)
        (drop (j * site_words settings) memory)
        ≡ true
        → Passing (j + 1)
    passing_on j< holds =
        let e : suc j ≡ j + 1 = omega arith in
        record {
          within = omega arith;
          later_decide = passing.later_decide ∙ consistent_on j j< ∙ rw (holds, e);
        }

    pub passing_fails : j < k
        → site_consistent settings (get_or records j no_record)
        (drop (j * site_words settings) memory)
        ≡ false
        → false ≡ sites_consistent k settings records memory
    passing_fails j< fails = sym (passing.later_decide ∙ consistent_on j j< ∙ rw fails)
