-- One deck's record in the row of all decks.
--
--   deck_is         the record that is read there
--   with_deck_lem   the row with another one there
use mathlib.Core.Path.{◌≡◌, refl, sym, ap, ◌∙◌, subst}
use mathlib.Core.List.{List, [], ◌∷◌, ◌++◌, append_assoc}
use Prim.Native.Nat.{ℕ, zero, suc, ◌+◌, ◌*◌, ◌≤◌, ◌<◌}
use native.Mathlib.Nat.{add-zero}
use native.Mathlib.Omega.{arith}
use native.Mathlib.Decide.{ℕ_discrete}
use lib.ListN.{length, get_or, set, take, drop, length-set}
use lib.Seq.{sets, sets-eq, length-take-le, ext_get_or, get_or-set_same, get_or-set_other}
use Rattle.model.specs.declared.SiteRecord.{SiteRecord}
use Rattle.model.specs.Limits.{most_sites}
use Rattle.model.specs.Held.{no_record, record_in, with_record}
use Rattle.record_numbers.specs.Numbers.{site_width, count_place, sites_width, site_at, site_numbers, records_from, counts_from, sites_from}
use Rattle.record_numbers.proofs.Records.{length_records_from}
use Rattle.record_numbers.proofs.Inverse.{get_d_records_from, site_behind}
use Rattle.library_decks.specs.AllDecks.{deck_at, with_deck}

-- Numbers outside of those that are stored.
get_d_sets_other : (stored numbers : List ℕ) (start i : ℕ)
    → (start ≤ i → i < start + length stored → ⊥)
    → get_or (sets numbers start stored) i 0 ≡ get_or numbers i 0
get_d_sets_other [] numbers start i outside = refl
get_d_sets_other (x ∷ stored) numbers start i outside =
    get_d_sets_other stored (set numbers start x) (suc start) i
    (λ low high. outside (omega arith) (omega arith))
    ∙ get_or-set_other numbers start i x 0
    (λ same. outside (omega (arith, same)) (omega (arith, same)))

pub deck_is : (decks : List ℕ) (which : ℕ)
    → which < most_sites
    → deck_at decks which ≡ record_in (sites_from decks) which
deck_is decks which known = sym (get_d_records_from most_sites decks which known)

module _ (decks : List ℕ) (which : ℕ) (site : SiteRecord)
    (long : length decks ≡ sites_width)
    (known : which < most_sites) where
  abbrev at : ℕ
  at = site_width * which

  abbrev stored : List ℕ
  stored = with_deck decks which site

  -- The record that was stored.
  same_deck : deck_at stored which ≡ site
  same_deck =
      let behind = drop (at + length (site_numbers site)) decks in
      ap (λ (numbers : List ℕ). site_at numbers at)
      (sets-eq (site_numbers site) decks at (omega (arith, long, known))
      ∙ append_assoc (take at decks) (site_numbers site) behind)
      ∙ site_behind (take at decks) (site_numbers site ++ behind) at
      (length-take-le at decks (omega (arith, long, known)))

  -- A number of another one, or behind them all.
  other_number : (i : ℕ) → (at ≤ i → i < at + site_width → ⊥)
      → get_or stored i 0 ≡ get_or decks i 0
  other_number i outside = get_d_sets_other (site_numbers site) decks at i outside

  other_deck : (i : ℕ) → (i ≡ which → ⊥) → deck_at stored i ≡ deck_at decks i
  other_deck i other =
      let place : (j : ℕ) → j < site_width
      → get_or stored (site_width * i + j) 0 ≡ get_or decks (site_width * i + j) 0 =
      λ j within. other_number (site_width * i + j)
      (λ low high. other (omega (arith, within))) in
      let first : get_or stored (site_width * i) 0 ≡ get_or decks (site_width * i) 0 =
      subst (λ (n : ℕ). get_or stored n 0 ≡ get_or decks n 0) (add-zero (site_width * i))
      (place 0 (omega arith)) in
      λ n. record {
        arrivals = first n;
        pending = place 1 (omega arith) n;
        threshold = place 2 (omega arith) n;
        used = place 3 (omega arith) n;
        dropped = place 4 (omega arith) n;
      }

  records_then : records_from most_sites stored ≡ set (records_from most_sites decks) which site
  records_then =
      let width = length_records_from most_sites in
      let known-there : which < length (records_from most_sites decks) =
      omega (arith, width decks, known) in
      ext_get_or no_record (records_from most_sites stored)
      (set (records_from most_sites decks) which site)
      (width stored ∙ sym (length-set (records_from most_sites decks) which site ∙ width decks))
      (λ i inside.
      let below : i < most_sites = omega (arith, width stored, inside) in
      get_d_records_from most_sites stored i below
      ∙ by_place i below known-there (ℕ_discrete i which))
    where
      by_place : (i : ℕ) → i < most_sites → which < length (records_from most_sites decks)
          → Dec (i ≡ which)
          → deck_at stored i ≡ get_or (set (records_from most_sites decks) which site) i no_record
      by_place i below there (yes same) =
          subst (λ (n : ℕ). deck_at stored n
          ≡ get_or (set (records_from most_sites decks) which site) n no_record) (sym same)
          (same_deck ∙ sym (get_or-set_same (records_from most_sites decks) which site no_record
          there))
      by_place i below there (no other) =
          other_deck i other
          ∙ sym (get_d_records_from most_sites decks i below)
          ∙ sym (get_or-set_other (records_from most_sites decks) which i site no_record other)

  -- The counts stand behind all records.
  counts_then : (n : ℕ) → counts_from n count_place stored ≡ counts_from n count_place decks
  counts_then zero = refl
  counts_then (suc n) =
      let last = other_number (count_place + n) (λ low high. omega (arith, known)) in
      λ i. counts_then n i ++ (last i ∷ [])

  pub with_deck_lem : sites_from stored ≡ with_record (sites_from decks) which site
  with_deck_lem = λ i. record { records = records_then i; messages = counts_then most_sites i }
