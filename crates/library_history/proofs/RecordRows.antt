-- The rows of whole records after a call: what it hands back is read there, or what was there.
--
--   decks-handed, desk-handed     where a call is accepted, and where it is refused
--   decks_long, desk_long         as long as they were
use mathlib.Core.Path.{◌≡◌, refl, sym, ap, ◌∙◌}
use mathlib.Core.List.{List}
use Prim.Native.Nat.{ℕ, ◌+◌}
use native.Mathlib.Decide.{ℕ_discrete}
use lib.ListN.{length, length-append}
use Rattle.model.specs.declared.Sites.{Sites}
use Rattle.model.specs.declared.CoordinatorRecord.{CoordinatorRecord}
use Rattle.model.specs.Refusals.{no_refusal}
use Rattle.model.specs.Limits.{most_sites}
use Rattle.record_numbers.specs.Numbers.{sites_width, records_numbers, counts_from, sites_numbers, coordinator_numbers}
use Rattle.record_numbers.proofs.Records.{length_records_numbers, length_counts_from}
use Rattle.history.proofs.Answers.{accepted_choice, refused_choice}
use Rattle.library_rows.specs.Rows.{handed_out}
use Rattle.library_history.specs.Claims.{desk_width}

-- ---- Any row

-- Read by a function that gives the record back from its own numbers.
module _ {A : Type 0} (read : List ℕ → A) (own : List ℕ) (is : A) (row rowThen : List ℕ)
    (refusal : ℕ)
    (are : rowThen ≡ handed_out refusal own row) where
  pub handed : (refusal ≡ no_refusal → read own ≡ is)
      → ((refusal ≡ no_refusal → ⊥) → is ≡ read row)
      → read rowThen ≡ is
  handed back same = by_refusal (ℕ_discrete refusal no_refusal)
    where
      by_refusal : Dec (refusal ≡ no_refusal) → read rowThen ≡ is
      by_refusal (yes none) = ap read (are ∙ accepted_choice refusal own row none) ∙ back none
      by_refusal (no refused) =
          ap read (are ∙ refused_choice refusal own row refused) ∙ sym (same refused)

  pub stays_long : (width : ℕ) → length own ≡ width → length row ≡ width
      → length rowThen ≡ width
  stays_long width own-long row_long = by_refusal (ℕ_discrete refusal no_refusal)
    where
      by_refusal : Dec (refusal ≡ no_refusal) → length rowThen ≡ width
      by_refusal (yes none) =
          ap length (are ∙ accepted_choice refusal own row none) ∙ own-long
      by_refusal (no refused) =
          ap length (are ∙ refused_choice refusal own row refused) ∙ row_long

-- ---- The two rows

pub length_sites_numbers : (sites : Sites) → length (sites_numbers sites) ≡ sites_width
length_sites_numbers sites =
    let records = records_numbers most_sites sites.records in
    length-append records (counts_from most_sites 0 sites.messages)
    ∙ (λ i. length_records_numbers most_sites sites.records i
    + length_counts_from most_sites 0 sites.messages i)

pub length_coordinator_numbers : (c : CoordinatorRecord) → length (coordinator_numbers c) ≡
    desk_width
length_coordinator_numbers c = refl
