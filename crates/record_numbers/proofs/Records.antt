-- How long the lists of sites' records, of their numbers and of their counts are.
--
--   length_records_from, length_records_numbers  so many records; `site_width` numbers each
--   length_counts_from                          so many counts
use Prim.Native.Nat.{ℕ, zero, suc, ◌+◌, ◌*◌}
use mathlib.Core.Path.{◌≡◌, refl, ap, ◌∙◌}
use mathlib.Core.List.{List, [], ◌∷◌}
use native.Mathlib.Numerals.{add-one}
use native.Mathlib.Omega.{arith}
use lib.ListN.{length, get_or, length-append}
use Rattle.model.specs.declared.SiteRecord.{SiteRecord}
use Rattle.model.specs.Held.{no_record}
use Rattle.record_numbers.specs.Numbers.{site_width, site_at, site_numbers, records_from, records_numbers, counts_from}

pub length_records_from : (n : ℕ) (numbers : List ℕ) → length (records_from n numbers) ≡ n
length_records_from zero numbers = refl
length_records_from (suc n) numbers =
    length-append (records_from n numbers) (site_at numbers (site_width * n) ∷ [])
    ∙ ap (λ (m : ℕ). m + 1) (length_records_from n numbers)
    ∙ add-one n

pub length_records_numbers : (n : ℕ) (records : List SiteRecord)
    → length (records_numbers n records) ≡ site_width * n
length_records_numbers zero records = refl
length_records_numbers (suc n) records =
    length-append (records_numbers n records) (site_numbers (get_or records n no_record))
    ∙ ap (λ (m : ℕ). m + site_width) (length_records_numbers n records)
    ∙ (omega arith)

pub length_counts_from : (n at : ℕ) (numbers : List ℕ) → length (counts_from n at numbers) ≡ n
length_counts_from zero at numbers = refl
length_counts_from (suc n) at numbers =
    length-append (counts_from n at numbers) (get_or numbers (at + n) 0 ∷ [])
    ∙ ap (λ (m : ℕ). m + 1) (length_counts_from n at numbers)
    ∙ add-one n
