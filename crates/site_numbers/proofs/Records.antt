-- The sites' records and counts made from a row, and their row written, one after another.
--
--   Reading, reading_on, reading_end            the records of the numbers so far
--   counts_taken, part_stored                   the counts as a part of the row; a part stored
--   Recording, recording_on, recording_end      the numbers of the records so far
use Prim.Native.Nat.{ℕ, zero, suc, ◌+◌, ◌*◌, ◌<◌, ◌≤◌}
use mathlib.Core.Path.{◌≡◌, refl, ap, sym, subst, ◌∙◌}
use mathlib.Core.List.{List, [], ◌∷◌, ◌++◌, append_assoc, append-nil}
use native.Mathlib.Numerals.{add-one}
use native.Mathlib.Omega.{arith}
use lib.ListN.{length, set, get_or, take, drop, replicate, length-append, length-drop, length-replicate, drop_of_length-le}
use lib.Seq.{sets, take-suc, get_or-drop, drop-drop}
use Rattle.laws.proofs.Writing.{written_sets}
use Rattle.laws.proofs.Fronts.{Growing, growing_on, growing_ends, overwritten_sets}
use Rattle.model.specs.declared.SiteRecord.{SiteRecord}
use Rattle.model.specs.declared.Sites.{Sites}
use Rattle.model.specs.Held.{no_record}
use Rattle.record_numbers.specs.Numbers.{site_width, count_place, sites_width, site_at, site_numbers, sites_numbers, records_from, records_numbers, counts_from}
use Rattle.record_numbers.proofs.Records.{length_records_from, length_records_numbers, length_counts_from}

-- ---- 32 elements written over

-- All of them: of the list before nothing is left.
all_grown : {A : Type 0} (front : ℕ → List A) (none : A) (now : List A) (i : ℕ)
    → Growing front (replicate 32 none) 32 now i
    → 32 ≤ i
    → length (front 32) ≡ 32
    → now ≡ front 32
all_grown {A} front none now i growing past width =
    let short : length (replicate 32 none) ≤ length (front 32) =
    omega (arith, length-replicate 32 none, width) in
    growing_ends front (replicate 32 none) 32 now i growing past
    ∙ ap (λ (l : List A). front 32 ++ l) (drop_of_length-le (replicate 32 none) short)
    ∙ append-nil (front 32)

-- ---- The loop that reads

-- 32 records of zeros, over which those of the numbers are written.
abbrev pub Reading : List ℕ → List SiteRecord → ℕ → Type 0
Reading numbers =
    Growing (λ (n : ℕ). records_from n numbers) (replicate 32 no_record) 32

pub reading_on : (numbers : List ℕ) (records : List SiteRecord) (i : ℕ) {site : SiteRecord}
    → Reading numbers records i
    → i < 32
    → site ≡ site_at numbers (site_width * i)
    → Reading numbers (set records i site) (i + 1)
reading_on numbers records i {site} reading inside is =
    subst (λ (r : SiteRecord). Reading numbers (set records i r) (i + 1)) (sym is)
    (growing_on (λ (n : ℕ). records_from n numbers) (replicate 32 no_record) 32 records i reading i
    (site_at numbers (site_width * i) ∷ []) inside (length_records_from i numbers)
    (omega (arith, length-replicate 32 no_record))
    (ap (λ (n : ℕ). records_from n numbers) (sym (add-one i))) refl)

pub reading_end : (numbers : List ℕ) (records : List SiteRecord) (i : ℕ)
    → Reading numbers records i
    → 32 ≤ i
    → records ≡ records_from 32 numbers
reading_end numbers records i reading past =
    all_grown (λ (n : ℕ). records_from n numbers) no_record records i reading past
    (length_records_from 32 numbers)

-- ---- The counts read, and parts stored

pub counts_taken : (n at : ℕ) (numbers : List ℕ)
    → at + n ≤ length numbers
    → take n (drop at numbers) ≡ counts_from n at numbers
counts_taken zero at numbers inside = refl
counts_taken (suc n) at numbers inside =
    rw (take-suc (drop at numbers) n 0 (omega (arith, length-drop at numbers)), get_or-drop)
    (ap (λ (l : List ℕ). l ++ (get_or numbers (at + n) 0 ∷ []))
    (counts_taken n at numbers (omega arith)))

-- A part of a list overwritten, as std says it.
pub part_stored : (place width : ℕ) (piece list : List ℕ)
    → length piece ≡ width
    → place + width ≤ length list
    → take place list ++ (piece ++ drop width (drop place list)) ≡ sets list place piece
part_stored place width piece list long inside =
    ap (λ (l : List ℕ). take place list ++ (piece ++ l))
    (drop-drop width place list ∙ ap (λ (n : ℕ). drop (place + n) list) (sym long))
    ∙ sym (append_assoc (take place list) piece (drop (place + length piece) list))
    ∙ written_sets place piece list (omega arith)

-- ---- The loop that writes

-- A row of zeros, over which the numbers of the records are written.
abbrev pub Recording : List SiteRecord → List ℕ → ℕ → Type 0
Recording records =
    Growing (λ (n : ℕ). records_numbers n records) (replicate sites_width 0) 32

pub recording_on : (records : List SiteRecord) (numbers : List ℕ) (i : ℕ) {after : List ℕ}
    → Recording records numbers i
    → i < 32
    → after ≡ sets numbers (site_width * i) (site_numbers (get_or records i no_record))
    → Recording records after (i + 1)
recording_on records numbers i recording inside stored =
    growing_on (λ (n : ℕ). records_numbers n records) (replicate sites_width 0) 32 numbers i
    recording
    (site_width * i) (site_numbers (get_or records i no_record)) inside
    (length_records_numbers i records)
    (omega (arith, length-replicate {A = ℕ} sites_width 0))
    (ap (λ (n : ℕ). records_numbers n records) (sym (add-one i))) stored

-- All of them, and the counts behind: of the zeros nothing is left.
pub recording_end : (sites : Sites) (numbers : List ℕ) (i : ℕ) {after : List ℕ}
    → Recording sites.records numbers i
    → 32 ≤ i
    → after ≡ sets numbers count_place (counts_from 32 0 sites.messages)
    → after ≡ sites_numbers sites
recording_end sites numbers i recording past stored =
    let records = records_numbers 32 sites.records in
    let counts = counts_from 32 0 sites.messages in
    let width = length_records_numbers 32 sites.records in
    let few = length_counts_from 32 0 sites.messages in
    let zeros = length-replicate {A = ℕ} sites_width 0 in
    let short : length {A = ℕ} (replicate sites_width 0) ≤ length (records ++ counts) =
    omega (arith, zeros, width, few, length-append records counts) in
    stored
    ∙ ap (λ (l : List ℕ). sets l count_place counts)
    (growing_ends (λ (n : ℕ). records_numbers n sites.records) (replicate sites_width 0) 32 numbers
    i recording past)
    ∙ overwritten_sets records counts (replicate sites_width 0) count_place width
    (omega (arith, zeros, few))
    ∙ ap (λ (l : List ℕ). (records ++ counts) ++ l)
    (drop_of_length-le (replicate sites_width 0) short)
    ∙ append-nil _
