-- Records to numbers and back. The record made from a record's numbers is that record, whatever
-- stands behind them; the numbers of the record made from numbers are these, where they are well
-- formed.
--
--   settings_back, settings_same         settings
--   message_back, message_same           a message
--   site_back, site_same                 a site's record
--   phase_back, phase_same               a phase
--   coordinator_back, coordinator_same   the coordinator's record
--   coordinator_whole                    the same of numbers of any size
--   counts_taken, counts_back            the counts of messages, a part of the numbers
--   sites_back, sites_same               all sites' records and their counts
--   get_d_records_from, site_behind      one record, by its place
use Prim.Native.Nat.{ℕ, zero, suc, ◌+◌, ◌*◌, ◌<◌, ◌≤◌}
use mathlib.Core.Path.{◌≡◌, refl, ap, sym, ◌∙◌}
use mathlib.Core.Bool.{true, ◌&&◌}
use mathlib.Core.List.{List, [], ◌∷◌, ◌++◌, append_assoc}
use native.Mathlib.Nat.{add-zero, zero-add}
use native.Mathlib.Omega.{arith}
use native.Mathlib.Decide.{ℕ_discrete}
use lib.Dec.{leb}
use lib.ListN.{length, get_or, take, drop, length-append, length-drop}
use lib.Seq.{get_or-append-add, get_or-drop, take-add, take-suc, take_all, take_at, ext_get_or}
use borrow.Author.Tests.{ne_eqb, eqb-true, leb-true}
use Rattle.laws.proofs.Tests.{both_true}
use Rattle.laws.proofs.Lists.{read_take, get_d_snoc_old, get_d_snoc_new}
use Rattle.model.specs.declared.Settings.{Settings}
use Rattle.model.specs.declared.Message.{Message}
use Rattle.model.specs.declared.SiteRecord.{SiteRecord}
use Rattle.model.specs.declared.Sites.{Sites}
use Rattle.model.specs.declared.Phase.{Phase}
use Rattle.model.specs.declared.Phase.TheVariants.{Idle, Collecting, Probing, Announcing}
use Rattle.model.specs.declared.CoordinatorRecord.{CoordinatorRecord}
use Rattle.model.specs.Choice.{is_zero}
use Rattle.model.specs.Held.{no_record}
use Rattle.record_numbers.specs.Numbers.{site_width, count_place, sites_width, settings_numbers, settings_from, message_numbers, message_from, site_at, site_numbers, site_from, records_numbers, records_from, counts_from, sites_numbers, sites_from, phase_of, phase_numbers, phase_from, phase_well, phase_well_in, ten_numbers, coordinator_width, coordinator_numbers, coordinator_from, greatest_narrow, greatest_held, coordinator_well}
use Rattle.record_numbers.proofs.Records.{length_records_from, length_records_numbers, length_counts_from}

-- ---- Settings, messages, a site's record

pub settings_back : (settings : Settings) (rest : List ℕ)
    → settings_from (settings_numbers settings ++ rest) ≡ settings
settings_back settings rest = refl

pub settings_same : (numbers : List ℕ)
    → 6 ≤ length numbers
    → settings_numbers (settings_from numbers) ≡ take 6 numbers
settings_same numbers long = read_take 0 6 0 numbers (omega arith)

pub message_back : (m : Message) (rest : List ℕ) → message_from (message_numbers m ++ rest) ≡ m
message_back m rest = refl

pub message_same : (numbers : List ℕ)
    → 4 ≤ length numbers
    → message_numbers (message_from numbers) ≡ take 4 numbers
message_same numbers long = read_take 0 4 0 numbers (omega arith)

pub site_back : (site : SiteRecord) (rest : List ℕ) → site_from (site_numbers site ++ rest) ≡ site
site_back site rest = refl

-- The record whose numbers begin at a place.
site_at_same : (numbers : List ℕ) (n : ℕ)
    → n + site_width ≤ length numbers
    → site_numbers (site_at numbers n) ≡ take site_width (drop n numbers)
site_at_same numbers n long =
    let one : n + 1 ≡ suc n = omega arith in
    let two : n + 2 ≡ suc (suc n) = omega arith in
    let three : n + 3 ≡ suc (suc (suc n)) = omega arith in
    let four : n + 4 ≡ suc (suc (suc (suc n))) = omega arith in
    rw (one, two, three, four) (read_take 0 site_width n numbers long)

pub site_same : (numbers : List ℕ)
    → site_width ≤ length numbers
    → site_numbers (site_from numbers) ≡ take site_width numbers
site_same numbers long = site_at_same numbers 0 (omega arith)

-- ---- The coordinator

pub phase_back : (phase : Phase)
    → let p = phase_numbers phase in
    phase_from p.which p.site p.low p.high p.sum ≡ phase
phase_back Idle = refl
phase_back (Collecting site) = refl
phase_back (Probing site low high sum) = refl
phase_back (Announcing site) = refl

-- A phase that has a site alone.
site_alone : (which site low high sum : ℕ)
    → low + high + sum ≡ 0
    → phase_of which site 0 0 0 ≡ phase_of which site low high sum
site_alone which site low high sum none =
    let l : 0 ≡ low = omega arith in
    let h : 0 ≡ high = omega arith in
    let m : 0 ≡ sum = omega arith in
    λ i. phase_of which site (l i) (h i) (m i)

-- By the phase's number: idle has no numbers, collecting and announcing have one, probing all four.
pub phase_same : (which site low high sum : ℕ)
    → phase_well which site low high sum ≡ true
    → phase_numbers (phase_from which site low high sum) ≡ phase_of which site low high sum
phase_same zero site low high sum well =
    let none = eqb-true (site + low + high + sum) 0 well in
    let nobody : 0 ≡ site = omega (arith, none) in
    site_alone 0 0 low high sum (omega (arith, none))
    ∙ ap (λ (s : ℕ). phase_of 0 s low high sum) nobody
phase_same (suc zero) site low high sum well =
    site_alone 1 site low high sum (eqb-true (low + high + sum) 0 well)
phase_same (suc (suc zero)) site low high sum well = refl
phase_same (suc (suc (suc zero))) site low high sum well =
    site_alone 3 site low high sum (eqb-true (low + high + sum) 0 well)
phase_same (suc (suc (suc (suc more)))) site low high sum well =
    let which = suc (suc (suc (suc more))) in
    let rest : leb which 3 && is_zero (low + high + sum) ≡ true =
    rw (ne_eqb which 0 (λ none. omega arith), ne_eqb which 2 (λ two. omega arith)) at well in
    let small = leb-true which 3
    (both_true (leb which 3) (is_zero (low + high + sum)) rest).first_true in
    absurd (omega arith)

pub coordinator_back : (c : CoordinatorRecord) (rest : List ℕ)
    → coordinator_from (coordinator_numbers c ++ rest) ≡ c
coordinator_back c rest =
    ap (λ (phase : Phase). record {
      total = c.total;
      base = c.base;
      threshold = c.threshold;
      signals = c.signals;
      quantile = c.quantile;
      phase = phase;
    })
    (phase_back c.phase)

-- Of numbers of any size whose last five are a phase's.
pub coordinator_whole : (numbers : List ℕ)
    → coordinator_width ≤ length numbers
    → phase_well_in numbers ≡ true
    → coordinator_numbers (coordinator_from numbers) ≡ take coordinator_width numbers
coordinator_whole numbers long well =
    ap (ten_numbers (coordinator_from numbers))
    (phase_same (get_or numbers 5 0) (get_or numbers 6 0) (get_or numbers 7 0) (get_or numbers 8 0)
    (get_or numbers 9 0) well)
    ∙ read_take 0 coordinator_width 0 numbers (omega arith)

pub coordinator_same : (numbers : List ℕ)
    → coordinator_width ≤ length numbers
    → coordinator_well numbers ≡ true
    → coordinator_numbers (coordinator_from numbers) ≡ take coordinator_width numbers
coordinator_same numbers long well =
    coordinator_whole numbers long
    (both_true (leb (greatest_held numbers) greatest_narrow) _ well).second_true

-- ---- All sites

-- The record at a place, read from the first n.
pub get_d_records_from : (n : ℕ) (numbers : List ℕ) (i : ℕ)
    → i < n
    → get_or (records_from n numbers) i no_record ≡ site_at numbers (site_width * i)
get_d_records_from zero numbers i inside = absurd (omega arith)
get_d_records_from (suc n) numbers i inside = by_place (ℕ_discrete i n)
    (λ before. get_d_records_from n numbers i before)
  where
    width : length (records_from n numbers) ≡ n
    width = length_records_from n numbers

    by_place : Dec (i ≡ n)
        → (i < n → get_or (records_from n numbers) i no_record ≡ site_at numbers (site_width * i))
        → get_or (records_from (suc n) numbers) i no_record ≡ site_at numbers (site_width * i)
    by_place (yes last) earlier =
        ap (λ (j : ℕ). get_or (records_from (suc n) numbers) j no_record) (last ∙ sym width)
        ∙ get_d_snoc_new no_record (records_from n numbers) (site_at numbers (site_width * n))
        ∙ ap (λ (j : ℕ). site_at numbers (site_width * j)) (sym last)
    by_place (no other) earlier =
        get_d_snoc_old no_record (records_from n numbers) (site_at numbers (site_width * n)) i
        (omega (arith, width, other))
        ∙ earlier (omega arith)

-- The numbers of the first n of k records.
records_same : (n k : ℕ) (numbers : List ℕ)
    → n ≤ k
    → site_width * n ≤ length numbers
    → records_numbers n (records_from k numbers) ≡ take (site_width * n) numbers
records_same zero k numbers within long = refl
records_same (suc n) k numbers within long =
    let next : site_width * n + site_width ≡ site_width * suc n = omega arith in
    (λ i. records_same n k numbers (omega arith) (omega arith) i
    ++ site_numbers (get_d_records_from k numbers n (omega arith) i))
    ∙ ap (λ (l : List ℕ). take (site_width * n) numbers ++ l)
    (site_at_same numbers (site_width * n) (omega arith))
    ∙ sym (take-add (site_width * n) site_width numbers)
    ∙ ap (λ (j : ℕ). take j numbers) next

-- The counts are a part of the numbers.
pub counts_taken : (n at : ℕ) (numbers : List ℕ)
    → at + n ≤ length numbers
    → counts_from n at numbers ≡ take n (drop at numbers)
counts_taken zero at numbers long = refl
counts_taken (suc n) at numbers long =
    (λ i. counts_taken n at numbers (omega arith) i ++ (sym (get_or-drop at numbers n 0) i ∷ []))
    ∙ sym (take-suc (drop at numbers) n 0 (omega (arith, length-drop at numbers)))

-- From place 0 on, all of them.
pub counts_back : (n : ℕ) (counts : List ℕ) → length counts ≡ n → counts_from n 0 counts ≡ counts
counts_back n counts whole =
    counts_taken n 0 counts (omega arith) ∙ take_all n counts (omega arith)

pub sites_same : (numbers : List ℕ)
    → sites_width ≤ length numbers
    → sites_numbers (sites_from numbers) ≡ take sites_width numbers
sites_same numbers long =
    let counts = counts_back 32 (counts_from 32 count_place numbers)
    (length_counts_from 32 count_place numbers)
    ∙ counts_taken 32 count_place numbers (omega arith) in
    (λ i. records_same 32 32 numbers (omega arith) (omega arith) i ++ counts i)
    ∙ sym (take-add count_place 32 numbers)

-- A record that stands right behind so many numbers.
pub site_behind : (front back : List ℕ) (n : ℕ)
    → length front ≡ n
    → site_at (front ++ back) n ≡ site_from back
site_behind front back n width =
    let at : (j : ℕ) → get_or (front ++ back) (n + j) 0 ≡ get_or back j 0 =
    λ j. ap (λ (m : ℕ). get_or (front ++ back) (m + j) 0) (sym width)
    ∙ get_or-append-add front back j 0 in
    let first : get_or (front ++ back) n 0 ≡ get_or back 0 0 =
    ap (λ (m : ℕ). get_or (front ++ back) m 0) (sym (add-zero n)) ∙ at 0 in
    λ i. record {
      arrivals = first i;
      pending = at 1 i;
      threshold = at 2 i;
      used = at 3 i;
      dropped = at 4 i;
    }

-- The numbers of one record, and others behind them.
abbrev record_and : List SiteRecord → ℕ → List ℕ → List ℕ
record_and records n rest = site_numbers (get_or records n no_record) ++ rest

-- The record at a place among the numbers of the first n.
site_written : (n : ℕ) (records : List SiteRecord) (rest : List ℕ) (i : ℕ)
    → i < n
    → site_at (records_numbers n records ++ rest) (site_width * i) ≡ get_or records i no_record
site_written zero records rest i inside = absurd (omega arith)
site_written (suc n) records rest i inside =
    ap (λ (l : List ℕ). site_at l (site_width * i))
    (append_assoc (records_numbers n records) (site_numbers (get_or records n no_record)) rest)
    ∙ by_place (ℕ_discrete i n)
    (λ before. site_written n records (record_and records n rest) i before)
  where
    by_place : Dec (i ≡ n)
        → (i < n
        → site_at (records_numbers n records ++ record_and records n rest) (site_width * i)
        ≡ get_or records i no_record)
        → site_at (records_numbers n records ++ record_and records n rest) (site_width * i)
        ≡ get_or records i no_record
    by_place (yes last) earlier =
        ap
        (λ (j : ℕ). site_at (records_numbers n records ++ record_and records n rest)
        (site_width * j))
        last
        ∙ site_behind (records_numbers n records) (record_and records n rest) (site_width * n)
        (length_records_numbers n records)
        ∙ ap (λ (j : ℕ). get_or records j no_record) (sym last)
    by_place (no other) earlier = earlier (omega arith)

-- So many records and what stands behind them, read again.
records_back : (n : ℕ) (records : List SiteRecord) (rest : List ℕ)
    → length records ≡ n
    → records_from n (records_numbers n records ++ rest) ≡ records
records_back n records rest whole =
    let numbers = records_numbers n records ++ rest in
    let width = length_records_from n numbers in
    ext_get_or no_record (records_from n numbers) records (width ∙ sym whole)
    (λ i inside.
    let below : i < n = omega (arith, width) in
    get_d_records_from n numbers i below ∙ site_written n records rest i below)

-- The numbers behind others, read from there on.
counts_behind : (front back : List ℕ) (n at : ℕ)
    → length front ≡ at
    → counts_from n at (front ++ back) ≡ counts_from n 0 back
counts_behind front back zero at width = refl
counts_behind front back (suc n) at width =
    let last : get_or (front ++ back) (at + n) 0 ≡ get_or back (0 + n) 0 =
    ap (λ (m : ℕ). get_or (front ++ back) (m + n) 0) (sym width)
    ∙ get_or-append-add front back n 0
    ∙ ap (λ (m : ℕ). get_or back m 0) (sym (zero-add n)) in
    λ i. counts_behind front back n at width i ++ (last i ∷ [])

-- So many counts between others, read again.
counts_between : (n at : ℕ) (front counts rest : List ℕ)
    → length front ≡ at
    → length counts ≡ n
    → counts_from n at (front ++ (counts_from n 0 counts ++ rest)) ≡ counts
counts_between n at front counts rest width whole =
    let written = counts_from n 0 counts in
    let wide = length_counts_from n 0 counts in
    counts_behind front (written ++ rest) n at width
    ∙ counts_taken n 0 (written ++ rest) (omega (arith, wide, length-append written rest))
    ∙ take_at written rest n wide
    ∙ counts_back n counts whole

pub sites_back : (sites : Sites) (rest : List ℕ)
    → length sites.records ≡ 32
    → length sites.messages ≡ 32
    → sites_from (sites_numbers sites ++ rest) ≡ sites
sites_back sites rest all_records all_counts =
    let front = records_numbers 32 sites.records in
    let counts = counts_from 32 0 sites.messages in
    let numbers_are : sites_numbers sites ++ rest ≡ front ++ (counts ++ rest) =
    append_assoc front counts rest in
    let records = ap (records_from 32) numbers_are
    ∙ records_back 32 sites.records (counts ++ rest) all_records in
    let messages = ap (counts_from 32 count_place) numbers_are
    ∙ counts_between 32 count_place front sites.messages rest
    (length_records_numbers 32 sites.records) all_counts in
    λ i. record { records = records i; messages = messages i }
