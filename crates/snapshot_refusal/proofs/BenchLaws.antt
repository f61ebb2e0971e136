-- The bench that a file holds, as the tests look at it.
--
--   count_there          a deck's count of messages, where the code reads it
--   count_held           the same among the counts of the bench
--   phase_narrow         a consistent phase has numbers that fit four bytes
--   read_same            numbers that are no record are inconsistent either way
--   long_of, lies_of     what earlier rows leave
use mathlib.Core.Path.{◌≡◌, refl, sym, ap, ◌∙◌}
use mathlib.Core.Bool.{Bool, true, false, ◌&&◌, ◌||◌, not, false≢true}
use mathlib.Core.List.{List}
use Prim.Native.Nat.{ℕ, zero, suc, ◌+◌, ◌-◌, ◌*◌, ◌≤◌, ◌<◌}
use native.Mathlib.Omega.{arith}
use lib.Dec.{leb, ltb, eqb}
use lib.ListN.{length, get_or, drop, replicate, get_or-append}
use lib.Seq.{drop-drop}
use borrow.Author.Tests.{le-leb, leb-true, ltb-true, ltb-false, eqb-true, ne_eqb, not-false}
use Rattle.laws.proofs.Tests.{both_true, and_both, neither_of_or}
use Rattle.model.specs.declared.Settings.{Settings}
use Rattle.model.specs.Choice.{is_zero}
use Rattle.model.specs.Refusals.{no_refusal}
use Rattle.model.specs.Settings.{settings_refusal}
use Rattle.model.specs.Limits.{most_sites, top_value, coordinator_limit}
use Rattle.model.specs.MessageCounts.{count_at}
use Rattle.model.specs.CoordinatorMemory.{coordinator_words, phase_consistent, coordinator_in, coordinator_consistent}
use Rattle.record_numbers.specs.Numbers.{greatest_narrow, greatest_held, coordinator_width, phase_from, phase_well, coordinator_from, coordinator_read, coordinator_well, phase_well_in}
use Rattle.coordinator_memory.specs.Consistency.{record_consistent}
use Rattle.coordinator_memory.proofs.ConsistencyLaws.{consistent_parts, record_facts}
use Rattle.coordinator_numbers.proofs.Rows.{row_claims}
use Rattle.little_endian.specs.Numbers.{number_at}
use Rattle.little_endian.proofs.NumberLaws.{number_in, length_numbers_in}
use Rattle.snapshot_file.specs.Layout.{desk_bytes, deck_bytes, desk_place, decks_place_of, file_length, least_length}
use Rattle.snapshot_file.specs.Reading.{desk_record, counts_in, held_in, desk_pointer, decks_pointer, width_in, shape_wrong, layout_wrong}
use Rattle.snapshot_header.proofs.HeaderLaws.{desk_counts}
use Rattle.snapshot_refusal.specs.Refusal.{BenchLies}

-- ---- The counts of messages

pub count_there : (settings : Settings) (file : List ℕ) (words j read : ℕ)
    → words ≡ coordinator_words settings
    → j < settings.sites
    → read
    ≡ number_at desk_bytes (desk_place + desk_bytes * (words + coordinator_width) + desk_bytes * j)
    file
    → read ≡ count_at (counts_in settings file) j
count_there settings file words j read words_are inside is =
    let k = settings.sites in
    let first = desk_place + desk_bytes * (coordinator_words settings + coordinator_width) in
    is
    ∙ ap (λ (n : ℕ). number_at desk_bytes
    (desk_place + desk_bytes * (n + coordinator_width) + desk_bytes * j) file) words_are
    ∙ ap (number_at desk_bytes 0) (sym (drop-drop (desk_bytes * j) first file))
    ∙ sym (number_in desk_bytes k j (drop first file) inside)
    ∙ ap (λ (l : List ℕ). count_at l j) (sym (desk_counts settings file))

-- Those that are read are followed by zeros, one for each site from k on.
pub count_held : (settings : Settings) (file : List ℕ) (j : ℕ)
    → j < settings.sites
    → count_at (counts_in settings file) j ≡ count_at (held_in settings file).sites.messages j
count_held settings file j inside =
    let first = desk_place + desk_bytes * (coordinator_words settings + coordinator_width) in
    let long = ap length (desk_counts settings file)
    ∙ length_numbers_in desk_bytes settings.sites (drop first file) in
    sym (get_or-append (counts_in settings file) (replicate (most_sites - settings.sites) 0) 0 j
    (omega (arith, long, inside)))

-- ---- Numbers that fit

-- What a record holds in four bytes of its phase, and with it.
record Fits (signals site low high : ℕ) : Type 0 where
  signals_fit : signals ≤ greatest_narrow
  site_fits : site ≤ greatest_narrow
  low_fits : low ≤ greatest_narrow
  high_fits : high ≤ greatest_narrow

module _ (settings : Settings) (few : settings.sites ≤ most_sites) where
  -- A close that goes on at a site.
  closing_fits : (signals site low high sum : ℕ)
      → low + high + sum ≡ 0
      → (eqb signals settings.sites && ltb site settings.sites) ≡ true
      → Fits signals site low high
  closing_fits signals site low high sum none passes =
      let both = both_true (eqb signals settings.sites) (ltb site settings.sites) passes in
      let all = eqb-true signals settings.sites both.first_true in
      let known = ltb-true site settings.sites both.second_true in
      record {
        signals_fit = omega (arith, all, few);
        site_fits = omega (arith, known, few);
        low_fits = omega (arith, none);
        high_fits = omega (arith, none);
      }

  phase_narrow : (signals which site low high sum : ℕ)
      → phase_well which site low high sum ≡ true
      → phase_consistent settings signals (phase_from which site low high sum) ≡ true
      → Fits signals site low high
  phase_narrow signals zero site low high sum well passes =
      let none = eqb-true (site + low + high + sum) 0 well in
      let below = ltb-true signals settings.sites passes in
      record {
        signals_fit = omega (arith, below, few);
        site_fits = omega (arith, none);
        low_fits = omega (arith, none);
        high_fits = omega (arith, none);
      }
  phase_narrow signals (suc zero) site low high sum well passes =
      closing_fits signals site low high sum (eqb-true (low + high + sum) 0 well) passes
  phase_narrow signals (suc (suc zero)) site low high sum well passes =
      let four = both_true _ (leb sum coordinator_limit) passes in
      let three = both_true _ (leb high top_value) four.first_true in
      let two = both_true _ (ltb low high) three.first_true in
      let one = both_true (eqb signals settings.sites) (ltb site settings.sites)
      two.first_true in
      let all = eqb-true signals settings.sites one.first_true in
      let known = ltb-true site settings.sites one.second_true in
      let below = ltb-true low high two.second_true in
      let top = leb-true high top_value three.second_true in
      record {
        signals_fit = omega (arith, all, few);
        site_fits = omega (arith, known, few);
        low_fits = omega (arith, below, top);
        high_fits = omega (arith, top);
      }
  phase_narrow signals (suc (suc (suc zero))) site low high sum well passes =
      closing_fits signals site low high sum (eqb-true (low + high + sum) 0 well) passes
  phase_narrow signals (suc (suc (suc (suc more)))) site low high sum well passes =
      let which = suc (suc (suc (suc more))) in
      let rest : leb which 3 && is_zero (low + high + sum) ≡ true =
      rw (ne_eqb which 0 (λ none. omega arith), ne_eqb which 2 (λ two. omega arith)) at well in
      let small = leb-true which 3
      (both_true (leb which 3) (is_zero (low + high + sum)) rest).first_true in
      absurd (omega arith)

  -- A record made from numbers of any size is consistent only where they fit.
  pub record_narrow : (numbers memory : List ℕ)
      → phase_well_in numbers ≡ true
      → coordinator_consistent settings (coordinator_in settings (coordinator_from numbers) memory)
      ≡ true
      → coordinator_well numbers ≡ true
  record_narrow numbers memory well passes =
      let parts = both_true (record_consistent settings (coordinator_from numbers)) _
      (sym (consistent_parts settings (coordinator_from numbers) memory) ∙ passes) in
      let facts = record_facts settings (coordinator_from numbers) parts.first_true in
      let fits = phase_narrow (get_or numbers 3 0) (get_or numbers 5 0) (get_or numbers 6 0)
      (get_or numbers 7 0) (get_or numbers 8 0) (get_or numbers 9 0) well
      facts.phase_consistent_lem in
      and_both (leb (greatest_held numbers) greatest_narrow) (phase_well_in numbers)
      (le-leb (greatest_held numbers) greatest_narrow
      (omega (
        arith,
        fits.signals_fit,
        fits.site_fits,
        fits.low_fits,
        fits.high_fits,
        facts.quantile_within,
      )))
      well

  pub read_same : (numbers memory : List ℕ)
      → phase_well_in numbers ≡ true
      → coordinator_consistent settings (coordinator_in settings (coordinator_read numbers) memory)
      ≡ coordinator_consistent settings (coordinator_in settings (coordinator_from numbers) memory)
  read_same numbers memory well = by_well (coordinator_well numbers) refl
    where
      test : Bool
      test = coordinator_consistent settings
          (coordinator_in settings (coordinator_from numbers) memory)

      none : (answer : Bool) → test ≡ answer → coordinator_well numbers ≡ false → false ≡ test
      none true passes fails =
          absurd (false≢true (sym fails ∙ record_narrow numbers memory well passes))
      none false fails-too fails = sym fails-too

      by_well : (holds : Bool) → coordinator_well numbers ≡ holds
          → coordinator_consistent settings (coordinator_in settings (coordinator_read numbers)
          memory)
          ≡ test
      by_well true holds = rw holds
      by_well false fails =
          row_claims.no_record settings numbers memory fails ∙ none test refl fails

-- ---- What earlier rows leave

pub long_of : (file : List ℕ) → shape_wrong file ≡ false → least_length ≤ length file
long_of file right =
    ltb-false (length file) least_length
    (neither_of_or (ltb (length file) least_length) (not (eqb (width_in file) deck_bytes)) right
    ).first_false

pub lies_of : (settings : Settings) (file : List ℕ)
    → settings_refusal settings ≡ no_refusal
    → layout_wrong settings file ≡ false
    → BenchLies settings file
lies_of settings file passes right =
    let phase = neither_of_or
    (not (eqb (desk_pointer file) desk_place)
    || not (eqb (decks_pointer file) (decks_place_of settings))
    || not (eqb (length file) (file_length settings)))
    (not (phase_well_in (desk_record settings file))) right in
    let whole = neither_of_or
    (not (eqb (desk_pointer file) desk_place)
    || not (eqb (decks_pointer file) (decks_place_of settings)))
    (not (eqb (length file) (file_length settings))) phase.first_false in
    record {
      whole = record {
        settings_accepted = passes;
        length_is = eqb-true (length file) (file_length settings)
            (not-false _ whole.second_false);
      };
      phase_well_lem = not-false _ phase.second_false;
    }
