-- The deck that a draw or a message names, where the tests of the name refuse nothing: its record
-- in the row and its part of the memory, as a call of a history has them.
--
--   NamedDeck, named_deck     record and part before the call, and the memory after it
--   DeckRow, deck_row         the row after the call
use mathlib.Core.Path.{◌≡◌, sym, ap, ◌∙◌}
use mathlib.Core.List.{List, ◌++◌, append_assoc}
use Prim.Native.Nat.{ℕ, ◌+◌, ◌-◌, ◌*◌, ◌≤◌, ◌<◌}
use native.Mathlib.Nat.{mul-le-mul_right}
use native.Mathlib.Omega.{arith}
use native.Mathlib.Decide.{ℕ_discrete}
use lib.ListN.{length, set, take, drop, length-take}
use lib.Seq.{length-sets, length-take-le, take-take, take-add, drop_at, set-get_or}
use Rattle.model.specs.declared.Settings.{Settings}
use Rattle.model.specs.declared.SiteRecord.{SiteRecord}
use Rattle.model.specs.Refusals.{no_refusal}
use Rattle.model.specs.Limits.{most_sites}
use Rattle.model.specs.SiteMemory.{site_words}
use Rattle.model.specs.Held.{no_record, record_in, with_record}
use Rattle.model.proofs.Thresholds.SettingsLaws.{settled}
use Rattle.record_numbers.specs.Numbers.{site_width, sites_width, site_numbers, sites_from}
use Rattle.history.specs.State.{record_at, part_of, site_start, with_part}
use Rattle.history.proofs.Answers.{accepted_choice, refused_choice}
use Rattle.library_rows.specs.Rows.{handed_out}
use Rattle.library_decks.specs.AllDecks.{decks_refusal, part_from, with_part_from, deck_at, with_deck}
use Rattle.library_decks.proofs.Named.{named_asks}
use Rattle.library_history.specs.Bench.{Bench, held_in, with_front}
use Rattle.library_history.proofs.Rows.{deck_is, with_deck_lem}

-- ---- Before the call, and the memory after it

-- So many numbers of the memory are lent; from the part's start on these are fewer.
pub record NamedDeck (bench : Bench) (settings : Settings) (which count : ℕ) : Type 0 where
  pub known : which < most_sites
  pub record_is : deck_at bench.decks which ≡ record_at (held_in bench) which
  pub part_is : part_from settings (take count bench.deck_memory) which
      ≡ part_of (held_in bench) (site_start settings which) (count - site_start settings which)
  pub memory_is : (part : List ℕ)
      → with_front bench.deck_memory (record {
        count = count;
        left = with_part_from settings (take count bench.deck_memory) which part;
      })
      ≡ with_part bench.deck_memory (site_start settings which)
      (count - site_start settings which) part

module _ (bench : Bench) (settings : Settings) (which count : ℕ)
    (named : decks_refusal settings which (length (take count bench.deck_memory)) ≡ no_refusal)
  where
    abbrev memory : List ℕ
    memory = bench.deck_memory

    abbrev start : ℕ
    start = site_start settings which

    all_known : which < settings.sites
    all_known = (named_asks settings which (take count memory) named).known

    -- The part starts within what is lent.
    starts : start ≤ length (take count memory)
    starts =
        let long = (named_asks settings which (take count memory) named).fits.long_enough in
        let below : which ≤ settings.sites = omega (arith, all_known) in
        omega (arith, long, mul-le-mul_right (site_words settings) below)

    within : start ≤ count
    within = omega (arith, starts, length-take count memory)

    inside : start ≤ length memory
    inside = omega (arith, starts, length-take count memory)

    part_here : drop start (take count memory) ≡ take (count - start) (drop start memory)
    part_here =
        let whole : count ≡ start + (count - start) = omega (arith, within) in
        ap (λ (n : ℕ). drop start (take n memory)) whole
        ∙ ap (drop start) (take-add start (count - start) memory)
        ∙ drop_at (take start memory) (take (count - start) (drop start memory)) start
        (length-take-le start memory inside)

    memory_here : (part : List ℕ)
        → (take start (take count memory) ++ part) ++ drop (0 + count) memory
        ≡ take start memory ++ (part ++ drop (start + (count - start)) memory)
    memory_here part =
        let whole : 0 + count ≡ start + (count - start) = omega (arith, within) in
        ap (λ (n : ℕ). (take start (take count memory) ++ part) ++ drop n memory) whole
        ∙ ap (λ (l : List ℕ). (l ++ part) ++ drop (start + (count - start)) memory)
        (take-take start count memory within)
        ∙ append_assoc (take start memory) part (drop (start + (count - start)) memory)

    pub named_deck : NamedDeck bench settings which count
    named_deck =
        let few = (settled settings
        (named_asks settings which (take count memory) named).fits.settings_accepted
        ).sites.at_most in
        let below : which < most_sites = omega (arith, few, all_known) in
        record {
          known = below;
          record_is = deck_is bench.decks which below;
          part_is = part_here;
          memory_is = memory_here;
        }

-- ---- The row after the call

pub record DeckRow (decks decksThen : List ℕ) (which : ℕ) (site : SiteRecord) : Type 0 where
  pub sites_are : sites_from decksThen ≡ with_record (sites_from decks) which site
  pub long : length decksThen ≡ sites_width

-- A refused call hands back the record as it was.
pub deck_row : (decks decksThen : List ℕ) (which refusal : ℕ) (site : SiteRecord)
    → length decks ≡ sites_width
    → which < most_sites
    → decksThen ≡ handed_out refusal (with_deck decks which site) decks
    → ((refusal ≡ no_refusal → ⊥) → site ≡ record_in (sites_from decks) which)
    → DeckRow decks decksThen which site
deck_row decks decksThen which refusal site long known are same =
    by_refusal (ℕ_discrete refusal no_refusal)
  where
    by_refusal : Dec (refusal ≡ no_refusal) → DeckRow decks decksThen which site
    by_refusal (yes none) =
        let row = are ∙ accepted_choice refusal (with_deck decks which site) decks none in
        record {
          sites_are = ap sites_from row ∙ with_deck_lem decks which site long known;
          long = ap length row ∙ length-sets decks (site_width * which) (site_numbers site) ∙ long;
        }
    by_refusal (no refused) =
        let row = are ∙ refused_choice refusal (with_deck decks which site) decks refused in
        let sites = sites_from decks in
        let records : set sites.records which site ≡ sites.records =
        ap (set sites.records which) (same refused)
        ∙ set-get_or sites.records which no_record in
        record {
          sites_are = ap sites_from row
              ∙ (λ i. record { records = sym records i; messages = sites.messages });
          long = ap length row ∙ long;
        }
