-- The deck that a draw or a message names: what a chain that refuses nothing is worth.
--
--   named_asks      settings that pass, memory for all decks, and one of these
--   put_back        the memory with the deck's part put back, as the code does it
use mathlib.Core.Path.{◌≡◌, ap, ◌∙◌}
use mathlib.Core.List.{List, ◌++◌, append-nil}
use Prim.Native.Nat.{ℕ, ◌-◌, ◌*◌}
use native.Mathlib.Omega.{arith}
use lib.ListN.{length, take, drop, length-drop, drop_of_length-le}
use Rattle.model.specs.declared.Settings.{Settings}
use Rattle.model.specs.Refusals.{no_refusal}
use Rattle.model.specs.SiteMemory.{site_words}
use Rattle.model.specs.NetworkMemory.{sites_words}
use Rattle.model.proofs.Thresholds.SettingsLaws.{site_known}
use Rattle.model.proofs.Thresholds.TestedMemory.{length_tested}
use Rattle.library_decks.specs.AllDecks.{decks_refusal, with_part_from, NamedAsks}

pub named_asks : (settings : Settings) (which : ℕ) (memory : List ℕ)
    → decks_refusal settings which (length memory) ≡ no_refusal
    → NamedAsks settings which memory
named_asks settings which memory none =
    let rows = length_tested settings (sites_words settings) (length memory) _ none in
    record {
      fits = record {
        settings_accepted = rows.settings_accepted;
        long_enough = rows.memory_long;
      };
      known = site_known settings which _ rows.later_accepted;
    }

-- From the part's start on all of the memory is lent, so nothing is left behind it.
pub put_back : (settings : Settings) (memory part : List ℕ) (which words : ℕ)
    → words ≡ site_words settings
    → take (which * words) memory
    ++ (part ++ drop (length memory - which * words) (drop (which * words) memory))
    ≡ with_part_from settings memory which part
put_back settings memory part which words words_are =
    let start = which * words in
    let rest = drop start memory in
    let none = drop_of_length-le rest {i = length memory - start}
    (omega (arith, length-drop start memory)) in
    ap (λ (l : List ℕ). take start memory ++ (part ++ l)) none
    ∙ ap (λ (l : List ℕ). take start memory ++ l) (append-nil part)
    ∙ ap (λ (w : ℕ). take (which * w) memory ++ part) words_are
