-- The walk that writes the list of heavy hitters: what stands in the list after so many items.
--
--   Writing                         the items listed so far, then what the list held
--   writing_yes, writing_no, writing_end
use mathlib.Core.Path.{◌≡◌, ap, sym, ◌∙◌}
use mathlib.Core.Bool.{true, false}
use mathlib.Core.List.{List, [], ◌∷◌}
use Prim.Native.Nat.{ℕ, ◌+◌, ◌≤◌, ◌<◌}
use native.Mathlib.Omega.{arith}
use lib.ListN.{length, set, length-set}
use Rattle.laws.proofs.Fronts.{overwritten_sets}
use Rattle.model.specs.declared.Settings.{Settings}
use Rattle.model.specs.SiteMemory.{overwrite}
use Rattle.model.specs.Coordinator.{Coordinator}
use Rattle.model.specs.Reading.{is_listed, heavy_hitters}
use Rattle.coordinator_list.proofs.ListLaws.{listed_below, listed_yes, listed_no, Counting, counting_yes, counting_no}

module _ (settings : Settings) (c : Coordinator) where
  pub record Writing (before now : List ℕ) (count item : ℕ) : Type 0 where
    pub counting : Counting settings c count item
    pub same_length : length now ≡ length before
    pub written : now ≡ overwrite (listed_below settings c item) before

  -- The item goes to the first place that is left.
  pub writing_yes : (before now : List ℕ) (count item : ℕ)
      → Writing before now count item
      → item < settings.universe
      → is_listed settings c item ≡ true
      → count < length before
      → Writing before (set now count item) (count + 1) (item + 1)
  writing_yes before now count item so_far inside yes-listed left = record {
    counting = counting_yes settings c count item so_far.counting inside yes-listed;
    same_length = length-set now count item ∙ so_far.same_length;
    written =
        ap (λ (l : List ℕ). set l count item) so_far.written
        ∙ overwritten_sets (listed_below settings c item) (item ∷ []) before count
        (sym so_far.counting.counted) (omega arith)
        ∙ ap (λ (l : List ℕ). overwrite l before) (sym (listed_yes settings c item yes-listed));
  }

  pub writing_no : (before now : List ℕ) (count item : ℕ)
      → Writing before now count item
      → item < settings.universe
      → is_listed settings c item ≡ false
      → Writing before now count (item + 1)
  writing_no before now count item so_far inside no-listed = record {
    counting = counting_no settings c count item so_far.counting inside no-listed;
    same_length = so_far.same_length;
    written = so_far.written
        ∙ ap (λ (l : List ℕ). overwrite l before) (sym (listed_no settings c item no-listed));
  }

  pub writing_end : (before now : List ℕ) (count item : ℕ)
      → Writing before now count item
      → settings.universe ≤ item
      → now ≡ overwrite (heavy_hitters settings c) before
  writing_end before now count item so_far past =
      let last : item ≡ settings.universe = omega (arith, so_far.counting.place) in
      so_far.written
      ∙ ap (λ (n : ℕ). overwrite (listed_below settings c n) before) last
