-- The list of heavy hitters, of every coordinator: which items it holds, and in which order.
--
--   list_law     an item is in it exactly if it is one and passes the rule; it rises strictly; it
--                is empty at total 0
use Rattle.std.specs.Prelude.{if◌then◌else◌}
use mathlib.Core.Path.{◌≡◌, refl, sym, ap, ◌∙◌}
use mathlib.Core.Bool.{Bool, true, false, ◌&&◌, ◌||◌}
use mathlib.Core.List.{List, [], ◌∷◌, ◌++◌}
use Prim.Native.Nat.{ℕ, zero, suc, ◌+◌, ◌≤◌, ◌<◌}
use native.Mathlib.Omega.{arith}
use native.Mathlib.Decide.{ℕ_discrete, dec_lt}
use lib.Dec.{eqb, ltb}
use lib.ListN.{length, get_or}
use borrow.Author.Tests.{eq-eqb, ne_eqb, lt-ltb, le-ltb, lt-leb}
use Rattle.model.specs.declared.Settings.{Settings}
use Rattle.model.specs.Coordinator.{Coordinator}
use Rattle.model.specs.Reading.{is_listed, listed_from, heavy_hitters}
use Rattle.model.specs.Claims.{contains, ListLaw}

module _ (settings : Settings) (c : Coordinator) where
  -- The items of the list among so many from one on.
  abbrev among : ℕ → ℕ → List ℕ
  among more first = listed_from more first settings c

  -- ---- Which items

  -- One item in front, if it is listed.
  contains_cons : (listed : Bool) (item first : ℕ) (rest : List ℕ)
      → contains item ((if listed then first ∷ [] else []) ++ rest)
      ≡ (if eqb item first then listed || contains item rest else contains item rest)
  contains_cons true item first rest = by_item (eqb item first)
    where
      by_item : (same : Bool)
          → (same || contains item rest) ≡ (if same then true else contains item rest)
      by_item true = refl
      by_item false = refl
  contains_cons false item first rest = by_item (eqb item first)
    where
      by_item : (same : Bool)
          → contains item rest ≡ (if same then contains item rest else contains item rest)
      by_item true = refl
      by_item false = refl

  -- The items from `first` on hold none below it, and none from `first + more` on.
  contains_outside : (more first item : ℕ)
      → (first ≤ item → first + more ≤ item)
      → contains item (among more first) ≡ false
  contains_outside zero first item outside = refl
  contains_outside (suc more) first item outside =
      let differs : eqb item first ≡ false =
      ne_eqb item first (λ same. omega (arith, at_first same)) in
      contains_cons (is_listed settings c first) item first (among more (first + 1))
      ∙ rw differs
      (contains_outside more (first + 1) item (λ after. omega (arith, outside (omega arith))))
    where
      at_first : item ≡ first → first + suc more ≤ item
      at_first same = outside (omega arith)

  -- Within, an item is held exactly if it passes the rule.
  contains_inside : (more first item : ℕ)
      → first ≤ item
      → item < first + more
      → contains item (among more first) ≡ is_listed settings c item
  contains_inside zero first item from below = absurd (omega arith)
  contains_inside (suc more) first item from below =
      contains_cons (is_listed settings c first) item first (among more (first + 1))
      ∙ by_item (ℕ_discrete item first) (contains_inside more (first + 1) item)
    where
      or_false : (b : Bool) → (b || false) ≡ b
      or_false true = refl
      or_false false = refl

      by_item : Dec (item ≡ first)
          → (first + 1 ≤ item → item < first + 1 + more
          → contains item (among more (first + 1)) ≡ is_listed settings c item)
          → (if eqb item first
          then is_listed settings c first || contains item (among more (first + 1))
          else contains item (among more (first + 1)))
          ≡ is_listed settings c item
      by_item (yes same) later =
          let none : contains item (among more (first + 1)) ≡ false =
          contains_outside more (first + 1) item (λ after. omega arith) in
          rw (eq-eqb item first same, none)
          (or_false (is_listed settings c first) ∙ ap (is_listed settings c) (sym same))
      by_item (no differ) later =
          rw (ne_eqb item first differ) (later (omega arith) (omega arith))

  listed_exactly : (item : ℕ)
      → contains item (heavy_hitters settings c)
      ≡ (ltb item settings.universe && is_listed settings c item)
  listed_exactly item = by_universe (dec_lt item settings.universe)
    where
      by_universe : Dec (item < settings.universe)
          → contains item (heavy_hitters settings c)
          ≡ (ltb item settings.universe && is_listed settings c item)
      by_universe (yes inside) =
          contains_inside settings.universe 0 item (omega arith) (omega arith)
          ∙ rw (lt-ltb item settings.universe inside)
      by_universe (no outside) =
          contains_outside settings.universe 0 item (λ _. omega arith)
          ∙ rw (le-ltb item settings.universe (omega arith))

  -- ---- In which order

  -- Of a list that starts no lower than `first` and rises.
  record Rises (first : ℕ) (items : List ℕ) : Type 0 where
    from_first : (i : ℕ) → i < length items → first ≤ get_or items i 0
    rising : (i : ℕ) → i + 1 < length items → get_or items i 0 < get_or items (i + 1) 0

  rises_cons : (listed : Bool) (first : ℕ) (rest : List ℕ)
      → Rises (first + 1) rest
      → Rises first ((if listed then first ∷ [] else []) ++ rest)
  rises_cons false first rest rises = record {
    from_first = λ i i<. omega (arith, rises.from_first i i<);
    rising = rises.rising;
  }
  rises_cons true first rest rises = record { from_first = low; rising = up }
    where
      low : (i : ℕ) → i < length (first ∷ rest) → first ≤ get_or (first ∷ rest) i 0
      low zero i< = omega arith
      low (suc i) i< = omega (arith, rises.from_first i (omega arith))

      up : (i : ℕ) → i + 1 < length (first ∷ rest)
          → get_or (first ∷ rest) i 0 < get_or (first ∷ rest) (i + 1) 0
      up zero i< = omega (arith, rises.from_first 0 (omega arith))
      up (suc i) i< =
          let next : suc i + 1 ≡ suc (i + 1) = omega arith in
          rw next (rises.rising i (omega arith))

  among_rises : (more first : ℕ) → Rises first (among more first)
  among_rises zero first = record {
    from_first = λ i i<. absurd (omega arith);
    rising = λ i i<. absurd (omega arith);
  }
  among_rises (suc more) first =
      rises_cons (is_listed settings c first) first (among more (first + 1))
      (among_rises more (first + 1))

  -- ---- At total 0

  unlisted_at : (item : ℕ) → c.total ≡ 0 → is_listed settings c item ≡ false
  unlisted_at item none = rw (lt-leb 1 c.total (omega arith))

  among_none : c.total ≡ 0 → (more first : ℕ) → among more first ≡ []
  among_none none zero first = refl
  among_none none (suc more) first =
      let unlisted : is_listed settings c first ≡ false = unlisted_at first none in
      rw unlisted (among_none none more (first + 1))

  -- The three laws of the list, of every coordinator.
  pub list_law : ListLaw settings c
  list_law = record {
    listed_exactly = listed_exactly;
    rising = (among_rises settings.universe 0).rising;
    empty_at_start = λ none. among_none none settings.universe 0;
  }
