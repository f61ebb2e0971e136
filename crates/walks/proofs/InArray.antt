-- An element of an array that stands in a local, read and stored where it stands.
--
--   elem   the kth element's cell within the array's: a `Part` of `Types/Part.antt`, as `sub` is
--          for a field
-- Letters: q the share, τ the element's type, b and o the block and the offset of the array, us
-- the machine's values of its elements. Assumes `Logic` (of it `at_elems`, `elems_at`).
use Rattle.walks.proofs.Kit.{◌≡◌, ◌∙◌, ap, subst, ℕ, zero, suc, ◌+◌, ◌<◌, not-suc-le-zero, le_of_suc-le-suc, List, [], ◌∷◌, length, get_or, set, length-set, set-get_or, Ura, Ty, ty_array, Val, vstruct, of_list, SProp, ent, sep, wand, all, all_e, apply∗, Share, fat, size, elems, Item, ‵, raw, mean, ◌⊛◌, ◌$◌, ◌∵◌, !, qed, move, use1, use2, split, assume, frame, each, done, Part, place}
use types.Logic.{Logic}

module _ {M : Type 1} {𝓤 : Ura M} (𝓛 : Logic 𝓤) (q : Share) (τ : Ty)
    (b : ℕ) where
  -- The way back to the row, with u for its kth element.
  open 𝓛 use {H}

  abbrev Row : ℕ → List Val → ℕ → Val → SProp 𝓤
  Row o us k u =
      wand 𝓤 (H.at q τ b (place (size τ) o k) u) (elems 𝓤 H q τ b o (set us k u))

  elem_of : (us : List Val) (k : ℕ) (d : Val) (o : ℕ) → k < length us
      → ent 𝓤 (elems 𝓤 H q τ b o us)
      (sep 𝓤 (H.at q τ b (place (size τ) o k) (get_or us k d)) (all 𝓤 (Row o us k)))
  elem_of [] k d o within = absurd (not-suc-le-zero within)
  elem_of (u ∷ us) zero d o within =
      qed 𝓛 (‵ (fat q τ b o u) ∷ raw (elems 𝓤 H q τ b (o + size τ) us) ∷ []) ∵ frame ! $
      each ! (Row o (u ∷ us) zero) (λ w. assume ! (‵ (fat q τ b o w)) $ done !)
  elem_of (u ∷ us) (suc k) d o within =
      qed 𝓛 (‵ (fat q τ b o u) ∷ raw (elems 𝓤 H q τ b (o + size τ) us) ∷ []) ∵ move ! (1 ∷ []) $
      use1 𝓛 (‵ (fat q τ b (place (size τ) (o + size τ) k) (get_or us k d))
      ⊛ raw (all 𝓤 (Row (o + size τ) us k)))
      (elem_of us k d (o + size τ) (le_of_suc-le-suc within)) $
      split ! $ frame ! $
      each ! (Row o (u ∷ us) (suc k)) (λ w.
      assume ! (‵ (fat q τ b (place (size τ) (o + size τ) k) w)) $
      -- [the element's cell with w; the way back to the tail; the head's cell]
      move ! (1 ∷ []) $ use1 𝓛 (raw (Row (o + size τ) us k w)) (all_e 𝓤 (Row (o + size τ) us k) w) $
      move ! (1 ∷ 0 ∷ []) $
      use2 𝓛 (raw (elems 𝓤 H q τ b (o + size τ) (set us k w)))
      (apply∗ 𝓤 (H.at q τ b (place (size τ) (o + size τ) k) w)
      (elems 𝓤 H q τ b (o + size τ) (set us k w))) $
      move ! (1 ∷ 0 ∷ []) $ done !)

-- The entry, with any value u for the cell, as a `Part` has it.
abbrev Way : {M : Type 1} {𝓤 : Ura M} (𝓛 : Logic 𝓤) → Share → Ty → ℕ → ℕ
    → (Val → Item 𝓤) → SProp 𝓤
Way {𝓤 = 𝓤} 𝓛 q τ b o back =
    all 𝓤 (λ (u : Val). wand 𝓤 (𝓛.H.at q τ b o u) (mean 𝓛 (back u)))

module _ {M : Type 1} {𝓤 : Ura M} {𝓛 : Logic 𝓤} {K : Type 0} where
  open 𝓛 use {H}

  pub elem : K → {i : Item 𝓤} {q : Share} {τ : Ty} {n b o : ℕ} {back : Val → Item 𝓤}
      (us : List Val) (k : ℕ) (d : Val) → k < length us → length us ≡ n
      → Part K 𝓛 i q (ty_array τ n) b o (vstruct (of_list us)) back
      → Part K 𝓛 i q τ b (place (size τ) o k) (get_or us k d)
      (λ u. back (vstruct (of_list (set us k u))))
  elem t {i} {q} {τ} {n} {b} {o} {back} us k d within many p = record {
    out =
        qed 𝓛 (i ∷ []) ∵
        use1 𝓛 (‵ (fat q (ty_array τ n) b o (vstruct (of_list us)))
        ⊛ raw (Way 𝓛 q (ty_array τ n) b o back)) p.out $
        split ! $
        use1 𝓛 (raw (elems 𝓤 H q τ b o us)) (𝓛.laws.at_elems q τ n b o us) $
        use1 𝓛 (‵ (fat q τ b (place (size τ) o k) (get_or us k d))
        ⊛ raw (all 𝓤 (Row 𝓛 q τ b o us k))) (elem_of 𝓛 q τ b us k d o within) $
        split ! $ frame ! $
        each ! (λ (u : Val). wand 𝓤 (H.at q τ b (place (size τ) o k) u)
        (mean 𝓛 (back (vstruct (of_list (set us k u)))))) (λ u.
        assume {P = mean 𝓛 (back (vstruct (of_list (set us k u))))} !
        (‵ (fat q τ b (place (size τ) o k) u)) $
        -- [the element's cell with u; the way back to the row; the way back to the entry]
        move ! (1 ∷ []) $ use1 𝓛 (raw (Row 𝓛 q τ b o us k u)) (all_e 𝓤 (Row 𝓛 q τ b o us k) u) $
        move ! (1 ∷ 0 ∷ []) $
        use2 𝓛 (raw (elems 𝓤 H q τ b o (set us k u)))
        (apply∗ 𝓤 (H.at q τ b (place (size τ) o k) u) (elems 𝓤 H q τ b o (set us k u))) $
        use1 𝓛 (‵ (fat q (ty_array τ n) b o (vstruct (of_list (set us k u)))))
        (subst (λ (m : ℕ). ent 𝓤 (elems 𝓤 H q τ b o (set us k u))
        (H.at q (ty_array τ m) b o (vstruct (of_list (set us k u)))))
        (length-set us k u ∙ many) (𝓛.laws.elems_at q τ b o (set us k u))) $
        move ! (1 ∷ []) $
        use1 𝓛 (raw (Entry (vstruct (of_list (set us k u)))))
        (all_e 𝓤 Entry (vstruct (of_list (set us k u)))) $
        move ! (1 ∷ 0 ∷ []) $
        use2 𝓛 (back (vstruct (of_list (set us k u))))
        (apply∗ 𝓤 (H.at q (ty_array τ n) b o (vstruct (of_list (set us k u))))
        (mean 𝓛 (back (vstruct (of_list (set us k u)))))) $ done !);
    same =
        ap (λ (vs : List Val). back (vstruct (of_list vs))) (set-get_or us k d) ∙ p.same;
  }
    where
      Entry : Val → SProp 𝓤
      Entry w = wand 𝓤 (H.at q (ty_array τ n) b o w) (mean 𝓛 (back w))
