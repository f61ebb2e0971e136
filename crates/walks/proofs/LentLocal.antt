-- A local that is lent as a `&mut` for one call, at a lifetime within κ, as a callee asks whose
-- reference leads to another that lives for κ.
--
--   Lent         the reference, as the callee owns it
--   Kept         what the lender keeps meanwhile
--   lends        a cell that holds h and what h owns, and [κ]_q, give: the callee's reference at
--                some lifetime ν ∷ κ under some name δ, a token of that lifetime and one of κ, and
--                `Kept`
--   returned     both tokens, `Kept` and the last value under δ give: the cell that holds that
--                value, and what it owns, and [κ]_q
-- Letters: κ lifetimes, q shares, δ ghost names, b and o where the local lies. Assumes `Logic`.
use Rattle.walks.proofs.Kit.{ℕ, List, [], ◌∷◌, Ura, full_share, PosShare·left, PosShare·right, Lifetime, Val, vptr, Lft, Share, GName, Fml, fsep, flft, fdead, fres, flent, Goal, Soaks, Item, Seq, ‵, raw, ◌⊛◌, some, later, ◌$◌, move, use1, use2, use3, split, join, pick, fsplit, fjoin, fpick, fpack, await, lft_new, RattleType, mem, cell_at, part_of, MutRef, lends_ref, ref_back, Rest, within_token, within_end}
use types.Logic.{Logic}
use types.SemTy.{Body}

module _ (R : RattleType) (ℓ : Lifetime) (κ : Lft) (q : Share) (b o : ℕ) where
  abbrev pub Lent : ℕ → GName → R.Denot → Fml
  Lent ν δ h =
      (MutRef ℓ (ν ∷ κ) R).own_val (record { ref_ptr = (b, o); ghost_name = δ; now = h })
      (vptr b o ∷ [])

  -- The way from the call's token to the whole token of ν, and the lender's part.
  abbrev pub Kept : {M : Type 1} {𝓤 : Ura M} (𝓛 : Logic 𝓤) → ℕ → GName
      → Item 𝓤
  Kept 𝓛 ν δ =
      raw (Rest 𝓛 ν (PosShare·left q)) ⊛ ‵ (flent (ν ∷ κ) (Body (mem R) b o δ))

  module _ {M : Type 1} {𝓤 : Ura M} {𝓛 : Logic 𝓤} {K : Type 0}
      {Γ : List (Item 𝓤)} {G : Goal 𝓤 𝓛.H} where
    pub lends : K → Soaks G → (h : R.Denot) (vs : List Val)
        → ((ν : ℕ) (δ : GName)
        → Seq K 𝓛 (‵ (Lent ν δ h) ∷ ‵ (flft (ν ∷ κ) (PosShare·left q))
        ∷ ‵ (flft κ (PosShare·right q)) ∷ Kept 𝓛 ν δ ∷ Γ) G)
        → Seq K 𝓛 (‵ (cell_at full_share R.mir vs b o) ∷ ‵ (R.own_val h vs) ∷ ‵ (flft κ q) ∷ Γ) G
    unfolding part_of
    lends t z h vs k =
        fjoin t $
        fpack t (List Val) (λ us. fsep (cell_at full_share R.mir us b o) (R.own_val h us)) vs $
        lft_new t z (λ ν. move t (2 ∷ []) $
        use1 𝓛 (‵ (flft κ (PosShare·left q)) ⊛ ‵ (flft κ (PosShare·right q)))
        (𝓛.lfts.lft_split κ q) $ split t $
        -- [κ's halves; ν's token; h in its place; …]
        move t (2 ∷ 0 ∷ []) $
        use2 𝓛 (‵ (flft (ν ∷ κ) (PosShare·left q)) ⊛ raw (Rest 𝓛 ν (PosShare·left q)))
        (within_token 𝓛 ν κ (PosShare·left q)) $ split t $
        -- [the token of ν ∷ κ; the way back; κ's right half; h in its place; …]
        move t (3 ∷ []) $
        use1 𝓛 (later (some (λ (δ : GName).
        ‵ (Lent ν δ h) ⊛ ‵ (flent (ν ∷ κ) (Body (mem R) b o δ)))))
        (lends_ref 𝓛 R ℓ (ν ∷ κ) h b o) $ await t z $ pick t (λ δ. split t $
        -- [the reference; the lender's part; the token; the way back; κ's right half; …]
        move t (3 ∷ 1 ∷ []) $ join t $ move t (1 ∷ 2 ∷ 3 ∷ 0 ∷ []) $ k ν δ))

    pub returned : K → Soaks G → (ν : ℕ) (δ : GName) (h : R.Denot)
        → ((vs : List Val)
        → Seq K 𝓛 (‵ (cell_at full_share R.mir vs b o) ∷ ‵ (R.own_val h vs) ∷ ‵ (flft κ q) ∷ Γ) G)
        → Seq K 𝓛 (‵ (flft (ν ∷ κ) (PosShare·left q)) ∷ ‵ (flft κ (PosShare·right q))
        ∷ Kept 𝓛 ν δ ∷ ‵ (fres δ (R.coded.code h)) ∷ Γ) G
    unfolding part_of
    returned t z ν δ h k =
        move t (2 ∷ []) $ split t $ move t (2 ∷ 0 ∷ []) $
        use2 𝓛 (later (‵ (fdead (ν ∷ κ)) ⊛ ‵ (flft κ (PosShare·left q))))
        (within_end 𝓛 ν κ (PosShare·left q)) $ await t z $ split t $
        -- [dead; κ's left half; the lender's part; κ's right half; the last value; …]
        move t (1 ∷ 3 ∷ []) $ use2 𝓛 (‵ (flft κ q)) (𝓛.lfts.lft_join κ q) $
        move t (1 ∷ 2 ∷ 3 ∷ []) $
        use3 𝓛 (later (‵ ((mem R).own_at h b o))) (ref_back 𝓛 R (ν ∷ κ) δ h b o) $
        await t z $ fpick t (λ vs. fsplit t $ k vs)
