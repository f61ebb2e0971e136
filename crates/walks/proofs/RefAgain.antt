-- A reference to one value, of any type T, that a function was lent: a `&κ mut T` that is lent
-- again for the lifetime ν of a call, and comes back; and a `&κ T` that a callee gets too.
--
--   Held_ref     the `&mut T` is owned, at a value, by whom it was lent to
--   Again_ref    it is owned by the callee
--   Kept_ref     what the holder keeps meanwhile
--   lends        own (the `&mut T` at x) ∗ [κ]_q gives: the callee's at some δ, `Kept_ref`, [ν]
--   returned     [ν] ∗ the last value y under δ ∗ `Kept_ref` gives it back: own (at y) ∗ [κ]_q
--   Looked_ref   the `&T` is owned
--   twice_ref    and may be owned twice, once for a callee
-- Letters: κ lifetimes, q shares, δ ghost names. Assumes `Logic`.
use Rattle.walks.proofs.Kit.{ℕ, List, [], ◌∷◌, Ura, full_share, Lifetime, GName, Fml, flft, fres, Goal, Soaks, Item, Seq, Step, step, ‵, ◌⊛◌, some, later, ◌$◌, move, use1, use2, use3, split, pick, await, lft_new, lft_end, RattleType, RowLaws, MutRef, ShrRef, shr_copy, LentAgain, lends_again, comes_back}
use Rattle.walks.proofs.RefLending.{RefLending, at_value, as_shared_ref, pointer}
use types.Logic.{Logic}

module _ (R : RattleType) (e : RefLending R.Denot) where
  abbrev pub Held_ref : Lifetime → R.Denot → Fml
  Held_ref ℓ x = (MutRef ℓ e.life R).own_val (at_value e e.name x) (pointer e ∷ [])

  abbrev pub Again_ref : Lifetime → ℕ → GName → R.Denot → Fml
  Again_ref ℓ ν δ x = (MutRef ℓ (ν ∷ []) R).own_val (at_value e δ x) (pointer e ∷ [])

  abbrev pub Kept_ref : ℕ → GName → R.Denot → Fml
  Kept_ref ν δ x =
      LentAgain R e.life (ν ∷ []) e.share e.name e.block e.offset δ x

  abbrev pub Looked_ref : Lifetime → Fml
  Looked_ref ℓ = (ShrRef ℓ e.life R).own_val (as_shared_ref e) (pointer e ∷ [])

  module _ {M : Type 1} {𝓤 : Ura M} {𝓛 : Logic 𝓤} {K : Type 0}
      {Γ : List (Item 𝓤)} {G : Goal 𝓤 𝓛.H} where
    pub lends : K → Soaks G → (ℓ ℓ' : Lifetime) (x : R.Denot)
        → ((ν : ℕ) (δ : GName)
        → Seq K 𝓛 (‵ (Again_ref ℓ' ν δ x) ∷ ‵ (Kept_ref ν δ x) ∷ ‵ (flft (ν ∷ []) full_share)
        ∷ Γ) G)
        → Seq K 𝓛 (‵ (Held_ref ℓ x) ∷ ‵ (flft e.life e.share) ∷ Γ) G
    lends t z ℓ ℓ' x k = lft_new t z (λ ν. move t (1 ∷ 2 ∷ []) $
        use2 𝓛 (later (some (λ (δ : GName). ‵ (Again_ref ℓ' ν δ x) ⊛ ‵ (Kept_ref ν δ x))))
        (lends_again 𝓛 R ℓ e.life (ν ∷ []) e.share e.name e.block e.offset ℓ'
        x) $
        await t z $ pick t (λ δ. split t $ k ν δ))

    pub returned : K → Soaks G → (ℓ : Lifetime) (ν : ℕ) (δ : GName) (x y : R.Denot)
        → Step K 𝓛 (‵ (Held_ref ℓ y) ∷ ‵ (flft e.life e.share) ∷ Γ) G
        (‵ (flft (ν ∷ []) full_share) ∷ ‵ (fres δ (R.coded.code y)) ∷ ‵ (Kept_ref ν δ x) ∷ Γ) G
    returned t z ℓ ν δ x y = step (λ s.
        lft_end t z $ move t (0 ∷ 2 ∷ 1 ∷ []) $
        use3 𝓛 (later (‵ (Held_ref ℓ y) ⊛ ‵ (flft e.life e.share)))
        (comes_back 𝓛 R ℓ e.life (ν ∷ []) e.share e.name e.block e.offset δ x
        y) $ await t z $ split t $ s)

    pub twice_ref : K → RowLaws R → (ℓ : Lifetime)
        → Step K 𝓛 (‵ (Looked_ref ℓ) ∷ ‵ (Looked_ref ℓ) ∷ Γ) G (‵ (Looked_ref ℓ) ∷ Γ) G
    twice_ref t laws ℓ = step (λ s.
        use1 𝓛 (‵ (Looked_ref ℓ) ⊛ ‵ (Looked_ref ℓ))
        ((shr_copy 𝓛 ℓ e.life R laws).twice (as_shared_ref e) (pointer e ∷ [])) $ split t $ s)
