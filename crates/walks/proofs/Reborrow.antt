-- `&mut *s` of a slice s that a local holds, which the MIR makes in two locals: the pointer, and a
-- slice of the pointer and of the length of s; and `&mut *r` of a reference r to one value, which
-- is the pointer alone.
--
--   slice_typed   a slice may be stored where a slice's room is
--   reborrows     both assignments
--   reborrows_ref the one assignment
-- Letters: s or r, d and e the locals, p, p₁ and p₂ their places, n, m and k where they stand in
-- the context, τ the type of the elements, or of the value. The equations say where, and hold by
-- computation.
-- Assumes `Logic`.
use Rattle.walks.proofs.Kit.{◌≡◌, refl, sym, subst, ℕ, ◌<◌, ◌^◌, List, [], ◌∷◌, Ura, full_share, Ty, Lifetime, PStep, erased, mut, w64, ty_ref, field, deref, copy, addr_of, aggregate, Body, seq, assign, Val, Fits, vptr, bits, Share, fat, froom, Env, Spot, spot_of, Calls, Loops, Item, ‵, nth, put, Post, runs, Step, step, ◌$◌, Part, agg, whole, sub, look_in, Walks, Finds, look, init, stop, hop, fld, from, load, addr, and_then, no_more, assigns, slice_ty, slice_val}
use mir.Syntax.{place}
use types.Logic.{Logic}

-- A slice may be stored, for its length is a machine's number.
abbrev pub slice_typed : {len : ℕ} → len < 2 ^ bits w64
    → Unit {0} × (Unit {0} × (Fits w64 len × Unit {0}))
slice_typed fit = (tt, (tt, (record { fits = fit }, tt)))

module _ {M : Type 1} {𝓤 : Ura M} {𝓛 : Logic 𝓤} {K : Type 0} where
  -- A part of an item, from what the item is.
  open 𝓛 use {H}

  part_of : {i j : Item 𝓤} {q : Share} {τ : Ty} {b o : ℕ} {v : Val} {back : Val → Item 𝓤} → i ≡ j
      → Part K 𝓛 j q τ b o v back → Part K 𝓛 i q τ b o v back
  part_of {i} {j} {q} {τ} {b} {o} {v} {back} e part =
      subst (λ (z : Item 𝓤). Part K 𝓛 z q τ b o v back) (sym e) part

  -- A place is found from where its local lies.
  found : {E : Env 𝓤 H} {Γ : List (Item 𝓤)} {i : ℕ} {st : List PStep} {at sp : Spot 𝓤 H} → K
      → spot_of 𝓤 H E i ≡ at → Walks K 𝓛 Γ E at st sp → Finds K 𝓛 Γ E (place i st) sp
  found {E} {Γ} {i} {st} {at} {sp} t e w =
      from t (subst (λ (z : Spot 𝓤 H). Walks K 𝓛 Γ E z st sp) (sym e) w)

  module _ {E : Env 𝓤 H} {Γ : List (Item 𝓤)} {C : Calls 𝓤 H} {Λ : Loops 𝓤 H}
      {post : Post 𝓤 H} where
    pub reborrows : K → (n m k : ℕ) {s d e : ℕ} {rest : Body} {q : Share} {ℓ : Lifetime} {τ : Ty}
        {p p₁ p₂ b o len : ℕ}
        → spot_of 𝓤 H E s ≡ (slice_ty (ty_ref ℓ mut τ), p, 0)
        → spot_of 𝓤 H E d ≡ (ty_ref erased mut τ, p₁, 0)
        → spot_of 𝓤 H E e ≡ (slice_ty (ty_ref erased mut τ), p₂, 0)
        → nth 𝓛 n Γ ≡ ‵ (fat q (slice_ty (ty_ref ℓ mut τ)) p 0 (slice_val (b, o) len))
        → nth 𝓛 m Γ ≡ ‵ (froom (ty_ref erased mut τ) p₁ 0)
        → (let Γ₁ = put 𝓛 m (‵ (fat full_share (ty_ref erased mut τ) p₁ 0 (vptr b o))) Γ in
        nth 𝓛 n Γ₁ ≡ ‵ (fat q (slice_ty (ty_ref ℓ mut τ)) p 0 (slice_val (b, o) len))
        → nth 𝓛 m Γ₁ ≡ ‵ (fat full_share (ty_ref erased mut τ) p₁ 0 (vptr b o))
        → nth 𝓛 k Γ₁ ≡ ‵ (froom (slice_ty (ty_ref erased mut τ)) p₂ 0)
        → len < 2 ^ bits w64
        → Step K 𝓛
        (put 𝓛 k (‵ (fat full_share (slice_ty (ty_ref erased mut τ)) p₂ 0 (slice_val (b, o) len)))
        Γ₁)
        (runs C Λ E rest post) Γ
        (runs C Λ E
        (seq (assign (place d []) (addr_of (place s (field 0 ∷ deref τ ∷ []))))
        (seq (assign (place e [])
        (aggregate (copy (place d []) ∷ copy (place s (field 1 ∷ [])) ∷ []))) rest)) post))
    reborrows t n m k at-s at-d at-e is-s room-d still-s is-d room-e fit = step (λ goes.
        assigns t
        (addr t (found t at-s (fld t refl (hop t
        (look_in t n (part_of is-s (sub t 0 refl (whole t)))) (stop t)))))
        (found t at-d (stop t)) (init t m room-d (tt, tt)) $
        assigns t
        (agg t (and_then t (load t (found t at-d (stop t)) (look t m is-d))
        (and_then t (load t (found t at-s (fld t refl (stop t)))
        (look_in t n (part_of still-s (sub t 1 refl (whole t)))))
        (no_more t))))
        (found t at-e (stop t)) (init t k room-e (slice_typed fit)) $ goes)

    pub reborrows_ref : K → (n m : ℕ) {r d : ℕ} {rest : Body} {q : Share} {ℓ : Lifetime} {τ : Ty}
        {p p₁ b o : ℕ}
        → spot_of 𝓤 H E r ≡ (ty_ref ℓ mut τ, p, 0)
        → spot_of 𝓤 H E d ≡ (ty_ref erased mut τ, p₁, 0)
        → nth 𝓛 n Γ ≡ ‵ (fat q (ty_ref ℓ mut τ) p 0 (vptr b o))
        → nth 𝓛 m Γ ≡ ‵ (froom (ty_ref erased mut τ) p₁ 0)
        → Step K 𝓛 (put 𝓛 m (‵ (fat full_share (ty_ref erased mut τ) p₁ 0 (vptr b o))) Γ)
        (runs C Λ E rest post) Γ
        (runs C Λ E (seq (assign (place d []) (addr_of (place r (deref τ ∷ [])))) rest) post)
    reborrows_ref t n m at-r at-d is-r room-d = step (λ goes.
        assigns t (addr t (found t at-r (hop t (look t n is-r) (stop t))))
        (found t at-d (stop t)) (init t m room-d (tt, tt)) $ goes)
