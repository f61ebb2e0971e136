-- The locals of a function as a context has them, whatever their number: two items to a local, what
-- lies at its place and that it dies when the function returns, the last local first.
--
--   Places            where each local lies, by its number
--   Content           a local has room, or holds a value
--   cells             the locals at their places with their contents, before other items; a list of
--                     contents that is too short leaves the rest free
--   types_of          the types of a function's locals. Where they are large structs, a walk that
--                     writes them by name (`tracker`'s) is checked three times as fast
--   env               their types and places, as the machine's rules read them
--   behind            where the ith of so many locals stands in a context, behind so many items
--   walks_in          the function is entered: its locals are made and its arguments stored
--   freed             it returns: its locals are freed, whatever they hold
-- Letters: l the places, b blocks. Assumes `Logic`.
use Rattle.walks.proofs.Kit.{refl, ℕ, zero, suc, ◌+◌, ◌-◌, List, [], ◌∷◌, ◌++◌, map, Holds, Ura, full_share, Ty, Local, local, Fn, Val, WT, has_ty, SProp, ent, sep, id⊢, via, mono∗, mono_r, assoc', fat, froom, fdies, Heap, Env, Calls, Loops, WpFn, pass, release, Item, ‵, raw, mean, ⋆, push, pop, sel⊢, ++⊢, ⊢++, prop, runs, allocs, frees, params', at_ret, Goal, Go, Sq, Step, step, ◌$◌, ◌∵◌, !, qed, by, init, enter, alloc1, alloc0}
use types.Logic.{Logic}

-- ---- Places and contents

abbrev pub Places : Type 0
Places = ℕ → ℕ

abbrev first : List ℕ → ℕ
first [] = 0
first (b ∷ bs) = b

abbrev others : List ℕ → List ℕ
others [] = []
others (b ∷ bs) = bs

abbrev pub placed : List ℕ → Places
placed bs zero = first bs
placed bs (suc i) = placed (others bs) i

abbrev shift : Places → Places
shift l i = l (suc i)

pub data Content : Type 0 where
  free : Content
  holds : Val → Content

abbrev next : List Content → Content
next [] = free
next (c ∷ cs) = c

abbrev later : List Content → List Content
later [] = []
later (c ∷ cs) = cs

-- Of so many locals, behind so many items.
abbrev pub behind : ℕ → ℕ → ℕ → ℕ
behind many items i = items + ((many + many) - (2 + (i + i)))

-- ---- The context

abbrev pub types_of : List Local → List Ty
types_of [] = []
types_of (local τ h ∷ ls) = τ ∷ types_of ls

abbrev pub env : {M : Type 1} (𝓤 : Ura M) (H : Heap 𝓤) → List Ty → Places → Env 𝓤 H
env 𝓤 H [] l = []
env 𝓤 H (τ ∷ ls) l = (τ, l 0) ∷ env 𝓤 H ls (shift l)

module _ {M : Type 1} {𝓤 : Ura M} where
  abbrev at_place : Ty → ℕ → Content → Item 𝓤
  at_place τ b free = ‵ (froom τ b 0)
  at_place τ b (holds v) = ‵ (fat full_share τ b 0 v)

  abbrev pub cells : List Ty → List Content → Places → List (Item 𝓤) → List (Item 𝓤)
  cells [] cs l Γ = Γ
  cells (τ ∷ ls) cs l Γ =
      cells ls (later cs) (shift l) (at_place τ (l 0) (next cs) ∷ ‵ (fdies τ (l 0)) ∷ Γ)

-- ---- An item is taken out from behind the cells, and put there

module _ {M : Type 1} {𝓤 : Ura M} (𝓛 : Logic 𝓤) where
  cons_mono : (i : Item 𝓤) (Γ Γ' : List (Item 𝓤)) → ent 𝓤 (⋆ 𝓛 Γ) (⋆ 𝓛 Γ')
      → ent 𝓤 (⋆ 𝓛 (i ∷ Γ)) (⋆ 𝓛 (i ∷ Γ'))
  cons_mono i Γ Γ' h =
      via 𝓤 (sep 𝓤 (mean 𝓛 i) (⋆ 𝓛 Γ)) (pop 𝓛 i Γ)
      (via 𝓤 (sep 𝓤 (mean 𝓛 i) (⋆ 𝓛 Γ')) (mono_r 𝓤 (mean 𝓛 i) h) (push 𝓛 i Γ'))

  cells_mono : (ls : List Ty) (cs : List Content) (l : Places) (Γ Γ' : List (Item 𝓤))
      → ent 𝓤 (⋆ 𝓛 Γ) (⋆ 𝓛 Γ')
      → ent 𝓤 (⋆ 𝓛 (cells ls cs l Γ)) (⋆ 𝓛 (cells ls cs l Γ'))
  cells_mono [] cs l Γ Γ' h = h
  cells_mono (τ ∷ ls) cs l Γ Γ' h =
      let c = at_place τ (l 0) (next cs) in
      let d = ‵ (fdies τ (l 0)) in
      cells_mono ls (later cs) (shift l) (c ∷ d ∷ Γ) (c ∷ d ∷ Γ')
      (cons_mono c (d ∷ Γ) (d ∷ Γ') (cons_mono d Γ Γ' h))

  taken_out : (ls : List Ty) (cs : List Content) (l : Places) (x : Item 𝓤) (Γ : List (Item 𝓤))
      → ent 𝓤 (⋆ 𝓛 (cells ls cs l (x ∷ Γ)))
      (sep 𝓤 (mean 𝓛 x) (⋆ 𝓛 (cells ls cs l Γ)))
  taken_out [] cs l x Γ = pop 𝓛 x Γ
  taken_out (τ ∷ ls) cs l x Γ =
      let c = at_place τ (l 0) (next cs) in
      let d = ‵ (fdies τ (l 0)) in
      via 𝓤 _
      (cells_mono ls (later cs) (shift l) (c ∷ d ∷ x ∷ Γ) (x ∷ c ∷ d ∷ Γ)
      (sel⊢ 𝓛 (2 ∷ []) (c ∷ d ∷ x ∷ Γ)))
      (taken_out ls (later cs) (shift l) x (c ∷ d ∷ Γ))

  put_in : (ls : List Ty) (cs : List Content) (l : Places) (x : Item 𝓤) (Γ : List (Item 𝓤))
      → ent 𝓤 (sep 𝓤 (mean 𝓛 x) (⋆ 𝓛 (cells ls cs l Γ)))
      (⋆ 𝓛 (cells ls cs l (x ∷ Γ)))
  put_in [] cs l x Γ = push 𝓛 x Γ
  put_in (τ ∷ ls) cs l x Γ =
      let c = at_place τ (l 0) (next cs) in
      let d = ‵ (fdies τ (l 0)) in
      via 𝓤 _
      (put_in ls (later cs) (shift l) x (c ∷ d ∷ Γ))
      (cells_mono ls (later cs) (shift l) (x ∷ c ∷ d ∷ Γ) (c ∷ d ∷ x ∷ Γ)
      (sel⊢ 𝓛 (1 ∷ 1 ∷ []) (x ∷ c ∷ d ∷ Γ)))

  -- All that stands behind the cells comes before them, and goes back.
  to_front : (ls : List Ty) (cs : List Content) (l : Places) (Γ : List (Item 𝓤))
      → ent 𝓤 (⋆ 𝓛 (cells ls cs l Γ)) (⋆ 𝓛 (Γ ++ cells ls cs l []))
  to_front ls cs l Γ =
      via 𝓤 _ (cells_mono ls cs l Γ (raw (⋆ 𝓛 Γ) ∷ []) (id⊢ 𝓤 (⋆ 𝓛 Γ)))
      (via 𝓤 _ (taken_out ls cs l (raw (⋆ 𝓛 Γ)) []) (++⊢ 𝓛 Γ (cells ls cs l [])))

  to_back : (ls : List Ty) (cs : List Content) (l : Places) (Γ : List (Item 𝓤))
      → ent 𝓤 (⋆ 𝓛 (Γ ++ cells ls cs l [])) (⋆ 𝓛 (cells ls cs l Γ))
  to_back ls cs l Γ =
      via 𝓤 _ (⊢++ 𝓛 Γ (cells ls cs l []))
      (via 𝓤 _ (put_in ls cs l (raw (⋆ 𝓛 Γ)) [])
      (cells_mono ls cs l (raw (⋆ 𝓛 Γ) ∷ []) Γ (id⊢ 𝓤 (⋆ 𝓛 Γ))))

-- ---- The arguments

-- Each value has its local's type.
abbrev Typed : List Ty → List Val → Type 0
Typed ls [] = Unit {0}
Typed [] (v ∷ vs) = ⊥
Typed (τ ∷ ls) (v ∷ vs) = (Holds (has_ty τ v) × WT v) × Typed ls vs

-- The parameters are the locals after the result.
abbrev pub Fitting : List Ty → List Val → Type 0
Fitting [] vs = ⊥
Fitting (l ∷ ls) vs = Typed ls vs

module _ {M : Type 1} {𝓤 : Ura M} (𝓛 : Logic 𝓤) where
  open 𝓛 use {H}

  stored : (ls : List Ty) (vs : List Val) (l : Places) (Γ : List (Item 𝓤)) (P : SProp 𝓤)
      → Typed ls vs
      → ent 𝓤 (⋆ 𝓛 (cells ls (map holds vs) l Γ)) P
      → ent 𝓤 (⋆ 𝓛 (cells ls [] l Γ)) (pass 𝓤 H (env 𝓤 H ls l) vs P)
  stored ls [] l Γ P ok h = h
  stored [] (v ∷ vs) l Γ P ok h = absurd ok
  stored (τ ∷ ls) (v ∷ vs) l Γ P ok h =
      let d = ‵ (fdies τ (l 0)) in
      let others = raw (⋆ 𝓛 (cells ls [] (shift l) (d ∷ Γ))) in
      let now : Item 𝓤 = ‵ (fat full_share τ (l 0) 0 v) in
      via 𝓤 _ (taken_out 𝓛 ls [] (shift l) (‵ (froom τ (l 0) 0)) (d ∷ Γ))
      ((init {𝓛 = 𝓛} {K = Go {0}} {Γ = ‵ (froom τ (l 0) 0) ∷ others ∷ []} ! 0 refl ok.0).go _
      (via 𝓤 _ (put_in 𝓛 ls [] (shift l) now (d ∷ Γ))
      (stored ls vs (shift l) (now ∷ d ∷ Γ) P ok.1 h)))

  allocated : (ls : List Local) (Γ : List (Item 𝓤)) (Kt : Env 𝓤 H → Goal 𝓤 H)
      → ((bs : List ℕ)
      → Sq 𝓛 (cells (types_of ls) [] (placed bs) Γ) (Kt (env 𝓤 H (types_of ls) (placed bs))))
      → Sq 𝓛 Γ (allocs ls Kt)
  allocated [] Γ Kt k = alloc0 ! $ k []
  allocated (local τ h ∷ ls) Γ Kt k =
      alloc1 ! (λ b. allocated ls (‵ (froom τ b 0) ∷ ‵ (fdies τ b) ∷ Γ)
      (λ E. Kt ((τ, b) ∷ E)) (λ bs. k (b ∷ bs)))

  pub walks_in : (C : Calls 𝓤 H) (Λ : Loops 𝓤 H) (f : Fn) (vs : List Val) (Q : Val → SProp 𝓤)
      (Γ : List (Item 𝓤)) → Fitting (types_of f.locals) vs
      → ((bs : List ℕ)
      → Sq 𝓛 (Γ ++ cells (types_of f.locals) (free ∷ map holds vs) (placed bs) [])
      (runs C Λ (env 𝓤 H (types_of f.locals) (placed bs)) f.body
      (at_ret (env 𝓤 H (types_of f.locals) (placed bs)) Q)))
      → ent 𝓤 (⋆ 𝓛 Γ) (WpFn 𝓤 H C Λ f vs Q)
  walks_in C Λ f vs Q Γ ok k =
      qed 𝓛 Γ ∵ enter ! C Λ f vs Q $
      enters f.locals ok (λ E. runs C Λ E f.body (at_ret E Q)) k
    where
      enters : (ls : List Local) → Fitting (types_of ls) vs → (Kt : Env 𝓤 H → Goal 𝓤 H)
          → ((bs : List ℕ)
          → Sq 𝓛 (Γ ++ cells (types_of ls) (free ∷ map holds vs) (placed bs) [])
          (Kt (env 𝓤 H (types_of ls) (placed bs))))
          → Sq 𝓛 Γ (allocs ls (λ E. params' E vs (Kt E)))
      enters [] bad Kt k = absurd bad
      enters (local τ h ∷ ls) ok Kt k =
          allocated (local τ h ∷ ls) Γ (λ E. params' E vs (Kt E)) (λ bs. by !
          (stored (types_of ls) vs (shift (placed bs))
          (‵ (froom τ (first bs) 0) ∷ ‵ (fdies τ (first bs)) ∷ Γ) _ ok
          (via 𝓤 _ (to_front 𝓛 (τ ∷ types_of ls) (free ∷ map holds vs) (placed bs) Γ)
          (k bs).prf)))

  -- ---- The return

  emptied : (τ : Ty) (b : ℕ) (c : Content)
      → ent 𝓤 (mean 𝓛 (at_place τ b c)) (H.room τ b 0)
  emptied τ b free = id⊢ 𝓤 (H.room τ b 0)
  emptied τ b (holds v) = 𝓛.laws.at_room τ b 0 v

  released : (ls : List Ty) (cs : List Content) (l : Places) (Γ : List (Item 𝓤)) (P : SProp 𝓤)
      → ent 𝓤 (⋆ 𝓛 Γ) P
      → ent 𝓤 (⋆ 𝓛 (cells ls cs l Γ)) (release 𝓤 H (env 𝓤 H ls l) P)
  released [] cs l Γ P h = h
  released (τ ∷ ls) cs l Γ P h =
      let c = at_place τ (l 0) (next cs) in
      let d = ‵ (fdies τ (l 0)) in
      via 𝓤 _ (taken_out 𝓛 ls (later cs) (shift l) c (d ∷ Γ))
      (via 𝓤 _ (mono∗ 𝓤 (emptied τ (l 0) (next cs))
      (via 𝓤 _ (taken_out 𝓛 ls (later cs) (shift l) d Γ)
      (mono_r 𝓤 (H.dies τ (l 0)) (released ls (later cs) (shift l) Γ P h))))
      (assoc' 𝓤 (H.room τ (l 0) 0) (H.dies τ (l 0))
      (release 𝓤 H (env 𝓤 H ls (shift l)) P)))

module _ {M : Type 1} {𝓤 : Ura M} {𝓛 : Logic 𝓤} {K : Type 0} where
  open 𝓛 use {H}

  pub freed : K → (ls : List Ty) (cs : List Content) (l : Places) (Γ : List (Item 𝓤))
      {P : SProp 𝓤}
      → Step K 𝓛 Γ (prop P) (Γ ++ cells ls cs l []) (frees (env 𝓤 H ls l) (prop P))
  freed t ls cs l Γ {P} = step (λ s. by t
      (via 𝓤 _ (to_back 𝓛 ls cs l Γ) (released 𝓛 ls cs l Γ P s.prf)))
