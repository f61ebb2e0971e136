-- A call of a function by its contract, from what is handed to it to what it leaves.
--
--   tokens, lefts        what a callee gives back: the tokens of the lifetimes, and what is said of
--                        each parameter that it may change; a value and a `&` leave nothing
--   calls_by             the call. Before it the context begins with the tokens and the parts that
--                        are handed over (Handing); after it with `tokens` and `lefts`, and the
--                        result, at its machine's value, is stored next, by `land`
-- Letters: κs lifetimes, a the arguments, ws what the parameters were left at, r the result.
-- Assumes `Logic` and that the callee meets its contract.
use Rattle.walks.proofs.Kit.{sym, ap, subst, ℕ, zero, suc, List, [], ◌∷◌, ◌++◌, Ura, Callee, Place, Body, Operand, seq, call, Val, SProp, ent, sep, emp, id⊢, via, mono∗, mono_r, snd∗, flft, Env, Calls, Loops, FmC, Lfts, Shares, toks, fact, Item, ‵, raw, ⋆, ◌⊛◌, some, later, push, ++⊢, Post, Seq, runs, lands, ◌$◌, cut, move, drop, use1, pick, split, await, Opds, Denots, Is, Tells, shows, Exit, unchanged, leaves, Last, left, Slot, type_at, types_at, only, peeks, heard, Contract, Triple, calls_at, Ended, Clauses, Lasts, at_exit, lasts, closing, Kepts, Fins, lasts_of, alive, triple_of}
use Rattle.walks.proofs.Handing.{Part, Entry, handed, enters}
use types.Logic.{Logic, sem}

-- ---- What a callee gives back

module _ {M : Type 1} {𝓤 : Ura M} where
  abbrev pub tokens : (n : ℕ) → Lfts n → Shares n → List (Item 𝓤)
  tokens zero κs qs = []
  tokens (suc n) κs qs = ‵ (flft κs.0 qs.0) ∷ tokens n κs.1 qs.1

  abbrev with_left : {D : Type 0} (e : Exit D) (x : D) → Last e x → List (Item 𝓤)
      → List (Item 𝓤)
  with_left unchanged x w Γ = Γ
  with_left (leaves L l S s r₀) x w Γ = ‵ (l x w) ∷ Γ

  abbrev pub lefts : {n : ℕ} (κs : Lfts n) (ss : List (Slot n)) (ks : Kepts ss)
      (a : Denots (types_at ss κs)) → Fins κs ss ks a → List (Item 𝓤)
  lefts κs [] ks a ws = []
  lefts κs (s ∷ ss) ks a ws =
      with_left ((s.row κs).exit ks.0) a.0 ws.0 (lefts κs ss ks.1 a.1 ws.1)

module _ {M : Type 1} {𝓤 : Ura M} (𝓛 : Logic 𝓤) where
  open 𝓛 use {A}

  tokens_out : (n : ℕ) (κs : Lfts n) (qs : Shares n)
      → ent 𝓤 (toks 𝓛 n κs qs) (⋆ 𝓛 (tokens n κs qs))
  tokens_out zero κs qs = id⊢ 𝓤 (emp 𝓤)
  tokens_out (suc n) κs qs =
      via 𝓤 _ (mono_r 𝓤 (A.lft κs.0 qs.0) (tokens_out n κs.1 qs.1))
      (push 𝓛 (‵ (flft κs.0 qs.0)) (tokens n κs.1 qs.1))

  left_out : {D : Type 0} (e : Exit D) (x : D) (w : Last e x) (P : SProp 𝓤) (Γ : List (Item 𝓤))
      → ent 𝓤 P (⋆ 𝓛 Γ)
      → ent 𝓤 (sep 𝓤 (sem 𝓛 (left e x w)) P) (⋆ 𝓛 (with_left e x w Γ))
  left_out unchanged x w P Γ h = via 𝓤 P (snd∗ 𝓤 (emp 𝓤) P) h
  left_out (leaves L l S s r₀) x w P Γ h =
      via 𝓤 _ (mono_r 𝓤 (sem 𝓛 (l x w)) h) (push 𝓛 (‵ (l x w)) Γ)

  lefts_out : {n : ℕ} (κs : Lfts n) (ss : List (Slot n)) (ks : Kepts ss)
      (a : Denots (types_at ss κs)) (ws : Fins κs ss ks a)
      → ent 𝓤 (sem 𝓛 (lasts_of κs ss ks a ws)) (⋆ 𝓛 (lefts κs ss ks a ws))
  lefts_out κs [] ks a ws = id⊢ 𝓤 (emp 𝓤)
  lefts_out κs (s ∷ ss) ks a ws =
      left_out ((s.row κs).exit ks.0) a.0 ws.0 _ (lefts κs ss ks.1 a.1 ws.1)
      (lefts_out κs ss ks.1 a.1 ws.1)

-- ---- The call

module _ {M : Type 1} {𝓤 : Ura M} (𝓛 : Logic 𝓤) (T : Ended) (cl : Clauses 𝓤 T) where
  abbrev pub Says : Contract 𝓤
  Says = triple_of 𝓛 T.signature (closing 𝓛 T cl)

  -- What stands first in the context after the call.
  abbrev pub Back : (x : Says.Ghost) → Lasts T x.0.0 x.0.3 → List (Item 𝓤)
  Back x ws =
      tokens T.signature.lifetimes x.0.0 x.0.1
      ++ lefts x.0.0 T.signature.params T.kept x.0.3 ws

module _ {M : Type 1} {𝓤 : Ura M} {𝓛 : Logic 𝓤} {K : Type 0}
    {Γ : List (Item 𝓤)} {E : Env 𝓤 𝓛.H} {C : Calls 𝓤 𝓛.H} {Λ : Loops 𝓤 𝓛.H} {f : Callee}
    {xs : List Operand} {q : Post 𝓤 𝓛.H} {d : Place} {rest : Body} where
  open 𝓛 use {H}

  pub calls_by : K → FmC 𝓤 H 𝓛.laws C → (T : Ended) (cl : Clauses 𝓤 T)
      → Triple 𝓤 (C f) (Says 𝓛 T cl) → (x : (Says 𝓛 T cl).Ghost)
      (ts ps : List (Part 𝓛)) → ent 𝓤 (Entry 𝓛 ts ps) ((Says 𝓛 T cl).pre x)
      → Opds K 𝓛 (raw ((Says 𝓛 T cl).pre x) ∷ Γ) E xs ((Says 𝓛 T cl).args x)
      → let R = type_at T.signature.result x.0.0 in
      (val : R.Denot → Val) → Tells R (Is R) (λ r. val r ∷ [])
      → (said : R.Denot → Lasts T x.0.0 x.0.3 → Type 0)
      → ((r : R.Denot) (ws : Lasts T x.0.0 x.0.3)
      → ent 𝓤 ((cl x.0.0 x.0.3).ensures x.1 r (at_exit T x.0.0 x.0.3 ws))
      (fact 𝓤 (said r ws)))
      → ((r : R.Denot) (ws : Lasts T x.0.0 x.0.3) → said r ws → Is R r (val r ∷ [])
      → Seq K 𝓛 (Back 𝓛 T cl x ws ++ Γ) (lands C Λ E d (val r) rest q))
      → Seq K 𝓛 ((handed 𝓛 ts ++ handed 𝓛 ps) ++ Γ) (runs C Λ E (seq (call f xs d) rest) q)
  calls_by t fm T cl known x ts ps met os val tells said says k =
      let κs = x.0.0 in
      let a = x.0.3 in
      let R = type_at T.signature.result κs in
      let tokened = alive 𝓛 T.signature κs x.0.1 in
      cut (handed 𝓛 ts ++ handed 𝓛 ps) (raw ((Says 𝓛 T cl).pre x) ∷ []) Γ
      (via 𝓤 _ (enters 𝓛 ts ps) met) $
      calls_at t fm (Says 𝓛 T cl) known x os (λ u.
      use1 𝓛 (later (some (λ (r : R.Denot). (raw tokened ⊛ ‵ (R.own_val r (u ∷ [])))
      ⊛ some (λ (ws : Lasts T κs a). ‵ (lasts T κs a ws)
      ⊛ raw ((cl κs a).ensures x.1 r (at_exit T κs a ws)))))) (id⊢ 𝓤 _) $
      await t tt $ pick t (λ r.
      split t $ move t (1 ∷ []) $ pick t (λ ws. split t $ move t (1 ∷ []) $
      use1 𝓛 (raw (fact 𝓤 (said r ws))) (says r ws) $ heard t (said r ws) (λ e.
      -- [the last lists; tokens and result; …]
      move t (1 ∷ []) $ split t $ move t (1 ∷ []) $
      peeks t R (Is R) (shows 𝓛 R) r (u ∷ []) (λ is. drop t $
      cut (raw tokened ∷ ‵ (lasts T κs a ws) ∷ []) (Back 𝓛 T cl x ws) Γ
      (via 𝓤 _ (mono∗ 𝓤 (tokens_out 𝓛 T.signature.lifetimes κs x.0.1)
      (lefts_out 𝓛 κs T.signature.params T.kept a ws))
      (++⊢ 𝓛 (tokens T.signature.lifetimes κs x.0.1)
      (lefts κs T.signature.params T.kept a ws))) $
      subst (λ (v : Val). Seq K 𝓛 (Back 𝓛 T cl x ws ++ Γ) (lands C Λ E d v rest q))
      (sym (ap only (tells r (u ∷ []) is)))
      (k r ws e (subst (Is R r) (tells r (u ∷ []) is) is)))))))
