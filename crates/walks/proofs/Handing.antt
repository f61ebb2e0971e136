-- What a function is handed, or hands back: the tokens of lifetimes and what is owned of each
-- parameter. A contract has each as one formula, and a context has items.
--
--   Part            a part of such a formula: `handing`, handed over from the context, or `made`,
--                   had for nothing, as a value that owns only facts is
--   token, ref_token   the token of the lifetime that a slice, or one value, is lent for
--   handed, wholes  of a list of parts: what the context hands over, and the formula
--   together, apart   from the one to the other, and back
--   enters          tokens and parts are what a callee is handed
--   asking, asking_nothing   its `requires` is met where it asks φ, and where it asks nothing
--   ends            tokens, parts and a result, of which φ is said: what a walk has at its end
--   spread          a formula of the context becomes items
-- Assumes `Logic` where a step of a script is made.
use Rattle.walks.proofs.Kit.{List, [], ◌∷◌, ◌++◌, Ura, SProp, ent, sep, emp, id⊢, via, comm∗, mono∗, mono_r, emp∗, snd∗, Fml, ftrue, fsep, flft, fact, fact_i, Item, ‵, ⋆, push, pop, ++⊢, ⊢++, Goal, Step, step}
use Rattle.walks.proofs.Data.{Data, Good}
use Rattle.walks.proofs.Lending.{Lending}
use Rattle.walks.proofs.RefLending.{RefLending}
use types.Logic.{Logic, sem}

pub data Part {M : Type 1} {𝓤 : Ura M} (𝓛 : Logic 𝓤) : Type 1 where
  handing : Fml → Part 𝓛
  made : (F : Fml) → ent 𝓤 (emp 𝓤) (sem 𝓛 F) → Part 𝓛

module _ {M : Type 1} {𝓤 : Ura M} {𝓛 : Logic 𝓤} where
  abbrev pub token : {X : Type 0} → Lending X → Part 𝓛
  token e = handing (flft e.life e.share)

  abbrev pub ref_token : {X : Type 0} → RefLending X → Part 𝓛
  ref_token e = handing (flft e.life e.share)

  -- The value of a type that owns only facts.
  abbrev pub value_of : (D : Data) (x : D.row.Denot) → Good D x → Part 𝓛
  value_of D x good =
      made (D.row.own_val x (D.val x ∷ [])) (D.makes 𝓛 x (D.val x ∷ []) good)

module _ {M : Type 1} (𝓤 : Ura M) (P : SProp 𝓤) where
  pub asking_nothing : ent 𝓤 P (sep 𝓤 P (emp 𝓤))
  asking_nothing = via 𝓤 _ (emp∗ 𝓤 P) (comm∗ 𝓤 (emp 𝓤) P)

  pub asking : {φ : Type 0} → φ → ent 𝓤 P (sep 𝓤 P (fact 𝓤 φ))
  asking {φ} x =
      via 𝓤 _ (emp∗ 𝓤 P)
      (via 𝓤 _ (mono∗ 𝓤 (fact_i 𝓤 φ (emp 𝓤) x) (id⊢ 𝓤 P)) (comm∗ 𝓤 (fact 𝓤 φ) P))

module _ {M : Type 1} {𝓤 : Ura M} (𝓛 : Logic 𝓤) where
  abbrev pub wholes : List (Part 𝓛) → Fml
  wholes [] = ftrue
  wholes (handing F ∷ ps) = fsep F (wholes ps)
  wholes (made F h ∷ ps) = fsep F (wholes ps)

  abbrev pub handed : List (Part 𝓛) → List (Item 𝓤)
  handed [] = []
  handed (handing F ∷ ps) = ‵ F ∷ handed ps
  handed (made F h ∷ ps) = handed ps

  pub together : (ps : List (Part 𝓛)) → ent 𝓤 (⋆ 𝓛 (handed ps)) (sem 𝓛 (wholes ps))
  together [] = id⊢ 𝓤 (emp 𝓤)
  together (handing F ∷ ps) =
      via 𝓤 _ (pop 𝓛 (‵ F) (handed ps)) (mono_r 𝓤 (sem 𝓛 F) (together ps))
  together (made F h ∷ ps) =
      via 𝓤 _ (emp∗ 𝓤 (⋆ 𝓛 (handed ps))) (mono∗ 𝓤 h (together ps))

  pub apart : (ps : List (Part 𝓛)) → ent 𝓤 (sem 𝓛 (wholes ps)) (⋆ 𝓛 (handed ps))
  apart [] = id⊢ 𝓤 (emp 𝓤)
  apart (handing F ∷ ps) =
      via 𝓤 _ (mono_r 𝓤 (sem 𝓛 F) (apart ps)) (push 𝓛 (‵ F) (handed ps))
  apart (made F h ∷ ps) =
      via 𝓤 _ (snd∗ 𝓤 (sem 𝓛 F) (sem 𝓛 (wholes ps))) (apart ps)

  -- What stands before a callee's `requires`: its tokens and parameters.
  abbrev pub Entry : List (Part 𝓛) → List (Part 𝓛) → SProp 𝓤
  Entry ts ps = sep 𝓤 (sem 𝓛 (wholes ts)) (sem 𝓛 (wholes ps))

  pub enters : (ts ps : List (Part 𝓛)) → ent 𝓤 (⋆ 𝓛 (handed ts ++ handed ps)) (Entry ts ps)
  enters ts ps = via 𝓤 _ (⊢++ 𝓛 (handed ts) (handed ps)) (mono∗ 𝓤 (together ts) (together ps))

  -- The end of a walk: the tokens, what is had of the parameters, and a result that owns only
  -- facts, of which the contract says φ.
  pub ends : (ts ps : List (Part 𝓛)) (D : Data) (r : D.row.Denot) → Good D r
      → {φ : Type 0} → φ
      → ent 𝓤 (⋆ 𝓛 (handed ts ++ handed ps))
      (sep 𝓤
      (sep 𝓤 (sem 𝓛 (wholes ts))
      (sep 𝓤 (sem 𝓛 (wholes ps)) (sem 𝓛 (D.row.own_val r (D.val r ∷ [])))))
      (fact 𝓤 φ))
  ends ts ps D r good {φ} x =
      let R = sem 𝓛 (D.row.own_val r (D.val r ∷ [])) in
      via 𝓤 _ (⊢++ 𝓛 (handed ts) (handed ps))
      (via 𝓤 _
      (mono∗ 𝓤 (together ts)
      (via 𝓤 _ (emp∗ 𝓤 (⋆ 𝓛 (handed ps)))
      (via 𝓤 _ (mono∗ 𝓤 (D.makes 𝓛 r (D.val r ∷ []) good) (together ps))
      (comm∗ 𝓤 R (sem 𝓛 (wholes ps))))))
      (asking 𝓤 _ x))

module _ {M : Type 1} {𝓤 : Ura M} {𝓛 : Logic 𝓤} {K : Type 0}
    {Γ : List (Item 𝓤)} {G : Goal 𝓤 𝓛.H} where
  pub spread : K → (ps : List (Part 𝓛))
      → Step K 𝓛 (handed 𝓛 ps ++ Γ) G (‵ (wholes 𝓛 ps) ∷ Γ) G
  spread t ps = step (λ s. record {
    prf = via 𝓤 _ (pop 𝓛 (‵ (wholes 𝓛 ps)) Γ)
        (via 𝓤 _ (mono∗ 𝓤 (apart 𝓛 ps) (id⊢ 𝓤 (⋆ 𝓛 Γ)))
        (via 𝓤 _ (++⊢ 𝓛 (handed 𝓛 ps) Γ) s.prf));
  })
