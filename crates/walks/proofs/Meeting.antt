-- From a walk to "the function meets its contract": what each parameter needs for that, under one
-- name, and one law for them all.
--
--   Param           a parameter: what is had of it at the exit, the machine's value of what it was
--                   passed, and the laws of both
--   by_value        a value of a type that owns only facts
--   shared, shared_ref   a `&[T]`, a `&T`, which is owned as it was passed
--   kept, given     a `&mut [T]`, which is still owned, at its last list; or which the body gave to
--                   a callee for good
--   kept_ref, given_ref  the same of a `&mut T`, with its last value
--   Params          one for each parameter, as pairs ending in `tt`; `◌&◌` writes them in a row
--   stays_of, spells_of, bound_at   of all parameters: what is had at the exit, the machine's
--                   values, and what a walk binds
--   meets_by        the function meets its contract, from a walk with the parameters' values
--                   written out and their relations in hand
-- Letters: j the number of a lifetime, n how many there are, R the type of elements.
use types.Logic.{Logic}
use denote.Slice.{shr_slice_vals, mut_slice_vals}
use denote.Ref.{shr_vals, mut_vals}
use Rattle.walks.proofs.Kit.{◌≡◌, ℕ, List, [], ◌∷◌, Ura, Fn, Val, ent, sep, ftrue, Tables, WpFn, Lfts, Shares, AllOutlive, WpFn-mono, RattleType, flat, Is, Ises, Are, Tells, Tellss, Spells, valss, Kept, yes, Last, left, Slot, AllWithin, plain, name_of, meet_at, mut_ref_to, shr_ref_to, shr_slice_of, mut_slice_of, types_at, mut_Tells, shr_Tells, shr_slice_Tells, mut_slice_Tells, Bound, Ended, Clauses, closing, Kepts, Args, on_entry, Meets, Stay, Stays, stay_none, stay_none_slice, stay_none_ref, stay_ref, stay_slice, gave_slice, gave_ref, Goes, AllGo, Goes-none, Goes-none_slice, Goes-none_ref, Goes-ref, Goes-slice, Goes-gave_slice, Goes-gave_ref, walk_of, walked, walk_Meets}
use Rattle.walks.proofs.Data.{Data}

infixr 4 ◌&◌
abbrev pub ◌&◌ {α β} : {A : Type α} {B : Type β} → A → B → A × B
a & b = (a, b)

module _ {n : ℕ} where
  pub record Param (s : Slot n) (k : Kept) : Type 2 where
    pub stay : Stay s k
    pub spell : (κs : Lfts n) → (s.row κs).Denot → List Val
    pub tells : (κs : Lfts n) → Tells (s.row κs) (Is (s.row κs)) (spell κs)
    pub goes : {M : Type 1} {𝓤 : Ura M} (𝓛 : Logic 𝓤)
        → Goes 𝓛 n s k stay

  abbrev pub by_value : (D : Data)
      → ((κs : Lfts n) (x : D.row.Denot) (f : Last (D.row.exit yes) x)
      → left (D.row.exit yes) x f ≡ ftrue)
      → Param (plain (λ _. D.row)) yes
  by_value D silent = record {
    stay = stay_none (λ _. D.row) yes;
    spell = λ κs x. D.val x ∷ [];
    tells = λ κs. D.tells;
    goes = λ 𝓛. Goes-none 𝓛 n (λ _. D.row) yes silent;
  }

  abbrev pub shared : (j : ℕ) (ok : AllWithin n (j ∷ [])) (R : RattleType)
      → Param (shr_slice_of (j ∷ []) ok (plain (λ _. R))) yes
  shared j ok R = record {
    stay = stay_none_slice (j ∷ []) ok (plain (λ _. R)) yes;
    spell = λ κs. shr_slice_vals;
    tells = λ κs. shr_slice_Tells (name_of (j ∷ [])) (meet_at n (j ∷ []) ok κs) R;
    goes = λ 𝓛. Goes-none_slice 𝓛 n (j ∷ []) ok (plain (λ _. R)) yes;
  }

  abbrev pub kept : (j : ℕ) (ok : AllWithin n (j ∷ [])) (R : RattleType)
      → Param (mut_slice_of (j ∷ []) ok (plain (λ _. R))) yes
  kept j ok R = record {
    stay = stay_slice (j ∷ []) ok (plain (λ _. R));
    spell = λ κs. mut_slice_vals;
    tells = λ κs. mut_slice_Tells (name_of (j ∷ [])) (meet_at n (j ∷ []) ok κs) R;
    goes = λ 𝓛. Goes-slice 𝓛 n j ok (plain (λ _. R));
  }

  abbrev pub given : (j : ℕ) (ok : AllWithin n (j ∷ [])) (R : RattleType)
      → Param (mut_slice_of (j ∷ []) ok (plain (λ _. R))) yes
  given j ok R = record {
    stay = gave_slice (j ∷ []) ok (plain (λ _. R));
    spell = λ κs. mut_slice_vals;
    tells = λ κs. mut_slice_Tells (name_of (j ∷ [])) (meet_at n (j ∷ []) ok κs) R;
    goes = λ 𝓛. Goes-gave_slice 𝓛 n j ok (plain (λ _. R));
  }

  abbrev pub kept_ref : (j : ℕ) (ok : AllWithin n (j ∷ [])) (s : Slot n)
      → Param (mut_ref_to (j ∷ []) ok s) yes
  kept_ref j ok s = record {
    stay = stay_ref (j ∷ []) ok s;
    spell = λ κs. mut_vals;
    tells = λ κs. mut_Tells (name_of (j ∷ [])) (meet_at n (j ∷ []) ok κs) (s.row κs);
    goes = λ 𝓛. Goes-ref 𝓛 n j ok s;
  }

  abbrev pub shared_ref : (j : ℕ) (ok : AllWithin n (j ∷ [])) (s : Slot n)
      → Param (shr_ref_to (j ∷ []) ok s) yes
  shared_ref j ok s = record {
    stay = stay_none_ref (j ∷ []) ok s yes;
    spell = λ κs. shr_vals;
    tells = λ κs. shr_Tells (name_of (j ∷ [])) (meet_at n (j ∷ []) ok κs) (s.row κs);
    goes = λ 𝓛. Goes-none_ref 𝓛 n (j ∷ []) ok s yes;
  }

  abbrev pub given_ref : (j : ℕ) (ok : AllWithin n (j ∷ [])) (s : Slot n)
      → Param (mut_ref_to (j ∷ []) ok s) yes
  given_ref j ok s = record {
    stay = gave_ref (j ∷ []) ok s;
    spell = λ κs. mut_vals;
    tells = λ κs. mut_Tells (name_of (j ∷ [])) (meet_at n (j ∷ []) ok κs) (s.row κs);
    goes = λ 𝓛. Goes-gave_ref 𝓛 n j ok s;
  }

  -- ---- All parameters

  abbrev pub Params : (ss : List (Slot n)) → Kepts ss → Type 2
  Params [] ks = Unit {2}
  Params (s ∷ ss) ks = Param s ks.0 × Params ss ks.1

  abbrev pub stays : (ss : List (Slot n)) (ks : Kepts ss) → Params ss ks → Stays ss ks
  stays [] ks ps = tt
  stays (s ∷ ss) ks ps = (ps.0.stay, stays ss ks.1 ps.1)

  abbrev pub spells : (ss : List (Slot n)) (ks : Kepts ss) → Params ss ks → (κs : Lfts n)
      → Spells (types_at ss κs)
  spells [] ks ps κs = tt
  spells (s ∷ ss) ks ps κs = (ps.0.spell κs, spells ss ks.1 ps.1 κs)

  all_tell : (ss : List (Slot n)) (ks : Kepts ss) (ps : Params ss ks) (κs : Lfts n)
      → Tellss (types_at ss κs) (Ises (types_at ss κs)) (spells ss ks ps κs)
  all_tell [] ks ps κs = tt
  all_tell (s ∷ ss) ks ps κs = (ps.0.tells κs, all_tell ss ks.1 ps.1 κs)

  all_go : {M : Type 1} {𝓤 : Ura M} (𝓛 : Logic 𝓤)
      (ss : List (Slot n)) (ks : Kepts ss) (ps : Params ss ks)
      → AllGo 𝓛 n ss ks (stays ss ks ps)
  all_go 𝓛 [] ks ps = tt
  all_go 𝓛 (s ∷ ss) ks ps = (ps.0.goes 𝓛, all_go 𝓛 ss ks.1 ps.1)

-- ---- The law

module _ (T : Ended) (ps : Params T.signature.params T.kept) where
  abbrev pub stays_of : Stays T.signature.params T.kept
  stays_of = stays T.signature.params T.kept ps

  abbrev pub spells_of : (κs : Lfts T.signature.lifetimes)
      → Spells (types_at T.signature.params κs)
  spells_of = spells T.signature.params T.kept ps

  -- What a walk binds: lifetimes, shares, bounds, arguments, and the machine's values of these.
  abbrev pub bound_at : {M : Type 1} {𝓤 : Ura M} (𝓛 : Logic 𝓤)
      (κs : Lfts T.signature.lifetimes) → Shares T.signature.lifetimes
      → AllOutlive T.signature.lifetimes T.signature.outlives κs
      → Args T.signature κs
      → Bound 𝓛 T.signature
  bound_at 𝓛 κs qs bounds a =
      (κs, qs, bounds, a, valss (types_at T.signature.params κs) (spells_of κs) a)

module _ {M : Type 1} {𝓤 : Ura M} (𝓛 : Logic 𝓤) (𝓣 : Tables 𝓤 𝓛.H)
    (f : Fn) (T : Ended) (ps : Params T.signature.params T.kept) (c : Clauses 𝓤 T) where
  -- The parameters' types, and the machine's values of what they were passed.
  open 𝓛 use {H}

  abbrev taken : Lfts T.signature.lifetimes → List RattleType
  taken = types_at T.signature.params

  pub meets_by :
      ((κs : Lfts T.signature.lifetimes) (qs : Shares T.signature.lifetimes)
      (bounds : AllOutlive T.signature.lifetimes T.signature.outlives κs)
      (a : Args T.signature κs) (g : (c κs a).ghost)
      → let vs = valss (taken κs) (spells_of T ps κs) a in
      Are (taken κs) (Ises (taken κs)) a vs
      → ent 𝓤 (sep 𝓤 (on_entry 𝓛 T.signature κs qs a vs) ((c κs a).requires g))
      (WpFn 𝓤 H 𝓣.C 𝓣.Λ f (flat (taken κs) vs)
      ((walk_of 𝓛 T (stays_of T ps) c).post ((κs, qs, bounds, a, vs), g))))
      → Meets 𝓛 T.signature (WpFn 𝓤 H 𝓣.C 𝓣.Λ f) (closing 𝓛 T c)
  meets_by walk =
      walk_Meets 𝓛 T (stays_of T ps) (all_go 𝓛 T.signature.params T.kept ps) c
      (WpFn 𝓤 H 𝓣.C 𝓣.Λ f) (WpFn-mono 𝓤 H 𝓛.laws 𝓣 f)
      (walked 𝓛 T (stays_of T ps) c (WpFn 𝓤 H 𝓣.C 𝓣.Λ f) (spells_of T ps)
      (all_tell T.signature.params T.kept ps) walk)
