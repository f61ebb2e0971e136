-- Types whose values own only facts, as numbers and structs of numbers do: what a walk needs of
-- them, under one name.
--
--   Data          such a type: its row, the machine's value of each of its values, and the laws
--   struct, number, array   of a declared struct, of numbers of a width, and of so many in a row
--   Good          x is a value of the type, at the machine's value of x
--   is_typed      then the machine's value may be stored; its `.0`, of the one value
--   settled, value_is   of any machine's value that x is related to: it is that of x
use Rattle.walks.proofs.Kit.{◌≡◌, ap, subst, ℕ, [], ◌∷◌, map, Ura, Width, Val, vint, RattleType, Is, Tells, Makes, Lawful, Typed, UInt, uint_Tells, uint_Makes, uint_Lawful, Array, array_val, only, Declared, fields, Plains}
use types.Logic.{Logic}
use denote.Array.{Array-Tells, Array-Makes, Array-Lawful}
use denote.Struct.Declared.{row}
use denote.Struct.Laws as LL

pub record Data : Type 2 where
  pub row : RattleType
  pub val : row.Denot → Val
  pub tells : Tells row (Is row) (λ x. val x ∷ [])
  pub makes : {M : Type 1} {𝓤 : Ura M} (𝓛 : Logic 𝓤) →
      Makes 𝓛 row (Is row)
  pub lawful : {M : Type 1} {𝓤 : Ura M} (𝓛 : Logic 𝓤) →
      Lawful 𝓛 row

abbrev pub struct : (T : Declared) → LL.Laws T → Plains (fields T) → Data
struct T L plain = record {
  row = row T;
  val = LL.val T L;
  tells = LL.tells T L;
  makes = λ 𝓛. LL.makes T plain 𝓛;
  lawful = LL.lawful T L;
}

abbrev pub number : Width → Data
number w = record {
  row = UInt w;
  val = vint w;
  tells = uint_Tells w;
  makes = λ 𝓛. uint_Makes 𝓛 w;
  lawful = λ 𝓛. uint_Lawful 𝓛 w;
}

abbrev pub array : Data → ℕ → Data
array D n = record {
  row = Array D.row n;
  val = λ xs. array_val (map D.val xs);
  tells = Array-Tells D.row (λ x. D.val x ∷ []) D.tells n;
  makes = λ 𝓛. Array-Makes 𝓛 D.row (D.makes 𝓛) n;
  lawful = λ 𝓛. Array-Lawful 𝓛 D.row (D.lawful 𝓛) n;
}

abbrev pub Good : (D : Data) → D.row.Denot → Type 0
Good D x = Is D.row x (D.val x ∷ [])

pub is_typed : {M : Type 1} {𝓤 : Ura M} → (𝓛 : Logic 𝓤) → (D : Data)
    (x : D.row.Denot) → Good D x
    → Typed D.row.mir (D.val x ∷ [])
is_typed {𝓤 = 𝓤} 𝓛 D x good = (D.lawful 𝓛).typed x (D.val x ∷ []) good

module _ (D : Data) (x : D.row.Denot) (u : Val) (is : Is D.row x (u ∷ [])) where
  pub settled : Good D x
  settled = subst (Is D.row x) (D.tells x (u ∷ []) is) is

  pub value_is : u ≡ D.val x
  value_is = ap only (D.tells x (u ∷ []) is)
