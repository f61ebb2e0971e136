-- A slice that a function was lent, as the machine and the ghost state have it.
--
--   Lending      the lent slice
--   lending      a reference as a function is handed it
--   listed       the reference under a ghost name, at a list
--   as_lent      the same, as it was lent
--   as_shared    a `&[T]`, as it was lent
--   value        the machine's value of it: the pointer and the length
use denote.Ref.{Bor, MutBor}
use Rattle.walks.proofs.Kit.{ℕ, List, length, Val, Lft, GName, Share, slice_val}

-- Its lifetime and the share of the lifetime's token, where it points, its ghost name, and the
-- list.
pub record Lending (X : Type 0) : Type 0 where
  pub life : Lft
  pub share : Share
  pub block : ℕ
  pub offset : ℕ
  pub name : GName
  pub list : List X

abbrev pub listed : {X : Type 0} → Lending X → GName → List X → MutBor (List X)
listed e δ xs = record { ref_ptr = (e.block, e.offset); ghost_name = δ; now = xs }

abbrev pub as_lent : {X : Type 0} → Lending X → MutBor (List X)
as_lent e = listed e e.name e.list

abbrev pub as_shared : {X : Type 0} → Lending X → Bor (List X)
as_shared e = record { ref_ptr = (e.block, e.offset); now = e.list }

abbrev pub value : {X : Type 0} → Lending X → Val
value e = slice_val (e.block, e.offset) (length e.list)

-- A reference as a function is handed it.
abbrev pub lending : {X : Type 0} → Lft → Share → MutBor (List X) → Lending X
lending κ q r = record {
  life = κ;
  share = q;
  block = r.ref_ptr.0;
  offset = r.ref_ptr.1;
  name = r.ghost_name;
  list = r.now;
}
