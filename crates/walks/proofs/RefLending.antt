-- A reference to one value, a `&T` or a `&mut T`, that a function was lent, as the machine and the
-- ghost state have it.
--
--   RefLending    the lent reference
--   ref_lending   a reference as a function is handed it
--   at_value      the reference under a ghost name, at a value
--   as_lent_ref   the same, as it was lent
--   as_shared_ref   a `&T`, as it was lent
--   pointer       the machine's value of it
use denote.Ref.{Bor, MutBor}
use Rattle.walks.proofs.Kit.{ℕ, Val, vptr, Lft, GName, Share}

-- Its lifetime and the share of the lifetime's token, where it points, its ghost name, and the
-- value there.
pub record RefLending (X : Type 0) : Type 0 where
  pub life : Lft
  pub share : Share
  pub block : ℕ
  pub offset : ℕ
  pub name : GName
  pub now : X

abbrev pub at_value : {X : Type 0} → RefLending X → GName → X → MutBor X
at_value e δ x = record { ref_ptr = (e.block, e.offset); ghost_name = δ; now = x }

abbrev pub as_lent_ref : {X : Type 0} → RefLending X → MutBor X
as_lent_ref e = at_value e e.name e.now

abbrev pub as_shared_ref : {X : Type 0} → RefLending X → Bor X
as_shared_ref e = record { ref_ptr = (e.block, e.offset); now = e.now }

abbrev pub pointer : {X : Type 0} → RefLending X → Val
pointer e = vptr e.block e.offset

abbrev pub ref_lending : {X : Type 0} → Lft → Share → MutBor X → RefLending X
ref_lending κ q r = record {
  life = κ;
  share = q;
  block = r.ref_ptr.0;
  offset = r.ref_ptr.1;
  name = r.ghost_name;
  now = r.now;
}
