-- The line test as the bench controller calls it, at the edge: document 01's "`0;7;3` without line
-- feed, and `00;7;3`: 13". (Its other edges stand in crate `model`'s specs/Edges.)
use Rattle.std.specs.Prelude.{◌≡◌, [], ◌∷◌}
use Rattle.model.specs.Edges.Worklists.{line_p2}
use Rattle.controller.specs.Promises.{line_refusal, from_line}

pub record LineTestEdges : Type 0 where
  pub well_formed : line_refusal line_p2 ≡ 0
  pub no_line_feed : line_refusal (48 ∷ 59 ∷ 55 ∷ 59 ∷ 51 ∷ []) ≡ 13
  pub leading_zero : line_refusal (48 ∷ line_p2) ≡ 13
  pub nothing : line_refusal [] ≡ 13
  -- a lent number: the line's, or what stood there
  pub handed_out : from_line line_p2 3 99 ≡ 3
  pub left_alone : from_line [] 3 99 ≡ 99
