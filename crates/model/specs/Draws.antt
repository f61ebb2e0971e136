-- Which arrivals are draws (request N2): "Our operators now write class 0 when the tip touched but
-- took nothing." Such an arrival is called a touch.
--
--   is_draw arrival       whether it is one of class 1 or more
--   draws_of arrivals     those of a list that are, in order
--   is_taken arrival refusal    whether it is taken: a draw that is not refused
use Rattle.std.specs.Prelude.{Bool, ◌&&◌, List, [], ◌∷◌, ℕ, leb, if◌then◌else◌}
use Rattle.model.specs.declared.Arrival.{Arrival}
use Rattle.model.specs.Choice.{is_zero}
use Rattle.model.specs.Limits.{least_drawn}

-- "draws of class 1 or more"
abbrev pub is_draw : Arrival → Bool
is_draw arrival = leb least_drawn arrival.value

-- A list with its touches left out.
abbrev pub draws_of : List Arrival → List Arrival
draws_of [] = []
draws_of (arrival ∷ arrivals) =
    if is_draw arrival then arrival ∷ draws_of arrivals else draws_of arrivals

-- By the number that it is answered, 0 where it is accepted: a draw that is not refused is taken.
-- All else leaves everything as it was; a touch is "accepted with no change and no message". The
-- test stays shut, so that proofs speak of it whole; `is_taken` opens it.
unfoldable pub is_taken : Arrival → ℕ → Bool
is_taken arrival refusal = is_draw arrival && is_zero refusal
