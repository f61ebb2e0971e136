-- How some inputs end, row by row: what the definitions of Ending.antt come to. The theorem
-- `ending-instances` of proofs/EndingInstances.antt proves them by computation.
--
--   settings_a worklist    document 01's settings A, `1;1000;1000;500;6;10`, and then a worklist
--   draw, far, bare        the lines `0;7;3`, `0;99;3`, and an empty one
use Rattle.std.specs.Prelude.{◌≡◌, List, [], ◌∷◌, ◌++◌, ℕ}
use Rattle.drawtrack_course.specs.Ending.{ending_at, ending}

abbrev pub settings_a : List ℕ → List ℕ
settings_a worklist =
    49 ∷ 59 ∷ 49 ∷ 48 ∷ 48 ∷ 48 ∷ 59 ∷ 49 ∷ 48 ∷ 48 ∷ 48 ∷ 59 ∷ 53 ∷ 48 ∷ 48 ∷ 59 ∷ 54 ∷ 59 ∷
    49 ∷ 48 ∷ 10 ∷ worklist

abbrev pub draw : List ℕ
draw = 48 ∷ 59 ∷ 55 ∷ 59 ∷ 51 ∷ 10 ∷ []

abbrev pub far : List ℕ
far = 48 ∷ 59 ∷ 57 ∷ 57 ∷ 59 ∷ 51 ∷ 10 ∷ []

abbrev pub bare : List ℕ
bare = 10 ∷ []

-- `5;1000;1000;500;6;10`
abbrev pub five_decks : List ℕ
five_decks =
    53 ∷ 59 ∷ 49 ∷ 48 ∷ 48 ∷ 48 ∷ 59 ∷ 49 ∷ 48 ∷ 48 ∷ 48 ∷ 59 ∷ 53 ∷ 48 ∷ 48 ∷ 59 ∷ 54 ∷ 59 ∷
    49 ∷ 48 ∷ 10 ∷ []

pub record EndingInstances : Type 0 where
  -- Results come at the line after the last.
  pub no_draws : ending (settings_a []) ≡ ending_at 0 2
  pub one_draw : ending (settings_a draw) ≡ ending_at 0 3
  -- The first line of the worklist is line 2.
  pub first_refused : ending (settings_a far) ≡ ending_at 6 2
  pub later_refused : ending (settings_a (draw ++ draw ++ far ++ draw)) ≡ ending_at 6 4
  pub bare_line : ending (settings_a (draw ++ bare ++ draw)) ≡ ending_at 13 3
  -- The settings line is line 1.
  pub no_input : ending [] ≡ ending_at 13 1
  pub settings_beyond : ending five_decks ≡ ending_at 4 1
