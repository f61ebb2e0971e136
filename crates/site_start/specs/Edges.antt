-- The chain of the start call at the edge: lengths exactly enough and one short.
use Rattle.std.specs.Prelude.{◌≡◌, [], ◌∷◌, ◌++◌, replicate}
use Rattle.model.specs.Settings.{settings_with}
use Rattle.model.specs.Instances.{settings_a, settings_p6}
use Rattle.site_start.specs.Starts.{start_refusal, cleared}

pub record SiteStartEdges : Type 0 where
  -- "lent memory shorter than above": 2 × (4 × 60 + 1024) numbers for P6's two sites
  pub start_enough : start_refusal settings_p6 (replicate 2528 7) ≡ 0
  pub start_short : start_refusal settings_p6 (replicate 2527 7) ≡ 4
  pub start_three_before_four : start_refusal (settings_with 1 1000 1000 500 5 10) [] ≡ 3
  -- "every number is 0 (unused slots too)", "longer is fine, the rest untouched"
  pub start_clears : cleared settings_a (replicate 1050 7) ≡ replicate 1048 0 ++ (7 ∷ 7 ∷ [])
