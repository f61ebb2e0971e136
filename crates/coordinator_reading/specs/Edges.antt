-- The margin's chain at the edge: code u - 1 and code u, and 11 before 6. (What it is made of
-- stands in crate `model`'s specs/Edges.)
use Rattle.std.specs.Prelude.{◌≡◌, replicate}
use Rattle.model.specs.declared.Phase.TheVariants.{Idle}
use Rattle.model.specs.Instances.{settings_p6}
use Rattle.model.specs.Edges.Inputs.{coordinator_numbers, fresh_numbers}
use Rattle.coordinator_reading.specs.Promises.{margin_refusal}

pub record MarginEdges : Type 0 where
  pub last_item : margin_refusal settings_p6 fresh_numbers 9 (replicate 1034 0) ≡ 0
  -- "code ≥ u"
  pub unknown_item : margin_refusal settings_p6 fresh_numbers 10 (replicate 1034 0) ≡ 6
  -- "then 4, 11": threshold 0 is inconsistent
  pub four_before_eleven :
      margin_refusal settings_p6 (coordinator_numbers 0 0 0 0 0 Idle) 10 (replicate 1033 0) ≡ 4
  pub eleven_before_six :
      margin_refusal settings_p6 (coordinator_numbers 0 0 0 0 0 Idle) 10 (replicate 1034 0) ≡ 11
