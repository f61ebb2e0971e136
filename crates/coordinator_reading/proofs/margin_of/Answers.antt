-- Both sides are bounded products.
use mir.Val.{SFits}
use mir.Syntax.{w64}
use mir.Facts.{to_z-of_z}
use native.Mathlib.Nat.{mul-le-mul}
use native.Mathlib.Omega.{arith}
use mathlib.Core.Path.{ap, ◌∙◌}
use Prim.Native.Nat.{ℕ, ◌*◌, ◌-◌, ◌≤◌}
use borrow.Author.Rules.{rules}
use Rattle.model.specs.Reading.{difference}
use Rattle.coordinator_reading.proofs.margin_of.Goals as goal

pub subtract-requires : goal.subtract-requires
subtract-requires c =
    let settings = c.args.settings in
    let share : 2 * settings.phi - settings.epsilon ≤ 2000 = omega
    (arith, c.requires.phi_small) in
    omega (
      arith,
      c.side_needed.ensures,
      c.requires.number_within,
      mul-le-mul share c.requires.total_within,
    )

pub returns : goal.returns
returns c =
    let number = c.args.number in
    let fits : SFits w64 c.subtract.result = search rules in
    to_z-of_z fits
    ∙ c.subtract.ensures
    ∙ ap (λ (side : ℕ). difference (2000 * number) side) c.side_needed.ensures
