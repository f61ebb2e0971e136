-- The digits, of which there are at most 20, and a space.
use native.Mathlib.Omega.{arith}
use Rattle.output_lines.proofs.RoomLaws.{length_decimal_64, spaced_length_is}
use borrow.Author.Rules.{rules}
use Rattle.output_lines.proofs.spaced_length.Goals as goal

pub overflow_add-result : goal.overflow_add-result
overflow_add-result c =
    let args = c.args in
    let few = length_decimal_64 args.n (search rules) in
    record { fits = omega (arith, c.count_decimal.ensures) }

pub returns : goal.returns
returns c =
    spaced_length_is c.args.n c.count_decimal.result (search rules)
    c.count_decimal.ensures
