-- The list is refused, or its line and the others are written one after the other.
use mathlib.Core.Path.{refl, ◌∙◌, subst}
use mathlib.Core.List.{◌++◌}
use Rattle.std.specs.Prelude.{ℕ, Option}
use Rattle.model.specs.Transcript.{end_line, class_word, quantile_word}
use Rattle.model.proofs.Thresholds.RefusalLaws.{some_number}
use Rattle.output_lines.specs.Promises.{LineWritten}
use Rattle.drawtrack_steps.proofs.FinishLaws.{settings_pass, finish_refused, quantile_or_none, finish_listed}
use Rattle.drawtrack_steps.proofs.finish.Goals as goal

pub returns-in-Err : goal.returns-in-Err
returns-in-Err c =
    finish_refused _ _ _ _ _ c.in-Err.ensures _ _ _ c.refuse.ensures
    (some_number c.in-Err.refusal)

-- The settings passed, as the list was not refused.
pub total_count-total-requires : goal.total_count-total-requires
total_count-total-requires c =
    settings_pass c.args.session _ _ _ _ c.in-Ok.ensures refl

pub returns : goal.returns
returns c =
    let class = c.write_class-after_class in
    let read = c.read_quantile-read in
    finish_listed c.args.session _ _ _ _ c.in-Ok.ensures _ _ _ refl _ read.ensures _ _ _ _ _ _
    c.total_count-total.ensures c.write_listed-after_list.ensures
    (subst (λ (found : Option ℕ). LineWritten (end_line (class_word ++ quantile_word found))
    c.write_listed-after_list.result c.write_listed-after_list.new.out class.new.out class.result)
    (c.unwrap_or-quantile.ensures ∙ quantile_or_none read.result) class.ensures)
    c.write_count-written.ensures c.stop.ensures
