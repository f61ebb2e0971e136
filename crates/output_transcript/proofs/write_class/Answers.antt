-- By the case of the quantile: the line as it is given, or a word and a number.
use mathlib.Core.Path.{sym, subst}
use mathlib.Core.List.{◌++◌}
use Prim.Native.Nat.{ℕ}
use Rattle.std.specs.Prelude.{Option}
use Rattle.model.specs.Transcript.{end_line, class_word, quantile_word}
use Rattle.output_lines.specs.Promises.{LineWritten}
use Rattle.output_transcript.proofs.write_class.Goals as goal

pub returns-in-None : goal.returns-in-None
returns-in-None c =
    let args = c.args in
    subst (λ (q : Option ℕ). LineWritten (end_line (class_word ++ quantile_word q)) args.at
    args.out.now c.write_text.new.out
    c.write_text.result)
    (sym c.in-None.is)
    c.write_text.ensures

pub returns-in-Some : goal.returns-in-Some
returns-in-Some c =
    let args = c.args in
    subst (λ (q : Option ℕ). LineWritten (end_line (class_word ++ quantile_word q)) args.at
    args.out.now c.write_counted.new.out
    c.write_counted.result)
    (sym c.in-Some.is)
    c.write_counted.ensures
