-- The records one by one, then the counts of messages. The loop's invariant: the first i records
-- are those of the row.
use mathlib.Core.Path.{refl}
use borrow.Author.Rules.{rules}
use Rattle.laws.proofs.Fronts.{growing_begins}
use Rattle.site_numbers.proofs.Records.{reading_on, reading_end}
use Rattle.site_numbers.proofs.sites_from.Goals as goal

pub loop-i-init : goal.loop-i-init
loop-i-init c = growing_begins _ _ 32 refl

pub loop-i-preserved : goal.loop-i-preserved
loop-i-preserved c =
    let loop = c.loop-i in
    reading_on c.args.row.now loop.records loop.i loop.invariant
    (search rules) c.site_at.ensures

pub returns : goal.returns
returns c =
    let loop = c.loop-i in
    let all = reading_end c.args.row.now loop.records loop.i loop.invariant
    (search rules) in
    λ j. record { records = all j; messages = c.counts_in.ensures j }
