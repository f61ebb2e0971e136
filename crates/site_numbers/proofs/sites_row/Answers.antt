-- The records one by one, then the counts of messages. The loop's invariant: the numbers of the
-- first i records stand at the front.
use mathlib.Core.Path.{refl}
use borrow.Author.Rules.{rules}
use Rattle.laws.proofs.Fronts.{growing_begins}
use Rattle.site_numbers.proofs.Records.{recording_on, recording_end}
use Rattle.site_numbers.proofs.sites_row.Goals as goal

pub loop-i-init : goal.loop-i-init
loop-i-init c = growing_begins _ _ 32 refl

pub loop-i-preserved : goal.loop-i-preserved
loop-i-preserved c =
    let loop = c.loop-i in
    recording_on c.args.sites.records loop.row loop.i loop.invariant
    (search rules) c.store_site.ensures

pub returns : goal.returns
returns c =
    let loop = c.loop-i in
    recording_end c.args.sites loop.row loop.i loop.invariant (search rules)
    c.store_counts.ensures
