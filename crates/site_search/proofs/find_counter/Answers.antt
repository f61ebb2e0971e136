-- `site_search::find_counter` meets its contract. The loop's invariant: what is sought stands
-- from place i on. The measure is the number of counters left.
use borrow.Author.Rules.{rules}
use Rattle.site_search.proofs.Search.{find_start, find_end, find_here, find_on}
use Rattle.site_search.proofs.find_counter.Goals as goal

pub loop-i-init : goal.loop-i-init
loop-i-init c = find_start c.args.memory.now c.args.used c.args.item

pub loop-i-preserved : goal.loop-i-preserved
loop-i-preserved c =
    let a = c.args in
    find_on a.memory.now a.used c.loop-i.i a.item c.loop-i.invariant
    (search rules) c.if-memory-i.false

pub returns-then-used-i : goal.returns-then-used-i
returns-then-used-i c =
    let a = c.args in
    find_end a.memory.now a.used c.loop-i.i a.item c.loop-i.invariant
    (search rules)

pub returns-then-memory-i : goal.returns-then-memory-i
returns-then-memory-i c =
    let a = c.args in
    find_here a.memory.now a.used c.loop-i.i a.item c.loop-i.invariant
    (search rules) c.if-memory-i.true
