-- Each turn writes the line of one message.
use borrow.Author.Rules.{rules}
use Rattle.drawtrack_steps.proofs.MessageLaws.{writing_begins, writing_on, writing_ends}
use Rattle.drawtrack_steps.proofs.put_messages.Goals as goal

pub loop-done-init : goal.loop-done-init
loop-done-init c =
    writing_begins c.args.log.now c.args.count c.args.out.now
    c.requires

pub loop-done-preserved : goal.loop-done-preserved
loop-done-preserved c =
    let loop = c.loop-done in
    writing_on _ _ _ _ _ _ loop.done _ loop.invariant
    c.loop-done-test.true
    (search rules) c.write_record-place.ensures

pub returns : goal.returns
returns c =
    writing_ends _ _ _ _ _ c.loop-done.done c.loop-done.invariant c.loop-done-test.false
