-- `site_receiving::receive_step` meets its contract: a probe's value has its count.
use borrow.Author.Tests.{eq-eqb}
use Rattle.model.specs.Messages.{probe_kind}
use Rattle.model.proofs.BetweenArrivals.ReportLaws.{value_counted}
use Rattle.site_receiving.proofs.receive_step.Goals as goal

pub count_up_to-count-requires : goal.count_up_to-count-requires
count_up_to-count-requires c =
    let a = c.args in
    let asks = c.requires in
    let probe = eq-eqb a.message.kind probe_kind c.if-message-eq-PROBE.true in
    record {
      long_enough = asks.ready.long_enough;
      value_within = value_counted a.message.a (asks.value_known probe);
    }
