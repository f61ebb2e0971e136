-- `single_steps::take_step` meets its contract: nothing waits, or the head is for the
-- coordinator, or for a site.
use mathlib.Core.Path.{sym, ◌∙◌}
use Rattle.single_steps.proofs.calls.take_step.Goals as goal

pub ask-requires : goal.ask-requires
ask-requires c =
    let asks = c.requires.1 in
    let none = c.if-progress-eq0.true in
    record {
      not_refused = asks.not_refused;
      few_carried = asks.few_carried;
      nothing_waits = none;
      announces = asks.announces none;
    }

pub returns-then-progress-eq0 : goal.returns-then-progress-eq0
returns-then-progress-eq0 c =
    c.ask.ensures c.args.site_memory.now

pub hand_to_coordinator-requires : goal.hand_to_coordinator-requires
hand_to_coordinator-requires c =
    let asks = c.requires.1 in
    record {
      not_refused = asks.not_refused;
      few_carried = asks.few_carried;
      some = c.if-progress-eq0.false;
      few = asks.few;
      way_is = sym c.to_coordinator.ensures ∙ c.if-to_coordinator.true;
    }

pub returns-then-to_coordinator : goal.returns-then-to_coordinator
returns-then-to_coordinator c =
    c.hand_to_coordinator.ensures c.args.site_memory.now

pub hand_to_site-requires : goal.hand_to_site-requires
hand_to_site-requires c =
    let asks = c.requires.1 in (
      c.requires.0,
      record {
        not_refused = asks.not_refused;
        few_carried = asks.few_carried;
        some = c.if-progress-eq0.false;
        few = asks.few;
        way_is = sym c.to_coordinator.ensures ∙ c.if-to_coordinator.false;
      },
    )

pub returns : goal.returns
returns c =
    c.hand_to_site.ensures c.args.coordinator_memory.now
