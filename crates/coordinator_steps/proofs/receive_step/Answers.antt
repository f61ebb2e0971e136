-- By phase and kind: what the step asks gives what the function for that kind asks, and what this
-- gives is what `coordinator_receives` says.
use Rattle.coordinator_steps.proofs.Receives.{does_item, does_count, does_poll, does_probe, does_nothing}
use Rattle.coordinator_steps.proofs.StepLaws.{item_asks, count_asks, poll_asks, probe_asks}
use Rattle.coordinator_steps.proofs.receive_step.Goals as goal

pub take_item_report-requires : goal.take_item_report-requires
take_item_report-requires c =
    item_asks c.args.settings c.args.coordinator c.args.message
    c.args.memory.now c.requires c.if-message-eq-ITEM_REPORT.true

pub returns-then-message-eq-ITEM_REPORT : goal.returns-then-message-eq-ITEM_REPORT
returns-then-message-eq-ITEM_REPORT c =
    does_item c.args.settings c.args.coordinator c.args.message
    c.args.memory.now c.in-Idle.is c.if-message-eq-ITEM_REPORT.true
    c.take_item_report.ensures

pub take_count_report-requires : goal.take_count_report-requires
take_count_report-requires c =
    count_asks c.args.settings c.args.coordinator c.args.message
    c.args.memory.now c.requires c.in-Idle.is
    c.if-message-eq-ITEM_REPORT.false

pub take_poll_answer-requires : goal.take_poll_answer-requires
take_poll_answer-requires c =
    poll_asks c.args.settings c.args.coordinator c.args.message
    c.args.memory.now c.requires _ c.in-Collecting.is

pub take_probe_answer-requires : goal.take_probe_answer-requires
take_probe_answer-requires c =
    probe_asks c.args.settings c.args.coordinator c.args.message
    c.args.memory.now c.requires _ _ _ _ c.in-Probing.is

pub returns-else-message-eq-ITEM_REPORT : goal.returns-else-message-eq-ITEM_REPORT
returns-else-message-eq-ITEM_REPORT c =
    does_count c.args.settings c.args.coordinator c.args.message
    c.args.memory.now c.in-Idle.is c.if-message-eq-ITEM_REPORT.false
    c.take_count_report.ensures

pub returns-in-Collecting : goal.returns-in-Collecting
returns-in-Collecting c =
    does_poll c.args.settings c.args.coordinator c.args.message
    c.args.memory.now c.requires.memory_long _ c.in-Collecting.is
    (c.take_poll_answer.ensures c.args.memory.now)

pub returns-in-Probing : goal.returns-in-Probing
returns-in-Probing c =
    does_probe c.args.settings c.args.coordinator c.args.message
    c.args.memory.now c.requires.memory_long _ _ _ _
    c.in-Probing.is
    (c.take_probe_answer.ensures c.args.memory.now)

pub returns-in-Announcing : goal.returns-in-Announcing
returns-in-Announcing c =
    does_nothing c.args.settings c.args.coordinator c.args.message
    c.args.memory.now c.requires.memory_long _ c.in-Announcing.is
    c.keep_silent.ensures
