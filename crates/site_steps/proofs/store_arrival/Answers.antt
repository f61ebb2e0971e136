-- `site_steps::store_arrival` meets its contract: its three calls by the laws of StoreLaws.
use mathlib.Core.Path.{◌≡◌}
use lib.ListN.{length}
use borrow.Author.Rules.{rules}
use Rattle.site_steps.proofs.StoreLaws.{count_asks, report_asks, value_place, value_small, stored_arrival}
use Rattle.site_steps.proofs.store_arrival.Goals as goal

pub count_item-counted-requires : goal.count_item-counted-requires
count_item-counted-requires c =
    let a = c.args in
    count_asks a.settings a.site a.arrival a.memory.now c.requires

pub report_counter-due-requires : goal.report_counter-due-requires
report_counter-due-requires c =
    let a = c.args in
    let counted = c.count_item-counted in
    report_asks a.settings a.site a.arrival a.memory.now c.requires
    counted.new.memory
    counted.result counted.ensures (search rules)

pub count_value-requires : goal.count_value-requires
count_value-requires c =
    let a = c.args in
    let counted = c.count_item-counted in
    let report = c.report_counter-due in
    let same-stored : length counted.new.memory ≡ length a.memory.now = search rules in
    let same-reported : length report.new.memory ≡ length counted.new.memory = search rules in (
      value_place a.settings a.site a.arrival a.memory.now c.requires
          counted.new.memory
          counted.result counted.ensures same-stored report.new.memory report.result
          report.ensures same-reported,
      value_small a.settings a.site a.arrival a.memory.now c.requires
          counted.new.memory
          counted.result counted.ensures same-stored report.new.memory report.result
          report.ensures same-reported,
    )

pub returns : goal.returns
returns c =
    let a = c.args in
    let counted = c.count_item-counted in
    let report = c.report_counter-due in
    let value = c.count_value in
    stored_arrival a.settings a.site a.arrival a.memory.now c.requires
    counted.new.memory
    counted.result counted.ensures (search rules) report.new.memory report.result
    report.ensures (search rules) value.new.memory value.ensures
    c.gone_with-gone.result c.gone_with-gone.ensures
