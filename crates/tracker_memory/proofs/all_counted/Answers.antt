-- `tracker_memory::all_counted` meets its contract: two sums over the records.
use mathlib.Core.Path.{◌≡◌}
use native.Mathlib.Omega.{arith}
use lib.ListN.{take}
use Rattle.std.specs.List.{sum_by}
use Rattle.std.proofs.Common.{rules}
use Rattle.std.proofs.lemmas.Iterator.{YieldsList-from_slice, YieldsList-from_map}
use Rattle.std.proofs.lemmas.Iterator.Consumers.{sum_by_from_yields_List, fits_by_from_yields_list}
use Rattle.tracker_memory.proofs.RecordsLaws.{pending_of, arrivals_of, pending_is, arrivals_are, pending_small, arrivals_small}
use Rattle.tracker_memory.proofs.all_counted.Goals as goal
use Rattle.tracker_memory.proofs.all_counted.Goals.{After-sum-arrivals}

pub sum-pending-requires-clause-fits : goal.sum-pending-requires-clause-fits
sum-pending-requires-clause-fits c =
    let records = take c.args.settings.sites c.args.sites.records in
    fits_by_from_yields_list pending_of records c.map.result _
    (YieldsList-from_map _ pending_of (YieldsList-from_slice records cc) c.map.ensures.closure
    (λ x r q k. search rules))
    (omega (arith, pending_small c.requires.records_fit))

pub sum-arrivals-requires-clause-fits : goal.sum-arrivals-requires-clause-fits
sum-arrivals-requires-clause-fits c =
    let records = take c.args.settings.sites c.args.sites.records in
    fits_by_from_yields_list arrivals_of records c.map-2.result _
    (YieldsList-from_map _ arrivals_of (YieldsList-from_slice records cc) c.map-2.ensures.closure
    (λ x r q k. search rules))
    (omega (arith, arrivals_small c.requires.records_fit))

pending_sum : (c : After-sum-arrivals)
    → c.sum-pending.result ≡ sum_by pending_of (take c.args.settings.sites c.args.sites.records)
pending_sum c =
    let records = take c.args.settings.sites c.args.sites.records in
    sum_by_from_yields_List pending_of records c.map.result _ c.sum-pending.ensures.ran
    (YieldsList-from_map _ pending_of (YieldsList-from_slice records cc) c.map.ensures.closure
    (λ x r q k. search rules))

arrivals_sum : (c : After-sum-arrivals)
    → c.sum-arrivals.result ≡ sum_by arrivals_of (take c.args.settings.sites c.args.sites.records)
arrivals_sum c =
    let records = take c.args.settings.sites c.args.sites.records in
    sum_by_from_yields_List arrivals_of records c.map-2.result _ c.sum-arrivals.ensures.ran
    (YieldsList-from_map _ arrivals_of (YieldsList-from_slice records cc) c.map-2.ensures.closure
    (λ x r q k. search rules))

pub overflow_add-result : goal.overflow_add-result
overflow_add-result c =
    omega (
      arith,
      pending_sum c,
      pending_small c.requires.records_fit,
      c.requires.total_within,
    )

pub returns : goal.returns
returns c =
    let a = c.args in
    let enough = c.requires.records_fit.all_records in
    record {
      counted = λ memory.
          rw (
            pending_sum c,
            arrivals_sum c,
            pending_is a.settings a.settings.sites a.sites.records memory enough,
            arrivals_are a.settings a.settings.sites a.sites.records memory enough,
          );
    }
