-- `tracker_memory::same_thresholds` meets its contract.
use mathlib.Core.Path.{◌∙◌}
use lib.Dec.{eqb}
use lib.ListN.{take}
use Rattle.std.proofs.Common.{rules, tests}
use Rattle.std.proofs.lemmas.Iterator.{YieldsList-from_slice}
use Rattle.std.proofs.lemmas.Iterator.Search.{all_from_yields_List}
use Rattle.model.specs.declared.SiteRecord.{SiteRecord}
use Rattle.tracker_memory.proofs.RecordsLaws.{same_is}
use Rattle.tracker_memory.proofs.same_thresholds.Goals as goal

pub returns : goal.returns
returns c =
    let a = c.args in
    let records = take a.settings.sites a.sites.records in
    record {
      same = λ memory.
          all_from_yields_List (λ (own : SiteRecord). eqb own.threshold a.threshold) _ _ _
          c.all.ensures.ran (YieldsList-from_slice records cc) (λ x b q k. search (rules, tests))
          ∙ same_is a.settings a.threshold a.settings.sites a.sites.records memory
          c.requires.all_records;
    }
