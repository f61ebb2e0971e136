-- The decks before j are consistent, and those that are left decide.
use mathlib.Core.List.{List}
use Prim.Native.Nat.{◌-◌}
use lib.ListN.{replicate}
use Rattle.model.specs.declared.Settings.{Settings}
use Rattle.model.specs.declared.SiteRecord.{SiteRecord}
use Rattle.model.specs.Limits.{most_sites}
use Rattle.model.specs.Site.{fresh_site}
use Rattle.model.specs.SiteMemory.{site_record}
use Rattle.snapshot_decks.proofs.DeckLaws.{Walked}
use Rattle.snapshot_decks.proofs.test_decks.Given as goal

-- The records of sites k to 31.
abbrev pub others : Settings → List SiteRecord
others settings = replicate (most_sites - settings.sites) (site_record fresh_site)

abbrev pub invariant-loop-j : goal.invariant-loop-j
invariant-loop-j l = Walked l.settings l.file (others l.settings) l.j
