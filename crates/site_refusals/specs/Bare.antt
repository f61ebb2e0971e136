-- A site by its record alone.
--
--   bare_site numbers   what the tests of an arrival and a message look at
use Rattle.std.specs.Prelude.{[]}
use Rattle.model.specs.declared.SiteRecord.{SiteRecord}
use Rattle.model.specs.Site.{Site}

-- The site of a record alone, for tests that look at the single numbers: no counter, no value.
abbrev pub bare_site : SiteRecord → Site
bare_site numbers = record {
  counters = [];
  histogram = [];
  arrivals = numbers.arrivals;
  pending = numbers.pending;
  threshold = numbers.threshold;
  dropped = numbers.dropped;
}
