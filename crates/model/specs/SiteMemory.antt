-- A site in its record and lent memory: "for each slot a code, a count, an overcount and a sent
-- number; then 1024 class counts". What is read there, what is written there, and refusal 11.
--
--   site_words settings                  the numbers of one site's memory
--   site_in settings record memory       the site that record and memory hold
--   site_record site                     the record of a site
--   site_memory settings site memory     the memory with the site written into it
--   site_consistent settings record memory
use Rattle.std.specs.Prelude.{Bool, true, ◌&&◌, not, List, [], ◌∷◌, ◌++◌, ℕ, zero, suc, ◌+◌, ◌*◌, eqb, ltb, leb, length, get_or, take, drop}
use Rattle.model.specs.declared.Settings.{Settings}
use Rattle.model.specs.declared.SiteRecord.{SiteRecord}
use Rattle.model.specs.Choice.{between}
use Rattle.model.specs.Refusals.{when, ◌or_else◌, no_refusal, memory_too_short, memory_inconsistent}
use Rattle.model.specs.Limits.{value_count, site_limit}
use Rattle.model.specs.Settings.{settings_refusal}
use Rattle.model.specs.Counters.{Counter, unreported}
use Rattle.model.specs.Site.{Site}

-- ---- Read from memory

-- The numbers of the counters, and of a whole site.
abbrev pub counter_words : Settings → ℕ
counter_words settings = 4 * settings.capacity

abbrev pub site_words : Settings → ℕ
site_words settings = counter_words settings + value_count

abbrev pub counter_in : List ℕ → Counter
counter_in memory = record {
  item = get_or memory 0 0;
  count = get_or memory 1 0;
  overestimate = get_or memory 2 0;
  reported = get_or memory 3 0;
}

-- The first counters of a memory, four numbers each.
abbrev pub counters_in : ℕ → List ℕ → List Counter
counters_in zero memory = []
counters_in (suc more) memory = counter_in memory ∷ counters_in more (drop 4 memory)

abbrev pub site_in : Settings → SiteRecord → List ℕ → Site
site_in settings numbers memory = record {
  counters = counters_in numbers.used memory;
  histogram = take value_count (drop (counter_words settings) memory);
  arrivals = numbers.arrivals;
  pending = numbers.pending;
  threshold = numbers.threshold;
  dropped = numbers.dropped;
}

-- ---- Written to memory

abbrev pub site_record : Site → SiteRecord
site_record site = record {
  arrivals = site.arrivals;
  pending = site.pending;
  threshold = site.threshold;
  used = length site.counters;
  dropped = site.dropped;
}

abbrev pub counter_numbers : List Counter → List ℕ
counter_numbers [] = []
counter_numbers (counter ∷ counters) =
    counter.item ∷ (counter.count ∷ (counter.overestimate ∷ (counter.reported
    ∷ counter_numbers counters)))

-- The front of a memory overwritten; the rest stays.
abbrev pub overwrite : List ℕ → List ℕ → List ℕ
overwrite numbers memory = numbers ++ drop (length numbers) memory

-- The counters in use and the histogram written; unused counters and what lies past the end stay.
abbrev pub site_memory : Settings → Site → List ℕ → List ℕ
site_memory settings site memory =
    overwrite (counter_numbers site.counters) (take (counter_words settings) memory)
    ++ overwrite site.histogram (drop (counter_words settings) memory)

-- ---- Refusals 4 and 11

abbrev pub sum : List ℕ → ℕ
sum [] = 0
sum (x ∷ xs) = x + sum xs

-- "in a slot in use, a code not below u; .. an overcount plus sent above its count; a count above
-- draws; unsent .. not below the threshold"
abbrev pub counter_consistent : Settings → Site → Counter → Bool
counter_consistent settings site counter =
    ltb counter.item settings.universe
    && leb (counter.overestimate + counter.reported) counter.count
    && leb counter.count site.arrivals
    && ltb (unreported counter) site.threshold

abbrev pub counters_consistent : Settings → Site → List Counter → Bool
counters_consistent settings site [] = true
counters_consistent settings site (counter ∷ counters) =
    counter_consistent settings site counter && counters_consistent settings site counters

-- "slots in use above c; .. a deck above its limit; class counts not summing to draws; .. pending
-- not below the threshold; a deck's threshold 0 or above 1,000,000,000"; request N1's "A forgotten
-- sum above the deck's draws is inconsistent memory."
abbrev pub site_consistent : Settings → SiteRecord → List ℕ → Bool
site_consistent settings numbers memory =
    let site = site_in settings numbers memory in
    leb numbers.used settings.capacity
    && counters_consistent settings site site.counters
    && leb site.arrivals site_limit
    && eqb (sum site.histogram) site.arrivals
    && ltb site.pending site.threshold
    && between 1 site.threshold site_limit
    && leb site.dropped site.arrivals

-- What every call on a site tests first: 1, 2, 3; then 4, 11.
abbrev pub site_memory_refusal : Settings → SiteRecord → List ℕ → ℕ
site_memory_refusal settings numbers memory =
    settings_refusal settings
    or_else when (ltb (length memory) (site_words settings)) memory_too_short
    or_else when (not (site_consistent settings numbers memory)) memory_inconsistent
    or_else no_refusal
