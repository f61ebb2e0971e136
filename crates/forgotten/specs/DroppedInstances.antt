-- The instances of request N1, in one table: who leaves, with how many unsent draws, and that every
-- draw is reported, unreported or forgotten. The theorem `dropped-instances` of
-- proofs/Dropped/Instances.antt proves them all.
--
--   left item unreported      a replacement at site 0
--   site_after arrivals       site 0 after these, settings A
--   DroppedInstances          the table
use Rattle.std.specs.Prelude.{◌≡◌, List, [], ◌∷◌, ◌++◌, ℕ}
use Rattle.model.specs.declared.Arrival.{Arrival}
use Rattle.model.specs.declared.SiteRecord.{SiteRecord}
use Rattle.model.specs.Counters.{counter_at, unreported, unreported_in}
use Rattle.model.specs.Site.{Site, observed}
use Rattle.model.specs.SiteMemory.{site_in, site_record, site_memory, site_memory_refusal}
use Rattle.model.specs.Network.{site_at}
use Rattle.model.specs.Runs.{run_of}
use Rattle.forgotten.specs.Departures.{Departure, departures, dropped_at, reported_at, count_at}
use Rattle.model.specs.Instances.{settings_a, arrival_with, draws, items_once, counter_with}
use Rattle.model.specs.Edges.Inputs.{site_numbers, end_counts}

-- ---- From a fresh start, under settings A

abbrev pub left : ℕ → ℕ → Departure
left item gone = record { site = 0; item = item; unreported = gone }

abbrev pub site_after : List Arrival → Site
site_after arrivals = site_at (run_of settings_a arrivals).network 0

abbrev pub reported_after : List Arrival → ℕ
reported_after arrivals = reported_at 0 (run_of settings_a arrivals).messages

-- Six draws of code 7, then codes 0 to 4 once each, then code 5.
abbrev pub twelve_draws : List Arrival
twelve_draws = draws 6 ++ items_once 6

-- And codes 0, 1, 2, 3, 4 again, each of which takes the slot of the next but the last: that takes
-- the slot of code 0.
abbrev pub seventeen_draws : List Arrival
seventeen_draws = twelve_draws ++ items_once 5

-- ---- Memory that never arose

-- Six slots of count 5 with nothing sent, at nine draws, all of them forgotten, and threshold 6.
abbrev pub forged_record : SiteRecord
forged_record = site_numbers 9 0 6 6 9

abbrev pub forged_memory : List ℕ
forged_memory =
    (0 ∷ 5 ∷ 0 ∷ 0 ∷ 1 ∷ 5 ∷ 0 ∷ 0 ∷ 2 ∷ 5 ∷ 0 ∷ 0 ∷ [])
    ++ (3 ∷ 5 ∷ 0 ∷ 0 ∷ 4 ∷ 5 ∷ 0 ∷ 0 ∷ 5 ∷ 5 ∷ 0 ∷ 0 ∷ [])
    ++ end_counts 9 0

-- A draw of a seventh code there.
abbrev pub forged_after : Site
forged_after =
    (observed settings_a (site_in settings_a forged_record forged_memory) (arrival_with 0 9 3)).site

-- ---- The table

pub record DroppedInstances : Type 0 where
  -- P5, codes 0 to 6 once each: "code 0 leaves with 0 unsent (its draw was sent at threshold 1)"
  pub p5_leaves : departures settings_a (items_once 7) ≡ left 0 0 ∷ []
  pub p5_dropped : (site_after (items_once 7)).dropped ≡ 0
  -- 6 + 1 + 0 = 7 "where code 6 has unsent 1"
  pub p5_reported : reported_after (items_once 7) ≡ 6
  pub p5_unreported : unreported_in (site_after (items_once 7)).counters ≡ 1
  pub p5_code_6 : unreported (counter_at (site_after (items_once 7)).counters 0) ≡ 1
  pub p5_draws : (site_after (items_once 7)).arrivals ≡ 7
  -- twelve draws: "code 5 replaces code 0, which leaves with 1 unsent: dropped 1"; 6 + 5 + 1 = 12
  pub twelve_leaves : departures settings_a twelve_draws ≡ left 0 1 ∷ []
  pub twelve_slots : (site_after twelve_draws).counters
      ≡ counter_with 7 6 0 6 ∷ counter_with 5 2 1 0 ∷ counter_with 1 1 0 0
      ∷ counter_with 2 1 0 0 ∷ counter_with 3 1 0 0 ∷ counter_with 4 1 0 0 ∷ []
  pub twelve_dropped : (site_after twelve_draws).dropped ≡ 1
  pub twelve_reported : reported_after twelve_draws ≡ 6
  pub twelve_unreported : unreported_in (site_after twelve_draws).counters ≡ 5
  -- a code that comes back and leaves again has two; 6 + 5 + 6 = 17
  pub twice : departures settings_a seventeen_draws
      ≡ left 0 1 ∷ left 1 1 ∷ left 2 1 ∷ left 3 1 ∷ left 4 1 ∷ left 0 1 ∷ []
  pub twice_dropped : (site_after seventeen_draws).dropped ≡ 6
  pub twice_reported : reported_after seventeen_draws ≡ 6
  pub twice_unreported : unreported_in (site_after seventeen_draws).counters ≡ 5
  -- the sums go by site
  pub dropped_at_lem : dropped_at 1 (left 0 4 ∷ record { site = 1; item = 3; unreported = 2 } ∷ [])
      ≡ 2
  pub count_at : count_at 1 (arrival_with 1 0 1 ∷ arrival_with 0 1 1 ∷ arrival_with 1 9 9 ∷ []) ≡ 2
  -- memory that never arose: it passes, its draw is accepted, and then its sum is above its draws
  pub forged_passes : site_memory_refusal settings_a forged_record forged_memory ≡ 0
  pub forged_record_lem : site_record forged_after ≡ site_numbers 10 1 6 6 14
  pub forged_refused : site_memory_refusal settings_a (site_record forged_after)
      (site_memory settings_a forged_after forged_memory) ≡ 11
