-- Records as rows of numbers, in the order in which document 01 names them, and back. A list of
-- numbers may be longer than the record; the rest is not looked at.
--
--   narrowed n                           the nearest number of four bytes
--   settings_numbers, settings_from      k, e, p, q, c, u
--   arrival_from                         deck, code, class
--   message_numbers, message_from        kind, deck, a, b
--   message_read                         the same from numbers of eight bytes
--   site_numbers, site_from              draws, pending, threshold, slots in use, forgotten draws
--   counts_from                          so many numbers from a place on; 0 past the last
--   sites_numbers, sites_from            the records of 32 decks, then their counts of messages
--   phase_numbers, phase_from            0 idle, 1 collecting, 2 probing or 3 announcing; then
--                                        deck, low, high and sum, those not in use 0
--   coordinator_numbers, coordinator_from  total, base, threshold, signals, class, and the phase
--   phase_well, phase_well_in, coordinator_well  whether numbers are those of the record made from
--                                        them
--   coordinator_read numbers             the record made from them where they are, else
--                                        `no_coordinator`, all numbers 0
use Rattle.std.specs.Prelude.{Bool, true, ◌&&◌, List, [], ◌∷◌, ◌++◌, ℕ, zero, suc, min, max, ◌+◌, ◌*◌, leb, eqb, get_or, if◌then◌else◌}
use Rattle.model.specs.declared.Settings.{Settings}
use Rattle.model.specs.declared.Arrival.{Arrival}
use Rattle.model.specs.declared.Message.{Message}
use Rattle.model.specs.declared.SiteRecord.{SiteRecord}
use Rattle.model.specs.declared.Sites.{Sites}
use Rattle.model.specs.declared.Phase.{Phase}
use Rattle.model.specs.declared.Phase.TheVariants.{Idle, Collecting, Probing, Announcing}
use Rattle.model.specs.declared.CoordinatorRecord.{CoordinatorRecord}
use Rattle.record_numbers.specs.declared.PhaseNumbers.{PhaseNumbers}
use Rattle.model.specs.Choice.{is_zero}
use Rattle.model.specs.Limits.{most_sites}
use Rattle.model.specs.Held.{no_record}
use Rattle.model.specs.Messages.{message}
use Rattle.model.specs.Settings.{settings_with}

-- ---- Settings, draws and messages

-- The greatest number of four bytes, and the nearest to a number.
abbrev pub greatest_narrow : ℕ
greatest_narrow = 4294967295

abbrev pub narrowed : ℕ → ℕ
narrowed n = min n greatest_narrow

-- Six numbers: k, e, p, q, c, u.
abbrev pub settings_width : ℕ
settings_width = 6

abbrev pub settings_numbers : Settings → List ℕ
settings_numbers settings =
    settings.sites ∷ (settings.epsilon ∷ (settings.phi ∷ (settings.rank
    ∷ (settings.capacity ∷ (settings.universe ∷ [])))))

abbrev pub settings_from : List ℕ → Settings
settings_from numbers =
    settings_with
    (get_or numbers 0 0)
    (get_or numbers 1 0)
    (get_or numbers 2 0)
    (get_or numbers 3 0)
    (get_or numbers 4 0)
    (get_or numbers 5 0)

-- Site, item, value.
abbrev pub arrival_from : List ℕ → Arrival
arrival_from numbers = record {
  site = get_or numbers 0 0;
  item = get_or numbers 1 0;
  value = get_or numbers 2 0;
}

-- Kind, site, a, b.
abbrev pub message_numbers : Message → List ℕ
message_numbers m = m.kind ∷ (m.site ∷ (m.a ∷ (m.b ∷ [])))

abbrev pub message_from : List ℕ → Message
message_from numbers =
    message (get_or numbers 0 0) (get_or numbers 1 0) (get_or numbers 2 0) (get_or numbers 3 0)

-- A kind or a site that needs more than four bytes becomes the greatest that does not, which is no
-- kind and no site either.
abbrev pub message_read : List ℕ → Message
message_read numbers =
    message (narrowed (get_or numbers 0 0)) (narrowed (get_or numbers 1 0)) (get_or numbers 2 0)
    (get_or numbers 3 0)

-- ---- Sites

-- A record's numbers, the place of the first count of messages behind all records, and all of them.
abbrev pub site_width : ℕ
site_width = 5

abbrev pub count_place : ℕ
count_place = site_width * most_sites

abbrev pub sites_width : ℕ
sites_width = count_place + most_sites

-- Arrivals, pending, threshold, used, dropped: the record whose numbers begin at a place.
abbrev pub site_at : List ℕ → ℕ → SiteRecord
site_at numbers at = record {
  arrivals = get_or numbers at 0;
  pending = get_or numbers (at + 1) 0;
  threshold = get_or numbers (at + 2) 0;
  used = get_or numbers (at + 3) 0;
  dropped = get_or numbers (at + 4) 0;
}

abbrev pub site_from : List ℕ → SiteRecord
site_from numbers = site_at numbers 0

-- The same five, in the same order.
abbrev pub site_numbers : SiteRecord → List ℕ
site_numbers site =
    site.arrivals ∷ (site.pending ∷ (site.threshold ∷ (site.used ∷ (site.dropped ∷ []))))

-- The first n records of the numbers.
abbrev pub records_from : ℕ → List ℕ → List SiteRecord
records_from zero numbers = []
records_from (suc n) numbers = records_from n numbers ++ (site_at numbers (site_width * n) ∷ [])

-- So many numbers from a place on.
abbrev pub counts_from : ℕ → ℕ → List ℕ → List ℕ
counts_from zero at numbers = []
counts_from (suc n) at numbers = counts_from n at numbers ++ (get_or numbers (at + n) 0 ∷ [])

-- All 32 records, then the count of messages of each site.
abbrev pub sites_from : List ℕ → Sites
sites_from numbers = record {
  records = records_from most_sites numbers;
  messages = counts_from most_sites count_place numbers;
}

-- The numbers of the first n records.
abbrev pub records_numbers : ℕ → List SiteRecord → List ℕ
records_numbers zero records = []
records_numbers (suc n) records = records_numbers n records ++ site_numbers
    (get_or records n no_record)

-- Those of all 32, then the 32 counts.
abbrev pub sites_numbers : Sites → List ℕ
sites_numbers sites =
    records_numbers most_sites sites.records ++ counts_from most_sites 0 sites.messages

-- ---- The coordinator

-- 0 idle, 1 collecting, 2 probing, 3 announcing; those numbers that the phase has not are not
-- looked at.
abbrev pub phase_from : ℕ → ℕ → ℕ → ℕ → ℕ → Phase
phase_from which site low high sum =
    if eqb which 0 then Idle
    else (if eqb which 1 then Collecting site
    else (if eqb which 2 then Probing site low high sum
    else Announcing site))

-- Total, base, threshold, signals, quantile; then the phase: which, site, low, high, sum.
abbrev pub coordinator_width : ℕ
coordinator_width = 10

abbrev pub coordinator_from : List ℕ → CoordinatorRecord
coordinator_from numbers = record {
  total = get_or numbers 0 0;
  base = get_or numbers 1 0;
  threshold = get_or numbers 2 0;
  signals = get_or numbers 3 0;
  quantile = get_or numbers 4 0;
  phase =
      phase_from
      (get_or numbers 5 0)
      (get_or numbers 6 0)
      (get_or numbers 7 0)
      (get_or numbers 8 0)
      (get_or numbers 9 0);
}

-- The greatest of the numbers that the record holds in four bytes.
abbrev pub greatest_held : List ℕ → ℕ
greatest_held numbers =
    max
    (max (get_or numbers 3 0) (get_or numbers 4 0))
    (max (get_or numbers 6 0) (max (get_or numbers 7 0) (get_or numbers 8 0)))

-- The five numbers of a phase.
abbrev pub phase_of : ℕ → ℕ → ℕ → ℕ → ℕ → PhaseNumbers
phase_of which site low high sum = record {
  which = which;
  site = site;
  low = low;
  high = high;
  sum = sum;
}

-- The numbers that a phase has not are 0.
abbrev pub phase_numbers : Phase → PhaseNumbers
phase_numbers Idle = phase_of 0 0 0 0 0
phase_numbers (Collecting site) = phase_of 1 site 0 0 0
phase_numbers (Probing site low high sum) = phase_of 2 site low high sum
phase_numbers (Announcing site) = phase_of 3 site 0 0 0

-- The record's ten numbers, the last five of them those of its phase.
abbrev pub ten_numbers : CoordinatorRecord → PhaseNumbers → List ℕ
ten_numbers c phase =
    c.total ∷ (c.base ∷ (c.threshold ∷ (c.signals ∷ (c.quantile
    ∷ (phase.which ∷ (phase.site ∷ (phase.low ∷ (phase.high ∷ (phase.sum ∷ [])))))))))

-- The ten numbers of a record.
abbrev pub coordinator_numbers : CoordinatorRecord → List ℕ
coordinator_numbers c = ten_numbers c (phase_numbers c.phase)

-- ---- Well formed

-- A phase's number is at most 3, and the numbers that it has not are 0.
abbrev pub phase_well : ℕ → ℕ → ℕ → ℕ → ℕ → Bool
phase_well which site low high sum =
    if eqb which 0 then is_zero (site + low + high + sum)
    else (if eqb which 2 then true
    else leb which 3 && is_zero (low + high + sum))

-- The last five of a record's numbers.
abbrev pub phase_well_in : List ℕ → Bool
phase_well_in numbers =
    phase_well
    (get_or numbers 5 0)
    (get_or numbers 6 0)
    (get_or numbers 7 0)
    (get_or numbers 8 0)
    (get_or numbers 9 0)

-- What the record holds in four bytes fits them, and the last five are a phase's.
abbrev pub coordinator_well : List ℕ → Bool
coordinator_well numbers = leb (greatest_held numbers) greatest_narrow && phase_well_in numbers

-- All numbers 0. Its threshold is none that a base gives, so with any memory it is inconsistent.
abbrev pub no_coordinator : CoordinatorRecord
no_coordinator = record {
  total = 0;
  base = 0;
  threshold = 0;
  signals = 0;
  quantile = 0;
  phase = Idle;
}

-- Numbers that are no record stand for one that is inconsistent, so that every call refuses them
-- by 11, in its place in the order.
abbrev pub coordinator_read : List ℕ → CoordinatorRecord
coordinator_read numbers =
    if coordinator_well numbers then coordinator_from numbers else no_coordinator
