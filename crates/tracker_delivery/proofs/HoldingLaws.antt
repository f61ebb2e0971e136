-- A state that holds a delivery: what is read from it, and what it holds when a message went out,
-- the coordinator was changed or a site was changed.
--
--   Stored                     sites and coordinator have the sizes that the settings say
--   site_read                  a site, read from its record and its part of the memory
--   coordinator_read           the coordinator, read from its record and memory
--   countable                  a message that names a site of the network can be counted
--   holds_sent, holds_answer   a message went out; the answer of a step, if there is one
--   holds_coordinator          the coordinator changed
--   holds_site                 one site changed
use mathlib.Core.Path.{◌≡◌, sym, ap, ◌∙◌}
use mathlib.Core.List.{List, [], ◌∷◌, ◌++◌, append_assoc, append-nil}
use Prim.Native.Nat.{ℕ, suc, ◌+◌, ◌*◌, ◌≤◌, ◌<◌}
use native.Mathlib.Nat.{mul-le-mul_right}
use native.Mathlib.Omega.{arith}
use lib.ListN.{length, get_or, set, drop, length-append, length-drop}
use Rattle.laws.proofs.Lists.{length_snoc}
use Rattle.laws.proofs.FlatMemory.{length_overwritten}
use Rattle.model.specs.declared.Settings.{Settings}
use Rattle.model.specs.declared.Message.{Message}
use Rattle.model.specs.declared.SiteRecord.{SiteRecord}
use Rattle.model.specs.declared.CoordinatorRecord.{CoordinatorRecord}
use Rattle.model.specs.Limits.{value_count}
use Rattle.model.specs.Messages.{message_width, no_message}
use Rattle.model.specs.Site.{Site, one_more_at}
use Rattle.model.specs.SiteMemory.{site_words, site_in, site_record}
use Rattle.model.specs.Coordinator.{Coordinator}
use Rattle.model.specs.CoordinatorMemory.{coordinator_in, coordinator_record, coordinator_memory}
use Rattle.model.specs.Network.{Network, site_at, with_site, with_coordinator}
use Rattle.model.specs.MessageCounts.{count_at, counted_up}
use Rattle.model.specs.NetworkMemory.{sites_memory}
use Rattle.model.specs.DeliveryClaims.{Delivery, delivery}
use Rattle.model.proofs.Thresholds.SettingsLaws.{settled}
use Rattle.model.proofs.MessageCount.CountLaws.{count_le, counted_up_append}
use Rattle.coordinator_kinds.proofs.MemoryLaws.{written_coordinator}
use Rattle.site_memory.proofs.OneSite.{overwritten_again}
use Rattle.site_memory.proofs.SitePart.{few_sites}
use Rattle.site_memory.proofs.SitesMemoryLaws.{AllStorable, get_d_site_records, site_records_set, length_sites_memory}
use Rattle.site_memory.proofs.SitesReading.{site_in_sites_memory}
use Rattle.tracker_queue.specs.declared.Queue.{Queue}
use Rattle.tracker_queue.specs.Log.{message_numbers, put_record}
use Rattle.model.specs.Held.{no_record, with_record}
use Rattle.tracker_queue.specs.Sending.{queue_of, sent, Countable, SendAsks}
use Rattle.tracker_delivery.specs.UnderwayParts.{Underway, traffic_of}
use Rattle.tracker_delivery.specs.Holding.{WithLog, Carrying, carrying, underway_in, with_messages, answered, Holds, Fits}
use Rattle.tracker_queue.proofs.LogLaws.{length_message_numbers, put_record_append, joined_queue_of}

-- ---- Sizes

pub record StoredCoordinator (settings : Settings) (c : Coordinator) : Type 0 where
  pub estimates_length : length c.estimates ≡ settings.universe
  pub histogram_length : length c.histogram ≡ value_count

pub record Stored (settings : Settings) (network : Network) : Type 0 where
  pub all_sites : length network.sites ≡ settings.sites
  pub sites_stored : AllStorable settings network.sites
  pub coordinator_stored : StoredCoordinator settings network.coordinator

-- ---- Read from a state

module _ {settings : Settings} {given : WithLog} {earlier : List Message} {d : Delivery}
    {carry : Carrying}
    (fits : Fits settings given)
    (stored : Stored settings d.network)
    (holds : Holds settings given earlier d carry) where
  memory_enough : length d.network.sites * site_words settings ≤ length given.held.site_memory
  memory_enough = rw stored.all_sites fits.site_memory_long

  pub record_read : (j : ℕ) → j < settings.sites
      → get_or carry.held.sites.records j no_record ≡ site_record (site_at d.network j)
  record_read j j< =
      ap (λ (numbers : List SiteRecord). get_or numbers j no_record) holds.records
      ∙ get_d_site_records no_record d.network.sites given.held.sites.records j
      (omega (arith, stored.all_sites)) (omega (arith, stored.all_sites, fits.all_records))

  pub memory_length : length carry.held.site_memory ≡ length given.held.site_memory
  memory_length =
      ap length holds.site_memory
      ∙ length_sites_memory settings d.network.sites given.held.site_memory
      stored.sites_stored memory_enough

  -- The part of a site is long enough, and starts within the memory.
  pub part_long : (j : ℕ) → j < settings.sites
      → site_words settings ≤ length (drop (j * site_words settings) carry.held.site_memory)
  part_long j j< =
      let more : suc j * site_words settings ≤ settings.sites * site_words settings =
      mul-le-mul_right (site_words settings) j< in
      rw (length-drop (j * site_words settings) carry.held.site_memory, memory_length)
      (omega (arith, fits.site_memory_long))

  pub part_starts : (j : ℕ) → j < settings.sites
      → j * site_words settings ≤ length carry.held.site_memory
  part_starts j j< =
      let more : suc j * site_words settings ≤ settings.sites * site_words settings =
      mul-le-mul_right (site_words settings) j< in
      omega (arith, memory_length, fits.site_memory_long)

  pub site_read : (j : ℕ) → j < settings.sites
      → site_in settings (get_or carry.held.sites.records j no_record)
      (drop (j * site_words settings) carry.held.site_memory)
      ≡ site_at d.network j
  site_read j j< =
      ap (λ (numbers : SiteRecord).
      site_in settings numbers (drop (j * site_words settings) carry.held.site_memory))
      (record_read j j<)
      ∙ ap (λ (memory : List ℕ).
      site_in settings (site_record (site_at d.network j)) (drop (j * site_words settings) memory))
      holds.site_memory
      ∙ site_in_sites_memory settings d.network.sites given.held.site_memory j
      stored.sites_stored memory_enough (omega (arith, stored.all_sites))

  pub coordinator_read :
      coordinator_in settings carry.held.coordinator carry.held.coordinator_memory
      ≡ d.network.coordinator
  coordinator_read =
      ap (λ (numbers : CoordinatorRecord).
      coordinator_in settings numbers carry.held.coordinator_memory)
      holds.coordinator
      ∙ ap (coordinator_in settings (coordinator_record d.network.coordinator))
      holds.coordinator_memory
      ∙ written_coordinator settings d.network.coordinator given.held.coordinator_memory
      stored.coordinator_stored.estimates_length stored.coordinator_stored.histogram_length

  pub coordinator_memory_length :
      length carry.held.coordinator_memory ≡ length given.held.coordinator_memory
  coordinator_memory_length =
      let c = d.network.coordinator in
      ap length holds.coordinator_memory
      ∙ length_overwritten (c.estimates ++ c.histogram) given.held.coordinator_memory
      (rw (length-append c.estimates c.histogram)
      (omega (
        arith,
        stored.coordinator_stored.estimates_length,
        stored.coordinator_stored.histogram_length,
        fits.coordinator_memory_long,
      )))

-- ---- Messages go out

module _ {settings : Settings} {given : WithLog} {earlier : List Message} where
  -- Room for the messages so far and so many more, four numbers each.
  pub log_length : {d : Delivery} {carry : Carrying}
      → Holds settings given earlier d carry
      → message_width * length (earlier ++ d.log) ≤ length given.log
      → length carry.log ≡ length given.log
  log_length {d} holds room =
      ap length holds.log
      ∙ length_overwritten (message_numbers (earlier ++ d.log)) given.log
      (omega (arith, length_message_numbers (earlier ++ d.log)))

  -- Its count was within the limit, and has grown by no more than all that was written.
  pub countable : {d : Delivery} {carry : Carrying} (m : Message)
      → Fits settings given
      → Holds settings given earlier d carry
      → m.site < settings.sites
      → Countable carry.held.sites.messages carry.written m
  countable {d} m fits holds known = record {
    site_few = few_sites (settled settings fits.settings_accepted) known;
    count_within =
        omega (
          arith,
          ap (λ (counts : List ℕ). count_at counts m.site) holds.counted,
          count_le given.held.sites.messages (earlier ++ d.log) m.site,
          holds.written,
          fits.few_counted m.site known,
        );
  }

  pub send_asks : {d : Delivery} {carry : Carrying} (m : Message)
      → Fits settings given
      → Holds settings given earlier d carry
      → m.site < settings.sites
      → message_width * length (earlier ++ d.log) + message_width ≤ length given.log
      → SendAsks (traffic_of (underway_in carry)) m carry.held.sites.messages carry.log
  send_asks m fits holds known room = record {
    room = omega (arith, log_length holds (omega arith), holds.written);
    countable = countable m fits holds known;
  }

  pub holds_sent : {network : Network} {waiting log : List Message} {carry : Carrying} (m : Message)
      → Holds settings given earlier (delivery network waiting log) carry
      → length waiting ≤ 1
      → message_width * length (earlier ++ log) + message_width ≤ length given.log
      → Holds settings given earlier
      (delivery network (waiting ++ (m ∷ [])) (log ++ (m ∷ [])))
      (with_messages carry (sent (traffic_of (underway_in carry)) m)
      (one_more_at carry.held.sites.messages m.site)
      (put_record carry.log carry.written m))
  holds_sent {network} {waiting} {log} {carry} m holds few room =
      let all : earlier ++ (log ++ (m ∷ [])) ≡ (earlier ++ log) ++ (m ∷ []) =
      sym (append_assoc earlier log (m ∷ [])) in
      let more : length (earlier ++ (log ++ (m ∷ []))) ≡ length (earlier ++ log) + 1 =
      ap length all ∙ length_snoc (earlier ++ log) m in
      record {
        records = holds.records;
        counted =
            ap (λ (counts : List ℕ). one_more_at counts m.site) holds.counted
            ∙ sym (ap (counted_up given.held.sites.messages) all
            ∙ counted_up_append given.held.sites.messages (earlier ++ log) (m ∷ []));
        coordinator = holds.coordinator;
        written = omega (arith, holds.written, more);
        waiting = rw holds.waiting (joined_queue_of waiting m few);
        site_memory = holds.site_memory;
        coordinator_memory = holds.coordinator_memory;
        log = rw (holds.log, holds.written, all)
            (put_record_append (earlier ++ log) m given.log room);
      }

  -- A step answers with one message, or with none.
  pub holds_answer : {network : Network} {waiting log : List Message} {carry : Carrying}
      (out : List Message) (count : ℕ) (m : Message)
      → Holds settings given earlier (delivery network waiting log) carry
      → length out ≤ 1
      → count ≡ length out
      → m ≡ get_or out 0 no_message
      → length waiting ≤ 1
      → message_width * length (earlier ++ (log ++ out)) ≤ length given.log
      → Holds settings given earlier (delivery network (waiting ++ out) (log ++ out))
      (answered count m carry)
  holds_answer {network} {waiting} {log} {carry} [] count m holds one count_is m-is few room =
      rw (count_is, append-nil waiting, append-nil log) holds
  holds_answer {network} {waiting} {log} {carry} (x ∷ []) count m holds one count_is m-is few room =
      let more : length (earlier ++ (log ++ (x ∷ []))) ≡ length (earlier ++ log) + 1 =
      ap length (sym (append_assoc earlier log (x ∷ []))) ∙ length_snoc (earlier ++ log) x in
      rw (count_is, m-is) (holds_sent x holds few (omega arith))
  holds_answer (x ∷ (y ∷ out)) count m holds one count_is m-is few room = absurd (omega arith)

-- ---- The network changed

module _ {settings : Settings} {given : WithLog} {earlier : List Message}
    {network : Network} {waiting log : List Message} {carry : Carrying}
    (holds : Holds settings given earlier (delivery network waiting log) carry) where
  abbrev with_waiting : CoordinatorRecord → Queue → Underway
  with_waiting numbers queue = record {
    sites = carry.held.sites;
    coordinator = numbers;
    written = carry.written;
    waiting = queue;
  }

  pub holds_coordinator : (c : Coordinator) (later : List Message) (numbers : CoordinatorRecord)
      (queue : Queue) (memory : List ℕ)
      → numbers ≡ coordinator_record c
      → queue ≡ queue_of later
      → memory ≡ coordinator_memory c given.held.coordinator_memory
      → Holds settings given earlier (delivery (with_coordinator network c) later log)
      (carrying (with_waiting numbers queue) carry.held.site_memory memory carry.log)
  holds_coordinator c later numbers queue memory numbers_are queue-is memory_is = record {
    records = holds.records;
    counted = holds.counted;
    coordinator = numbers_are;
    written = holds.written;
    waiting = queue-is;
    site_memory = holds.site_memory;
    coordinator_memory = memory_is;
    log = holds.log;
  }

  -- The coordinator written over what a step found in memory.
  pub coordinator_again : (c : Coordinator)
      → StoredCoordinator settings network.coordinator
      → StoredCoordinator settings c
      → coordinator_memory c carry.held.coordinator_memory
      ≡ coordinator_memory c given.held.coordinator_memory
  coordinator_again c old new =
      let was = network.coordinator in
      let same : length (was.estimates ++ was.histogram) ≤ length (c.estimates ++ c.histogram) =
      rw (
        length-append was.estimates was.histogram,
        length-append c.estimates c.histogram,
      )
      (omega (
        arith,
        old.estimates_length,
        old.histogram_length,
        new.estimates_length,
        new.histogram_length,
      )) in
      ap (coordinator_memory c) holds.coordinator_memory
      ∙ overwritten_again (c.estimates ++ c.histogram) (was.estimates ++ was.histogram)
      given.held.coordinator_memory same

  abbrev with_site_record : ℕ → SiteRecord → Queue → Underway
  with_site_record j numbers queue = record {
    sites = with_record carry.held.sites j numbers;
    coordinator = carry.held.coordinator;
    written = carry.written;
    waiting = queue;
  }

  pub holds_site : (j : ℕ) (site : Site) (later : List Message) (numbers : SiteRecord)
      (queue : Queue) (memory : List ℕ)
      → j < length network.sites
      → numbers ≡ site_record site
      → queue ≡ queue_of later
      → memory ≡ sites_memory settings (set network.sites j site) given.held.site_memory
      → Holds settings given earlier (delivery (with_site network j site) later log)
      (carrying (with_site_record j numbers queue) memory carry.held.coordinator_memory
      carry.log)
  holds_site j site later numbers queue memory inside numbers_are queue-is memory_is = record {
    records = rw (numbers_are, holds.records)
        (site_records_set network.sites given.held.sites.records j site inside);
    counted = holds.counted;
    coordinator = holds.coordinator;
    written = holds.written;
    waiting = queue-is;
    site_memory = memory_is;
    coordinator_memory = holds.coordinator_memory;
    log = holds.log;
  }
