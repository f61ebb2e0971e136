-- What is held, number by number, from what the two start calls left: the network that is held
-- written over it, and nothing else. Each step that writes sites writes sites with no fewer
-- counters over those that were there, so what stood there before them is written over too.
--
--   FromStart settings start held    tails as at the start; the sites' memory as if written once
--   from_step                        kept by every step
--   held_whole                       all that is held
use mathlib.Core.Path.{◌≡◌, sym, ap, ◌∙◌, subst}
use mathlib.Core.Bool.{true}
use mathlib.Core.List.{List, ◌++◌}
use Prim.Native.Nat.{ℕ, ◌*◌, ◌≤◌}
use native.Mathlib.Omega.{arith}
use lib.ListN.{length, take, drop}
use Rattle.model.specs.declared.Settings.{Settings}
use Rattle.model.specs.declared.Arrival.{Arrival}
use Rattle.model.specs.declared.Message.{Message}
use Rattle.model.specs.declared.SiteRecord.{SiteRecord}
use Rattle.model.specs.Refusals.{no_refusal}
use Rattle.model.specs.Limits.{most_sites}
use Rattle.model.specs.Settings.{settings_refusal}
use Rattle.model.specs.Draws.{is_draw}
use Rattle.model.specs.Site.{site_receives}
use Rattle.model.specs.SiteMemory.{site_words, site_memory}
use Rattle.model.specs.Network.{Network, site_at}
use Rattle.model.specs.NetworkMemory.{sites_words, sites_memory}
use Rattle.model.specs.Runs.{run_of}
use Rattle.model.specs.MessageCounts.{none_counted, counted_up}
use Rattle.model.proofs.Thresholds.SettingsLaws.{settled}
use Rattle.model.proofs.Soundness.NeverFewer.{counters_kept, values_kept, NoFewer, observed_grows, run_no_fewer}
use Rattle.site_memory.proofs.SitesMemoryLaws.{all_storable, sites_memory_set, sites_memory_kept}
use Rattle.site_memory.proofs.SitesReading.{sites_memory_sites_in}
use Rattle.site_memory.proofs.SitesFronts.{sites_memory_again}
use Rattle.site.specs.Calls.{Observation, ObserveSays}
use Rattle.tracker.specs.Batch.{BatchHeld, BatchSays, batch_in}
use Rattle.history.specs.State.{Held, State, AtRest, network_of, network_written, record_at, site_start, site_part, after_site_call, no_record}
use Rattle.history.specs.Steps.{batch_call, after_batch, after_single, batch, single, Delivers, to_coordinator_lem, to_site, next_announcement, Step, arrives, delivers, refuses}
use Rattle.history.specs.Frame.{TailsKept}
use Rattle.history.proofs.WrittenAgain.{records_over, coordinator_over}
use Rattle.history.proofs.Decoded.{Lengths, SitesSound, used_at, memory_then, network_site_told}
use Rattle.history.proofs.Underway.{SoundRest, Underway, in_mid}
use Rattle.history.proofs.Invariant.{StateOk, Standing, resting, delivering}
use Rattle.history.proofs.Accepted.{resting_of, sound_rest_of}
use Rattle.history.proofs.BatchedState.{network_written_lem}
use Rattle.history.proofs.BatchedState as Batched
use Rattle.history.proofs.LentBatch.{of_lent_batch}
use Rattle.history.proofs.SingleState as Single
use Rattle.history.proofs.ToSite as ToSite
use Rattle.history.proofs.DeliveredState.{none_at_rest}
use Rattle.history.proofs.Refused.{refused_same}
use Rattle.history.proofs.Kept.{kept_self, single_kept, delivery_kept, tails_kept}

-- The sites' memory is the sites that it holds, written once over what was there at the start.
abbrev pub WrittenOver : Settings → List ℕ → Held → Type 0
WrittenOver settings start held =
    held.site_memory ≡ sites_memory settings (network_of settings held).sites start

pub record FromStart (settings : Settings) (start held : Held) : Type 0 where
  pub same_records : length start.sites.records ≡ most_sites
  pub start_long : sites_words settings ≤ length start.site_memory
  pub tails : TailsKept settings start held
  pub site_memory : WrittenOver settings start.site_memory held

-- ---- At the start

-- What is read and written again at once changes nothing.
pub from_self : {settings : Settings} (passes : settings_refusal settings ≡ no_refusal)
    (held : Held)
    → Lengths settings held
    → SitesSound settings held
    → FromStart settings held held
from_self {settings} passes held lengths sites_sound =
    let enough : settings.sites ≤ length held.sites.records =
    omega (arith, lengths.all_records, (settled settings passes).sites.at_most) in
    record {
      same_records = lengths.all_records;
      start_long = lengths.sites_long;
      tails = kept_self settings held;
      site_memory =
          sym (sites_memory_sites_in no_record settings.sites settings
          held.sites.records held.site_memory
          (λ j known. used_at passes held lengths sites_sound j known)
          enough lengths.sites_long);
    }

-- ---- All that is held

-- Records and the coordinator's memory are what they hold, and tails.
pub held_over : {settings : Settings} (passes : settings_refusal settings ≡ no_refusal)
    (start held : Held)
    → Lengths settings held
    → FromStart settings start held
    → held ≡ network_written settings start (network_of settings held) held.sites.messages
held_over {settings} passes start held lengths from =
    let enough : settings.sites ≤ length held.sites.records =
    omega (arith, lengths.all_records, (settled settings passes).sites.at_most) in
    let records = records_over settings settings.sites held.sites.records
    start.sites.records held.site_memory enough
    (from.same_records ∙ sym lengths.all_records) from.tails.records in
    let memory = coordinator_over settings held.coordinator held.coordinator_memory
    start.coordinator_memory lengths.coordinator_long from.tails.coordinator_memory in
    λ i. record {
      sites = record { records = sym records i; messages = held.sites.messages };
      coordinator = held.coordinator;
      site_memory = from.site_memory i;
      coordinator_memory = sym memory i;
    }

-- ---- From any sound network

-- A step keeps it that keeps what lies past the network, and writes sites over those there.
kept_from : {settings : Settings} {start held after : Held}
    → FromStart settings start held
    → TailsKept settings held after
    → WrittenOver settings start.site_memory after
    → FromStart settings start after
kept_from from kept over = record {
  same_records = from.same_records;
  start_long = from.start_long;
  tails = record {
    records = kept.records ∙ from.tails.records;
    counts = kept.counts ∙ from.tails.counts;
    site_memory = kept.site_memory ∙ from.tails.site_memory;
    coordinator_memory = kept.coordinator_memory ∙ from.tails.coordinator_memory;
  };
  site_memory = over;
}

module _ {settings : Settings} (passes : settings_refusal settings ≡ no_refusal) (state : State)
    (start : Held) (from : FromStart settings start state.held) where
  abbrev held : Held
  held = state.held

  abbrev network : Network
  network = network_of settings held

  abbrev Over : Held → Type 0
  Over then = WrittenOver settings start.site_memory then

  module _ (rest : SoundRest settings state)
      (arrival : Arrival) (words : ℕ) (part : List ℕ) (answer : Observation)
      (says : ObserveSays settings (record_at held arrival.site) arrival
      (site_part settings held arrival.site words) part answer)
      (is_draw_lem : is_draw arrival ≡ true)
      (accepts : answer.refusal ≡ no_refusal) where
    -- A single arrival writes its site.
    single_over : Over (after_single settings state arrival words part answer).held
    single_over =
        let j = arrival.site in
        let old = rest.sound in
        let site = Single.site passes state rest arrival words part answer says is_draw_lem accepts
        in
        let fits = Single.site_fits passes state rest arrival words part answer says is_draw_lem
        accepts in
        let known = Single.known passes state rest arrival words part answer says is_draw_lem
        accepts in
        let read = Single.network_then passes state rest arrival words part answer says is_draw_lem
        accepts in
        subst (λ (s : State). Over s.held)
        (sym (Single.after_is passes state rest arrival words part answer says is_draw_lem accepts))
        (memory_then passes held rest.lengths old.sites_sound j known site fits words
        (Single.long passes state rest arrival words part answer says is_draw_lem accepts)
        ∙ ap (λ (memory : List ℕ).
        take (site_start settings j) memory
        ++ site_memory settings site (drop (site_start settings j) memory))
        from.site_memory
        ∙ sites_memory_set settings network.sites start.site_memory j site
        (all_storable old.all_sites old.sites_sound) fits
        (observed_grows settings (site_at network j) arrival)
        (rw old.all_sites from.start_long) (omega (arith, known, old.all_sites))
        ∙ ap (λ (x : Network). sites_memory settings x.sites start.site_memory) (sym read))

    pub from_single : FromStart settings start
        (after_single settings state arrival words part answer).held
    from_single =
        kept_from from
        (single_kept passes state rest arrival words part answer says is_draw_lem accepts)
        single_over

  module _ {origin : Network} {arrival : Arrival} {past : List Message} {n : ℕ}
      (mid : Underway settings origin arrival past n state) where
    -- A message at a site leaves counters and histogram; one at the coordinator all sites.
    delivery_over : (after : State) → Delivers settings state after → Over after.held
    delivery_over after (to_coordinator_lem m later words part answer waits way says accepts) =
        from.site_memory
    delivery_over after (next_announcement words answer says accepts) = from.site_memory
    delivery_over after (to_site m later words answer waits way says accepts) =
        let j = m.site in
        let known = ToSite.known passes state mid m later words answer waits way says accepts in
        let read = network_site_told passes held mid.lengths (in_mid passes mid).sites_sound j
        known m in
        subst (λ (numbers : SiteRecord). Over (after_site_call held j numbers held.site_memory))
        (sym (ToSite.record_is passes state mid m later words answer waits way says accepts))
        (from.site_memory
        ∙ sym (sites_memory_kept settings network.sites start.site_memory j
        (site_receives (site_at network j) m).site
        (counters_kept.by_message (site_at network j) m)
        (values_kept.by_message (site_at network j) m))
        ∙ ap (λ (x : Network). sites_memory settings x.sites start.site_memory) (sym read))

    pub from_delivery : (after : State)
        → Delivers settings state after
        → FromStart settings start after.held
    from_delivery after step =
        kept_from from (delivery_kept passes state mid after step) (delivery_over after step)

-- ---- In a history

module _ {settings : Settings} (passes : settings_refusal settings ≡ no_refusal)
    {n : ℕ} (state : State) (ok : StateOk settings n state)
    (start : Held) (from : FromStart settings start state.held) where
  -- A batch writes sites with no fewer counters over those that were there.
  batch_over : (arrivals : List Arrival) (log : List ℕ) (answer : BatchHeld)
      → AtRest state
      → BatchSays (batch_call settings state.held arrivals log) answer
      → WrittenOver settings start.site_memory (after_batch state arrivals answer).held
  batch_over arrivals log answer at_rest says =
      let rest = resting_of passes ok at_rest in
      let then = (batch_in (batch_call settings state.held arrivals log)).network in
      let after = Batched.after passes state ok at_rest arrivals log in
      let old = (sound_rest_of passes ok at_rest).sound in
      let new = Batched.sound_then passes state ok at_rest arrivals log in
      let as_run = Batched.as_run passes state ok at_rest arrivals log in
      let grows : NoFewer (network_of settings state.held).sites then.sites =
      subst (λ (x : Network). NoFewer x.sites then.sites) (sym rest.network_is)
      (subst (λ (x : Network).
      NoFewer (run_of settings state.accepted).network.sites x.sites)
      (sym as_run.network_is)
      (run_no_fewer settings
      (take (batch_in (batch_call settings state.held arrivals log)).accepted arrivals)
      (run_of settings state.accepted))) in
      let same-many : length (network_of settings state.held).sites ≡ length then.sites =
      old.all_sites ∙ sym new.all_sites in
      let long : length then.sites * site_words settings ≤ length start.site_memory =
      rw new.all_sites from.start_long in
      let read = network_written_lem passes state.held ok.lengths then new
      after.held.sites.messages in
      subst (λ (s : State). WrittenOver settings start.site_memory s.held)
      (sym (Batched.after_is passes state ok at_rest arrivals log answer says))
      (ap (sites_memory settings then.sites) from.site_memory
      ∙ sites_memory_again settings (network_of settings state.held).sites then.sites
      start.site_memory
      (all_storable old.all_sites old.sites_sound)
      (all_storable new.all_sites new.sites_sound) same-many grows long
      ∙ ap (λ (x : Network). sites_memory settings x.sites start.site_memory) (sym read))

  -- Every step keeps it.
  pub from_step : (after : State) → Step settings state after
      → FromStart settings start after.held
  from_step after
      (arrives (batch site_count coordinator_count arrivals log answer rest says)) =
      kept_from from
      (tails_kept passes state ok after
      (arrives (batch site_count coordinator_count arrivals log answer rest says)))
      (of_lent_batch passes state ok rest site_count coordinator_count arrivals log answer says
      (λ (after : State). WrittenOver settings start.site_memory after.held)
      from.site_memory
      (batch_over arrivals log _ rest))
  from_step after (arrives (single arrival words part answer rest is_draw_lem says accepts)) =
      from_single passes state start from (sound_rest_of passes ok rest) arrival words part answer
      says is_draw_lem accepts
  from_step after (delivers step) = by_standing ok.standing
    where
      by_standing : Standing settings n state → FromStart settings start after.held
      by_standing (resting _ rest) = absurd (none_at_rest passes state rest after step)
      by_standing (delivering mid) =
          from_delivery passes state start from mid.underway after step
  from_step after (refuses step) =
      subst (λ (s : State). FromStart settings start s.held)
      (sym (refused_same state after step)) from

  -- All that is held, each message of the logs counted.
  pub held_whole : state.held
      ≡ network_written settings start (network_of settings state.held)
      (counted_up none_counted state.log)
  held_whole =
      held_over passes start state.held ok.lengths from
      ∙ ap (network_written settings start (network_of settings state.held)) ok.counts_are
