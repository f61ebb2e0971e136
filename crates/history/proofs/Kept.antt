-- What each step of a history leaves as it was: what lies past the network, and, of a single
-- arrival, all other sites. PROOF.md section 9, "Frame".
--
--   others_kept, single_kept, delivery_kept   a single arrival, and a step of its delivery, from
--                                             any sound network
--   tails_kept                                every step of a history
use mathlib.Core.Path.{◌≡◌, refl, ap, sym, ◌∙◌, subst}
use mathlib.Core.Bool.{true}
use mathlib.Core.List.{List}
use Prim.Native.Nat.{ℕ, ◌+◌, ◌*◌, ◌≤◌, ◌<◌}
use native.Mathlib.Nat.{mul-le-mul_right}
use native.Mathlib.Omega.{arith}
use lib.ListN.{length, take, drop}
use lib.Seq.{drop-set-lt, get_or-set_other}
use Rattle.model.specs.declared.Settings.{Settings}
use Rattle.model.specs.declared.Arrival.{Arrival}
use Rattle.model.specs.declared.Message.{Message}
use Rattle.model.specs.Refusals.{no_refusal}
use Rattle.model.specs.Settings.{settings_refusal}
use Rattle.model.specs.Draws.{is_draw}
use Rattle.model.specs.Site.{Site}
use Rattle.model.specs.SiteMemory.{site_words, site_record}
use Rattle.model.specs.Coordinator.{coordinator_receives}
use Rattle.model.specs.Network.{Network}
use Rattle.model.specs.NetworkMemory.{sites_words, site_records, sites_memory}
use Rattle.model.specs.SoundNetwork.{Sound}
use Rattle.site_memory.proofs.SitesMemoryLaws.{all_storable}
use Rattle.site.specs.Calls.{Observation, ObserveSays}
use Rattle.tracker.specs.Batch.{BatchHeld, BatchSays, batch_in}
use Rattle.history.specs.State.{Held, State, AtRest, network_of, network_written, record_at, site_start, site_part, with_part, no_record}
use Rattle.history.specs.Steps.{batch_call, after_batch, after_single, batch, single, Delivers, to_coordinator_lem, to_site, next_announcement, Step, arrives, delivers, refuses}
use Rattle.history.specs.Frame.{TailsKept, OthersKept}
use Rattle.history.proofs.SitesMemory.{offset, offset_is, written}
use Rattle.history.proofs.FrameLaws.{drop_later, take_written, drop_written, tail_site_records, tail_sites_memory, tail_coordinator_memory}
use Rattle.history.proofs.CallFronts.{receives_whole}
use Rattle.history.proofs.Decoded.{Lengths, in_memory, memory_then}
use Rattle.history.proofs.Underway.{SoundRest, Underway}
use Rattle.history.proofs.Invariant.{StateOk, Standing, resting, delivering}
use Rattle.history.proofs.Accepted.{sound_rest_of}
use Rattle.history.proofs.BatchedState as Batched
use Rattle.history.proofs.LoggedCounts.{counted_behind}
use Rattle.history.proofs.LentBatch.{of_lent_batch}
use Rattle.history.proofs.SingleState as Single
use Rattle.history.proofs.ToCoordinator as ToCoordinator
use Rattle.history.proofs.ToSite as ToSite
use Rattle.history.proofs.DeliveredState.{none_at_rest}
use Rattle.history.proofs.Refused.{refused_same}

pub kept_self : (settings : Settings) (held : Held) → TailsKept settings held held
kept_self settings held =
    record { records = refl; counts = refl; site_memory = refl; coordinator_memory = refl }

-- A whole network written over what is held.
network_kept : (settings : Settings) (held : Held) (lengths : Lengths settings held)
    (network : Network)
    → Sound settings network
    → (counts : List ℕ)
    → drop settings.sites counts ≡ drop settings.sites held.sites.messages
    → TailsKept settings held (network_written settings held network counts)
network_kept settings held lengths network sound counts same_counts =
    let all = sound.all_sites in
    let start : offset (site_words settings) (length network.sites) ≡ sites_words settings =
    offset_is (site_words settings) (length network.sites)
    ∙ ap (λ (k : ℕ). k * site_words settings) all in
    record {
      records =
          subst (λ (k : ℕ).
          drop k (site_records network.sites held.sites.records)
          ≡ drop k held.sites.records)
          all (tail_site_records settings network.sites held.sites.records);
      counts = same_counts;
      site_memory =
          subst (λ (from : ℕ).
          drop from (sites_memory settings network.sites held.site_memory)
          ≡ drop from held.site_memory)
          start
          (tail_sites_memory settings network.sites held.site_memory
          (all_storable all sound.sites_sound)
          (rw all lengths.sites_long));
      coordinator_memory =
          tail_coordinator_memory settings network.coordinator held.coordinator_memory
          sound.coordinator_sound.numbers.estimates_length
          sound.coordinator_sound.numbers.histogram_length;
    }

-- ---- From any sound network

module _ {settings : Settings} (passes : settings_refusal settings ≡ no_refusal) (state : State)
  where
    -- ---- A single arrival

    module _ (rest : SoundRest settings state)
        (arrival : Arrival) (words : ℕ) (part : List ℕ) (answer : Observation)
        (says : ObserveSays settings (record_at state.held arrival.site) arrival
        (site_part settings state.held arrival.site words) part answer)
        (is_draw_lem : is_draw arrival ≡ true)
        (accepts : answer.refusal ≡ no_refusal) where
      abbrev j : ℕ
      j = arrival.site

      abbrev state_then : State
      state_then = Single.after passes state rest arrival words part answer says is_draw_lem accepts

      abbrev site : Site
      site = Single.site passes state rest arrival words part answer says is_draw_lem accepts

      known : j < settings.sites
      known = Single.known passes state rest arrival words part answer says is_draw_lem accepts

      within : site_start settings j + site_words settings ≤ length state.held.site_memory
      within =
          in_memory passes state.held rest.lengths rest.sound.sites_sound j known

      memory_is : state_then.held.site_memory
          ≡ written settings (site_start settings j) site state.held.site_memory
      memory_is =
          let fits = Single.site_fits passes state rest arrival words part answer says is_draw_lem
          accepts in
          memory_then passes state.held rest.lengths rest.sound.sites_sound j known site
          fits words
          (Single.long passes state rest arrival words part answer says is_draw_lem accepts)

      behind : drop (site_start settings j + site_words settings) state_then.held.site_memory
          ≡ drop (site_start settings j + site_words settings) state.held.site_memory
      behind =
          let fits = Single.site_fits passes state rest arrival words part answer says is_draw_lem
          accepts in
          ap (drop (site_start settings j + site_words settings)) memory_is
          ∙ drop_written settings site fits
          (site_start settings j) state.held.site_memory within

      others_then : OthersKept settings j state.held state_then.held
      others_then =
          let fits = Single.site_fits passes state rest arrival words part answer says is_draw_lem
          accepts in
          record {
            earlier_parts =
                ap (take (site_start settings j)) memory_is
                ∙ take_written settings site fits
                (site_start settings j) state.held.site_memory within;
            later_parts = behind;
            other_records = λ other elsewhere.
                get_or-set_other state.held.sites.records j other (site_record site)
                no_record elsewhere;
            coordinator = refl;
            coordinator_memory = refl;
          }

      tails_then : TailsKept settings state.held state_then.held
      tails_then = record {
        records = drop-set-lt settings.sites state.held.sites.records j _ known;
        counts = refl;
        site_memory =
            let next : j + 1 ≤ settings.sites = omega (arith, known) in
            drop_later (site_start settings j + site_words settings) (sites_words settings) _ _
            (omega (arith, mul-le-mul_right (site_words settings) next)) behind;
        coordinator_memory = refl;
      }

      same : after_single settings state arrival words part answer ≡ state_then
      same = Single.after_is passes state rest arrival words part answer says is_draw_lem accepts

      -- The claim on the other sites.
      pub others_kept : OthersKept settings j state.held
          (after_single settings state arrival words part answer).held
      others_kept =
          subst (λ (then : State). OthersKept settings j state.held then.held) (sym same)
          others_then

      -- What lies past the network.
      pub single_kept : TailsKept settings state.held
          (after_single settings state arrival words part answer).held
      single_kept =
          subst (λ (then : State). TailsKept settings state.held then.held) (sym same)
          tails_then

    -- ---- A step of delivery

    module _ {origin : Network} {arrival : Arrival} {past : List Message} {n : ℕ}
        (mid : Underway settings origin arrival past n state) where
      -- What lies past the network.
      pub delivery_kept : (after : State) → Delivers settings state after
          → TailsKept settings state.held after.held
      delivery_kept after (to_coordinator_lem m later words part answer waits way says accepts) =
          let memory = with_part state.held.coordinator_memory 0 words part in
          let all-lent = receives_whole settings state.held.coordinator m words
          state.held.coordinator_memory part answer says accepts in
          let sound = ToCoordinator.sound_then passes state mid m later memory answer waits way
          all-lent accepts in
          subst (TailsKept settings state.held)
          (sym (ToCoordinator.held_is passes state mid m later memory answer waits way all-lent
          accepts))
          (record {
            records = refl;
            counts = refl;
            site_memory = refl;
            coordinator_memory =
                tail_coordinator_memory settings
                (coordinator_receives settings (network_of settings state.held).coordinator m
                ).coordinator
                state.held.coordinator_memory
                sound.numbers.estimates_length sound.numbers.histogram_length;
          })
      delivery_kept after (to_site m later words answer waits way says accepts) = record {
        records =
            drop-set-lt settings.sites state.held.sites.records m.site answer.site
            (ToSite.known passes state mid m later words answer waits way says accepts);
        counts = refl;
        site_memory = refl;
        coordinator_memory = refl;
      }
      delivery_kept after (next_announcement words answer says accepts) =
          record { records = refl; counts = refl; site_memory = refl; coordinator_memory = refl }

-- ---- In a history

module _ {settings : Settings} (passes : settings_refusal settings ≡ no_refusal)
    {n : ℕ} (state : State)
    (ok : StateOk settings n state) where
  batch_kept : (arrivals : List Arrival) (log : List ℕ) (answer : BatchHeld)
      → AtRest state
      → BatchSays (batch_call settings state.held arrivals log) answer
      → TailsKept settings state.held (after_batch state arrivals answer).held
  batch_kept arrivals log answer at_rest says =
      let after = Batched.after passes state ok at_rest arrivals log in
      let sound = Batched.sound_then passes state ok at_rest arrivals log in
      let network = (batch_in (batch_call settings state.held arrivals log)).network in
      subst (λ (then : State). TailsKept settings state.held then.held)
      (sym (Batched.after_is passes state ok at_rest arrivals log answer says))
      (network_kept settings state.held ok.lengths network sound
      after.held.sites.messages
      (counted_behind state.held.sites.messages
      (Batched.names_then passes state ok at_rest arrivals log)))

  -- ---- Every step

  -- The claim on what lies past the network.
  pub tails_kept : (after : State) → Step settings state after
      → TailsKept settings state.held after.held
  tails_kept after
      (arrives (batch site_count coordinator_count arrivals log answer rest says)) =
      of_lent_batch passes state ok rest site_count coordinator_count arrivals log answer says
      (λ (after : State). TailsKept settings state.held after.held)
      (kept_self settings state.held)
      (batch_kept arrivals log _ rest)
  tails_kept after (arrives (single arrival words part answer rest is_draw_lem says accepts)) =
      single_kept passes state (sound_rest_of passes ok rest) arrival words part answer says
      is_draw_lem
      accepts
  tails_kept after (delivers step) = by_standing ok.standing
    where
      by_standing : Standing settings n state → TailsKept settings state.held after.held
      by_standing (resting _ rest) = absurd (none_at_rest passes state rest after step)
      by_standing (delivering mid) = delivery_kept passes state mid.underway after step
  tails_kept after (refuses step) =
      subst (λ (then : State). TailsKept settings state.held then.held)
      (sym (refused_same state after step)) (kept_self settings state.held)
