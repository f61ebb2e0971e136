-- The state after a single arrival at rest: the first stage of the delivery that it sets off, from
-- any sound network; and in a history the invariant. PROOF.md section 9, "The invariant".
--
--   after_is, begins   the state, by the model's step, and the delivery
--   single_ok          the invariant of that state
use mathlib.Core.Path.{◌≡◌, refl, sym, ap, ◌∙◌, subst}
use mathlib.Core.Bool.{true}
use mathlib.Core.List.{List, [], ◌∷◌, ◌++◌}
use Prim.Native.Nat.{ℕ, ◌≤◌, ◌<◌}
use native.Mathlib.Omega.{arith}
use lib.ListN.{length, get_or, take, drop, length-append}
use Rattle.model.specs.declared.Settings.{Settings}
use Rattle.model.specs.declared.Arrival.{Arrival}
use Rattle.model.specs.declared.Message.{Message}
use Rattle.model.specs.declared.SiteRecord.{SiteRecord}
use Rattle.model.specs.Refusals.{no_refusal}
use Rattle.model.specs.Settings.{settings_refusal}
use Rattle.model.specs.Messages.{no_message}
use Rattle.model.specs.Site.{Site, arrival_refusal, line_refusal, observed}
use Rattle.model.specs.SiteMemory.{site_words, site_in, site_record, site_memory, site_memory_refusal}
use Rattle.model.specs.Network.{Network, site_at, with_site}
use Rattle.model.specs.Draws.{is_draw}
use Rattle.model.specs.Runs.{run_of}
use Rattle.model.proofs.Touches.DrawLaws.{line_draw, takes}
use Rattle.model.specs.SoundNetwork.{SoundSite}
use Rattle.model.specs.DeliveryClaims.{delivery, delivery_of}
use Rattle.mid_delivery.specs.SoundClaims.{Reached, begun}
use Rattle.model.proofs.Thresholds.RefusalLaws.{BothAccepted, both_accepted}
use Rattle.model.proofs.Thresholds.SettingsLaws.{settled}
use Rattle.model.proofs.Soundness.SoundSites.{ArrivalTaken, taken_of_no_refusal, sound_observed}
use Rattle.site_memory.proofs.OneSite.{Storable, storable}
use Rattle.site.specs.Calls.{Observation}
use Rattle.site.specs.Calls as SiteCalls
use Rattle.history.specs.State.{Held, State, AtRest, network_of, record_at, site_start, site_part, with_part, after_site_call}
use Rattle.history.specs.Steps.{observed_out, after_single}
use Rattle.history.proofs.HandedOut.{two_out, observed_few}
use Rattle.history.proofs.Decoded.{SitesSound, site_part_lem, lengths_site_written, network_site_written}
use Rattle.history.proofs.Underway.{SoundRest, Underway}
use Rattle.history.proofs.Invariant.{StateOk, delivering}
use Rattle.history.proofs.Accepted.{resting_of, sound_rest_of}
use Rattle.history.proofs.Answers.{taken_choice, accepted_long, words_enough}

-- ---- From any sound network

module _ {settings : Settings} (passes : settings_refusal settings ≡ no_refusal)
    (before : State) (rest : SoundRest settings before)
    (arrival : Arrival) (words : ℕ) (part : List ℕ) (answer : Observation)
    (says : SiteCalls.ObserveSays settings (record_at before.held arrival.site) arrival
    (site_part settings before.held arrival.site words) part answer)
    (is_draw_lem : is_draw arrival ≡ true)
    (accepts : answer.refusal ≡ no_refusal) where
  abbrev j : ℕ
  j = arrival.site

  abbrev held : Held
  held = before.held

  abbrev numbers : SiteRecord
  numbers = record_at held j

  abbrev given : List ℕ
  given = site_part settings held j words

  sites_sound : SitesSound settings held
  sites_sound = rest.sound.sites_sound

  none : SiteCalls.observe_refusal settings numbers arrival given ≡ no_refusal
  none = sym says.refusal ∙ accepts

  parts : BothAccepted (site_memory_refusal settings numbers given)
      (line_refusal settings (site_in settings numbers given) arrival)
  parts = both_accepted (site_memory_refusal settings numbers given) _ none

  drawn : arrival_refusal settings (site_in settings numbers given) arrival ≡ no_refusal
  drawn =
      sym (line_draw settings (site_in settings numbers given) arrival is_draw_lem)
      ∙ parts.later_accepted

  taken : SiteCalls.observe_takes settings numbers arrival given ≡ true
  taken = takes arrival _ is_draw_lem none

  -- The part that was lent is long enough, as the call accepts it.
  pub long : site_words settings ≤ length given
  long = accepted_long settings numbers given parts.first_accepted

  -- The arrival names one of the k sites.
  pub known : j < settings.sites
  known =
      (taken_of_no_refusal settings (site_in settings numbers given) arrival drawn
      ).known.site_known

  -- The site that record and part hold is the network's.
  site_here : site_in settings numbers given ≡ site_at (network_of settings held) j
  site_here =
      site_part_lem passes held rest.lengths sites_sound j known words
      (words_enough (site_words settings) words (drop (site_start settings j) held.site_memory)
      long)

  -- The site with the arrival.
  abbrev pub site : Site
  site = (observed settings (site_at (network_of settings held) j) arrival).site

  taken_here : ArrivalTaken settings (site_at (network_of settings held) j) arrival
  taken_here =
      taken_of_no_refusal settings (site_at (network_of settings held) j) arrival
      (subst (λ (s : Site). arrival_refusal settings s arrival ≡ no_refusal) site_here drawn)

  -- An accepted arrival keeps a site sound.
  pub site_sound : SoundSite settings site
  site_sound =
      sound_observed (settled settings passes).capacity.at_least taken_here
      (sites_sound j known)

  -- So it fits its part.
  pub site_fits : Storable settings site
  site_fits = storable site_sound

  -- The state, by the model's step.
  abbrev pub after : State
  after = record {
    held = after_site_call held j (site_record site)
        (with_part held.site_memory (site_start settings j) words
        (site_memory settings site given));
    waiting = (observed settings (site_at (network_of settings held) j) arrival).messages;
    accepted = before.accepted ++ (arrival ∷ []);
    messages = before.messages
        ++ (observed settings (site_at (network_of settings held) j) arrival).messages;
    log = before.log;
    logged = before.logged;
  }

  -- The messages that the answer hands out.
  out_is : observed_out answer
      ≡ (observed settings (site_at (network_of settings held) j) arrival).messages
  out_is =
      let messages = (observed settings (site_in settings numbers given) arrival).messages in
      let sent : SiteCalls.observed_messages settings numbers arrival given ≡ messages =
      taken_choice _ _ _ taken in
      let count = says.count ∙ ap length sent in
      let first = says.first ∙ ap (λ (ms : List Message). get_or ms 0 no_message) sent in
      let second = says.second ∙ ap (λ (ms : List Message). get_or ms 1 no_message) sent in
      (λ i. take (count i) (first i ∷ (second i ∷ [])))
      ∙ two_out messages no_message (observed_few settings (site_in settings numbers given) arrival)
      ∙ ap (λ (s : Site). (observed settings s arrival).messages) site_here

  -- What the call answers and leaves is what its contract says of the model's step.
  pub after_is : after_single settings before arrival words part answer ≡ after
  after_is =
      let record_is : answer.site ≡ site_record site =
      says.site ∙ taken_choice _ _ _ taken
      ∙ ap (λ (s : Site). site_record (observed settings s arrival).site) site_here in
      let part_is : part ≡ site_memory settings site given =
      says.memory ∙ taken_choice _ _ _ taken
      ∙ ap (λ (s : Site). site_memory settings (observed settings s arrival).site given)
      site_here in
      λ i. record {
        held = after_site_call held j (record_is i)
            (with_part held.site_memory (site_start settings j) words (part_is i));
        waiting = rest.nothing_waits i ++ out_is i;
        accepted = before.accepted ++ (arrival ∷ []);
        messages = before.messages ++ out_is i;
        log = before.log;
        logged = before.logged;
      }

  -- The network then: the site with the arrival, and every other as it was.
  pub network_then : network_of settings after.held ≡ with_site (network_of settings held) j site
  network_then =
      network_site_written passes held rest.lengths sites_sound j known
      site site_fits words long

  -- The delivery begins.
  after_begins : Underway settings (network_of settings held) arrival before.messages 0 after
  after_begins =
      let start : delivery (network_of settings after.held) after.waiting after.waiting
      ≡ delivery_of settings (network_of settings held) arrival =
      ap (λ (network : Network). delivery network after.waiting after.waiting)
      network_then in
      record {
        origin_sound = rest.sound;
        taken =
            ap (λ (s : Site). arrival_refusal settings s arrival) (sym site_here) ∙ drawn;
        lengths =
            lengths_site_written passes held rest.lengths sites_sound j known site site_fits
            words long;
        log = after.waiting;
        reached = subst (Reached settings _ 0) (sym start) begun;
        messages_are = refl;
      }

  -- So it does for what the call answers and leaves.
  pub begins : Underway settings (network_of settings held) arrival before.messages 0
      (after_single settings before arrival words part answer)
  begins =
      subst (Underway settings (network_of settings held) arrival before.messages 0)
      (sym after_is) after_begins

-- ---- In a history

-- The invariant when a delivery begins.
pub single_ok : {settings : Settings} (passes : settings_refusal settings ≡ no_refusal)
    {n : ℕ} (before : State) (ok : StateOk settings n before) (at_rest : AtRest before)
    (arrival : Arrival) (words : ℕ) (part : List ℕ) (answer : Observation)
    → SiteCalls.ObserveSays settings (record_at before.held arrival.site) arrival
    (site_part settings before.held arrival.site words) part answer
    → is_draw arrival ≡ true
    → answer.refusal ≡ no_refusal
    → StateOk settings 0 (after_single settings before arrival words part answer)
single_ok {settings} passes before ok at_rest arrival words part answer says is_draw_lem accepts =
    let rest = resting_of passes ok at_rest in
    let after = after_single settings before arrival words part answer in
    let on = begins passes before (sound_rest_of passes ok at_rest) arrival words part answer says
    is_draw_lem accepts in
    record {
      lengths = on.lengths;
      standing = delivering (record {
        front = before.accepted;
        arrival = arrival;
        is_draw_lem = is_draw_lem;
        accepted_are = refl;
        front_accepted = rest.accepted_are;
        underway =
            subst (λ (past : List Message).
            Underway settings (run_of settings before.accepted).network arrival past 0 after)
            rest.messages_are
            (subst (λ (origin : Network).
            Underway settings origin arrival before.messages 0 after)
            rest.network_is on);
      });
      counts_are = ok.counts_are;
      log_named = ok.log_named;
      log_length = ok.log_length;
      logged_within =
          omega (arith, ok.logged_within, length-append before.messages (observed_out answer));
    }
