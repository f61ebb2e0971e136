-- The state after a message that a site accepted, in a delivery from any sound network.
--
--   known, record_is   the site that the message names, and its record then
--   to_site_on         the delivery, one step further
use mathlib.Core.Path.{◌≡◌, sym, ap, ◌∙◌, subst}
use mathlib.Core.Bool.{false}
use mathlib.Core.List.{List, [], ◌∷◌}
use Prim.Native.Nat.{ℕ, suc, ◌≤◌, ◌<◌}
use lib.Dec.{leb}
use lib.ListN.{length, get_or, take, drop}
use Rattle.model.specs.declared.Settings.{Settings}
use Rattle.model.specs.declared.Arrival.{Arrival}
use Rattle.model.specs.declared.Message.{Message}
use Rattle.model.specs.declared.SiteRecord.{SiteRecord}
use Rattle.model.specs.Refusals.{when, ◌or_else◌, no_refusal, unknown_site}
use Rattle.model.specs.Settings.{settings_refusal}
use Rattle.model.specs.Messages.{no_message, to_coordinator}
use Rattle.model.specs.Site.{Site, site_receives, site_message_refusal}
use Rattle.model.specs.SiteMemory.{site_words, site_in, site_record, site_memory_refusal}
use Rattle.model.specs.Network.{Network, Delivered, site_at, hand_to_site, hand_over}
use Rattle.model.specs.DeliveryClaims.{joining, delivery_of}
use Rattle.mid_delivery.specs.SoundClaims.{Reached}
use Rattle.model.proofs.Thresholds.RefusalLaws.{BothAccepted, both_accepted}
use Rattle.model.proofs.Thresholds.SettingsLaws.{site_known}
use Rattle.site.specs.Calls.{SiteReply}
use Rattle.site.specs.Calls as SiteCalls
use Rattle.history.specs.State.{Held, State, network_of, record_at, site_start, site_part, after_site_call, sending}
use Rattle.history.specs.Steps.{answered_out}
use Rattle.history.proofs.HandedOut.{one_out, answered_few}
use Rattle.history.proofs.Decoded.{SitesSound, site_part_lem, lengths_site_told, network_site_told}
use Rattle.history.proofs.Underway.{Underway, in_mid}
use Rattle.history.proofs.Answers.{accepted_choice, accepted_long, words_enough}
use Rattle.history.proofs.DeliveredStep.{goes_on, handed_on}

module _ {settings : Settings} (passes : settings_refusal settings ≡ no_refusal)
    {origin : Network} {arrival : Arrival} {past : List Message} {n : ℕ} (before : State)
    (mid : Underway settings origin arrival past n before) where
  abbrev held : Held
  held = before.held

  abbrev network : Network
  network = network_of settings held

  abbrev After : State → Type 0
  After after = Underway settings origin arrival past (suc n) after

  sites_sound : SitesSound settings held
  sites_sound = (in_mid passes mid).sites_sound

  module _ (m : Message) (later : List Message)
      (words : ℕ) (answer : SiteReply)
      (waits : before.waiting ≡ m ∷ later)
      (way : to_coordinator m ≡ false)
      (says : SiteCalls.SiteReceiveSays settings (record_at held m.site) m.site m
      (site_part settings held m.site words) answer)
      (accepts : answer.refusal ≡ no_refusal) where
    abbrev j : ℕ
    j = m.site

    abbrev given : List ℕ
    given = site_part settings held j words

    none : SiteCalls.receive_refusal settings (record_at held j) j m given ≡ no_refusal
    none = sym says.refusal ∙ accepts

    rows : BothAccepted (site_memory_refusal settings (record_at held j) given)
        (when (leb settings.sites j) unknown_site
        or_else site_message_refusal settings (site_in settings (record_at held j) given) j m)
    rows = both_accepted (site_memory_refusal settings (record_at held j) given) _ none

    -- The message names one of the k sites, as the call accepts it.
    pub known : j < settings.sites
    known = site_known settings j _ rows.later_accepted

    long : site_words settings ≤ length given
    long = accepted_long settings (record_at held j) given rows.first_accepted

    site_here : site_in settings (record_at held j) given ≡ site_at network j
    site_here =
        site_part_lem passes held mid.lengths sites_sound j known words
        (words_enough (site_words settings) words (drop (site_start settings j) held.site_memory)
        long)

    over : hand_over settings network m ≡ hand_to_site network m
    over = rw way

    on : Reached settings (delivery_of settings origin arrival) (suc n)
        (joining (hand_to_site network m) later mid.log)
    on =
        subst (λ (after : Delivered).
        Reached settings (delivery_of settings origin arrival) (suc n)
        (joining after later mid.log))
        over (handed_on before mid m later waits)

    -- The record that the call answers.
    pub record_is : answer.site ≡ site_record (site_receives (site_at network j) m).site
    record_is =
        says.site ∙ accepted_choice _ _ _ none
        ∙ ap (λ (site : Site). site_record (site_receives site m).site) site_here

    out_is : answered_out answer ≡ (site_receives (site_at network j) m).messages
    out_is =
        let messages = (site_receives (site_in settings (record_at held j) given) m).messages in
        let sent : SiteCalls.received_messages settings (record_at held j) j m given ≡ messages =
        accepted_choice _ _ _ none in
        let count = says.count ∙ ap length sent in
        let reply = says.reply ∙ ap (λ (ms : List Message). get_or ms 0 no_message) sent in
        (λ i. take (count i) (reply i ∷ []))
        ∙ one_out messages no_message
        (answered_few (site_in settings (record_at held j) given) m)
        ∙ ap (λ (site : Site). (site_receives site m).messages) site_here

    -- One message further.
    pub to_site_on : After
        (sending before (after_site_call held j answer.site held.site_memory) later
        (answered_out answer))
    to_site_on =
        subst (λ (numbers : SiteRecord).
        After (sending before (after_site_call held j numbers held.site_memory) later
        (answered_out answer)))
        (sym record_is)
        (goes_on before mid later (hand_to_site network m) on
        (after_site_call held j (site_record (site_receives (site_at network j) m).site)
        held.site_memory)
        (answered_out answer)
        (lengths_site_told passes held mid.lengths sites_sound j known m)
        (network_site_told passes held mid.lengths sites_sound j known m)
        out_is)
