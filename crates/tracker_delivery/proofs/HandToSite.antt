-- A message for a site, handed over as the code does it. The site's memory is only read.
--
--   site_of_head_is, head_few  the site that the head is for, and that there is a record for it
--   site_known, site_few, starts_within, starts_small   the site that the message names, and where
--                                                      its part starts
--   site_asks     what the site's step requires
--   site_sends    what sending its answer requires
--   site_holds    what the state holds when the answer went out
use mathlib.Core.Path.{◌≡◌, refl, sym, ap, ◌∙◌, subst⁻¹}
use mathlib.Core.Bool.{Bool, true, false}
use mathlib.Core.List.{List, ◌++◌}
use Prim.Native.Nat.{ℕ, ◌*◌, ◌≤◌, ◌<◌}
use native.Mathlib.Omega.{arith}
use native.Mathlib.Decide.{ℕ_discrete}
use lib.ListN.{length, get_or, drop}
use borrow.Author.Tests.{eq-eqb, ne_eqb}
use Rattle.model.specs.declared.Settings.{Settings}
use Rattle.model.specs.declared.Message.{Message}
use Rattle.model.specs.declared.SiteRecord.{SiteRecord}
use Rattle.model.specs.Messages.{message_width, no_message, to_coordinator}
use Rattle.model.specs.Site.{Site, SiteStep, site_receives}
use Rattle.model.specs.Limits.{most_sites, most_site_words}
use Rattle.model.specs.SiteMemory.{site_words, site_in, site_record}
use Rattle.model.specs.Network.{Network, site_at, with_site}
use Rattle.model.specs.DeliveryClaims.{delivery, delivery_step}
use Rattle.model.specs.SoundNetwork.{SoundSite}
use Rattle.mid_delivery.proofs.Stages.StageFacts.{stage_sites}
use Rattle.model.proofs.Soundness.NeverFewer.{counters_kept, values_kept}
use Rattle.site_receiving.specs.declared.Replied as SiteAnswer
use Rattle.site_receiving.specs.Receiving.{ReceiveAsks, ReceiveStepSays}
use Rattle.site_receiving.proofs.ReceiveLaws.{Due, message_due}
use Rattle.site_memory.proofs.SitesMemoryLaws.{sites_memory_kept}
use Rattle.tracker_queue.specs.declared.Queue.{Queue}
use Rattle.model.specs.Held.{no_record, with_record}
use Rattle.tracker_queue.specs.Sending.{without_head, SendAsks}
use Rattle.tracker_delivery.specs.UnderwayParts.{Underway, traffic_of}
use Rattle.tracker_delivery.specs.Holding.{Carrying, carrying, answered, Holds, Fits, Delivering}
use Rattle.tracker_delivery.specs.Handing.{site_of_head}
use Rattle.site_memory.proofs.SitePart.{few_sites, start_small, part, part_is}
use Rattle.tracker_delivery.proofs.OneAnswer.{site_one}
use Rattle.tracker_delivery.proofs.HoldingLaws.{part_long, part_starts, site_read, holds_answer, holds_site}
use Rattle.tracker_delivery.proofs.GoingLaws.{going_fit, going_stage, going_stored}
use Rattle.tracker_delivery.proofs.StepLaws.{Handing, handing, answer_sends}
use Rattle.tracker_delivery.proofs.HandLaws.{head_accepted, few_rest, rest_waits, room, answer_names}

pub site_of_head_is : (waiting : Queue)
    → (waiting.count ≡ 0 → ⊥)
    → to_coordinator waiting.first ≡ false
    → site_of_head waiting ≡ waiting.first.site
site_of_head_is waiting some way = rw (ne_eqb waiting.count 0 some, way)

module _ {settings : Settings} {carry : Carrying} (u : Delivering settings carry)
    (hand : Handing settings carry u) where
  abbrev now : Network
  now = u.now.network

  abbrev m : Message
  m = carry.waiting.first

  abbrev fits : Fits settings u.given
  fits = hand.going.accepting.fits

  module _ (way : to_coordinator m ≡ false) where
    abbrev j : ℕ
    j = m.site

    abbrev after : SiteStep
    after = site_receives (site_at now j) m

    due : Due settings (site_at now j) j m
    due = message_due settings (site_at now j) j m (rw way at (head_accepted u hand))

    pub site_known : j < settings.sites
    site_known = due.site_known

    pub site_few : j < most_sites
    site_few = few_sites (going_fit hand.going.accepting) site_known

    -- The words of a site, as the code names them.
    module _ (words : ℕ) (words_are : words ≡ site_words settings) where
      pub starts_within : j * words ≤ length carry.held.site_memory
      starts_within =
          rw words_are (part_starts fits (going_stored hand.going) hand.holds j site_known)

      pub starts_small : j * words ≤ most_sites * most_site_words
      starts_small = rw words_are (start_small (going_fit hand.going.accepting) site_known)

    -- The site's record and its part of the memory, as the code names them.
    module _ (numbers : SiteRecord) (words : ℕ)
        (numbers_are : numbers ≡ get_or carry.held.sites.records j no_record)
        (words_are : words ≡ site_words settings) where
      abbrev own : List ℕ
      own = part carry.held.site_memory j words

      own_is : own ≡ drop (j * site_words settings) carry.held.site_memory
      own_is = part_is settings carry.held.site_memory j words words_are

      read : site_in settings numbers own ≡ site_at now j
      read =
          rw (numbers_are, own_is)
          (site_read fits (going_stored hand.going) hand.holds j site_known)

      pub site_asks : ReceiveAsks settings numbers m own
      site_asks = record {
        ready = record {
          settings_accepted = fits.settings_accepted;
          long_enough = rw own_is
              (part_long fits (going_stored hand.going) hand.holds j site_known);
          site_sound = subst⁻¹ (SoundSite settings) read
              (stage_sites (going_stage hand.going) j site_known);
        };
        value_known = due.value_known;
      }

      module _ (answer : SiteAnswer.Replied) (queue : Queue)
          (says : ReceiveStepSays settings numbers m own answer)
          (queue-is : queue ≡ without_head carry.waiting) where
        site_is : answer.site ≡ site_record after.site
        site_is = says.site ∙ ap (λ (x : Site). site_record (site_receives x m).site) read

        abbrev next : Underway
        next = record {
          sites = with_record carry.held.sites j answer.site;
          coordinator = carry.held.coordinator;
          written = carry.written;
          waiting = queue;
        }

        changed : Holds settings u.given u.earlier
            (delivery (with_site now j after.site) hand.rest u.now.log)
            (carrying next carry.held.site_memory carry.held.coordinator_memory carry.log)
        changed =
            let inside : j < length now.sites =
            omega (arith, site_known, (going_stored hand.going).all_sites) in
            holds_site hand.holds j after.site hand.rest answer.site queue
            carry.held.site_memory inside site_is (rest_waits u hand queue queue-is)
            (hand.holds.site_memory
            ∙ sym (sites_memory_kept settings now.sites u.given.held.site_memory j
            after.site
            (counters_kept.by_message (site_at now j) m)
            (values_kept.by_message (site_at now j) m)))

        abbrev room_then : message_width * length (u.earlier ++ (u.now.log ++ after.messages))
            ≤ length u.given.log
        room_then = rw way at (room u hand)

        abbrev count_is : answer.count ≡ length after.messages
        count_is = says.count ∙ ap (λ (x : Site). length (site_receives x m).messages) read

        abbrev out_is : answer.reply ≡ get_or after.messages 0 no_message
        out_is =
            says.reply ∙ ap (λ (x : Site). get_or (site_receives x m).messages 0 no_message) read

        pub site_sends : (answer.count ≡ 0 → ⊥)
            → SendAsks (traffic_of next) answer.reply carry.held.sites.messages carry.log
        site_sends =
            answer_sends changed after.messages answer.count count_is answer.reply out_is
            (rw way at (answer_names u hand)) room_then fits

        pub site_holds :
            Holds settings u.given u.earlier (delivery_step settings u.now)
            (answered answer.count answer.reply
            (carrying next carry.held.site_memory carry.held.coordinator_memory carry.log))
        site_holds =
            rw (hand.step_is, way)
            (holds_answer after.messages answer.count answer.reply changed
            (site_one (site_at now j) m) count_is out_is (few_rest u hand) room_then)

-- There is a record for the site that the head is for, or for site 0.
pub head_few : {settings : Settings} {carry : Carrying} → Delivering settings carry
    → site_of_head carry.waiting < most_sites
head_few {carry = carry} u = by_count (ℕ_discrete queue.count 0)
  where
    queue : Queue
    queue = carry.waiting

    by_way : (queue.count ≡ 0 → ⊥)
        → (way : Bool)
        → to_coordinator queue.first ≡ way
        → site_of_head queue < most_sites
    by_way some true is = rw (ne_eqb queue.count 0 some, is) (omega arith)
    by_way some false is = rw (site_of_head_is queue some is) (site_few u (handing u some) is)

    by_count : Dec (queue.count ≡ 0) → site_of_head queue < most_sites
    by_count (yes none) = rw (eq-eqb queue.count 0 none) (omega arith)
    by_count (no some) = by_way some (to_coordinator queue.first) refl
