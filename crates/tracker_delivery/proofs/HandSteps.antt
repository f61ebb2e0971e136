-- A hand-over as the code takes it: what changes, in its three cases, and a step of the delivery
-- from the change and its answer.
--
--   asked_says                   a kind 7 asked for
--   received_says, site_says     a message for the coordinator, for a site
--   send_asks, answered_step     what sending its answer requires, and the step when it went out
use mathlib.Core.Path.{◌≡◌, ap, ◌∙◌, subst⁻¹}
use mathlib.Core.Bool.{true, false}
use mathlib.Core.List.{List}
use Prim.Native.Nat.{ℕ}
use lib.ListN.{get_or, set}
use lib.Seq.{set-get_or}
use Rattle.model.specs.declared.Settings.{Settings}
use Rattle.model.specs.declared.SiteRecord.{SiteRecord}
use Rattle.model.specs.declared.CoordinatorRecord.{CoordinatorRecord}
use Rattle.model.specs.Messages.{to_coordinator}
use Rattle.model.specs.Coordinator.{coordinator_receives, announced}
use Rattle.model.specs.CoordinatorMemory.{coordinator_in}
use Rattle.model.specs.SiteMemory.{site_words}
use Rattle.model.specs.DeliveryClaims.{delivery_step}
use Rattle.site_receiving.specs.declared.Replied as SiteAnswer
use Rattle.site_receiving.specs.Receiving.{ReceiveStepSays}
use Rattle.coordinator_kinds.specs.declared.Answered.{Answered}
use Rattle.coordinator_kinds.specs.Steps.{answer_of, KindSays}
use Rattle.site_memory.proofs.SitePart.{part}
use Rattle.model.specs.Held.{no_record}
use Rattle.tracker_queue.specs.declared.Queue.{Queue}
use Rattle.tracker_queue.specs.declared.Traffic.{Traffic}
use Rattle.tracker_delivery.specs.declared.Change.{Change}
use Rattle.tracker_queue.specs.Sending.{without_head, SendAsks, AnswerSays}
use Rattle.tracker_delivery.specs.UnderwayParts.{Underway, traffic_of, underway_of}
use Rattle.tracker_delivery.specs.Holding.{Carrying, carrying, answered, Holds, Delivering, goes_on, StepSays}
use Rattle.tracker_delivery.specs.Handing.{site_of_head, coordinator_change, with_queue, changed, HandedStep, HandSays}
use Rattle.tracker_delivery.proofs.StepLaws.{handing, asking, asked_sends, asked_holds}
use Rattle.tracker_delivery.proofs.HandToCoordinator.{coordinator_sends, coordinator_holds}
use Rattle.tracker_delivery.proofs.HandToSite.{site_of_head_is, site_sends, site_holds}

-- ---- What changes

-- The coordinator's answer leaves the sites' records as they are.
coordinator_changed : (underway : Underway) (own : SiteRecord) (waiting : Queue) (answer : Answered)
    → own ≡ get_or underway.sites.records (site_of_head underway.waiting) no_record
    → changed underway (coordinator_change own waiting answer)
    ≡ underway_of underway.sites.records underway.sites.messages answer.coordinator
    (with_queue (traffic_of underway) waiting)
coordinator_changed underway own waiting answer own_is =
    let records = underway.sites.records in
    let at = site_of_head underway.waiting in
    ap (λ (after : List SiteRecord).
    underway_of after underway.sites.messages answer.coordinator
    (with_queue (traffic_of underway) waiting))
    (ap (set records at) own_is ∙ set-get_or records at no_record)

-- From what is under way then.
handed_as : {settings : Settings} {underway : Underway}
    {site_memory coordinatorBefore coordinator_after : List ℕ} {by : Change} (next : Underway)
    → changed underway by ≡ next
    → ((log : List ℕ)
    → Delivering settings (carrying underway site_memory coordinatorBefore log)
    → (by.count ≡ 0 → ⊥)
    → SendAsks (traffic_of next) by.out underway.sites.messages log)
    → ((log : List ℕ) (u : Delivering settings
    (carrying underway site_memory coordinatorBefore log))
    → Holds settings u.given u.earlier (delivery_step settings u.now)
    (answered by.count by.out (carrying next site_memory coordinator_after log)))
    → HandedStep settings underway site_memory coordinatorBefore coordinator_after by
handed_as {settings} {underway} {site_memory = site_memory} {coordinator_after = coordinator_after}
    {by = by} next is sends holds = record {
      sends = λ log u some.
          subst⁻¹ (λ (then : Underway).
          SendAsks (traffic_of then) by.out underway.sites.messages log) is
          (sends log u some);
      next = λ log u.
          subst⁻¹ (λ (then : Underway).
          Holds settings u.given u.earlier (delivery_step settings u.now)
          (answered by.count by.out (carrying then site_memory coordinator_after log))) is
          (holds log u);
    }

module _ {settings : Settings} {own : SiteRecord} {coordinator : CoordinatorRecord}
    {waiting : Queue} {site_memory coordinatorBefore : List ℕ} where
  -- The next kind 7 is asked for.
  pub asked_says : waiting.count ≡ 0
      → goes_on coordinator waiting ≡ true
      → (answer : Answered)
      → ((memory : List ℕ)
      → answer ≡ answer_of (announced settings (coordinator_in settings coordinator memory)))
      → (by : Change)
      → by ≡ coordinator_change own waiting answer
      → HandSays settings own coordinator waiting site_memory coordinatorBefore coordinatorBefore by
  asked_says none goes answer is by by-is =
      subst⁻¹
      (HandSays settings own coordinator waiting site_memory coordinatorBefore coordinatorBefore)
      by-is
      (record {
        handed = λ records counts traffic own_is.
            handed_as _
            (coordinator_changed
            (underway_of records counts coordinator (with_queue traffic waiting)) own waiting answer
            own_is)
            (λ log u. asked_sends u (asking u none goes) answer is)
            (λ log u. asked_holds u (asking u none goes) answer is);
      })

  module _ (some : waiting.count ≡ 0 → ⊥)
      (queue : Queue)
      (queue-is : queue ≡ without_head waiting) where
    -- The head is for the coordinator.
    pub received_says : to_coordinator waiting.first ≡ true
        → (answer : Answered) (memory : List ℕ)
        → KindSays
        (coordinator_receives settings (coordinator_in settings coordinator coordinatorBefore)
        waiting.first)
        coordinatorBefore memory answer
        → (by : Change)
        → by ≡ coordinator_change own queue answer
        → HandSays settings own coordinator waiting site_memory coordinatorBefore memory by
    received_says way answer memory does by by-is =
        subst⁻¹ (HandSays settings own coordinator waiting site_memory coordinatorBefore memory)
        by-is
        (record {
          handed = λ records counts traffic own_is.
              handed_as _
              (coordinator_changed
              (underway_of records counts coordinator (with_queue traffic waiting)) own queue answer
              own_is)
              (λ log u. coordinator_sends u (handing u some) way answer memory queue does queue-is)
              (λ log u. coordinator_holds u (handing u some) way answer memory queue does queue-is);
        })

    -- The head is for the site that it names, whose part of the memory the code has.
    pub site_says : to_coordinator waiting.first ≡ false
        → (words : ℕ)
        → words ≡ site_words settings
        → (answer : SiteAnswer.Replied)
        → ReceiveStepSays settings own waiting.first
        (part site_memory waiting.first.site words) answer
        → HandSays settings own coordinator waiting site_memory coordinatorBefore coordinatorBefore
        (record {
          site = answer.site;
          coordinator = coordinator;
          waiting = queue;
          count = answer.count;
          out = answer.reply;
        })
    site_says way words words_are answer says = record {
      handed = λ records counts traffic own_is.
          let at = site_of_head_is waiting some way in
          let numbers_are = own_is ∙ ap (λ (j : ℕ). get_or records j no_record) at in
          handed_as _
          (ap (λ (j : ℕ). underway_of (set records j answer.site) counts coordinator
          (with_queue traffic queue)) at)
          (λ log u.
          site_sends u (handing u some) way own words numbers_are words_are answer queue says
          queue-is)
          (λ log u.
          site_holds u (handing u some) way own words numbers_are words_are answer queue says
          queue-is);
    }

-- ---- The step

-- The records, the coordinator's record and the messages as the loop changes them.
module _ {settings : Settings} {coordinator : CoordinatorRecord}
    {site_memory coordinatorBefore coordinator_after : List ℕ} {by : Change}
    (records : List SiteRecord)
    (counts : List ℕ)
    (traffic : Traffic)
    (log : List ℕ)
    (which : ℕ)
    (which-is : which ≡ site_of_head traffic.waiting)
    (says : HandSays settings (get_or records which no_record) coordinator traffic.waiting
    site_memory coordinatorBefore coordinator_after by) where
  abbrev settled : List ℕ → Traffic → Underway
  settled counted = underway_of (set records which by.site) counted by.coordinator

  by_hand : HandedStep settings (underway_of records counts coordinator traffic) site_memory
      coordinatorBefore
      coordinator_after by
  by_hand = says.handed records counts traffic (ap (λ (j : ℕ). get_or records j no_record) which-is)

  settled_is : settled counts (with_queue traffic by.waiting)
      ≡ changed (underway_of records counts coordinator traffic) by
  settled_is =
      ap (λ (j : ℕ). underway_of (set records j by.site) counts by.coordinator
      (with_queue traffic by.waiting)) which-is

  pub send_asks : Delivering settings
      (carrying (underway_of records counts coordinator traffic) site_memory coordinatorBefore log)
      → (by.count ≡ 0 → ⊥)
      → SendAsks (with_queue traffic by.waiting) by.out counts log
  send_asks = by_hand.sends log

  pub answered_step : {result : Traffic} {counted written : List ℕ}
      → AnswerSays by.count (with_queue traffic by.waiting) by.out counts log result counted
      written
      → StepSays settings
      (carrying (underway_of records counts coordinator traffic) site_memory coordinatorBefore log)
      (carrying (settled counted result) site_memory coordinator_after written)
  answered_step {result} {counted} {written} said = record {
    next = λ u.
        subst⁻¹ (λ (next : Carrying).
        Holds settings u.given u.earlier (delivery_step settings u.now) next)
        (λ i. carrying (settled (said.counted i) (said.goes_out i)) site_memory coordinator_after
        (said.logged i))
        (subst⁻¹ (λ (then : Underway).
        Holds settings u.given u.earlier (delivery_step settings u.now)
        (answered by.count by.out (carrying then site_memory coordinator_after log))) settled_is
        (by_hand.next log u));
  }
