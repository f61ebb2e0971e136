-- Polls and their answers, handed over: each site's pending moves into the total, and the answer of
-- the last site closes the round.
--
--   handed_polls   the head of the queue in this stage
use mathlib.Core.Path.{◌≡◌, refl, sym, subst}
use mathlib.Core.Bool.{Bool, true, false}
use mathlib.Core.List.{List, [], ◌∷◌}
use Prim.Native.Nat.{ℕ, ◌+◌, ◌-◌, ◌*◌, ◌≤◌, ◌<◌}
use native.Mathlib.Omega.{arith}
use native.Mathlib.Decide.{dec_lt}
use Rattle.model.specs.declared.Settings.{Settings}
use Rattle.model.specs.declared.Message.{Message}
use Rattle.model.specs.declared.Phase.{Phase}
use Rattle.model.specs.declared.Phase.TheVariants.{Collecting, Probing, Announcing}
use Rattle.model.specs.Limits.{top_value, closing_steps}
use Rattle.model.specs.Settings.{threshold_of}
use Rattle.model.specs.Messages.{poll, poll_answer, probe}
use Rattle.model.specs.Coordinator.{Coordinator, with_total, with_base, middle, coordinator_receives}
use Rattle.model.specs.Network.{Network, site_at, with_coordinator}
use Rattle.model.specs.SoundNetwork.{SoundSite}
use Rattle.model.proofs.Thresholds.SettingsLaws.{Settled}
use Rattle.model.proofs.Thresholds.Threshold.{threshold_mono}
use Rattle.model.proofs.Deliveries.DeliveryLoops.{polled}
use Rattle.model.proofs.Soundness.SoundSites.{sound_polled}
use Rattle.mid_delivery.proofs.Soundness.CoordinatorSound.{numbers_total, numbers_base}
use Rattle.mid_delivery.proofs.Soundness.Together.{Together, together_site, together_coordinator}
use Rattle.mid_delivery.proofs.Stages.AcceptedMessages.{poll_accepted, poll_answer_accepted}
use Rattle.mid_delivery.proofs.Stages.PhaseSteps.{poll_answer_next, poll_answer_last_one, poll_answer_last_more}
use Rattle.mid_delivery.proofs.Stages.NarrowedStage.{announcing_begins, halving_begins}
use Rattle.mid_delivery.proofs.Stages.Stages.{Polls, Stage, StageAfter, polling, HandedOn}

-- ---- Each message handed over

module _ {settings : Settings} {network : Network} {waiting : List Message} {left : ℕ}
    (fit : Settled settings) (p : Polls settings network waiting left) where
  abbrev c : Coordinator
  c = network.coordinator

  -- The site answers with its pending, which is on its way then.
  poll_handed : p.answered ≡ false
      → HandedOn settings network (poll p.j) [] left
  poll_handed asked =
      let j : ℕ = p.j in
      let steps = rw asked at p.steps_left in
      let site_sound : SoundSite settings (site_at network j) =
      p.together.sites_sound j p.closing.site_known in
      let same : (site_at network j).threshold ≡ c.threshold =
      p.together.informed_same j p.closing.site_known in
      let none-on-way : Together settings network settings.sites 0 = rw asked at p.together in
      record {
        some_left = omega (arith, p.closing.site_known);
        head_accepted = poll_accepted settings (site_at network j) j p.closing.site_known;
        next = polling (record {
          answered = true;
          j = j;
          amount = (site_at network j).pending;
          waits = refl;
          phase_is = p.phase_is;
          closing = p.closing;
          amount_below = omega (arith, site_sound.pending_below);
          together = together_site none-on-way j (polled (site_at network j))
              p.closing.site_known settings.sites (site_at network j).pending
              (sound_polled site_sound) (λ i i< _. p.together.informed_same i i<)
              (λ _. same) (p.together.thresholds_below j p.closing.site_known) (omega arith);
          steps_left = omega (arith, p.closing.site_known);
        });
      }

  -- The answer is in the total, and the coordinator goes on to another threshold or keeps it.
  module _ (answered : p.answered ≡ true) where
    abbrev base : ℕ
    base = c.total + p.amount

    on_way : Together settings network settings.sites p.amount
    on_way = rw answered at p.together

    steps : closing_steps settings ≤ left + (2 * p.j + 1)
    steps = rw answered at p.steps_left

    -- The base is at least the one before, so the threshold does not fall.
    rises : c.threshold ≤ threshold_of settings base
    rises =
        omega (
          arith,
          p.together.numbers.threshold_of_base,
          threshold_mono settings fit.sites.at_least {base = c.base} {base' = base}
              (omega (arith, p.together.numbers.base_within)),
        )

    closed_together : (phase : Phase)
        → Together settings
        (with_coordinator network (with_base c base (threshold_of settings base) phase)) 0 0
    closed_together phase =
        together_coordinator on_way _ 0 0
        (numbers_base p.together.numbers p.amount phase fit.sites.at_least
        p.amount_below)
        rises (λ j none. absurd (omega arith)) (omega arith)

    next_poll : p.j + 1 < settings.sites
        → Stage settings
        (with_coordinator network (with_total c base (Collecting (p.j + 1))))
        (poll (p.j + 1) ∷ []) (left - 1)
    next_poll more = polling (record {
      answered = false;
      j = p.j + 1;
      amount = 0;
      waits = refl;
      phase_is = refl;
      closing = record { all_signals = p.closing.all_signals; site_known = more };
      amount_below = omega (arith, p.amount_below);
      together = together_coordinator on_way _ settings.sites 0
          (numbers_total p.together.numbers p.amount (Collecting (p.j + 1))
          p.amount_below)
          (omega arith) p.together.informed_same (omega arith);
      steps_left = omega (arith, steps);
    })

    close_one : Stage settings
        (with_coordinator network (with_base c base (threshold_of settings base) (Announcing 0)))
        [] (left - 1)
    close_one =
        announcing_begins fit (closed_together (Announcing 0)) p.closing.all_signals
        (left - 1) refl (omega (arith, steps, p.closing.site_known))

    close_more : Stage settings
        (with_coordinator network
        (with_base c base (threshold_of settings base) (Probing 0 0 top_value 0)))
        (probe 0 (middle 0 top_value) ∷ []) (left - 1)
    close_more =
        halving_begins fit (closed_together (Probing 0 0 top_value 0)) p.closing.all_signals
        (left - 1) 10 0 top_value refl (omega arith) (omega arith) (omega arith)
        (omega (arith, steps, p.closing.site_known))

    -- Another site to poll, or a close.
    after_answer : StageAfter settings network [] (left - 1)
        (coordinator_receives settings c (poll_answer p.j p.amount))
    after_answer =
        by_site (dec_lt (p.j + 1) settings.sites) (dec_lt (threshold_of settings base) 2)
      where
        by_site : Dec (p.j + 1 < settings.sites)
            → Dec (threshold_of settings base < 2)
            → StageAfter settings network [] (left - 1)
            (coordinator_receives settings c (poll_answer p.j p.amount))
        by_site (yes more) _ =
            subst (StageAfter settings network [] (left - 1))
            (sym (poll_answer_next settings c p.j p.amount p.phase_is more))
            (next_poll more)
        by_site (no last) (yes one) =
            subst (StageAfter settings network [] (left - 1))
            (sym (poll_answer_last_one settings c p.j p.amount p.phase_is (omega arith)
            one))
            close_one
        by_site (no last) (no more) =
            subst (StageAfter settings network [] (left - 1))
            (sym (poll_answer_last_more settings c p.j p.amount p.phase_is (omega arith)
            (omega arith)))
            close_more

    answer_handed : HandedOn settings network (poll_answer p.j p.amount) [] left
    answer_handed = record {
      some_left = omega (arith, steps, p.closing.site_known);
      head_accepted =
          poll_answer_accepted settings c p.j p.closing.site_known p.amount
          p.phase_is p.amount_below;
      next = after_answer;
    }

-- ---- The head of the queue

-- The head is kind 3 or kind 4; the next stage is a poll, a halving or the announcements.
pub handed_polls : {settings : Settings} {network : Network} {m : Message}
    {waiting : List Message} {left : ℕ}
    → Settled settings
    → Polls settings network (m ∷ waiting) left
    → HandedOn settings network m waiting left
handed_polls {settings} {network} {m} {waiting} {left} fit p = by_answer p.answered refl
  where
    by_answer : (answered : Bool) → p.answered ≡ answered
        → HandedOn settings network m waiting left
    by_answer true answered =
        let waits : m ∷ waiting ≡ poll_answer p.j p.amount ∷ [] = rw answered at p.waits in
        let head : m ≡ poll_answer p.j p.amount = cc in
        let tail : waiting ≡ [] = cc in
        rw (head, tail) (answer_handed fit p answered)
    by_answer false asked =
        let waits : m ∷ waiting ≡ poll p.j ∷ [] = rw asked at p.waits in
        let head : m ≡ poll p.j = cc in
        let tail : waiting ≡ [] = cc in
        rw (head, tail) (poll_handed fit p asked)
