-- Probes and their answers, handed over: each site counts its arrivals up to the middle, and the
-- answer of the last site narrows the interval, until one value is left.
--
--   handed_probes   the head of the queue in this stage
use mathlib.Core.Path.{◌≡◌, refl, sym, subst}
use mathlib.Core.Bool.{Bool, true, false}
use mathlib.Core.List.{List, [], ◌∷◌}
use Prim.Native.Nat.{ℕ, zero, suc, ◌+◌, ◌-◌, ◌*◌, ◌^◌, ◌≤◌, ◌<◌}
use native.Mathlib.Nat.{mul-le-mul_left}
use native.Mathlib.Omega.{arith}
use native.Mathlib.Decide.{dec_lt}
use Rattle.model.specs.declared.Settings.{Settings}
use Rattle.model.specs.declared.Message.{Message}
use Rattle.model.specs.declared.Phase.TheVariants.{Probing}
use Rattle.model.specs.Limits.{top_value}
use Rattle.model.specs.Messages.{probe, probe_answer}
use Rattle.model.specs.Site.{up_to}
use Rattle.model.specs.Coordinator.{with_phase, middle, enough, narrowed, coordinator_receives}
use Rattle.model.specs.Network.{Network, site_at, with_coordinator}
use Rattle.model.specs.SoundNetwork.{SoundSite}
use Rattle.model.proofs.Thresholds.SettingsLaws.{Settled}
use Rattle.model.proofs.Soundness.SoundSites.{up_to_within}
use Rattle.mid_delivery.proofs.Soundness.CoordinatorSound.{numbers_phase}
use Rattle.mid_delivery.proofs.Soundness.Together.{together_site}
use Rattle.mid_delivery.proofs.Stages.AcceptedMessages.{probe_accepted, probe_answer_accepted}
use Rattle.mid_delivery.proofs.Stages.PhaseSteps.{probe_answer_next, probe_answer_last}
use Rattle.mid_delivery.proofs.Stages.NarrowedStage.{same_together, narrowed_stage}
use Rattle.mid_delivery.proofs.Stages.Stages.{Probes, Stage, StageAfter, halving, HandedOn}

-- ---- Each message handed over

module _ {settings : Settings} {network : Network} {waiting : List Message} {left : ℕ}
    (fit : Settled settings) (p : Probes settings network waiting left) where
  abbrev asked : ℕ
  asked = middle p.low p.high

  known : p.j < settings.sites
  known = p.halving.closing.site_known

  asked_within : asked ≤ top_value
  asked_within = omega (arith, p.halving.interval.low_below, p.halving.interval.high_within)

  site_sound : SoundSite settings (site_at network p.j)
  site_sound = p.together.sites_sound p.j known

  -- The interval is wider than one value, so a halving is left.
  some_halving : (h : ℕ) → p.high < p.low + 2 ^ h → 1 ≤ h
  some_halving zero narrow = absurd (omega (arith, p.halving.interval.low_below))
  some_halving (suc h) narrow = omega arith

  some_steps : 2 * settings.sites ≤ 2 * (settings.sites * p.h)
  some_steps =
      omega (arith, mul-le-mul_left settings.sites (some_halving p.h p.narrow))

  -- The site counts, and stays as it was.
  probe_handed : p.answered ≡ false
      → HandedOn settings network (probe p.j asked) [] left
  probe_handed unanswered =
      let steps = rw unanswered at p.steps_left in
      record {
        some_left = omega (arith, known, some_steps);
        head_accepted =
            probe_accepted settings (site_at network p.j) p.j known asked asked_within;
        next = halving (record {
          answered = true;
          j = p.j;
          low = p.low;
          high = p.high;
          sum = p.sum;
          count = up_to asked (site_at network p.j).histogram;
          h = p.h;
          waits = refl;
          phase_is = p.phase_is;
          halving = p.halving;
          narrow = p.narrow;
          count_within =
              omega (arith, up_to_within site_sound asked, site_sound.arrivals_within);
          sum_within = p.sum_within;
          together = together_site p.together p.j (site_at network p.j) known 0 0 site_sound
              (λ i none _. absurd (omega arith)) (λ none. absurd (omega arith))
              (p.together.thresholds_below p.j known) refl;
          steps_left = omega (arith, known, some_steps);
        });
      }

  module _ (answered : p.answered ≡ true) where
    steps : 2 * (settings.sites * p.h) + 2 * settings.sites ≤ left + (2 * p.j + 1)
    steps = rw answered at p.steps_left

    next_probe : p.j + 1 < settings.sites
        → Stage settings
        (with_coordinator network
        (with_phase network.coordinator
        (Probing (p.j + 1) p.low p.high (p.sum + p.count))))
        (probe (p.j + 1) asked ∷ []) (left - 1)
    next_probe more = halving (record {
      answered = false;
      j = p.j + 1;
      low = p.low;
      high = p.high;
      sum = p.sum + p.count;
      count = 0;
      h = p.h;
      waits = refl;
      phase_is = refl;
      halving = record {
        closing = record {
          all_signals = p.halving.closing.all_signals;
          site_known = more;
        };
        interval = p.halving.interval;
      };
      narrow = p.narrow;
      count_within = omega arith;
      sum_within = omega (arith, p.sum_within, p.count_within);
      together = same_together fit p.together p.halving.closing.all_signals _
          (numbers_phase p.together.numbers _) (omega arith) refl;
      steps_left = omega (arith, steps);
    })

    -- What is left after this halving has at most half the values.
    halved_stage : (h : ℕ)
        → p.high < p.low + 2 ^ h
        → settings.sites ≤ p.j + 1
        → 2 * (settings.sites * h) + 2 * settings.sites ≤ left + (2 * p.j + 1)
        → (lower : Bool)
        → StageAfter settings network [] (left - 1)
        (elim lower [
          | true ↦ narrowed network.coordinator p.low asked
          | false ↦ narrowed network.coordinator (asked + 1) p.high
        ])
    halved_stage zero narrow last few lower =
        absurd (omega (arith, p.halving.interval.low_below))
    halved_stage (suc h) narrow last few true =
        narrowed_stage fit p.together p.halving.closing.all_signals (left - 1) h p.low
        asked (omega (arith, p.halving.interval.low_below)) asked_within (omega arith)
        (omega (arith, known))
    halved_stage (suc h) narrow last few false =
        narrowed_stage fit p.together p.halving.closing.all_signals (left - 1) h (asked + 1)
        p.high (omega (arith, p.halving.interval.low_below))
        p.halving.interval.high_within (omega arith) (omega (arith, known))

    after_answer : StageAfter settings network [] (left - 1)
        (coordinator_receives settings network.coordinator
        (probe_answer p.j asked p.count))
    after_answer = by_site (dec_lt (p.j + 1) settings.sites)
      where
        by_site : Dec (p.j + 1 < settings.sites)
            → StageAfter settings network [] (left - 1)
            (coordinator_receives settings network.coordinator
            (probe_answer p.j asked p.count))
        by_site (yes more) =
            subst (StageAfter settings network [] (left - 1))
            (sym (probe_answer_next settings network.coordinator p.j p.low p.high
            p.sum p.count p.phase_is more))
            (next_probe more)
        by_site (no last) =
            subst (StageAfter settings network [] (left - 1))
            (sym (probe_answer_last settings network.coordinator p.j p.low p.high
            p.sum p.count p.phase_is
            (enough settings.rank network.coordinator.base (p.sum + p.count))
            (omega arith) refl))
            (halved_stage p.h p.narrow (omega arith) steps
            (enough settings.rank network.coordinator.base (p.sum + p.count)))

    answer_handed : HandedOn settings network (probe_answer p.j asked p.count) [] left
    answer_handed = record {
      some_left = omega (arith, steps, known, some_steps);
      head_accepted =
          probe_answer_accepted settings network.coordinator p.j known p.low p.high
          p.sum p.count p.phase_is asked_within p.count_within;
      next = after_answer;
    }

-- ---- The head of the queue

-- The head is kind 5 or kind 6; the next stage is a probe or the announcements.
pub handed_probes : {settings : Settings} {network : Network} {m : Message}
    {waiting : List Message} {left : ℕ}
    → Settled settings
    → Probes settings network (m ∷ waiting) left
    → HandedOn settings network m waiting left
handed_probes {settings} {network} {m} {waiting} {left} fit p = by_answer p.answered refl
  where
    v : ℕ
    v = middle p.low p.high

    by_answer : (answered : Bool) → p.answered ≡ answered
        → HandedOn settings network m waiting left
    by_answer true answered =
        let waits : m ∷ waiting ≡ probe_answer p.j v p.count ∷ [] =
        rw answered at p.waits in
        let head : m ≡ probe_answer p.j v p.count = cc in
        let tail : waiting ≡ [] = cc in
        rw (head, tail) (answer_handed fit p answered)
    by_answer false unanswered =
        let waits : m ∷ waiting ≡ probe p.j v ∷ [] = rw unanswered at p.waits in
        let head : m ≡ probe p.j v = cc in
        let tail : waiting ≡ [] = cc in
        rw (head, tail) (probe_handed fit p unanswered)
