-- What an arrival and the steps of its delivery keep, from any sound network: every place of lent
-- memory that is not the network's, the accepted arrivals and the network's own counts.
--
--   Keeping, kept_after     after so many steps
--   held_after              all that is held: the network, written over what was there
use mathlib.Core.Path.{◌≡◌, refl, ap, ◌∙◌}
use mathlib.Core.Bool.{true}
use mathlib.Core.List.{List}
use Prim.Native.Nat.{ℕ, suc}
use Rattle.model.specs.declared.Settings.{Settings}
use Rattle.model.specs.declared.Arrival.{Arrival}
use Rattle.model.specs.Refusals.{no_refusal}
use Rattle.model.specs.Settings.{settings_refusal}
use Rattle.model.specs.Draws.{is_draw}
use Rattle.site.specs.Calls.{Observation, ObserveSays}
use Rattle.history.specs.State.{State, network_of, network_written, record_at, site_part}
use Rattle.history.specs.Steps.{after_single, Delivers}
use Rattle.history.specs.Histories.{Deliveries}
use Rattle.history.proofs.Underway.{SoundRest, Underway}
use Rattle.history.proofs.SingleState.{begins}
use Rattle.history.proofs.DeliveredState.{delivered_on, step_keeps}
use Rattle.history.proofs.GoesOn.{Further, further}
use Rattle.history.proofs.FromStart.{FromStart, from_self, from_single, from_delivery, held_over}

module _ {settings : Settings} (passes : settings_refusal settings ≡ no_refusal) (state : State)
    (rest : SoundRest settings state) (arrival : Arrival) (words : ℕ) (part : List ℕ)
    (observed : Observation)
    (says : ObserveSays settings (record_at state.held arrival.site) arrival
    (site_part settings state.held arrival.site words) part observed)
    (is_draw_lem : is_draw arrival ≡ true)
    (accepts : observed.refusal ≡ no_refusal) where
  abbrev then : State
  then = after_single settings state arrival words part observed

  -- After n steps.
  pub record Keeping (n : ℕ) (now : State) : Type 0 where
    pub mid : Underway settings (network_of settings state.held) arrival state.messages n now
    pub from : FromStart settings state.held now.held
    pub same_accepted : now.accepted ≡ then.accepted
    pub same_counts : now.held.sites.messages ≡ state.held.sites.messages

  at_first : Keeping 0 then
  at_first = record {
    mid = begins passes state rest arrival words part observed says is_draw_lem accepts;
    from =
        from_single passes state state.held
        (from_self passes state.held rest.lengths rest.sound.sites_sound)
        rest arrival words part observed says is_draw_lem accepts;
    same_accepted = refl;
    same_counts = refl;
  }

  on : (n : ℕ) (before after : State)
      → Keeping n before → Delivers settings before after → Keeping (suc n) after
  on n before after here step =
      let keeps = step_keeps before after step in
      record {
        mid = delivered_on passes before here.mid after step;
        from =
            from_delivery passes before state.held here.from here.mid after step;
        same_accepted = keeps.same_accepted ∙ here.same_accepted;
        same_counts = keeps.same_counts ∙ here.same_counts;
      }

  -- Kept by each step, and so by all.
  pub kept_after : (m : ℕ) (after : State)
      → Deliveries settings then m after
      → Further Keeping 0 m after
  kept_after = further Keeping on 0 then at_first

  -- The network, written over what was there.
  pub held_after : (m : ℕ) (after : State)
      → Deliveries settings then m after
      → after.held
      ≡ network_written settings state.held (network_of settings after.held)
      state.held.sites.messages
  held_after m after steps =
      let kept = (kept_after m after steps).holds in
      held_over passes state.held after.held kept.mid.lengths kept.from
      ∙ ap (network_written settings state.held (network_of settings after.held))
      kept.same_counts
