-- What a start test that passes is worth: records and memory hold a sound network within the
-- coordinator's limit, no site of which has forgotten more than arrived; and the number of an
-- arrival at it.
--
--   Passed, passed_of            of records and memory that are not refused
--   rest_of                      a state that holds them, with nothing waiting
--   refused_start, refused_unknown, refused_arrival    the number that refuses the arrival
use mathlib.Core.Path.{◌≡◌, refl, sym, ◌∙◌, subst}
use mathlib.Core.List.{[]}
use Prim.Native.Nat.{ℕ, suc, ◌-◌, ◌*◌, ◌≤◌, ◌<◌}
use native.Mathlib.Nat.{mul-le-mul_right}
use native.Mathlib.Omega.{arith}
use lib.ListN.{length}
use borrow.Author.Tests.{le-leb}
use Rattle.model.specs.declared.Settings.{Settings}
use Rattle.model.specs.declared.Arrival.{Arrival}
use Rattle.model.specs.Refusals.{no_refusal, unknown_site}
use Rattle.model.specs.Limits.{most_sites}
use Rattle.model.specs.Settings.{settings_refusal}
use Rattle.model.specs.SiteMemory.{site_words}
use Rattle.model.specs.Runs.{line_refusal_in}
use Rattle.model.specs.Network.{site_at}
use Rattle.model.specs.SoundNetwork.{DroppedWithin, Sound}
use Rattle.model.proofs.Touches.DrawLaws.{line_by_address}
use Rattle.model.proofs.Thresholds.RefusalLaws.{begin, pass_part, refuse_part, end}
use Rattle.model.proofs.Soundness.ConsistentCoordinator.{CoordinatorWithin}
use Rattle.model.proofs.Soundness.ConsistentNetwork.{passes_of}
use Rattle.bench_memory.specs.Promises.{SitesFit}
use Rattle.site.specs.Calls.{observe_refusal}
use Rattle.history.specs.State.{held_refusal, Held, State, network_of, record_at, site_start}
use Rattle.history.proofs.Decoded.{Lengths}
use Rattle.history.proofs.Underway.{SoundRest, SoundParts}
use Rattle.history.proofs.SoundMemory.{arrival_by_rules}
use Rattle.single_begin.specs.Arriving.{rest_from}
use Rattle.single_outcome.specs.Delivery.{delivery_refusal}

pub record Passed (settings : Settings) (held : Held) : Type 0 where
  pub passes : settings_refusal settings ≡ no_refusal
  pub fits : SitesFit settings held.site_memory
  pub lengths : Lengths settings held
  pub sound : Sound settings (network_of settings held)
  pub dropped_within : (j : ℕ) → j < settings.sites
      → DroppedWithin (site_at (network_of settings held) j)
  pub within : CoordinatorWithin (network_of settings held).coordinator

-- Records that fill their array, and a start test that passes.
pub passed_of : (settings : Settings) (held : Held)
    → length held.sites.records ≡ most_sites
    → held_refusal settings held ≡ no_refusal
    → Passed settings held
passed_of settings held all none =
    let holds = passes_of settings held.sites held.coordinator held.site_memory
    held.coordinator_memory none in
    record {
      passes = holds.settings_accepted;
      fits = record {
        settings_accepted = holds.settings_accepted;
        long_enough = holds.sites_long;
      };
      lengths = record {
        all_records = all;
        sites_long = holds.sites_long;
        coordinator_long = holds.coordinator_long;
      };
      sound = holds.sound;
      dropped_within = holds.dropped_within;
      within = holds.within;
    }

-- A state that holds it.
pub rest_of : {settings : Settings} {held : Held}
    → Passed settings held
    → (state : State)
    → state.held ≡ held
    → state.waiting ≡ []
    → SoundRest settings state
rest_of {settings} ok state held_is nothing_waits = record {
  lengths = subst (Lengths settings) (sym held_is) ok.lengths;
  sound = subst (λ (held : Held). Sound settings (network_of settings held)) (sym held_is)
      ok.sound;
  nothing_waits = nothing_waits;
}

-- ---- The number that refuses the arrival

-- 1, 2, 3, 4, 11.
pub refused_start : (settings : Settings) (held : Held) (arrival : Arrival) (refusal : ℕ)
    → refusal ≡ held_refusal settings held
    → (refusal ≡ no_refusal → ⊥)
    → refusal ≡ delivery_refusal settings held arrival
refused_start settings held arrival refusal is refused =
    refuse_part _ _ (begin _) refl is refused

module _ (settings : Settings) (held : Held) (arrival : Arrival)
    (none : held_refusal settings held ≡ no_refusal) where
  -- Past the start test, the rules' number.
  by_rules : line_refusal_in settings (network_of settings held) arrival
      ≡ delivery_refusal settings held arrival
  by_rules = end (pass_part _ _ (begin _) refl none) refl

  -- 5.
  pub refused_unknown : settings.sites ≤ arrival.site
      → unknown_site ≡ delivery_refusal settings held arrival
  refused_unknown unknown =
      line_by_address settings (site_at (network_of settings held) arrival.site) arrival
      unknown_site (rw (le-leb settings.sites arrival.site unknown) refl) (omega arith)
      ∙ by_rules

  -- 6, 7, 8, or accepted: what the site says is what the rules say.
  pub refused_arrival : Passed settings held
      → arrival.site < settings.sites
      → observe_refusal settings (record_at held arrival.site) arrival
      (rest_from settings held.site_memory arrival.site)
      ≡ delivery_refusal settings held arrival
  refused_arrival ok known =
      let j = arrival.site in
      let parts : SoundParts settings (network_of settings held) = record {
        sites_sound = ok.sound.sites_sound;
        coordinator_sound = ok.sound.coordinator_sound;
        within = ok.within;
      } in
      let more : suc j * site_words settings ≤ settings.sites * site_words settings =
      mul-le-mul_right (site_words settings) known in
      arrival_by_rules ok.passes held ok.lengths parts j
      (length held.site_memory - site_start settings j) known (ok.dropped_within j known)
      (omega (arith, more, ok.lengths.sites_long)) arrival
      ∙ by_rules
