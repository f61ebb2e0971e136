-- How many arrivals a site has had, of every state that arose: as many as the rules say of the
-- arrivals accepted, in mid-delivery too, since no message changes that. So at any time an arrival
-- is refused exactly where the rules refuse it.
--
--   refusal_same     why a draw is refused
--   taken_same       whether an arrival is taken
use mathlib.Core.Path.{◌≡◌, ap}
use Prim.Native.Nat.{ℕ}
use lib.Dec.{leb}
use Rattle.model.specs.declared.Settings.{Settings}
use Rattle.model.specs.declared.Arrival.{Arrival}
use Rattle.model.specs.Refusals.{when, ◌or_else◌, no_refusal, site_full}
use Rattle.model.specs.Limits.{site_limit}
use Rattle.model.specs.Settings.{settings_refusal}
use Rattle.model.specs.Draws.{is_taken}
use Rattle.model.specs.Site.{address_refusal, arrival_refusal}
use Rattle.model.specs.Network.{site_at}
use Rattle.model.specs.Runs.{is_taken_in, run_of}
use Rattle.model.proofs.Soundness.NeverFewer.{arrivals_kept}
use Rattle.history.specs.State.{State, network_of}
use Rattle.history.proofs.Invariant.{Standing}
use Rattle.history.proofs.Accounts.{kept_same}

module _ {settings : Settings} (passes : settings_refusal settings ≡ no_refusal)
    {n : ℕ} {state : State}
  where
    -- 5, 6 and 7 are of the settings alone, and 8 of that number.
    pub refusal_same : Standing settings n state
        → (j : ℕ) (arrival : Arrival)
        → arrival_refusal settings (site_at (network_of settings state.held) j) arrival
        ≡ arrival_refusal settings (site_at (run_of settings state.accepted).network j) arrival
    refusal_same standing j arrival =
        ap (λ (arrivals : ℕ).
        address_refusal settings arrival
        or_else when (leb site_limit arrivals) site_full
        or_else no_refusal)
        (kept_same passes arrivals_kept standing j)

    -- So the run takes what the network that is held takes.
    pub taken_same : Standing settings n state
        → (arrival : Arrival)
        → is_taken_in settings (network_of settings state.held) arrival
        ≡ is_taken_in settings (run_of settings state.accepted).network arrival
    taken_same standing arrival =
        ap (is_taken arrival) (refusal_same standing arrival.site arrival)
