-- Request N1 of every history: no draw of a deck is unaccounted for. "From a fresh start, for each
-- deck, the amounts of all its kind 1 messages, plus all unsent, plus the forgotten draws must
-- equal its draws, with forgotten defined from the history of replacements." An amount counts as
-- sent when its kind 1 goes out, so this holds after every call, in mid-delivery too.
--
--   AccountedIn settings arrivals j   a site in the rules' run over these arrivals
--   Dropped settings state            all of it
use Rattle.std.specs.Prelude.{◌≡◌, List, ℕ, ◌<◌, take}
use Rattle.model.specs.declared.Settings.{Settings}
use Rattle.model.specs.declared.Arrival.{Arrival}
use Rattle.model.specs.Network.{site_at}
use Rattle.model.specs.Runs.{run_of}
use Rattle.forgotten.specs.Departures.{departures, dropped_at, count_at, Accounted}
use Rattle.history.specs.State.{State, network_of, record_at}

-- What the rules' run over these arrivals has at a site.
abbrev pub AccountedIn : Settings → List Arrival → ℕ → Type 0
AccountedIn settings arrivals j =
    Accounted j arrivals (departures settings arrivals) (run_of settings arrivals).messages
    (site_at (run_of settings arrivals).network j)

-- Of each of the k sites.
pub record Dropped (settings : Settings) (state : State) : Type 0 where
  -- what record and memory hold, with all messages that went out so far
  pub accounted : (j : ℕ) → j < settings.sites
      → Accounted j state.accepted (departures settings state.accepted) state.messages
      (site_at (network_of settings state.held) j)
  -- "the deck keeps their sum, last in its record": what the operator reads there
  pub record_says : (j : ℕ) → j < settings.sites
      → (record_at state.held j).dropped ≡ dropped_at j (departures settings state.accepted)
  -- and its draws
  pub record_draws : (j : ℕ) → j < settings.sites
      → (record_at state.held j).arrivals ≡ count_at j state.accepted
  -- the same after each of the accepted arrivals, inside a batch as well
  pub accounted_after_each : (n j : ℕ) → j < settings.sites
      → AccountedIn settings (take n state.accepted) j
