-- A front of each memory holds the network, if it is long enough.
--
--   network_front   the network that the fronts hold is the one that is held
use mathlib.Core.Path.{◌≡◌, sym, ap, ◌∙◌}
use Prim.Native.Nat.{ℕ, ◌≤◌}
use lib.ListN.{length, take, drop, take-append-drop}
use Rattle.model.specs.declared.Settings.{Settings}
use Rattle.model.specs.Refusals.{no_refusal}
use Rattle.model.specs.Settings.{settings_refusal}
use Rattle.model.specs.CoordinatorMemory.{coordinator_words}
use Rattle.model.specs.NetworkMemory.{sites_words, sites_in}
use Rattle.history.specs.State.{Held, network_of, fronts, lending, no_record}
use Rattle.history.proofs.CoordinatorFronts.{coordinator_in_front}
use Rattle.site_memory.proofs.SitesFronts.{sites_in_front}
use Rattle.history.proofs.Decoded.{Lengths, SitesSound, used_at}

-- Each site has its counters within its own part.
pub network_front : {settings : Settings} (passes : settings_refusal settings ≡ no_refusal)
    (held : Held) (lengths : Lengths settings held) (sound : SitesSound settings held)
    (site_count coordinator_count : ℕ)
    → sites_words settings ≤ length (take site_count held.site_memory)
    → coordinator_words settings ≤ length (take coordinator_count held.coordinator_memory)
    → network_of settings (lending held (fronts site_count coordinator_count))
    ≡ network_of settings held
network_front {settings} passes held lengths sound site_count coordinator_count sites_long
    coordinator_long =
    let records = held.sites.records in
    let memory = held.site_memory in
    let sites : sites_in settings.sites settings records (take site_count memory)
    ≡ sites_in settings.sites settings records memory =
    sym (sites_in_front settings no_record settings.sites records
    (take site_count memory) (drop site_count memory)
    (λ j known. used_at passes held lengths sound j known) sites_long)
    ∙ ap (sites_in settings.sites settings records) (take-append-drop site_count memory) in
    let coordinator = coordinator_in_front settings held.coordinator coordinator_count
    held.coordinator_memory coordinator_long in
    λ i. record { sites = sites i; coordinator = coordinator i }
