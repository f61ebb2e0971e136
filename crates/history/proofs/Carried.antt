-- What is held, carried to other memories: the network's own numbers at their front, and what lies
-- behind them theirs. The network is the same, and so is all that speaks of it.
--
--   take_front_in, drop_front_in, front_in_long  a front of a memory at the front of another
--   network_carried, ok_carried                the network that is held, and the invariant
use mathlib.Core.Path.{◌≡◌, sym, ap, ◌∙◌, subst}
use mathlib.Core.List.{List}
use Prim.Native.Nat.{ℕ, ◌≤◌}
use native.Mathlib.Omega.{arith}
use lib.ListN.{length, take, drop, length-append, take-append-drop}
use lib.Seq.{length-take-le, take_at, drop_at}
use Rattle.model.specs.declared.Settings.{Settings}
use Rattle.model.specs.Refusals.{no_refusal}
use Rattle.model.specs.Settings.{settings_refusal}
use Rattle.model.specs.CoordinatorMemory.{coordinator_words, coordinator_in}
use Rattle.model.specs.Network.{Network}
use Rattle.model.specs.NetworkMemory.{sites_words, sites_in}
use Rattle.model.specs.Runs.{run_of}
use Rattle.model.specs.DeliveryClaims.{delivery, delivery_of}
use Rattle.mid_delivery.specs.SoundClaims.{Reached}
use Rattle.site_memory.proofs.SitesFronts.{sites_in_front}
use Rattle.history.specs.State.{Held, State, network_of, front_in, carried_to, holding, no_record}
use Rattle.history.proofs.CoordinatorFronts.{coordinator_in_front}
use Rattle.history.proofs.Decoded.{Lengths, SitesSound, used_at}
use Rattle.history.proofs.Invariant.{StateOk, Standing, resting, delivering}
use Rattle.history.proofs.Accepted.{held_sound}

-- ---- A front at the front of another memory

module _ (words : ℕ) (memory other : List ℕ) (long : words ≤ length memory) where
  front_length : length (take words memory) ≡ words
  front_length = length-take-le words memory long

  pub take_front_in : take words (front_in words memory other) ≡ take words memory
  take_front_in = take_at (take words memory) (drop words other) words front_length

  pub drop_front_in : drop words (front_in words memory other) ≡ drop words other
  drop_front_in = drop_at (take words memory) (drop words other) words front_length

  pub front_in_long : words ≤ length (front_in words memory other)
  front_in_long = omega (arith, length-append (take words memory) (drop words other), front_length)

-- ---- The network, and the invariant

module _ {settings : Settings} (passes : settings_refusal settings ≡ no_refusal) (held : Held)
    (lengths : Lengths settings held) (sound : SitesSound settings held)
    (site_memory coordinator_memory : List ℕ) where
  abbrev there : Held
  there = carried_to settings held site_memory coordinator_memory

  lengths_carried : Lengths settings there
  lengths_carried = record {
    all_records = lengths.all_records;
    sites_long =
        front_in_long (sites_words settings) held.site_memory site_memory lengths.sites_long;
    coordinator_long =
        front_in_long (coordinator_words settings) held.coordinator_memory coordinator_memory
        lengths.coordinator_long;
  }

  -- Each site has its counters within its own part.
  network_carried : network_of settings there ≡ network_of settings held
  network_carried =
      let words = sites_words settings in
      let records = held.sites.records in
      let front = take words held.site_memory in
      let enough : words ≤ length front =
      omega (arith, length-take-le words held.site_memory lengths.sites_long) in
      let read = sites_in settings.sites settings records in
      let sites : read there.site_memory ≡ read held.site_memory =
      sites_in_front settings no_record settings.sites records front (drop words site_memory)
      (λ j known. used_at passes held lengths sound j known) enough
      ∙ sym (sites_in_front settings no_record settings.sites records front
      (drop words held.site_memory) (λ j known. used_at passes held lengths sound j known) enough)
      ∙ ap read (take-append-drop words held.site_memory) in
      let own = coordinator_words settings in
      let memory = held.coordinator_memory in
      let same = take_front_in own memory coordinator_memory lengths.coordinator_long in
      let own-long : own ≤ length (take own memory) =
      omega (arith, length-take-le own memory lengths.coordinator_long) in
      let coordinator : coordinator_in settings held.coordinator there.coordinator_memory
      ≡ coordinator_in settings held.coordinator memory =
      sym (coordinator_in_front settings held.coordinator own there.coordinator_memory
      (omega (arith, ap length same, own-long)))
      ∙ ap (coordinator_in settings held.coordinator) same
      ∙ coordinator_in_front settings held.coordinator own memory own-long in
      λ i. record { sites = sites i; coordinator = coordinator i }

-- It speaks of the network, of lengths, and of what is kept beside what is held.
module _ {settings : Settings} (passes : settings_refusal settings ≡ no_refusal)
    {n : ℕ} (state : State) (ok : StateOk settings n state)
    (site_memory coordinator_memory : List ℕ) where
  abbrev then : State
  then = holding state (carried_to settings state.held site_memory coordinator_memory)

  pub same_network : network_of settings then.held ≡ network_of settings state.held
  same_network =
      network_carried passes state.held ok.lengths (held_sound passes ok).sites_sound
      site_memory coordinator_memory

  lengths_then : Lengths settings then.held
  lengths_then =
      lengths_carried passes state.held ok.lengths (held_sound passes ok).sites_sound
      site_memory coordinator_memory

  standing_carried : Standing settings n state → Standing settings n then
  standing_carried (resting none rest) =
      resting none (record {
        nothing_waits = rest.nothing_waits;
        accepted_are = rest.accepted_are;
        network_is = same_network ∙ rest.network_is;
        messages_are = rest.messages_are;
      })
  standing_carried (delivering mid) =
      let way = mid.underway in
      delivering (record {
        front = mid.front;
        arrival = mid.arrival;
        is_draw_lem = mid.is_draw_lem;
        accepted_are = mid.accepted_are;
        front_accepted = mid.front_accepted;
        underway = record {
          origin_sound = way.origin_sound;
          taken = way.taken;
          lengths = lengths_then;
          log = way.log;
          reached =
              subst
              (λ (network : Network).
              Reached settings
              (delivery_of settings (run_of settings mid.front).network mid.arrival) n
              (delivery network state.waiting way.log))
              (sym same_network) way.reached;
          messages_are = way.messages_are;
        };
      })

  pub ok_carried : StateOk settings n then
  ok_carried = record {
    lengths = lengths_then;
    standing = standing_carried ok.standing;
    counts_are = ok.counts_are;
    log_named = ok.log_named;
    log_length = ok.log_length;
    logged_within = ok.logged_within;
  }
