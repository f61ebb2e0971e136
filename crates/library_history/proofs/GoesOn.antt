-- What waits is accepted by the library's calls: `goes_on`. By crate `demands`' word on it, once
-- the message is read from its row as it is.
use mathlib.Core.Path.{◌≡◌, ap, ◌∙◌, subst}
use mathlib.Core.Bool.{true, false}
use mathlib.Core.List.{List, ◌∷◌}
use Prim.Native.Nat.{ℕ, ◌+◌, ◌-◌, ◌≤◌, ◌<◌}
use native.Mathlib.Nat.{mul-le-mul_right}
use native.Mathlib.Omega.{arith}
use lib.ListN.{length, take, length-take}
use borrow.Author.Tests.{le-ltb, lt-leb}
use Rattle.model.specs.declared.Settings.{Settings}
use Rattle.model.specs.declared.Message.{Message}
use Rattle.model.specs.Refusals.{no_refusal}
use Rattle.model.specs.Messages.{to_coordinator}
use Rattle.model.specs.Coordinator.{is_announcing}
use Rattle.model.specs.SiteMemory.{site_words}
use Rattle.model.specs.CoordinatorMemory.{coordinator_words}
use Rattle.model.specs.NetworkMemory.{sites_words}
use Rattle.model.specs.Settings.{settings_refusal}
use Rattle.model.proofs.Thresholds.SettingsLaws.{settled}
use Rattle.record_numbers.specs.Numbers.{sites_width, settings_from, message_read, message_from}
use Rattle.site.specs.Calls as SiteCalls
use Rattle.coordinator.specs.Calls as CoordinatorCalls
use Rattle.history.specs.State.{Held, State, record_at, site_start, site_part, coordinator_part}
use Rattle.demands.specs.First.{DeliveryGoesOn}
use Rattle.library_decks.specs.AllDecks.{decks_refusal}
use Rattle.library_history.specs.Bench.{Bench, held_in}
use Rattle.library_history.specs.Calls.{Under, DeckMessageCall, DeskMessageCall, AnnouncementCall}
use Rattle.library_history.specs.Claims.{GoesOn}
use Rattle.library_history.proofs.Messages.{kept_whole, Known, known_at_desk, known_at_deck}
use Rattle.library_history.proofs.DeckMessages.{told, says_here}

-- ---- Why a message is refused, by what is held and how much of it is lent

abbrev desk_refusal : ℕ → Settings → Held → Message → ℕ
desk_refusal count settings held m =
    CoordinatorCalls.receive_refusal settings held.coordinator m (coordinator_part held 0 count)

abbrev announce_refusal : ℕ → Settings → Held → ℕ
announce_refusal count settings held =
    CoordinatorCalls.announce_refusal settings held.coordinator (coordinator_part held 0 count)

abbrev deck_refusal : Settings → Held → Message → ℕ → ℕ
deck_refusal settings held m words =
    SiteCalls.receive_refusal settings (record_at held m.site) m.site m
    (site_part settings held m.site words)

module _ (settings : Settings) (bench : Bench) (state : State)
    (passes : settings_refusal settings ≡ no_refusal)
    (held_is : state.held ≡ held_in bench)
    (decks_long : length bench.decks ≡ sites_width)
    (sites_long : sites_words settings ≤ length bench.deck_memory)
    (goes : DeliveryGoesOn settings state) where
  few : settings.sites ≤ 32
  few = (settled settings passes).sites.at_most

  -- A known message is read as it is.
  whole : {way : _} (numbers : List ℕ)
      → Known settings (message_from numbers) way
      → message_read numbers ≡ message_from numbers
  whole numbers known =
      kept_whole numbers known.small (omega (arith, few, known.site_known))

  -- ---- The desk

  desk_accepts : (call : DeskMessageCall bench) (later : List Message)
      → Under settings call.settings
      → coordinator_words settings ≤ call.memory.count
      → state.waiting ≡ message_from call.message.before ∷ later
      → to_coordinator (message_from call.message.before) ≡ true
      → call.answer ≡ no_refusal
  desk_accepts call later under enough waits way =
      let m = message_from call.message.before in
      let count = call.memory.count in
      let there : desk_refusal count settings (held_in bench) m ≡ no_refusal =
      subst (λ (held : Held). desk_refusal count settings held m ≡ no_refusal) held_is
      (goes.coordinator_accepts m later call.memory.count waits way enough) in
      let c = (held_in bench).coordinator in
      let memory = coordinator_part (held_in bench) 0 call.memory.count in
      let known = known_at_desk settings c m memory there in
      call.says.refusal
      ∙ call.says.says.refusal
      ∙ ap (desk_refusal count (settings_from call.settings.before) (held_in bench))
      (whole call.message.before known)
      ∙ ap (λ (s : Settings). desk_refusal count s (held_in bench) m) under
      ∙ there

  announcement_comes : (call : AnnouncementCall bench)
      → Under settings call.settings
      → coordinator_words settings ≤ call.lent
      → is_announcing state.held.coordinator.phase ≡ true
      → call.answer ≡ no_refusal
  announcement_comes call under enough announces =
      call.says.refusal
      ∙ call.says.says.refusal
      ∙ ap (λ (s : Settings). announce_refusal call.lent s (held_in bench)) under
      ∙ subst (λ (held : Held). announce_refusal call.lent settings held ≡ no_refusal) held_is
      (goes.announcement_accepted call.lent announces enough)

  -- ---- A deck

  -- One of them, and memory for all: nothing stops the look-up.
  named_none : (which lent : ℕ)
      → which < settings.sites
      → sites_words settings ≤ lent
      → decks_refusal settings which (length (take lent bench.deck_memory)) ≡ no_refusal
  named_none which lent known enough =
      let long : sites_words settings ≤ length (take lent bench.deck_memory) =
      omega (arith, enough, sites_long, length-take lent bench.deck_memory) in
      rw (
        passes,
        le-ltb (length (take lent bench.deck_memory)) (sites_words settings) long,
        lt-leb settings.sites which known,
      )

  -- From the deck's own start on there are as many numbers as it has.
  part_enough : (which lent : ℕ)
      → which < settings.sites
      → sites_words settings ≤ lent
      → site_words settings ≤ lent - site_start settings which
  part_enough which lent known enough =
      let next : which + 1 ≤ settings.sites = omega (arith, known) in
      omega (arith, enough, mul-le-mul_right (site_words settings) next)

  deck_accepts : (call : DeckMessageCall bench) (later : List Message)
      → Under settings call.settings
      → sites_words settings ≤ call.lent
      → state.waiting ≡ message_from call.message.before ∷ later
      → to_coordinator (message_from call.message.before) ≡ false
      → call.answer ≡ no_refusal
  deck_accepts call later under enough waits way =
      let m = message_from call.message.before in
      let least = goes.site_accepts m later (site_words settings) waits way (omega arith) in
      let known : Known settings m false =
      known_at_deck settings (record_at state.held m.site) m.site m
      (site_part settings state.held m.site (site_words settings)) least in
      let read = whole call.message.before known in
      let named : decks_refusal (settings_from call.settings.before)
      (message_read call.message.before).site (length (take call.lent bench.deck_memory))
      ≡ no_refusal =
      ap (λ (s : Settings). decks_refusal s (message_read call.message.before).site
      (length (take call.lent bench.deck_memory))) under
      ∙ ap (λ (n : Message). decks_refusal settings n.site
      (length (take call.lent bench.deck_memory))) read
      ∙ named_none m.site call.lent known.site_known enough in
      (told call decks_long named).refusal
      ∙ (says_here call decks_long named).refusal
      ∙ ap (λ (n : Message). deck_refusal (settings_from call.settings.before) (held_in bench) n
      (call.lent - site_start (settings_from call.settings.before) n.site)) read
      ∙ ap (λ (s : Settings). deck_refusal s (held_in bench) m (call.lent - site_start s m.site))
      under
      ∙ subst (λ (held : Held).
      deck_refusal settings held m (call.lent - site_start settings m.site) ≡ no_refusal) held_is
      (goes.site_accepts m later (call.lent - site_start settings m.site) waits way
      (part_enough m.site call.lent known.site_known enough))

  pub goes_on : GoesOn settings bench state
  goes_on = record {
    deck_accepts = deck_accepts;
    desk_accepts = desk_accepts;
    announcement_comes = announcement_comes;
  }
