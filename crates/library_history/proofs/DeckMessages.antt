-- `tracker_decks_message` at a bench is a message at a site of a history.
--
--   to_deck_history         the head of the queue, accepted
--   deck_refused_history    refused
--   told, says_here         the site's call, where the name is one
--   deck_message_long       the decks' row stays as long as it was
use mathlib.Core.Path.{◌≡◌, sym, ap, ◌∙◌, subst}
use mathlib.Core.Bool.{false}
use mathlib.Core.List.{List, ◌∷◌}
use Prim.Native.Nat.{ℕ, ◌-◌}
use native.Mathlib.Omega.{arith}
use native.Mathlib.Decide.{ℕ_discrete}
use lib.ListN.{length, take}
use Rattle.model.specs.declared.Settings.{Settings}
use Rattle.model.specs.declared.Message.{Message}
use Rattle.model.specs.declared.SiteRecord.{SiteRecord}
use Rattle.model.specs.Refusals.{no_refusal}
use Rattle.record_numbers.specs.Numbers.{sites_width, settings_from, message_read, message_from, sites_from}
use Rattle.site.specs.Calls.{SiteReceiveSays}
use Rattle.history.specs.State.{Held, State, record_at, part_of, site_start, after_site_call, holding, sending}
use Rattle.history.specs.Steps.{answered_out, to_site, site_message_refused, delivers, refuses}
use Rattle.history.specs.Histories.{Reachable, stepped}
use Rattle.history.proofs.Answers.{accepted_choice, refused_choice}
use Rattle.library_decks.specs.AllDecks.{named_refusal, part_from, DecksReplied}
use Rattle.library_history.specs.Bench.{Bench, held_in, changed, unchanged}
use Rattle.library_history.specs.Calls.{out_of, DeckMessageCall, after_deck_message}
use Rattle.library_history.proofs.Messages.{one_out, read_whole, Known, known_at_deck}
use Rattle.library_history.proofs.NamedDeck.{NamedDeck, named_deck, DeckRow, deck_row}

module _ {bench : Bench} (call : DeckMessageCall bench)
    (long : length bench.decks ≡ sites_width) where
  abbrev given : Settings
  given = settings_from call.settings.before

  abbrev m : Message
  m = message_read call.message.before

  abbrev named : ℕ
  named =
      named_refusal call.settings (unchanged (take call.lent bench.deck_memory)) m.site

  -- ---- The site's call

  module _ (none : named ≡ no_refusal) where
    pub told : DecksReplied given m (take call.lent bench.deck_memory)
        (changed bench.decks call.decks) call.reply call.count call.answer
    told = call.says.replied none

    deck : NamedDeck bench given m.site call.lent
    deck = named_deck bench given m.site call.lent none

    abbrev start : ℕ
    start = site_start given m.site

    abbrev words : ℕ
    words = call.lent - start

    pub says_here : SiteReceiveSays given (record_at (held_in bench) m.site) m.site m
        (part_of (held_in bench) start words) told.replied
    says_here =
        subst (λ (part : List ℕ). SiteReceiveSays given (record_at (held_in bench) m.site)
        m.site m part told.replied) deck.part_is
        (subst (λ (site : SiteRecord). SiteReceiveSays given site m.site m
        (part_from given (take call.lent bench.deck_memory) m.site) told.replied)
        deck.record_is told.says)

    row : DeckRow bench.decks call.decks m.site told.replied.site
    row =
        deck_row bench.decks call.decks m.site told.replied.refusal
        told.replied.site long deck.known told.decks_are
        (λ refused.
        says_here.site
        ∙ refused_choice _ _ _ (λ accepts. refused (says_here.refusal ∙ accepts)))

    held_then : held_in (after_deck_message call)
        ≡ after_site_call (held_in bench) m.site told.replied.site bench.deck_memory
    held_then = λ i. record {
      sites = row.sites_are i;
      coordinator = (held_in bench).coordinator;
      site_memory = bench.deck_memory;
      coordinator_memory = bench.desk_memory;
    }

    -- Accepted, it is a message for a site, and was read as it is.
    known : told.replied.refusal ≡ no_refusal → Known given m false
    known accepts =
        known_at_deck given (record_at (held_in bench) m.site) m.site m
        (part_of (held_in bench) start words) (sym says_here.refusal ∙ accepts)

  -- ---- Not so far

  held_stays : (named ≡ no_refusal → ⊥) → held_in (after_deck_message call) ≡ held_in bench
  held_stays stopped = λ i. record {
    sites = sites_from ((call.says.stopped stopped).decks_stay i);
    coordinator = (held_in bench).coordinator;
    site_memory = bench.deck_memory;
    coordinator_memory = bench.desk_memory;
  }

  pub deck_message_long : length call.decks ≡ sites_width
  deck_message_long = by_name (ℕ_discrete named no_refusal)
    where
      by_name : Dec (named ≡ no_refusal) → length call.decks ≡ sites_width
      by_name (yes none) = (row none).long
      by_name (no stopped) = ap length (call.says.stopped stopped).decks_stay ∙ long

  -- ---- As steps of a history

  module _ (state : State) where
    abbrev at : State
    at = holding state (held_in bench)

    pub deck_refused_history : {settings : Settings}
        → Reachable settings at
        → (call.answer ≡ no_refusal → ⊥)
        → Reachable settings (holding state (held_in (after_deck_message call)))
    deck_refused_history {settings} reachable refused = by_name (ℕ_discrete named no_refusal)
      where
        by_name : Dec (named ≡ no_refusal)
            → Reachable settings (holding state (held_in (after_deck_message call)))
        by_name (yes none) =
            subst (λ (held : Held). Reachable settings (holding state held)) (sym (held_then none))
            (stepped at _ reachable
            (refuses (site_message_refused given m.site m.site m (start none) (words none)
            (told none).replied (says_here none)
            (λ accepts. refused ((told none).refusal ∙ accepts)))))
        by_name (no stopped) =
            subst (λ (held : Held). Reachable settings (holding state held))
            (sym (held_stays stopped)) reachable

    pub to_deck_history : (later : List Message)
        → Reachable given at
        → state.waiting ≡ message_from call.message.before ∷ later
        → call.answer ≡ no_refusal
        → Reachable given
        (sending state (held_in (after_deck_message call)) later (out_of 1 call.reply call.count))
    to_deck_history later reachable waits accepts = by_name (ℕ_discrete named no_refusal)
      where
        by_name : Dec (named ≡ no_refusal)
            → Reachable given
            (sending state (held_in (after_deck_message call)) later
            (out_of 1 call.reply call.count))
        by_name (no stopped) =
            absurd (stopped (sym (call.says.stopped stopped).refusal ∙ accepts))
        by_name (yes none) =
            let answer = (told none).replied in
            let accepted : answer.refusal ≡ no_refusal = sym (told none).refusal ∙ accepts in
            let is_Known = known none accepted in
            let below = (deck none).known in
            let whole : m ≡ message_from call.message.before =
            read_whole call.message.before is_Known.small (omega (arith, below)) in
            let head : state.waiting ≡ m ∷ later =
            waits ∙ ap (λ (first : Message). first ∷ later) (sym whole) in
            let out : answered_out answer ≡ out_of 1 call.reply call.count =
            one_out answer.reply call.reply call.count answer.count
            ((told none).reply_is.out_is ∙ accepted_choice answer.refusal _ _ accepted)
            ((told none).reply_is.count_is ∙ accepted_choice answer.refusal _ _ accepted) in
            subst (Reachable given)
            (λ i. sending state (sym (held_then none) i) later (out i))
            (stepped at _ reachable
            (delivers (to_site m later (words none) answer head is_Known.way_is
            (says_here none) accepted)))
