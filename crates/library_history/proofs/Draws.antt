-- `tracker_decks_draw` at a bench is an arrival at a site of a history.
--
--   draw_history     accepted, at rest
--   left_history     refused, or a touch
--   draw_long        the decks' row stays as long as it was
use mathlib.Core.Path.{◌≡◌, sym, ap, ◌∙◌, subst}
use mathlib.Core.Bool.{true, false}
use mathlib.Core.List.{List}
use Prim.Native.Nat.{ℕ, ◌-◌}
use native.Mathlib.Decide.{ℕ_discrete}
use lib.ListN.{length, take}
use Rattle.model.specs.declared.Settings.{Settings}
use Rattle.model.specs.declared.Arrival.{Arrival}
use Rattle.model.specs.declared.SiteRecord.{SiteRecord}
use Rattle.model.specs.Refusals.{no_refusal}
use Rattle.model.specs.Draws.{is_draw}
use Rattle.model.proofs.Touches.DrawLaws.{not_taken}
use Rattle.record_numbers.specs.Numbers.{sites_width, settings_from, arrival_from, sites_from}
use Rattle.site.specs.Calls.{ObserveSays}
use Rattle.history.specs.State.{Held, State, AtRest, record_at, part_of, site_start, with_part, after_site_call, holding}
use Rattle.history.specs.Steps.{observed_out, after_single, single, arrival_left, arrives, refuses}
use Rattle.history.specs.Histories.{Reachable, stepped}
use Rattle.history.proofs.Answers.{accepted_choice, left_choice}
use Rattle.history.proofs.Refused.{part_same}
use Rattle.library_decks.specs.AllDecks.{named_refusal, part_from, DecksDrawn}
use Rattle.library_history.specs.Bench.{Bench, held_in, changed, front_row, with_front}
use Rattle.library_history.specs.Calls.{out_of, DrawCall, after_draw}
use Rattle.library_history.specs.Used.{drawing}
use Rattle.library_history.proofs.Messages.{two_out}
use Rattle.library_history.proofs.NamedDeck.{NamedDeck, named_deck, DeckRow, deck_row}

module _ {bench : Bench} (call : DrawCall bench) (long : length bench.decks ≡ sites_width) where
  abbrev given : Settings
  given = settings_from call.settings.before

  abbrev draw : Arrival
  draw = arrival_from call.draw.before

  abbrev named : ℕ
  named = named_refusal call.settings (front_row bench.deck_memory call.memory) draw.site

  -- ---- The site's call

  module _ (none : named ≡ no_refusal) where
    told : DecksDrawn given draw (changed bench.decks call.decks)
        (front_row bench.deck_memory call.memory) call.out call.count call.answer
    told = call.says.drawn none

    deck : NamedDeck bench given draw.site call.memory.count
    deck = named_deck bench given draw.site call.memory.count none

    abbrev start : ℕ
    start = site_start given draw.site

    abbrev words : ℕ
    words = call.memory.count - start

    says_here : ObserveSays given (record_at (held_in bench) draw.site) draw
        (part_of (held_in bench) start words) told.part told.observed
    says_here =
        subst (λ (part : List ℕ). ObserveSays given (record_at (held_in bench) draw.site) draw part
        told.part told.observed) deck.part_is
        (subst (λ (site : SiteRecord). ObserveSays given site draw
        (part_from given (take call.memory.count bench.deck_memory) draw.site)
        told.part told.observed) deck.record_is told.says)

    row : DeckRow bench.decks call.decks draw.site told.observed.site
    row =
        deck_row bench.decks call.decks draw.site told.observed.refusal
        told.observed.site long deck.known told.decks_are
        (λ refused.
        says_here.site
        ∙ left_choice _ _ _
        (not_taken draw _ (λ accepts. absurd (refused (says_here.refusal ∙ accepts)))))

    held_then : held_in (after_draw call)
        ≡ after_site_call (held_in bench) draw.site told.observed.site
        (with_part bench.deck_memory start words told.part)
    held_then =
        let memory = ap (λ (left : List ℕ). with_front bench.deck_memory
        (record { count = call.memory.count; left = left })) told.memory_is
        ∙ deck.memory_is told.part in
        λ i. record {
          sites = row.sites_are i;
          coordinator = (held_in bench).coordinator;
          site_memory = memory i;
          coordinator_memory = bench.desk_memory;
        }

  -- ---- Not so far

  -- All is as it was.
  held_stays : (named ≡ no_refusal → ⊥) → held_in (after_draw call) ≡ held_in bench
  held_stays stopped =
      let stays = call.says.stopped stopped in
      let memory = ap (λ (left : List ℕ). with_front bench.deck_memory
      (record { count = call.memory.count; left = left })) stays.memory_stays
      ∙ part_same bench.deck_memory 0 call.memory.count in
      λ i. record {
        sites = sites_from (stays.decks_stay i);
        coordinator = (held_in bench).coordinator;
        site_memory = memory i;
        coordinator_memory = bench.desk_memory;
      }

  pub draw_long : length call.decks ≡ sites_width
  draw_long = by_name (ℕ_discrete named no_refusal)
    where
      by_name : Dec (named ≡ no_refusal) → length call.decks ≡ sites_width
      by_name (yes none) = (row none).long
      by_name (no stopped) = ap length (call.says.stopped stopped).decks_stay ∙ long

  -- ---- As steps of a history

  module _ (state : State) where
    abbrev at : State
    at = holding state (held_in bench)

    pub left_history : {settings : Settings}
        → Reachable settings at
        → (call.answer ≡ no_refusal → is_draw draw ≡ false)
        → Reachable settings (holding state (held_in (after_draw call)))
    left_history {settings} reachable touches = by_name (ℕ_discrete named no_refusal)
      where
        by_name : Dec (named ≡ no_refusal)
            → Reachable settings (holding state (held_in (after_draw call)))
        by_name (yes none) =
            subst (λ (held : Held). Reachable settings (holding state held)) (sym (held_then none))
            (stepped at _ reachable
            (refuses (arrival_left given draw.site draw (start none) (words none)
            (told none).part (told none).observed (says_here none)
            (λ accepts. touches ((told none).refusal ∙ accepts)))))
        by_name (no stopped) =
            subst (λ (held : Held). Reachable settings (holding state held))
            (sym (held_stays stopped)) reachable

    pub draw_history : Reachable given at
        → AtRest at
        → is_draw draw ≡ true
        → call.answer ≡ no_refusal
        → Reachable given
        (drawing state (held_in (after_draw call)) draw (out_of 2 call.out call.count))
    draw_history reachable rest is_draw_lem accepts = by_name (ℕ_discrete named no_refusal)
      where
        by_name : Dec (named ≡ no_refusal)
            → Reachable given
            (drawing state (held_in (after_draw call)) draw (out_of 2 call.out call.count))
        by_name (no stopped) =
            absurd (stopped (sym (call.says.stopped stopped).refusal ∙ accepts))
        by_name (yes none) =
            let answer = (told none).observed in
            let accepted : answer.refusal ≡ no_refusal = sym (told none).refusal ∙ accepts in
            let out : observed_out answer ≡ out_of 2 call.out call.count =
            two_out answer.first answer.second call.out call.count answer.count
            ((told none).messages_are.out_is ∙ accepted_choice answer.refusal _ _ accepted)
            ((told none).messages_are.count_is ∙ accepted_choice answer.refusal _ _ accepted) in
            subst (Reachable given)
            (λ i. drawing state (sym (held_then none) i) draw (out i))
            (stepped at (after_single given at draw (words none) (told none).part answer) reachable
            (arrives (single draw (words none) (told none).part answer rest is_draw_lem
            (says_here none) accepted)))
