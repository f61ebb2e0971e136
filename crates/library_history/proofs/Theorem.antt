-- What a caller does with the library is a history of calls: `use-claims`. Call by call, from what
-- each is worth as steps of a history; then by crate `demands`' theorem.
use mathlib.Core.Path.{◌≡◌, refl, sym, ap, ◌∙◌, subst}
use Prim.Native.Nat.{◌≤◌}
use lib.ListN.{length}
use Rattle.model.specs.declared.Settings.{Settings}
use Rattle.model.specs.NetworkMemory.{sites_words}
use Rattle.model.specs.Held.{Held, network_of}
use Rattle.record_numbers.specs.Numbers.{sites_width, settings_from, arrival_from}
use Rattle.history.specs.State.{State, AtRest, holding}
use Rattle.history.specs.Histories.{Reachable}
use Rattle.demands.proofs.Theorem.{demands, arisen}
use Rattle.single_outcome.specs.Delivery.{delivery_in}
use Rattle.single_outcome.proofs.HistoryLaws.{passes_of_reachable}
use Rattle.library_history.specs.Bench.{Bench, held_in}
use Rattle.library_history.specs.Calls.{after_deliver}
use Rattle.library_history.specs.Used.{delivering, Called, draw_accepted, draw_left, deck_message_accepted, deck_message_refused, desk_message_accepted, desk_message_refused, announcement_accepted, announcement_refused, run_at_rest, run_takes_none, delivered, delivery_left, closed_and_read, reading_refused, start_decks_refused, start_desk_refused, Used, started, called}
use Rattle.library_history.specs.Claims.{AsHistory, Demanded, UseClaims, desk_width}
use Rattle.library_history.proofs.Draws.{draw_history, left_history, draw_long}
use Rattle.library_history.proofs.DeckMessages.{to_deck_history, deck_refused_history, deck_message_long}
use Rattle.library_history.proofs.DeskCalls.{to_desk_history, desk_refused_history, desk_message_long, announced_history, not_announced_history, announcement_long}
use Rattle.library_history.proofs.Starts.{started_history, start_decks_long, start_desk_long, decks_stay, desk_stays, start_decks_left, start_desk_left}
use Rattle.library_history.proofs.Runs.{run_history, none_taken_history, run_decks_long, run_desk_long}
use Rattle.library_history.proofs.Deliveries.{delivered_history, delivery_left_history, delivered_decks_long, delivered_desk_long}
use Rattle.library_history.proofs.ReadRows.{read_decks_long, read_desk_long, unread_decks, unread_desk, reading_left}
use Rattle.library_history.proofs.Closings.{read_history, closes}
use Rattle.library_history.proofs.GoesOn.{goes_on}
use Rattle.library_history.proofs.Readings.{reads_bench}

-- ---- One call

module _ {settings : Settings} (bench : Bench) (state : State)
    (there : AsHistory settings bench state) where
  -- The state with what the bench holds in its place is the same.
  same : state ≡ holding state (held_in bench)
  same = λ i. record {
    held = there.held_is i;
    waiting = state.waiting;
    accepted = state.accepted;
    messages = state.messages;
    log = state.log;
    logged = state.logged;
  }

  reach : Reachable settings (holding state (held_in bench))
  reach = subst (Reachable settings) same there.reachable

  rest_here : AtRest state → AtRest (holding state (held_in bench))
  rest_here = subst AtRest same

  -- The settings that a row stands for are the bench's.
  under_row : (given : Settings)
      → given ≡ settings
      → (next : Settings → State)
      → (Reachable given (holding state (held_in bench)) → Reachable given (next given))
      → Reachable settings (next settings)
  under_row given under next goes =
      subst (λ (s : Settings). Reachable s (next s)) under
      (goes
      (subst (λ (s : Settings). Reachable s (holding state (held_in bench))) (sym under) reach))

  -- A call on decks, and one on the desk, leave the other's row.
  after_decks : (after : Bench) (next : State)
      → Reachable settings next
      → next.held ≡ held_in after
      → length after.decks ≡ sites_width
      → after.desk ≡ bench.desk
      → AsHistory settings after next
  after_decks after next reached held_is long stays = record {
    reachable = reached;
    held_is = held_is;
    decks_long = long;
    desk_long = ap length stays ∙ there.desk_long;
  }

  after_desk : (after : Bench) (next : State)
      → Reachable settings next
      → next.held ≡ held_in after
      → after.decks ≡ bench.decks
      → length after.desk ≡ desk_width
      → AsHistory settings after next
  after_desk after next reached held_is stays long = record {
    reachable = reached;
    held_is = held_is;
    decks_long = ap length stays ∙ there.decks_long;
    desk_long = long;
  }

  as_called : (after : Bench) (next : State)
      → Called settings bench state after next
      → AsHistory settings after next
  as_called after next (draw_accepted call rest under is_draw_lem accepts) =
      after_decks after next
      (under_row (settings_from call.settings.before) under (λ s. next)
      (λ reached. draw_history call there.decks_long state reached (rest_here rest) is_draw_lem
      accepts))
      refl (draw_long call there.decks_long) refl
  as_called after next (draw_left call touches) =
      after_decks after next (left_history call there.decks_long state reach touches) refl
      (draw_long call there.decks_long) refl
  as_called after next (deck_message_accepted call later under waits accepts) =
      after_decks after next
      (under_row (settings_from call.settings.before) under (λ s. next)
      (λ reached. to_deck_history call there.decks_long state later reached waits accepts))
      refl (deck_message_long call there.decks_long) refl
  as_called after next (deck_message_refused call refused) =
      after_decks after next
      (deck_refused_history call there.decks_long state reach refused) refl
      (deck_message_long call there.decks_long) refl
  as_called after next (desk_message_accepted call later under waits accepts) =
      after_desk after next
      (under_row (settings_from call.settings.before) under (λ s. next)
      (λ reached. to_desk_history call state later reached waits accepts))
      refl refl (desk_message_long call there.desk_long)
  as_called after next (desk_message_refused call refused) =
      after_desk after next (desk_refused_history call state reach refused) refl refl
      (desk_message_long call there.desk_long)
  as_called after next (announcement_accepted call under accepts) =
      after_desk after next
      (under_row (settings_from call.settings.before) under (λ s. next)
      (λ reached. announced_history call state reached accepts))
      refl refl (announcement_long call there.desk_long)
  as_called after next (announcement_refused call refused) =
      after_desk after next (not_announced_history call state reach refused) refl refl
      (announcement_long call there.desk_long)
  as_called after next (run_at_rest call rest under) = record {
    reachable = under_row (settings_from call.settings.before) under (λ s. next)
        (λ reached. run_history call state reached (rest_here rest));
    held_is = refl;
    decks_long = run_decks_long call there.decks_long;
    desk_long = run_desk_long call there.desk_long;
  }
  as_called after next (run_takes_none call nothing) = record {
    reachable = none_taken_history call state reach nothing;
    held_is = refl;
    decks_long = run_decks_long call there.decks_long;
    desk_long = run_desk_long call there.desk_long;
  }
  as_called after next (delivered call rest under is_draw_lem accepts) =
      let draw = arrival_from call.draw.before in
      record {
        reachable = under_row (settings_from call.settings.before) under
            (λ s. delivering state (held_in (after_deliver call)) draw
            (delivery_in s (network_of s (held_in bench)) draw).messages)
            (λ reached. delivered_history call state reached (rest_here rest) is_draw_lem accepts);
        held_is = refl;
        decks_long = delivered_decks_long call there.decks_long;
        desk_long = delivered_desk_long call there.desk_long;
      }
  as_called after next (delivery_left call touches) = record {
    reachable = delivery_left_history call state reach touches;
    held_is = refl;
    decks_long = delivered_decks_long call there.decks_long;
    desk_long = delivered_desk_long call there.desk_long;
  }
  as_called after next (closed_and_read save other load under saves same loads) = record {
    reachable = read_history bench state reach save under saves load same loads;
    held_is = refl;
    decks_long = read_decks_long load loads;
    desk_long = read_desk_long load loads;
  }
  as_called after next (reading_refused call refused) = record {
    reachable = subst (λ (held : Held). Reachable settings (holding state held))
        (sym (reading_left call refused)) reach;
    held_is = refl;
    decks_long = ap length (unread_decks call refused) ∙ there.decks_long;
    desk_long = ap length (unread_desk call refused) ∙ there.desk_long;
  }
  as_called after next (start_decks_refused call refused) =
      after_decks after next
      (subst (λ (held : Held). Reachable settings (holding state held))
      (sym (start_decks_left call refused)) reach)
      refl (ap length (decks_stay call refused) ∙ there.decks_long) refl
  as_called after next (start_desk_refused call refused) =
      after_desk after next
      (subst (λ (held : Held). Reachable settings (holding state held))
      (sym (start_desk_left call refused)) reach)
      refl refl (ap length (desk_stays call refused) ∙ there.desk_long)

-- ---- All calls

pub as_history : (settings : Settings) (bench : Bench) (state : State)
    → Used settings bench state
    → AsHistory settings bench state
as_history settings bench state
    (started first decks desk decks-under decks-accepts desk-under desk_accepts) =
    record {
      reachable = started_history settings first decks desk decks-under decks-accepts desk-under
          desk_accepts;
      held_is = refl;
      decks_long = start_decks_long decks decks-accepts;
      desk_long = start_desk_long desk desk_accepts;
    }
as_history settings bench state (called before after earlier next used call) =
    as_called before earlier (as_history settings before earlier used) bench state call

demanded : (settings : Settings) (state : State) (reachable : Reachable settings state)
    → Demanded settings state reachable
demanded settings state reachable =
    let passes = passes_of_reachable state reachable in
    record {
      first = demands.first settings state passes reachable;
      second = demands.second settings state passes reachable;
      whole = demands.whole settings state passes reachable;
      third = demands.third settings state passes reachable;
      dropped = demands.dropped settings state passes reachable;
      touches = demands.touches settings state passes reachable;
      closing = demands.closing settings state passes reachable;
      given = demands.given settings state passes reachable;
    }

pub use_claims : UseClaims
use_claims = record {
  as_history = as_history;
  demanded = λ settings bench state used.
      demanded settings state (as_history settings bench state used).reachable;
  goes_on = λ settings bench state used.
      let there = as_history settings bench state used in
      let passes = passes_of_reachable state there.reachable in
      let long = (arisen passes state there.reachable).ok.lengths.sites_long in
      goes_on settings bench state passes there.held_is there.decks_long
      (subst (λ (held : Held). sites_words settings ≤ length held.site_memory) there.held_is
      long)
      (demanded settings state there.reachable).first.delivery_goes_on;
  closes = λ settings bench state used.
      let there = as_history settings bench state used in
      closes bench state (reach bench state there);
  reads_right = λ settings bench state used rest.
      let there = as_history settings bench state used in
      reads_bench settings bench state there.held_is
      ((demanded settings state there.reachable).second.at_rest rest).reads_right;
}
