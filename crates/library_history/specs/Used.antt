-- What a caller of the library does: both starts, and then calls in any number and order that
-- tracker.h allows, each given the rows and memories as the calls before left them. Beside the
-- bench runs the state of a history that it stands for: its queue, draws and messages are made of
-- what the calls hand out, as crate `history` makes them.
--
--   drawing, running, delivering     the state after a draw; after `tracker_run`; `tracker_deliver`
--   Called settings bench state ..   one call, and the bench and the state after it
--   Used settings bench state        all that such calls come to
--
-- The chain has all calls on a whole bench that may write: `tracker_start_decks`,
-- `tracker_start_desk`, `tracker_decks_draw`, `tracker_decks_message`, `tracker_desk_message`,
-- `tracker_desk_announcement`, `tracker_run`, `tracker_deliver`, and `tracker_load` on what
-- `tracker_save` wrote. Those that read (list, margin, class) are lent `const` alone:
-- specs/Claims.antt says what they answer at such a bench. The calls of a process that holds one
-- deck alone are not here.
use Rattle.std.specs.Prelude.{◌≡◌, true, false, List, [], ◌∷◌, ◌++◌, ◌+◌, take}
use Rattle.model.specs.declared.Settings.{Settings}
use Rattle.model.specs.declared.Arrival.{Arrival}
use Rattle.model.specs.declared.Message.{Message}
use Rattle.model.specs.Refusals.{no_refusal}
use Rattle.model.specs.Draws.{is_draw, draws_of}
use Rattle.model.specs.Held.{Held, network_of}
use Rattle.record_numbers.specs.Numbers.{arrival_from, message_from, sites_from, coordinator_read}
use Rattle.tracker_queue.specs.Log.{messages_in}
use Rattle.history.specs.State.{State, AtRest, holding, sending}
use Rattle.history.specs.Histories.{start_state}
use Rattle.single_outcome.specs.Delivery.{delivery_in}
use Rattle.library_history.specs.Bench.{Bench, held_in}
use Rattle.library_history.specs.Calls.{Under, out_of, StartDecksCall, after_start_decks, StartDeskCall, after_start_desk, DrawCall, after_draw, DeckMessageCall, after_deck_message, DeskMessageCall, after_desk_message, AnnouncementCall, after_announcement, RunCall, after_run, accepted_by, written_by, DeliverCall, after_deliver, SaveCall, file_by, LoadCall, after_load}

-- ---- The state after a call

-- After an accepted draw: the messages that came out wait.
abbrev pub drawing : State → Held → Arrival → List Message → State
drawing before held draw out = record {
  held = held;
  waiting = before.waiting ++ out;
  accepted = before.accepted ++ (draw ∷ []);
  messages = before.messages ++ out;
  log = before.log;
  logged = before.logged;
}

-- After `tracker_run`: the draws among the first so many, and so many messages of the log.
abbrev pub running : State → {bench : Bench} → RunCall bench → State
running before call = record {
  held = held_in (after_run call);
  waiting = before.waiting;
  accepted = before.accepted ++ draws_of (take (accepted_by call) call.draws);
  messages = before.messages ++ messages_in (written_by call) call.log.after;
  log = before.log ++ messages_in (written_by call) call.log.after;
  logged = before.logged + written_by call;
}

-- After `tracker_deliver`, which delivers its messages itself: those that the rules give.
abbrev pub delivering : State → Held → Arrival → List Message → State
delivering before held draw out = record {
  held = held;
  waiting = [];
  accepted = before.accepted ++ (draw ∷ []);
  messages = before.messages ++ out;
  log = before.log;
  logged = before.logged;
}

-- ---- One call

pub data Called (settings : Settings) (bench : Bench) (state : State)
    : Bench → State → Type 0 where
  -- a draw that is accepted, at rest
  draw_accepted : (call : DrawCall bench)
      → AtRest state
      → Under settings call.settings
      → is_draw (arrival_from call.draw.before) ≡ true
      → call.answer ≡ no_refusal
      → Called settings bench state (after_draw call)
      (drawing state (held_in (after_draw call)) (arrival_from call.draw.before)
      (out_of 2 call.out call.count))
  -- refused, or a touch: at any time, under any settings
  draw_left : (call : DrawCall bench)
      → (call.answer ≡ no_refusal → is_draw (arrival_from call.draw.before) ≡ false)
      → Called settings bench state (after_draw call) (holding state (held_in (after_draw call)))
  -- the head of the queue, accepted by the deck that it names
  deck_message_accepted : (call : DeckMessageCall bench) (later : List Message)
      → Under settings call.settings
      → state.waiting ≡ message_from call.message.before ∷ later
      → call.answer ≡ no_refusal
      → Called settings bench state (after_deck_message call)
      (sending state (held_in (after_deck_message call)) later (out_of 1 call.reply call.count))
  deck_message_refused : (call : DeckMessageCall bench)
      → (call.answer ≡ no_refusal → ⊥)
      → Called settings bench state (after_deck_message call)
      (holding state (held_in (after_deck_message call)))
  -- the head of the queue, accepted by the desk
  desk_message_accepted : (call : DeskMessageCall bench) (later : List Message)
      → Under settings call.settings
      → state.waiting ≡ message_from call.message.before ∷ later
      → call.answer ≡ no_refusal
      → Called settings bench state (after_desk_message call)
      (sending state (held_in (after_desk_message call)) later (out_of 1 call.out call.count))
  desk_message_refused : (call : DeskMessageCall bench)
      → (call.answer ≡ no_refusal → ⊥)
      → Called settings bench state (after_desk_message call)
      (holding state (held_in (after_desk_message call)))
  -- the next kind 7, whatever waits
  announcement_accepted : (call : AnnouncementCall bench)
      → Under settings call.settings
      → call.answer ≡ no_refusal
      → Called settings bench state (after_announcement call)
      (sending state (held_in (after_announcement call)) state.waiting
      (messages_in 1 call.out.after))
  announcement_refused : (call : AnnouncementCall bench)
      → (call.answer ≡ no_refusal → ⊥)
      → Called settings bench state (after_announcement call)
      (holding state (held_in (after_announcement call)))
  -- many draws at rest, whatever stops the call
  run_at_rest : (call : RunCall bench)
      → AtRest state
      → Under settings call.settings
      → Called settings bench state (after_run call) (running state call)
  -- a run that accepts no draw: at any time, under any settings
  run_takes_none : (call : RunCall bench)
      → draws_of (take (accepted_by call) call.draws) ≡ []
      → Called settings bench state (after_run call) (running state call)
  -- a draw with full delivery that is accepted, at rest
  delivered : (call : DeliverCall bench)
      → AtRest state
      → Under settings call.settings
      → is_draw (arrival_from call.draw.before) ≡ true
      → call.answer ≡ no_refusal
      → Called settings bench state (after_deliver call)
      (delivering state (held_in (after_deliver call)) (arrival_from call.draw.before)
      (delivery_in settings (network_of settings (held_in bench)) (arrival_from call.draw.before)
      ).messages)
  -- refused, or a touch: at any time, under any settings
  delivery_left : (call : DeliverCall bench)
      → (call.answer ≡ no_refusal → is_draw (arrival_from call.draw.before) ≡ false)
      → Called settings bench state (after_deliver call)
      (holding state (held_in (after_deliver call)))
  -- request N3, "A bench saved and read goes on exactly as one never closed": saved at any time,
  -- and the bytes written read into whatever rows and memories, whatever was done meanwhile; the
  -- messages on their way are the caller's to keep
  closed_and_read : (save : SaveCall bench) (other : Bench) (load : LoadCall other)
      → Under settings save.settings
      → save.answer ≡ no_refusal
      → load.file ≡ file_by save
      → load.answer ≡ no_refusal
      → Called settings bench state (after_load load) (holding state (held_in (after_load load)))
  -- a reading that is refused, of any bytes; one that is accepted, of bytes that no bench of this
  -- chain was saved to, is no part of it
  reading_refused : (call : LoadCall bench)
      → (call.answer ≡ no_refusal → ⊥)
      → Called settings bench state (after_load call) (holding state (held_in (after_load call)))
  -- a start that is refused; one that is accepted begins a chain of its own
  start_decks_refused : (call : StartDecksCall bench)
      → (call.answer ≡ no_refusal → ⊥)
      → Called settings bench state (after_start_decks call)
      (holding state (held_in (after_start_decks call)))
  start_desk_refused : (call : StartDeskCall bench)
      → (call.answer ≡ no_refusal → ⊥)
      → Called settings bench state (after_start_desk call)
      (holding state (held_in (after_start_desk call)))

-- ---- All calls

-- No message and no draw yet.
abbrev pub fresh_state : Bench → State
fresh_state bench =
    start_state (sites_from bench.decks) (coordinator_read bench.desk) bench.deck_memory
    bench.desk_memory

pub data Used (settings : Settings) : Bench → State → Type 0 where
  -- both starts are accepted, on rows and memories of any content; as neither writes what the
  -- other is lent, the order is the same
  started : (bench : Bench) (decks : StartDecksCall bench)
      (desk : StartDeskCall (after_start_decks decks))
      → Under settings decks.settings
      → decks.answer ≡ no_refusal
      → Under settings desk.settings
      → desk.answer ≡ no_refusal
      → Used settings (after_start_desk desk) (fresh_state (after_start_desk desk))
  called : (bench after : Bench) (state next : State)
      → Used settings bench state
      → Called settings bench state after next
      → Used settings after next
