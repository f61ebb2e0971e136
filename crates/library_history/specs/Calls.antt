-- The calls of the library at a bench, each by its contract alone: whatever it answers and leaves,
-- if it keeps its promise. A call has the rows that it is given and the ones that it leaves; a row
-- of its own (settings, draw, messages, counts) may hold anything before it.
--
--   Under settings row             the settings' row is that of these settings
--   out_of places out count         the messages that came out: of a row of so many places the
-- first
--   StartDecksCall, StartDeskCall  the two starts
--   DrawCall, DeckMessageCall      at the deck that draw or message names
--   DeskMessageCall, AnnouncementCall   at the desk
--   RunCall, DeliverCall           draws with full delivery
--   SaveCall, LoadCall             a bench saved to bytes, and read from them (request N3)
--   file_by call                   the bytes that a saving wrote
--   after..                        the bench after a call
use Rattle.std.specs.Prelude.{◌≡◌, List, ℕ, get_or, take}
use Rattle.model.specs.declared.Settings.{Settings}
use Rattle.model.specs.declared.Arrival.{Arrival}
use Rattle.model.specs.declared.Message.{Message}
use Rattle.record_numbers.specs.Numbers.{settings_from}
use Rattle.tracker_queue.specs.Log.{messages_in}
use Rattle.library_rows.specs.Rows.{Row, Number}
use Rattle.library_decks.specs.AllDecks.{StartDecksExported, DecksDrawExported, DecksMessageExported}
use Rattle.library_desk.specs.Desk.{StartDeskExported, DeskMessageExported, AnnouncementExported}
use Rattle.library_snapshot.specs.Snapshot.{SaveExported, LoadExported}
use Rattle.library_batch.specs.Batch.{RunExported}
use Rattle.library_delivery.specs.Delivery.{DeliveryExported}
use Rattle.library_history.specs.Bench.{Bench, changed, unchanged, Front, front_row, with_front, with_decks, with_desk}

-- "Every call is given the settings that the bench was started with".
abbrev pub Under : Settings → Row → Type 0
Under settings row = settings_from row.before ≡ settings

-- "out[0] to out[*count - 1] are the messages to send".
abbrev pub out_of : ℕ → Row → Number → List Message
out_of places out count = take count.after (messages_in places out.after)

-- ---- Starting fresh

-- `tracker_start_decks`
pub record StartDecksCall (bench : Bench) : Type 0 where
  pub settings : Row
  pub decks : List ℕ
  pub memory : Front
  pub answer : ℕ
  pub says : StartDecksExported settings (changed bench.decks decks)
      (front_row bench.deck_memory memory) answer

abbrev pub after_start_decks : {bench : Bench} → StartDecksCall bench → Bench
after_start_decks {bench} call =
    with_decks bench call.decks (with_front bench.deck_memory call.memory)

-- `tracker_start_desk`
pub record StartDeskCall (bench : Bench) : Type 0 where
  pub settings : Row
  pub desk : List ℕ
  pub memory : Front
  pub answer : ℕ
  pub says : StartDeskExported settings (changed bench.desk desk)
      (front_row bench.desk_memory memory) answer

abbrev pub after_start_desk : {bench : Bench} → StartDeskCall bench → Bench
after_start_desk {bench} call =
    with_desk bench call.desk (with_front bench.desk_memory call.memory)

-- ---- Draw by draw

-- `tracker_decks_draw`
pub record DrawCall (bench : Bench) : Type 0 where
  pub settings : Row
  pub draw : Row
  pub decks : List ℕ
  pub memory : Front
  pub out : Row
  pub count : Number
  pub answer : ℕ
  pub says : DecksDrawExported settings (changed bench.decks decks)
      (front_row bench.deck_memory memory) draw out count answer

abbrev pub after_draw : {bench : Bench} → DrawCall bench → Bench
after_draw {bench} call =
    with_decks bench call.decks (with_front bench.deck_memory call.memory)

-- `tracker_decks_message`, which reads the memory alone
pub record DeckMessageCall (bench : Bench) : Type 0 where
  pub settings : Row
  pub message : Row
  pub decks : List ℕ
  pub lent : ℕ
  pub reply : Row
  pub count : Number
  pub answer : ℕ
  pub says : DecksMessageExported settings (changed bench.decks decks)
      (unchanged (take lent bench.deck_memory)) message reply count answer

abbrev pub after_deck_message : {bench : Bench} → DeckMessageCall bench → Bench
after_deck_message {bench} call = with_decks bench call.decks bench.deck_memory

-- `tracker_desk_message`
pub record DeskMessageCall (bench : Bench) : Type 0 where
  pub settings : Row
  pub message : Row
  pub desk : List ℕ
  pub memory : Front
  pub out : Row
  pub count : Number
  pub answer : ℕ
  pub says : DeskMessageExported settings (changed bench.desk desk)
      (front_row bench.desk_memory memory) message out count answer

abbrev pub after_desk_message : {bench : Bench} → DeskMessageCall bench → Bench
after_desk_message {bench} call =
    with_desk bench call.desk (with_front bench.desk_memory call.memory)

-- `tracker_desk_announcement`, which reads the memory alone; accepted, it hands out one message
pub record AnnouncementCall (bench : Bench) : Type 0 where
  pub settings : Row
  pub desk : List ℕ
  pub lent : ℕ
  pub out : Row
  pub answer : ℕ
  pub says : AnnouncementExported settings (changed bench.desk desk)
      (unchanged (take lent bench.desk_memory)) out answer

abbrev pub after_announcement : {bench : Bench} → AnnouncementCall bench → Bench
after_announcement {bench} call = with_desk bench call.desk bench.desk_memory

-- ---- Draws with full delivery

-- `tracker_run`
pub record RunCall (bench : Bench) : Type 0 where
  pub settings : Row
  pub draws : List Arrival
  pub decks : List ℕ
  pub desk : List ℕ
  pub deck_memory : Front
  pub desk_memory : Front
  pub log : Row
  pub counts : Row
  pub answer : ℕ
  pub says : RunExported settings (changed bench.decks decks) (changed bench.desk desk) draws
      (front_row bench.deck_memory deck_memory) (front_row bench.desk_memory desk_memory) log
      counts answer

abbrev pub after_run : {bench : Bench} → RunCall bench → Bench
after_run {bench} call = record {
  decks = call.decks;
  deck_memory = with_front bench.deck_memory call.deck_memory;
  desk = call.desk;
  desk_memory = with_front bench.desk_memory call.desk_memory;
}

-- `counts`: how many draws were accepted, and how many messages were written to the log.
abbrev pub accepted_by : {bench : Bench} → RunCall bench → ℕ
accepted_by call = get_or call.counts.after 0 0

abbrev pub written_by : {bench : Bench} → RunCall bench → ℕ
written_by call = get_or call.counts.after 1 0

-- `tracker_deliver`, lent both memories whole
pub record DeliverCall (bench : Bench) : Type 0 where
  pub settings : Row
  pub draw : Row
  pub left : Bench
  pub delivery : Row
  pub answer : ℕ
  pub says : DeliveryExported settings (changed bench.decks left.decks)
      (changed bench.desk left.desk) (changed bench.deck_memory left.deck_memory)
      (changed bench.desk_memory left.desk_memory) draw delivery answer

abbrev pub after_deliver : {bench : Bench} → DeliverCall bench → Bench
after_deliver call = call.left

-- ---- Closing a bench

-- `tracker_save`, which reads rows and memories alone: nothing of the bench changes
pub record SaveCall (bench : Bench) : Type 0 where
  pub settings : Row
  pub deck_lent : ℕ
  pub desk_lent : ℕ
  pub bytes : Row
  pub written : Number
  pub answer : ℕ
  pub says : SaveExported settings (unchanged bench.decks) (unchanged bench.desk)
      (unchanged (take deck_lent bench.deck_memory))
      (unchanged (take desk_lent bench.desk_memory)) bytes written answer

-- Of the bytes lent the first so many.
abbrev pub file_by : {bench : Bench} → SaveCall bench → List ℕ
file_by call = take call.written.after call.bytes.after

-- `tracker_load`, of any bytes
pub record LoadCall (bench : Bench) : Type 0 where
  pub file : List ℕ
  pub settings : Row
  pub decks : List ℕ
  pub desk : List ℕ
  pub deck_memory : Front
  pub desk_memory : Front
  pub answer : ℕ
  pub says : LoadExported (unchanged file) settings (changed bench.decks decks)
      (changed bench.desk desk) (front_row bench.deck_memory deck_memory)
      (front_row bench.desk_memory desk_memory) answer

abbrev pub after_load : {bench : Bench} → LoadCall bench → Bench
after_load {bench} call = record {
  decks = call.decks;
  deck_memory = with_front bench.deck_memory call.deck_memory;
  desk = call.desk;
  desk_memory = with_front bench.desk_memory call.desk_memory;
}
