-- `tracker_desk_message` and `tracker_desk_announcement` at a bench are calls on the coordinator of
-- a history.
--
--   to_desk_history, desk_refused_history             a message
--   announced_history, not_announced_history          the next kind 7
--   desk_message_long, announcement_long              the desk's row stays as long as it was
use mathlib.Core.Path.{◌≡◌, sym, ap, ◌∙◌, subst}
use mathlib.Core.Bool.{true}
use mathlib.Core.List.{List, ◌∷◌}
use Prim.Native.Nat.{ℕ}
use native.Mathlib.Omega.{arith}
use lib.ListN.{length}
use Rattle.model.specs.declared.Settings.{Settings}
use Rattle.model.specs.declared.Message.{Message}
use Rattle.model.specs.declared.CoordinatorRecord.{CoordinatorRecord}
use Rattle.model.specs.Refusals.{no_refusal}
use Rattle.model.specs.CoordinatorMemory.{coordinator_memory_refusal}
use Rattle.model.proofs.Thresholds.RefusalLaws.{both_accepted}
use Rattle.model.proofs.Thresholds.TestedMemory.{coordinator_tested}
use Rattle.model.proofs.Thresholds.SettingsLaws.{settled}
use Rattle.record_numbers.specs.Numbers.{settings_from, message_read, message_from, coordinator_read, coordinator_numbers}
use Rattle.history.specs.State.{State, coordinator_part, after_coordinator_call, holding, sending}
use Rattle.history.specs.Steps.{received_out, to_coordinator_lem, next_announcement, coordinator_message_refused, announcement_refused, delivers, refuses}
use Rattle.history.specs.Histories.{Reachable, stepped}
use Rattle.history.proofs.Answers.{accepted_choice, refused_choice}
use Rattle.coordinator.specs.Calls.{Reception}
use Rattle.library_rows.specs.Rows.{Number, handed_out}
use Rattle.library_history.specs.Bench.{Bench, held_in, with_front}
use Rattle.library_history.specs.Calls.{out_of, DeskMessageCall, after_desk_message, AnnouncementCall, after_announcement}
use Rattle.library_history.specs.Claims.{desk_width}
use Rattle.library_history.proofs.Messages.{one_out, read_whole, Known, known_at_desk}
use Rattle.library_history.proofs.OwnRows.{coordinator_own}
use Rattle.library_history.proofs.RecordRows.{handed, stays_long, length_coordinator_numbers}

-- ---- The desk's row

-- After a call that hands back a coordinator's answer.
module _ (desk deskThen : List ℕ) (answer : Reception)
    (are : deskThen
    ≡ handed_out answer.refusal (coordinator_numbers answer.coordinator) desk) where
  abbrev Reads : Type 0
  Reads = coordinator_read deskThen ≡ answer.coordinator

  row_accepted : answer.refusal ≡ no_refusal
      → coordinator_read (coordinator_numbers answer.coordinator) ≡ answer.coordinator
      → Reads
  row_accepted accepted own =
      handed coordinator_read (coordinator_numbers answer.coordinator) answer.coordinator desk
      deskThen answer.refusal are (λ none. own) (λ no. absurd (no accepted))

  row_refused : (answer.refusal ≡ no_refusal → ⊥)
      → answer.coordinator ≡ coordinator_read desk
      → Reads
  row_refused refused same =
      handed coordinator_read (coordinator_numbers answer.coordinator) answer.coordinator desk
      deskThen answer.refusal are (λ none. absurd (refused none)) (λ no. same)

  row_long : length desk ≡ desk_width → length deskThen ≡ desk_width
  row_long =
      stays_long coordinator_read (coordinator_numbers answer.coordinator) answer.coordinator
      desk deskThen answer.refusal are desk_width
      (length_coordinator_numbers answer.coordinator)

-- ---- A message

module _ {bench : Bench} (call : DeskMessageCall bench) where
  abbrev given : Settings
  given = settings_from call.settings.before

  abbrev m : Message
  m = message_read call.message.before

  abbrev left : List ℕ
  left = with_front bench.desk_memory call.memory

  pub desk_message_long : length bench.desk ≡ desk_width → length call.desk ≡ desk_width
  desk_message_long =
      row_long bench.desk call.desk call.says.received call.says.desk_is

  module _ (state : State) where
    abbrev at : State
    at = holding state (held_in bench)

    pub desk_refused_history : {settings : Settings}
        → Reachable settings at
        → (call.answer ≡ no_refusal → ⊥)
        → Reachable settings (holding state (held_in (after_desk_message call)))
    desk_refused_history {settings} reachable refused =
        let answer = call.says.received in
        let no : answer.refusal ≡ no_refusal → ⊥ =
        λ accepts. refused (call.says.refusal ∙ accepts) in
        let desk_is = row_refused bench.desk call.desk answer call.says.desk_is no
        (call.says.says.answer.coordinator
        ∙ refused_choice _ _ _ (λ none. no (call.says.says.refusal ∙ none))) in
        subst (λ (c : CoordinatorRecord).
        Reachable settings (holding state (after_coordinator_call (held_in bench) c left)))
        (sym desk_is)
        (stepped at _ reachable
        (refuses (coordinator_message_refused given m 0 call.memory.count
        call.memory.left answer call.says.says no)))

    pub to_desk_history : (later : List Message)
        → Reachable given at
        → state.waiting ≡ message_from call.message.before ∷ later
        → call.answer ≡ no_refusal
        → Reachable given
        (sending state (held_in (after_desk_message call)) later (out_of 1 call.out call.count))
    to_desk_history later reachable waits accepts =
        let answer = call.says.received in
        let accepted : answer.refusal ≡ no_refusal = sym call.says.refusal ∙ accepts in
        let memory = coordinator_part (held_in bench) 0 call.memory.count in
        let c = (held_in bench).coordinator in
        let none = sym call.says.says.refusal ∙ accepted in
        let few = (settled given
        (coordinator_tested given c memory
        (both_accepted (coordinator_memory_refusal given c memory) _ none).first_accepted
        ).settings_accepted).sites.at_most in
        let known : Known given m true = known_at_desk given c m memory none in
        let whole : m ≡ message_from call.message.before =
        read_whole call.message.before known.small
        (omega (arith, few, known.site_known)) in
        let head : state.waiting ≡ m ∷ later =
        waits ∙ ap (λ (first : Message). first ∷ later) (sym whole) in
        let out : received_out answer ≡ out_of 1 call.out call.count =
        one_out answer.out call.out call.count answer.count
        (call.says.out_is.out_is ∙ accepted_choice answer.refusal _ _ accepted)
        (call.says.out_is.count_is ∙ accepted_choice answer.refusal _ _ accepted) in
        let next = sending state (after_coordinator_call (held_in bench) answer.coordinator left)
        later (received_out answer) in
        let reached : Reachable given next =
        stepped at next reachable
        (delivers (to_coordinator_lem m later call.memory.count call.memory.left answer head
        known.way_is call.says.says accepted)) in
        let desk_is = row_accepted bench.desk call.desk answer call.says.desk_is accepted
        (coordinator_own next reached) in
        subst (Reachable given)
        (λ i. sending state (after_coordinator_call (held_in bench) (sym desk_is i) left) later
        (out i))
        reached

-- ---- The next kind 7

module _ {bench : Bench} (call : AnnouncementCall bench) where
  abbrev wished : Settings
  wished = settings_from call.settings.before

  pub announcement_long : length bench.desk ≡ desk_width → length call.desk ≡ desk_width
  announcement_long =
      row_long bench.desk call.desk call.says.received call.says.desk_is

  module _ (state : State) where
    abbrev standing : State
    standing = holding state (held_in bench)

    pub not_announced_history : {settings : Settings}
        → Reachable settings standing
        → (call.answer ≡ no_refusal → ⊥)
        → Reachable settings (holding state (held_in (after_announcement call)))
    not_announced_history {settings} reachable refused =
        let answer = call.says.received in
        let no : answer.refusal ≡ no_refusal → ⊥ =
        λ accepts. refused (call.says.refusal ∙ accepts) in
        let desk_is = row_refused bench.desk call.desk answer call.says.desk_is no
        (call.says.says.answer.coordinator
        ∙ refused_choice _ _ _ (λ none. no (call.says.says.refusal ∙ none))) in
        subst (λ (c : CoordinatorRecord). Reachable settings
        (holding state (after_coordinator_call (held_in bench) c bench.desk_memory)))
        (sym desk_is)
        (stepped standing _ reachable
        (refuses (announcement_refused wished 0 call.lent answer call.says.says no)))

    pub announced_history : Reachable wished standing
        → call.answer ≡ no_refusal
        → Reachable wished
        (sending state (held_in (after_announcement call)) state.waiting
        (out_of 1 call.out (record { before = 0; after = 1 })))
    announced_history reachable accepts =
        let answer = call.says.received in
        let accepted : answer.refusal ≡ no_refusal = sym call.says.refusal ∙ accepts in
        let one : Number = record { before = 0; after = 1 } in
        let out : received_out answer ≡ out_of 1 call.out one =
        one_out answer.out call.out one answer.count
        (call.says.out_is ∙ accepted_choice answer.refusal _ _ accepted)
        (sym (call.says.one accepted)) in
        let next = sending state
        (after_coordinator_call (held_in bench) answer.coordinator bench.desk_memory)
        state.waiting (received_out answer) in
        let reached : Reachable wished next =
        stepped standing next reachable
        (delivers (next_announcement call.lent answer call.says.says accepted)) in
        let desk_is = row_accepted bench.desk call.desk answer call.says.desk_is accepted
        (coordinator_own next reached) in
        subst (Reachable wished)
        (λ i. sending state
        (after_coordinator_call (held_in bench) (sym desk_is i) bench.desk_memory)
        state.waiting (out i))
        reached
