-- The log of the batch call: "A message is four numbers: kind, deck, a, b", one record after
-- another.
--
--   log_room log                  the records that a log has place for
--   message_numbers messages      the numbers of messages, as the log holds them
--   messages_in count log         the first messages that stand in a log
--   put_record log place m        a log with one record written
use Rattle.std.specs.Prelude.{List, [], ◌∷◌, ℕ, zero, suc, ◌+◌, ◌*◌, ◌/◌, length, get_or, set, drop}
use Rattle.model.specs.declared.Message.{Message}
use Rattle.model.specs.Messages.{message_width, message}

abbrev pub log_room : List ℕ → ℕ
log_room log = length log / message_width

abbrev pub message_numbers : List Message → List ℕ
message_numbers [] = []
message_numbers (m ∷ ms) = m.kind ∷ (m.site ∷ (m.a ∷ (m.b ∷ message_numbers ms)))

abbrev pub messages_in : ℕ → List ℕ → List Message
messages_in zero log = []
messages_in (suc more) log =
    message (get_or log 0 0) (get_or log 1 0) (get_or log 2 0) (get_or log 3 0)
    ∷ messages_in more (drop message_width log)

abbrev pub put_record : List ℕ → ℕ → Message → List ℕ
put_record log place m =
    let at = message_width * place in
    set (set (set (set log at m.kind) (at + 1) m.site) (at + 2) m.a) (at + 3) m.b
