-- The log: a record written after those that stand there, and messages that wait in order.
--
--   length_message_numbers      a message's width for each
--   put_record_append           the next record written: one message more stands in the log
--   joined_queue_of, without_head_queue_of  the messages that wait, as code carries them
use mathlib.Core.Path.{◌≡◌, refl, ap, ◌∙◌}
use mathlib.Core.List.{List, [], ◌∷◌, ◌++◌}
use Prim.Native.Nat.{ℕ, ◌+◌, ◌*◌, ◌≤◌}
use native.Mathlib.Omega.{arith}
use lib.ListN.{length}
use Rattle.laws.proofs.Fronts.{overwritten_sets, row_stores}
use Rattle.model.specs.declared.Message.{Message}
use Rattle.model.specs.Messages.{message_width}
use Rattle.model.specs.SiteMemory.{overwrite}
use Rattle.tracker_queue.specs.Log.{message_numbers, put_record}
use Rattle.tracker_queue.specs.Sending.{queue_of, joined, without_head}

-- ---- Records

pub length_message_numbers : (messages : List Message)
    → length (message_numbers messages) ≡ message_width * length messages
length_message_numbers [] = refl
length_message_numbers (m ∷ messages) = omega (arith, length_message_numbers messages)

-- One message more.
message_numbers_snoc : (messages : List Message) (m : Message)
    → message_numbers messages ++ message_numbers (m ∷ []) ≡ message_numbers (messages ++ (m ∷ []))
message_numbers_snoc [] m = refl
message_numbers_snoc (first ∷ messages) m =
    ap (λ (l : List ℕ). first.kind ∷ (first.site ∷ (first.a ∷ (first.b ∷ l))))
    (message_numbers_snoc messages m)

pub put_record_append : (messages : List Message) (m : Message) (log : List ℕ)
    → message_width * length messages + message_width ≤ length log
    → put_record (overwrite (message_numbers messages) log) (length messages) m
    ≡ overwrite (message_numbers (messages ++ (m ∷ []))) log
put_record_append messages m log room =
    row_stores (overwrite (message_numbers messages) log) (message_width * length messages)
    m.kind (m.site ∷ (m.a ∷ (m.b ∷ [])))
    ∙ overwritten_sets (message_numbers messages) (message_numbers (m ∷ [])) log
    (message_width * length messages) (length_message_numbers messages) room
    ∙ ap (λ (l : List ℕ). overwrite l log) (message_numbers_snoc messages m)

-- ---- Messages that wait

pub joined_queue_of : (waiting : List Message) (m : Message)
    → length waiting ≤ 1
    → joined (queue_of waiting) m ≡ queue_of (waiting ++ (m ∷ []))
joined_queue_of [] m few = refl
joined_queue_of (first ∷ []) m few = refl
joined_queue_of (first ∷ (second ∷ waiting)) m few = absurd (omega arith)

pub without_head_queue_of : (m : Message) (waiting : List Message)
    → length waiting ≤ 1
    → without_head (queue_of (m ∷ waiting)) ≡ queue_of waiting
without_head_queue_of m [] few = refl
without_head_queue_of m (second ∷ []) few = refl
without_head_queue_of m (second ∷ (third ∷ waiting)) few = absurd (omega arith)
