-- The lines of messages, written into the lent output one after the other.
--
--   lines_of messages            the lines of some messages
--   PutMessagesSays ..          the lines of a log's first messages
use Rattle.std.specs.Prelude.{◌≡◌, List, [], ◌∷◌, ℕ, ◌*◌, ◌≤◌, length}
use Rattle.model.specs.declared.Message.{Message}
use Rattle.model.specs.Transcript.{message_line, message_lines}
use Rattle.output_lines.specs.Promises.{written_to, at_start, lines_after}
use Rattle.tracker.specs.Batch.{messages_in}

abbrev pub lines_of : List Message → List (List ℕ)
lines_of [] = []
lines_of (message ∷ messages) = message_line message ∷ lines_of messages

-- The lines of a log's first messages. Each takes at most 84 bytes: a log holds numbers of 64 bits.
pub record PutMessagesSays (log : List ℕ) (count : ℕ) (before after : List ℕ) (answer : ℕ) : Type 0
  where
    pub is : written_to answer after
        ≡ lines_after (at_start before) (lines_of (messages_in count log))
    pub few_bytes : length (message_lines (messages_in count log)) ≤ 84 * count
