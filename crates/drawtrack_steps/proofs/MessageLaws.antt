-- The messages of a log, written line by line: the invariant of the loop and its steps.
--
--   Writing                      a log's messages, written but for the last ones
--   writing_begins, -on, -ends   the steps of the loop
use mathlib.Core.Path.{◌≡◌, refl, sym, ap, ◌∙◌}
use mathlib.Core.List.{List, [], ◌∷◌}
use Prim.Native.Nat.{ℕ, suc, ◌+◌, ◌-◌, ◌*◌, ◌≤◌, ◌<◌}
use native.Mathlib.Nat.{add-zero}
use native.Mathlib.Omega.{arith}
use lib.ListN.{length, get_or, drop, length-append}
use lib.Seq.{get_or-drop, drop-drop}
use Rattle.model.specs.declared.Message.{Message}
use Rattle.model.specs.Messages.{message_width, message}
use Rattle.model.specs.Transcript.{message_line, message_lines}
use Rattle.output_lines.specs.Promises.{Written, written_to, at_start, lines_after, RecordWritten}
use Rattle.tracker.specs.Batch.{messages_in}
use Rattle.drawtrack_steps.specs.Output.{lines_of, PutMessagesSays}

-- The messages of the log that are left.
abbrev left : List ℕ → ℕ → ℕ → List Message
left log count done = messages_in (count - done) (drop (message_width * done) log)

-- The message whose numbers begin at a place of the log.
abbrev message_at : List ℕ → ℕ → Message
message_at log i =
    message (get_or log i 0) (get_or log (i + 1) 0) (get_or log (i + 2) 0) (get_or log (i + 3) 0)

-- So many messages of the log are written; with the others the output is that of them all.
pub record Writing (log : List ℕ) (count : ℕ) (first out : List ℕ) (place done : ℕ) : Type 0 where
  pub length_same : length out ≡ length first
  pub within : done ≤ count
  pub log_long : message_width * count ≤ length log
  pub comes_to : lines_after (written_to place out) (lines_of (left log count done))
      ≡ lines_after (at_start first) (lines_of (messages_in count log))
  pub few_bytes : length (message_lines (messages_in count log))
      ≤ 84 * done + length (message_lines (left log count done))

pub writing_begins : (log : List ℕ) (count : ℕ) (out : List ℕ)
    → message_width * count ≤ length log
    → Writing log count out out 0 0
writing_begins log count out long = record {
  length_same = refl;
  within = omega arith;
  log_long = long;
  comes_to = ap (λ (n : ℕ). lines_after (at_start out) (lines_of (messages_in n log))) (all count);
  few_bytes = omega (arith, ap (λ (n : ℕ). length (message_lines (messages_in n log))) (all count));
}
  where
    all : (n : ℕ) → n - 0 ≡ n
    all n = omega arith

-- The next message of a log stands in its next numbers.
next_message : (log : List ℕ) (i more : ℕ)
    → messages_in (suc more) (drop i log)
    ≡ message_at log i ∷ messages_in more (drop (i + message_width) log)
next_message log i more =
    rw (
      get_or-drop i log 0 0,
      get_or-drop i log 1 0,
      get_or-drop i log 2 0,
      get_or-drop i log 3 0,
      drop-drop message_width i log,
      add-zero i,
    )

module _ (log : List ℕ) (count : ℕ) (first before after : List ℕ) (place done next : ℕ)
    (far : Writing log count first before place done) where
  pub writing_on : done < count
      → length after ≡ length before
      → RecordWritten
      (message_at log (message_width * done))
      place before after next
      → Writing log count first after next (done + 1)
  writing_on more-to-do same written =
      let more = count - (done + 1) in
      let m = message_at log (message_width * done) in
      let one_more : count - done ≡ suc more = omega arith in
      let after_it : message_width * done + message_width ≡ message_width * (done + 1) = omega
      arith in
      let split : left log count done ≡ m ∷ left log count (done + 1) =
      ap (λ (n : ℕ). messages_in n (drop (message_width * done) log)) one_more
      ∙ next_message log (message_width * done) more
      ∙ ap (λ (n : ℕ). m ∷ messages_in more (drop n log)) after_it in
      record {
        length_same = same ∙ far.length_same;
        within = omega arith;
        log_long = far.log_long;
        comes_to =
            ap (λ (w : Written). lines_after w (lines_of (left log count (done + 1))))
            written.written.is
            ∙ ap (λ (ms : List Message). lines_after (written_to place before) (lines_of ms))
            (sym split)
            ∙ far.comes_to;
        few_bytes =
            omega (
              arith,
              far.few_bytes,
              written.few,
              ap (λ (ms : List Message). length (message_lines ms)) split,
              length-append (message_line m) (message_lines (left log count (done + 1))),
            );
      }

pub writing_ends : (log : List ℕ) (count : ℕ) (first out : List ℕ) (place done : ℕ)
    → Writing log count first out place done
    → count ≤ done
    → PutMessagesSays log count first out place
writing_ends log count first out place done far all =
    let none : count - done ≡ 0 = omega arith in
    let nothing : left log count done ≡ [] =
    ap (λ (n : ℕ). messages_in n (drop (message_width * done) log)) none in
    record {
      is =
          ap (λ (ms : List Message). lines_after (written_to place out) (lines_of ms)) (sym nothing)
          ∙ far.comes_to;
      few_bytes =
          omega (
            arith,
            far.few_bytes,
            far.within,
            ap (λ (ms : List Message). length (message_lines ms)) nothing,
          );
    }
