-- What holds of every input of the program `drawtrack` (document 01's section "Worklist"). The
-- theorem `transcript-claims` of proofs/TranscriptLaws.antt proves it.
use Rattle.std.specs.Prelude.{◌≡◌, List, ℕ, ◌+◌, ◌≤◌, length, take}
use Rattle.model.specs.Lines.{fields, read_fields}
use Rattle.model.specs.Transcript.{transcript}

pub record TranscriptClaims : Type 0 where
  -- A well-formed settings line takes at most 48 bytes: six fields of at most seven digits, each
  -- with its mark.
  pub settings_length : (input numbers worklist : List ℕ)
      → read_fields 6 input ≡ fields numbers worklist
      → length input ≤ length worklist + 48
  -- The first 8241 bytes decide the answer: 48 for the settings line, and one more than the 8192
  -- that a worklist may have. A program that reads so many, or more, knows its whole answer.
  pub input_enough : (most : ℕ) (input : List ℕ)
      → 8241 ≤ most
      → transcript (take most input) ≡ transcript input
