-- Laws of the program's transcript, and the theorem on every input: its first 8241 bytes decide it.
--
--   transcript_with_refused           the transcript of what is refused before any arrival
--   refusal_long, -some               a worklist of more than 8192 bytes is refused unread
--   input_decides                     the first bytes decide whatever the settings line and the
--                                     first bytes of the worklist do
--   transcript_claims                 the theorem (specs/TranscriptClaims.antt)
use mathlib.Core.Path.{◌≡◌, refl, sym, ap, ◌∙◌}
use mathlib.Core.Bool.{Bool, true, false, or-true}
use mathlib.Core.List.{List, ◌++◌, append_assoc}
use Prim.Native.Nat.{ℕ, zero, suc, ◌+◌, ◌-◌, ◌≤◌, ◌<◌}
use native.Mathlib.Omega.{arith}
use native.Mathlib.Decide.{dec_le}
use lib.ListN.{length, take, drop, length-append, take-append-drop}
use lib.Seq.{take_all, take-append-add, length-take-le}
use borrow.Author.Tests.{lt-ltb, ne_eqb}
use Rattle.model.specs.declared.Settings.{Settings}
use Rattle.model.specs.Choice.{is_zero}
use Rattle.model.specs.Refusals.{when, ◌or_else◌, no_refusal, memory_too_short}
use Rattle.model.specs.Settings.{settings_refusal}
use Rattle.model.specs.Lines.{Fields, malformed, fields, line_feed, read_fields, settings_of, read_worklist}
use Rattle.model.specs.Runs.{fresh_run}
use Rattle.model.specs.Transcript.{transcript_of, transcript_with, transcript_from, beyond_program, program_refusal, refused_line}
use Rattle.model.specs.TranscriptClaims.{TranscriptClaims}
use Rattle.model.proofs.Worklists.LineTaken.{FieldsTaken, fields_taken}

-- ---- By the program's refusal

-- The transcript for a refusal, or for none.
abbrev answered : Settings → List ℕ → ℕ → List ℕ
answered settings worklist refusal =
    elim (is_zero refusal) [
      | true ↦ transcript_from settings (fresh_run settings) (read_worklist worklist)
      | false ↦ refused_line refusal
    ]

pub transcript_with_refused : (settings : Settings) (worklist : List ℕ) (refusal : ℕ)
    → program_refusal settings worklist ≡ refusal
    → 0 < refusal
    → transcript_with settings worklist ≡ refused_line refusal
transcript_with_refused settings worklist refusal is some =
    ap (answered settings worklist) is ∙ rw (ne_eqb refusal 0 (λ none. omega arith), answered)

-- ---- By the worklist's length

-- The number that refuses a worklist that is too long: that of the settings, or else 4.
abbrev pub length_refusal : Settings → ℕ
length_refusal settings = settings_refusal settings or_else memory_too_short

pub refusal_some : (settings : Settings) → 0 < length_refusal settings
refusal_some settings = by_first (settings_refusal settings)
  where
    by_first : (first : ℕ) → 0 < (first or_else memory_too_short)
    by_first zero = omega arith
    by_first (suc first) = omega arith

pub refusal_long : (settings : Settings) (worklist : List ℕ)
    → 8192 < length worklist
    → program_refusal settings worklist ≡ length_refusal settings
refusal_long settings worklist long =
    let beyond : beyond_program settings (length worklist) ≡ true
    = simp (lt-ltb 8192 (length worklist) long, or-true) in
    ap (λ (test : Bool). settings_refusal settings or_else when test memory_too_short or_else
    no_refusal)
    beyond

transcript_with_long : (settings : Settings) (worklist : List ℕ)
    → 8192 < length worklist
    → transcript_with settings worklist ≡ refused_line (length_refusal settings)
transcript_with_long settings worklist long =
    transcript_with_refused settings worklist (length_refusal settings)
    (refusal_long settings worklist long) (refusal_some settings)

-- Two worklists of which one is the other's first 8193 bytes or more.
transcript_with_take : (settings : Settings) (worklist : List ℕ) (most : ℕ)
    → 8193 ≤ most
    → transcript_with settings (take most worklist) ≡ transcript_with settings worklist
transcript_with_take settings worklist most enough = by_length (dec_le (length worklist) most)
  where
    by_length : Dec (length worklist ≤ most)
        → transcript_with settings (take most worklist) ≡ transcript_with settings worklist
    by_length (yes short) = ap (transcript_with settings) (take_all most worklist short)
    by_length (no long) =
        let whole = length-take-le most worklist (omega arith) in
        transcript_with_long settings (take most worklist) (omega (arith, whole))
        ∙ sym (transcript_with_long settings worklist (omega arith))

-- ---- By the input's first bytes

module _ (most : ℕ) (input : List ℕ) (enough : 8241 ≤ most) where
  -- The settings line stands within the first bytes: they read it too.
  front_reads : (numbers worklist : List ℕ)
      → (taken : FieldsTaken line_feed 6 input numbers worklist)
      → read_fields 6 (take most input)
      ≡ fields numbers (take (most - length taken.front) worklist)
  front_reads numbers worklist taken =
      let line = taken.front in
      let left = most - length line in
      let both : most ≡ length line + left = omega (arith, taken.at_most) in
      let front : take most input ≡ line ++ take left worklist
      = ap (take most) taken.splits
      ∙ ap (λ (n : ℕ). take n (line ++ worklist)) both
      ∙ take-append-add line worklist left in
      ap (read_fields 6) front ∙ taken.reads (take left worklist)

  -- What the first bytes read, the whole input reads.
  settings_of_whole : (numbers rest : List ℕ)
      → FieldsTaken line_feed 6 (take most input) numbers rest
      → read_fields 6 input ≡ fields numbers (rest ++ drop most input)
  settings_of_whole numbers rest taken =
      ap (read_fields 6)
      (sym (take-append-drop most input)
      ∙ ap (λ (front : List ℕ). front ++ drop most input) taken.splits
      ∙ append_assoc taken.front rest (drop most input))
      ∙ taken.reads (rest ++ drop most input)

  malformed_of_front : read_fields 6 input ≡ malformed → read_fields 6 (take most input) ≡ malformed
  malformed_of_front bad = by_front (read_fields 6 (take most input)) refl
    where
      by_front : (found : Fields)
          → read_fields 6 (take most input) ≡ found
          → read_fields 6 (take most input) ≡ malformed
      by_front malformed here = here
      by_front (fields numbers rest) here =
          let read = settings_of_whole numbers rest (fields_taken line_feed 6 _ numbers rest here)
          in
          let never : ◌≡◌ {A = ℕ} 0 1 = cc in
          absurd (omega arith)

  -- An answer by the settings line and what follows it: if of the worklist 8193 bytes decide it, so
  -- do these bytes of the input.
  pub input_decides : {A : Type 0} (answer : Fields → A)
      → ((numbers worklist : List ℕ) (left : ℕ)
      → 8193 ≤ left
      → answer (fields numbers (take left worklist)) ≡ answer (fields numbers worklist))
      → answer (read_fields 6 (take most input)) ≡ answer (read_fields 6 input)
  input_decides {A} answer decides = by_settings (read_fields 6 input) refl
    where
      by_settings : (found : Fields)
          → read_fields 6 input ≡ found
          → answer (read_fields 6 (take most input)) ≡ answer (read_fields 6 input)
      by_settings malformed bad = ap answer (malformed_of_front bad ∙ sym bad)
      by_settings (fields numbers worklist) here =
          let taken = fields_taken line_feed 6 input numbers worklist here in
          ap answer (front_reads numbers worklist taken)
          ∙ decides numbers worklist (most - length taken.front)
          (omega (arith, taken.at_most))
          ∙ sym (ap answer here)

-- ---- The theorem

pub settings_length_of : (input numbers worklist : List ℕ)
    → read_fields 6 input ≡ fields numbers worklist
    → length input ≤ length worklist + 48
settings_length_of input numbers worklist here =
    let taken = fields_taken line_feed 6 input numbers worklist here in
    omega (arith, ap length taken.splits, length-append taken.front worklist, taken.at_most)

pub transcript_claims : TranscriptClaims
transcript_claims = record {
  settings_length = settings_length_of;
  input_enough = λ most input enough.
      input_decides most input (omega arith) transcript_of
      (λ numbers. transcript_with_take (settings_of numbers));
}
