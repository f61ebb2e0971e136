-- The contracts of the three functions that the bench controller calls from C. Each answers the
-- refusal; values go out through lent numbers, which a refusal leaves as they were.
use Rattle.std.specs.Prelude.{◌≡◌, not, List, ℕ, if◌then◌else◌}
use Rattle.model.specs.declared.Settings.{Settings}
use Rattle.model.specs.Choice.{is_zero}
use Rattle.model.specs.Refusals.{when, malformed_line}
use Rattle.model.specs.Settings.{settings_refusal, allowance}
use Rattle.model.specs.Lines.{read_line}

-- A lent number after a call: the value where the call was accepted, else as it was.
abbrev pub handed_out : ℕ → ℕ → ℕ → ℕ
handed_out refusal value before = if is_zero refusal then value else before

pub record AllowanceExported (settings : Settings) (arrivals before after answer : ℕ)
    : Type 0 where
  pub refusal : answer ≡ settings_refusal settings
  pub messages : after ≡ handed_out (settings_refusal settings) (allowance settings arrivals) before

-- The refusal of the first line of some bytes.
abbrev pub line_refusal : List ℕ → ℕ
line_refusal bytes = when (not (read_line bytes).well_formed) malformed_line

-- The four numbers of a line: where they stand before the call, or after it.
pub record LineNumbers : Type 0 where
  pub site : ℕ
  pub item : ℕ
  pub value : ℕ
  pub used : ℕ

-- Of one of the four: the line's number, or what stood there.
abbrev pub from_line : List ℕ → ℕ → ℕ → ℕ
from_line bytes number before = handed_out (line_refusal bytes) number before

pub record LineExported (bytes : List ℕ) (before after : LineNumbers) (answer : ℕ) : Type 0 where
  pub refusal : answer ≡ line_refusal bytes
  pub site : after.site ≡ from_line bytes (read_line bytes).arrival.site before.site
  pub item : after.item ≡ from_line bytes (read_line bytes).arrival.item before.item
  pub value : after.value ≡ from_line bytes (read_line bytes).arrival.value before.value
  pub used : after.used ≡ from_line bytes (read_line bytes).used before.used

abbrev pub line_numbers : ℕ → ℕ → ℕ → ℕ → LineNumbers
line_numbers site item value used = record { site = site; item = item; value = value; used = used }
