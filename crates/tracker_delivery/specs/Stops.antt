-- Why a batch or a delivery stopped, if it did, as the table of refusals numbers it.
use Rattle.std.specs.Prelude.{ℕ, Option, Some, None}
use Rattle.model.specs.declared.Refusal.{Refusal}
use Rattle.model.specs.Refusals.{no_refusal, number_of}

-- The number of what stopped it, or 0 where nothing did.
abbrev pub stop_number : Option Refusal → ℕ
stop_number (Some refusal) = number_of refusal
stop_number None = no_refusal
