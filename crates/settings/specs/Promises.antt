-- The contract of the allowance call.
use Rattle.std.specs.Prelude.{◌≡◌, ℕ, Result, IfOk}
use Rattle.model.specs.declared.Settings.{Settings}
use Rattle.model.specs.declared.Refusal.{Refusal}
use Rattle.model.specs.Refusals.{refusal_told}
use Rattle.model.specs.Settings.{settings_refusal, allowance}

-- The settings' refusal; with accepted settings the allowance of document 01.
pub record AllowanceSays (settings : Settings) (arrivals : ℕ) (answer : Result ℕ Refusal)
    : Type 0 where
  pub refusal : refusal_told answer ≡ settings_refusal settings
  pub messages : IfOk answer (λ messages. messages ≡ allowance settings arrivals)
