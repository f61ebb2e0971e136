-- How much a caller of the library lends, by the settings.
--
--   lengths_of settings    one deck's memory, all decks', the desk's; a list; a log for one draw
--   LengthsExported        the promise of the call
use Rattle.std.specs.Prelude.{◌≡◌, List, [], ◌∷◌, ℕ, ◌*◌, if◌then◌else◌}
use Rattle.model.specs.declared.Settings.{Settings}
use Rattle.model.specs.Choice.{is_zero}
use Rattle.model.specs.Limits.{most_messages}
use Rattle.model.specs.Messages.{message_width}
use Rattle.model.specs.Settings.{settings_refusal}
use Rattle.model.specs.SiteMemory.{site_words}
use Rattle.model.specs.NetworkMemory.{sites_words}
use Rattle.model.specs.CoordinatorMemory.{coordinator_words}
use Rattle.model.specs.Reading.{most_listed}
use Rattle.record_numbers.specs.Numbers.{settings_from}

abbrev pub lengths_of : Settings → List ℕ
lengths_of settings =
    site_words settings
    ∷ (sites_words settings
    ∷ (coordinator_words settings
    ∷ (most_listed settings
    ∷ (message_width * most_messages settings ∷ []))))

-- The lengths where the settings pass; else the row is as it was.
pub record LengthsExported (row before after : List ℕ) (answer : ℕ) : Type 0 where
  pub refusal : answer ≡ settings_refusal (settings_from row)
  pub lengths : after
      ≡ (if is_zero (settings_refusal (settings_from row)) then lengths_of (settings_from row)
      else before)
