-- What saving a bench and reading it back answer (request N3), as the table of refusals tells it.
use Rattle.std.specs.Prelude.{ℕ}
use Rattle.model.specs.declared.Settings.{Settings}
use Rattle.model.specs.declared.Sites.{Sites}
use Rattle.model.specs.declared.CoordinatorRecord.{CoordinatorRecord}

-- Why saving is refused, or 0, and then how many bytes the file has.
pub record SaveAnswer : Type 0 where
  pub refusal : ℕ
  pub length : ℕ

-- Why reading is refused, or 0, and then the settings and both records that the file has; refused,
-- zero settings and fresh records.
pub record LoadAnswer : Type 0 where
  pub refusal : ℕ
  pub settings : Settings
  pub sites : Sites
  pub coordinator : CoordinatorRecord
