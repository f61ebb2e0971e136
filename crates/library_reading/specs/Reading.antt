-- What the calls that read the desk promise: the promise of the coordinator's call behind each, on
-- the record that the row stands for; and the answer where it accepts.
--
--   class_number             the class as a number; the greatest of four bytes for none
--   ListExported             the listed codes, and how many
--   MarginExported           how far a code is above the list rule, or below it
--   ClassExported            the tracked class
use Rattle.std.specs.Prelude.{◌≡◌, ℕ, ℤ, Option, None, Some}
use Rattle.coordinator_list.specs.Promises.{ListAnswer, ListSays}
use Rattle.coordinator_reading.specs.Promises.{MarginAnswer, QuantileAnswer, MarginSays, QuantileSays}
use Rattle.record_numbers.specs.Numbers.{greatest_narrow, settings_from, coordinator_read}
use Rattle.library_rows.specs.Rows.{Lent, Row, Number, handed_out}

pub record ListExported (settings desk memory codes : Row) (count : Number) (answer : ℕ)
    : Type 0 where
  pub listed : ListAnswer
  pub says : ListSays (settings_from settings.before) (coordinator_read desk.before)
      memory.before codes.before codes.after listed
  pub refusal : answer ≡ listed.refusal
  pub count_is : count.after ≡ handed_out listed.refusal listed.count count.before

pub record MarginExported (settings desk memory : Row) (code : ℕ) (margin : Lent ℤ) (answer : ℕ)
    : Type 0 where
  pub read : MarginAnswer
  pub says : MarginSays (settings_from settings.before) (coordinator_read desk.before) code
      memory.before read
  pub refusal : answer ≡ read.refusal
  pub margin_is : margin.after ≡ handed_out read.refusal read.margin margin.before

abbrev pub class_number : Option ℕ → ℕ
class_number None = greatest_narrow
class_number (Some value) = value

pub record ClassExported (settings desk memory : Row) (class : Number) (answer : ℕ)
    : Type 0 where
  pub read : QuantileAnswer
  pub says : QuantileSays (settings_from settings.before) (coordinator_read desk.before)
      memory.before read
  pub refusal : answer ≡ read.refusal
  pub class_is : class.after
      ≡ handed_out read.refusal (class_number read.quantile) class.before
