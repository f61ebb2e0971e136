-- What the calls that read the desk answer at a bench: they are lent `const` alone, so they change
-- nothing, and may stand anywhere.
--
--   ListCall, codes_in, CodesRight     `tracker_desk_list`
--   MarginCall, MarginRight            `tracker_desk_margin`
--   ClassCall, ClassRight              `tracker_desk_class`
--   ReadsRight settings bench state    all three, at rest
-- n is `counted state.accepted`: the draws accepted so far, of class 1 or more.
use Rattle.std.specs.Prelude.{◌≡◌, true, List, ℤ, ℕ, ◌+◌, ◌-◌, ◌*◌, ◌≤◌, ◌<◌, length, get_or, take}
use Rattle.model.specs.declared.Settings.{Settings}
use Rattle.model.specs.Refusals.{no_refusal}
use Rattle.model.specs.CoordinatorMemory.{coordinator_words}
use Rattle.model.specs.Limits.{top_value, least_drawn}
use Rattle.model.specs.Reading.{most_listed, margin}
use Rattle.model.specs.Claims.{counted, count_of, below, above, contains}
use Rattle.record_numbers.specs.Numbers.{greatest_narrow}
use Rattle.history.specs.State.{State}
use Rattle.demands.specs.Reading.{rules_coordinator, FirmShare}
use Rattle.library_rows.specs.Rows.{Lent, Row, Number}
use Rattle.library_reading.specs.Reading.{ListExported, MarginExported, ClassExported}
use Rattle.library_history.specs.Bench.{Bench, unchanged}
use Rattle.library_history.specs.Calls.{Under}

-- ---- The list

-- `tracker_desk_list`
pub record ListCall (bench : Bench) : Type 0 where
  pub settings : Row
  pub lent : ℕ
  pub codes : Row
  pub count : Number
  pub answer : ℕ
  pub says : ListExported settings (unchanged bench.desk)
      (unchanged (take lent bench.desk_memory)) codes count answer

-- "The listed codes in rising order: codes[0] to codes[*count - 1]".
abbrev pub codes_in : {bench : Bench} → ListCall bench → List ℕ
codes_in call = take call.count.after call.codes.after

pub record CodesRight (settings : Settings) (state : State) {bench : Bench} (call : ListCall bench)
    : Type 0 where
  -- so many places are enough, and a thousand under any settings
  pub places_enough : most_listed settings ≤ length call.codes.before
      → call.answer ≡ no_refusal
  pub thousand_enough : 1000 ≤ length call.codes.before
      → call.answer ≡ no_refusal
  -- each code with p thousandths of the draws is among them, once there is a draw
  pub heavy_listed : call.answer ≡ no_refusal
      → (code : ℕ)
      → code < settings.universe
      → 1 ≤ counted state.accepted
      → settings.phi * counted state.accepted ≤ 1000 * count_of code state.accepted
      → contains code (codes_in call) ≡ true
  -- and none below p - 5e / 6
  pub listed_firm : call.answer ≡ no_refusal
      → (code : ℕ)
      → contains code (codes_in call) ≡ true
      → FirmShare settings code state.accepted
  pub rising : call.answer ≡ no_refusal
      → (i : ℕ)
      → i + 1 < length (codes_in call)
      → get_or (codes_in call) i 0 < get_or (codes_in call) (i + 1) 0

-- ---- The margin

-- `tracker_desk_margin`
pub record MarginCall (bench : Bench) : Type 0 where
  pub settings : Row
  pub lent : ℕ
  pub code : ℕ
  pub margin : Lent ℤ
  pub answer : ℕ
  pub says : MarginExported settings (unchanged bench.desk)
      (unchanged (take lent bench.desk_memory)) code margin answer

-- The rules' margin, for every code that there is.
pub record MarginRight (settings : Settings) (state : State) {bench : Bench}
    (call : MarginCall bench) : Type 0 where
  pub code_known : call.code < settings.universe
      → call.answer ≡ no_refusal
  pub margin_is : call.answer ≡ no_refusal
      → call.margin.after ≡ margin settings (rules_coordinator settings state) call.code

-- ---- The class

-- `tracker_desk_class`
pub record ClassCall (bench : Bench) : Type 0 where
  pub settings : Row
  pub lent : ℕ
  pub class : Number
  pub answer : ℕ
  pub says : ClassExported settings (unchanged bench.desk)
      (unchanged (take lent bench.desk_memory)) class answer

-- The tracked class is within e of rank q, once there is a draw.
pub record ClassRight (settings : Settings) (state : State) (class answer : ℕ) : Type 0 where
  pub never_refused : answer ≡ no_refusal
  -- `TRACKER_NO_CLASS`
  pub none_at_start : counted state.accepted ≡ 0
      → class ≡ greatest_narrow
  pub class_known : 1 ≤ counted state.accepted
      → class ≤ top_value
  pub class_drawn : 1 ≤ counted state.accepted
      → least_drawn ≤ class
  pub few_below : 1 ≤ counted state.accepted
      → 1000 * below class state.accepted
      ≤ (settings.rank + settings.epsilon) * counted state.accepted
  pub few_above : 1 ≤ counted state.accepted
      → 1000 * above class state.accepted
      ≤ (1000 - settings.rank + settings.epsilon) * counted state.accepted

-- ---- All three

-- Given the bench's settings and enough of the desk's memory.
pub record ReadsRight (settings : Settings) (bench : Bench) (state : State) : Type 0 where
  pub list : (call : ListCall bench)
      → Under settings call.settings
      → coordinator_words settings ≤ call.lent
      → CodesRight settings state call
  pub margins : (call : MarginCall bench)
      → Under settings call.settings
      → coordinator_words settings ≤ call.lent
      → MarginRight settings state call
  pub class : (call : ClassCall bench)
      → Under settings call.settings
      → coordinator_words settings ≤ call.lent
      → ClassRight settings state call.class.after call.answer
