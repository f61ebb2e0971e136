-- The memory is long enough for the program's limits, and what was read fits it.
use Rattle.std.proofs.Common.{◌≡◌, sym, ap, ◌∙◌, ℕ, ◌≤◌, length, take, length-take-le, arith, rules}
use Rattle.std.specs.Prelude.{Result, is_ok}
use Rattle.descriptors.specs.declared.ReadFailed.{ReadFailed}
use Rattle.descriptors.specs.Descriptors.{read_in}
use Rattle.drawtrack_course.specs.Rooms.{input_room}
use Rattle.drawtrack_run.proofs.RunLaws.{run_says, whole_of, says_read, hands_read, run_gives}
use Rattle.drawtrack_run.proofs.drawtrack_run.Given as given
use Rattle.drawtrack_run.proofs.drawtrack_run.Goals as goal
use Rattle.drawtrack_run.proofs.drawtrack_run.Goals.{in-Ok, in-Err}

-- As many bytes were read as the answer says, and whether that is all of the input.
length_is : (g : given.Over)
    → (c : goal.After-write_all g)
    → c.match-read.length ≡ (read_in c.take_in-read.result).length
length_is g c =
    elim c.match-read.branch [
      | in-Ok w ↦
          w.length-is ∙ ap (λ (r : Result ℕ ReadFailed). (read_in r).length) (sym w.in-Ok.is)
      | in-Err w ↦
          w.length-is ∙ ap (λ (r : Result ℕ ReadFailed). (read_in r).length) (sym w.in-Err.is)
    ]

whole_is : (g : given.Over)
    → (c : goal.After-write_all g)
    → c.is_ok.result ≡ (read_in c.take_in-read.result).whole
whole_is g c =
    let same : c.match-read.read ≡ c.take_in-read.result =
    elim c.match-read.branch [
      | in-Ok w ↦ w.read-is ∙ sym w.in-Ok.is
      | in-Err w ↦ w.read-is ∙ sym w.in-Err.is
    ] in
    c.is_ok.ensures.value
    ∙ ap (λ (r : Result ℕ ReadFailed). is_ok r) same
    ∙ whole_of c.take_in-read.result

-- As many bytes are lent as matter.
long : (g : given.Over)
    → (c : goal.After-write_all g)
    → length c.take_in-read.new.bytes ≡ input_room
long g c = search rules

-- No more bytes were read than matter.
few : (g : given.Over)
    → (c : goal.After-write_all g)
    → length (take (read_in c.take_in-read.result).length c.take_in-read.new.bytes) ≤ input_room
few g c =
    let bytes = c.take_in-read.new.bytes in
    let fits = c.take_in-read.ensures.counts.fits in
    let read = length-take-le (read_in c.take_in-read.result).length bytes fits in
    omega (arith, read, fits, long g c)

pub returns : goal.returns
returns g c =
    let bytes = c.take_in-read.new.bytes in
    let read = read_in c.take_in-read.result in
    let given = c.take_in-read.ensures in
    let response = c.respond-response in
    let says = says_read bytes read _ _ (whole_is g c) (length_is g c) _ _ _ _ response.result
    response.ensures.says in
    let hands = hands_read bytes read _ _ (whole_is g c) (length_is g c) _ _ response.result
    response.ensures.handed in
    record {
      says = run_says _ _ _ _ _ _ response.result (few g c) says;
      gives =
          run_gives bytes read _ _ _ _ _ _ response.result (long g c) given.counts.fits says hands
          _ _ given.given;
    }
