-- The front of the memory is read from the file.
use mathlib.Core.Path.{◌≡◌, sym, ap, ◌∙◌}
use mathlib.Core.List.{◌++◌}
use Prim.Native.Nat.{ℕ, ◌+◌}
use native.Mathlib.Omega.{arith}
use lib.ListN.{length, take, drop}
use lib.Seq.{length-take-le}
use Rattle.model.specs.CoordinatorMemory.{coordinator_words}
use Rattle.model.proofs.BetweenArrivals.ReportLaws.{value_count_is}
use Rattle.little_endian.specs.Numbers.{numbers_in}
use Rattle.little_endian.proofs.NumberLaws.{length_numbers_in}
use Rattle.snapshot_file.proofs.LayoutLaws.{length_of_decks}
use Rattle.snapshot_loading.proofs.LoadingLaws.{desk_memory}
use Rattle.snapshot_loading.proofs.store_desk.Goals as goal
use Rattle.snapshot_loading.proofs.store_desk.Goals.{After-read_numbers-arg-1}

-- As many numbers as the settings need are lent.
front_long : (c : After-read_numbers-arg-1)
    → let a = c.args in
    length (take (a.settings.universe + 1024) a.memory.now) ≡ a.settings.universe + 1024
front_long c =
    let a = c.args in
    length-take-le (a.settings.universe + 1024) a.memory.now
    (omega (arith, c.requires.memory_long, value_count_is))

pub slice_bounds-read_numbers-end : goal.slice_bounds-read_numbers-end
slice_bounds-read_numbers-end c =
    omega (arith, c.requires.memory_long, value_count_is)

pub slice_bounds-read_numbers-end-2 : goal.slice_bounds-read_numbers-end-2
slice_bounds-read_numbers-end-2 c = sym (front_long c)

pub read_numbers-requires : goal.read_numbers-requires
read_numbers-requires c =
    omega (
      arith,
      front_long c,
      c.requires.whole.length_is,
      length_of_decks c.args.settings,
      value_count_is,
    )

pub returns : goal.returns
returns c =
    let a = c.args in
    let words = a.settings.universe + 1024 in
    let are : words ≡ coordinator_words a.settings = omega (arith, value_count_is) in
    let front = c.read_numbers.ensures
    ∙ ap (λ (n : ℕ). numbers_in 8 n (drop 48 a.file.now))
    (front_long (goal.at.returns c).After-read_numbers-arg-1)
    ∙ desk_memory a.settings a.file.now words are in
    let long : words ≡ length c.read_numbers.new.numbers =
    sym (ap length c.read_numbers.ensures
    ∙ length_numbers_in 8 (length (take words a.memory.now)) (drop 48 a.file.now)
    ∙ front_long (goal.at.returns c).After-read_numbers-arg-1) in
    (λ i. c.read_numbers.new.numbers ++ drop (long i) a.memory.now)
    ∙ (λ i. front i ++ drop (length (front i)) a.memory.now)
