-- `site_counting::count_item` meets its contract: each way of counting by its law in CountLaws.
use Rattle.std.specs.Prelude.{Some}
use Prim.Native.Nat.{ℕ, ◌<◌}
use mathlib.Core.Path.{refl, ap, subst⁻¹}
use native.Mathlib.Omega.{arith}
use borrow.Author.Rules.{rules}
use Rattle.model.specs.Counters.{Counter, left_with}
use Rattle.site_counters.specs.Stored.{counter_of, PartsWithin}
use Rattle.site_counting.proofs.CountLaws.{counted_own, counted_unused, counted_replaced, small_at, parts_at, least_within}
use Rattle.site_counting.proofs.count_item.Goals as goal

pub overflow_add-more : goal.overflow_add-more
overflow_add-more c =
    let a = c.args in
    let found = c.find_counter-found.result in
    omega (
      arith,
      ap (λ (x : Counter). x.count) c.counter_at-old.ensures,
      small_at a.memory.now a.capacity a.used c.requires found (search rules),
    )

pub returns-then-found-used : goal.returns-then-found-used
returns-then-found-used c =
    let a = c.args in
    let found = c.find_counter-found in
    let old = c.counter_at-old in
    let put = c.put_counter in
    counted_own a.memory.now put.new.memory a.capacity a.used a.item c.requires _
    found.result found.ensures (counter_of old.result) old.ensures (search rules)
    refl refl refl refl put.ensures

pub returns-then-used-capacity : goal.returns-then-used-capacity
returns-then-used-capacity c =
    let a = c.args in
    let found = c.find_counter-found in
    let put = c.put_counter-then-used-capacity in
    counted_unused a.memory.now put.new.memory a.capacity a.used a.item c.requires _
    found.result found.ensures (search rules) (search rules)
    refl refl refl refl put.ensures

pub counter_at-replaced-requires : goal.counter_at-replaced-requires
counter_at-replaced-requires c =
    let a = c.args in
    let least = c.least_counter-least in
    omega (
      arith,
      c.requires.fits,
      least.ensures,
      least_within a.memory.now a.capacity a.used c.requires (search rules),
    )

pub unreported_of-gone-requires : goal.unreported_of-gone-requires
unreported_of-gone-requires c =
    let a = c.args in
    let least = c.least_counter-least in
    let inside : least.result < a.used = omega (
      arith,
      least.ensures,
      least_within a.memory.now a.capacity a.used c.requires (search rules),
    ) in
    subst⁻¹ PartsWithin c.counter_at-replaced.ensures
    (parts_at a.memory.now a.capacity a.used c.requires least.result inside)

pub overflow_add-replacing : goal.overflow_add-replacing
overflow_add-replacing c =
    let a = c.args in
    let least = c.least_counter-least in
    let inside : least.result < a.used = omega (
      arith,
      least.ensures,
      least_within a.memory.now a.capacity a.used c.requires (search rules),
    ) in
    omega (
      arith,
      ap (λ (x : Counter). x.count) c.counter_at-replaced.ensures,
      small_at a.memory.now a.capacity a.used c.requires least.result inside,
    )

pub put_counter-requires-2 : goal.put_counter-requires-2
put_counter-requires-2 c =
    let a = c.args in
    let least = c.least_counter-least in
    omega (
      arith,
      c.requires.fits,
      least.ensures,
      least_within a.memory.now a.capacity a.used c.requires (search rules),
    )

pub returns : goal.returns
returns c =
    let a = c.args in
    let found = c.find_counter-found in
    let least = c.least_counter-least in
    let old = c.counter_at-replaced in
    let put = c.put_counter-2 in
    counted_replaced a.memory.now put.new.memory a.capacity a.used a.item
    c.requires _
    found.result found.ensures least.result (counter_of old.result) least.ensures
    old.ensures c.if-found-used.false
    c.if-used-capacity.false
    refl refl refl
    (ap (λ (gone : ℕ). Some (left_with old.result.item gone)) c.unreported_of-gone.ensures)
    put.ensures
