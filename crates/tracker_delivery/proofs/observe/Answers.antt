-- `tracker_delivery::observe` meets its contract: the site takes the arrival in its part of the
-- memory.
use mathlib.Core.Path.{ap}
use Prim.Native.Nat.{ℕ, ◌*◌}
use native.Mathlib.Omega.{arith}
use Rattle.tracker_delivery.proofs.SiteLaws.{starts_small, starts_within, observe_asks, site_takes}
use Rattle.tracker_delivery.proofs.observe.Goals as goal

pub overflow_mul-start : goal.overflow_mul-start
overflow_mul-start c =
    let words = ap (λ (z : ℕ). c.args.arrival.site * z) c.site_words.ensures in
    omega (arith, starts_small c.requires.asks, words)

pub offset_bounds-site_memory-start : goal.offset_bounds-site_memory-start
offset_bounds-site_memory-start c =
    let words = ap (λ (z : ℕ). c.args.arrival.site * z) c.site_words.ensures in
    omega (arith, starts_small c.requires.asks, words)

pub slice_bounds-observe_step-count : goal.slice_bounds-observe_step-count
slice_bounds-observe_step-count c =
    let words = ap (λ (z : ℕ). c.args.arrival.site * z) c.site_words.ensures in
    omega (arith, starts_within c.requires.asks, words)

pub slice_bounds-observe_step-start : goal.slice_bounds-observe_step-start
slice_bounds-observe_step-start c =
    let words = ap (λ (z : ℕ). c.args.arrival.site * z) c.site_words.ensures in
    omega (arith, starts_within c.requires.asks, words)

pub observe_step-requires : goal.observe_step-requires
observe_step-requires c =
    let words = c.site_words in
    observe_asks c.requires.asks c.args.own words.result c.requires.own_is
    words.ensures

pub returns : goal.returns
returns c =
    let words = c.site_words in
    let answer = c.observe_step in
    record {
      takes = λ underway memory log u own_is.
          site_takes u c.args.own words.result own_is words.ensures
          answer.result _ answer.ensures;
    }
