-- `single_begin::begin` meets its contract: the site that the arrival names takes it in its part
-- of the memory, or refuses it.
use mathlib.Core.Path.{refl}
use native.Mathlib.Omega.{arith}
use Rattle.std.proofs.lemmas.Result.{err_from_is_err_and}
use Rattle.bench_memory.proofs.PartLaws.{site_few, PartStarts, starts_at}
use Rattle.single_begin.proofs.BeginLaws.{begin_says, same_record}
use Rattle.single_begin.proofs.begin.Goals as goal
use Rattle.single_begin.proofs.begin.Goals.{After-site_words}

-- The site's part starts within the memory, as the code counts its words.
starts : (sized : After-site_words)
    →
    PartStarts sized.args.site_memory.now sized.args.arrival.site
    sized.site_words.result
starts sized =
    starts_at sized.requires.fits _ sized.requires.known _ sized.site_words.ensures

pub overflow_mul-start : goal.overflow_mul-start
overflow_mul-start c = omega (arith, (starts c).small)

pub record_of-numbers-requires : goal.record_of-numbers-requires
record_of-numbers-requires c =
    omega (arith, site_few c.requires.fits c.args.arrival.site c.requires.known)

pub offset_bounds-site_memory-start : goal.offset_bounds-site_memory-start
offset_bounds-site_memory-start c = omega (
  arith,
  (starts (goal.at.offset_bounds-site_memory-start c).After-site_words).small,
)

pub slice_bounds-observe-count : goal.slice_bounds-observe-count
slice_bounds-observe-count c = omega (
  arith,
  (starts
      (goal.at.slice_bounds-observe-count c).After-site_words).within,
)

pub slice_bounds-observe-start : goal.slice_bounds-observe-start
slice_bounds-observe-start c = omega (
  arith,
  (starts
      (goal.at.slice_bounds-observe-start c).After-site_words).within,
)

pub with_record-requires : goal.with_record-requires
with_record-requires c =
    site_few c.requires.fits c.args.arrival.site c.requires.known

pub returns-in_err-observed-clause-says : goal.returns-in_err-observed-clause-says
returns-in_err-observed-clause-says c =
    let p = err_from_is_err_and c.from_residual.result c.from_residual.ensures.1 in
    rw (p.1, p.2)
    (begin_says c.args.site_memory.now c.args.arrival c.args.sites
    c.args.coordinator
    c.site_words.result c.record_of-numbers.result
    c.site_words.ensures c.record_of-numbers.ensures
    c.observe.new.memory _ c.in_err-observed.ensures
    c.args.sites _ 0 _
    (same_record c.args.sites c.args.arrival.site c.record_of-numbers.result
    c.record_of-numbers.ensures)
    (record { messages = refl; few = omega arith }) refl refl)

pub returns-clause-says : goal.returns-clause-says
returns-clause-says c =
    begin_says c.args.site_memory.now c.args.arrival c.args.sites
    c.args.coordinator
    c.site_words.result c.record_of-numbers.result
    c.site_words.ensures c.record_of-numbers.ensures
    c.observe.new.memory _ c.in_ok-observed.ensures
    c.with_record.result c.queue_of-waiting.result _ c.most_calls.result
    c.with_record.ensures c.queue_of-waiting.ensures refl c.most_calls.ensures
