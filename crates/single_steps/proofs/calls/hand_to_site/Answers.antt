-- `single_steps::hand_to_site` meets its contract: no site has the number, or by whether the
-- site accepts.
use mathlib.Core.Path.{refl}
use native.Mathlib.Omega.{arith}
use Rattle.model.proofs.Thresholds.RefusalLaws.{some_number}
use Rattle.bench_memory.proofs.PartLaws.{site_few, PartStarts, starts_at}
use Rattle.single_steps.proofs.SiteStepLaws.{site_unknown, site_stops, site_goes}
use Rattle.single_steps.proofs.calls.hand_to_site.Goals as goal
use Rattle.single_steps.proofs.calls.hand_to_site.Goals.{After-site_words}

-- The site's part starts within the memory, as the code counts its words.
starts : (sized : After-site_words)
    →
    PartStarts sized.args.site_memory.now sized.args.progress.waiting.first.site
    sized.site_words.result
starts sized =
    starts_at sized.requires.0 _ sized.if-settings-message.false _ sized.site_words.ensures

pub returns-then-settings-message : goal.returns-then-settings-message
returns-then-settings-message c =
    λ memory. site_unknown c.requires.0 c.requires.1 c.if-settings-message.true memory

pub overflow_mul-start : goal.overflow_mul-start
overflow_mul-start c = omega (arith, (starts c).small)

pub offset_bounds-site_memory-start : goal.offset_bounds-site_memory-start
offset_bounds-site_memory-start c =
    omega (arith, (starts (goal.at.offset_bounds-site_memory-start c).After-site_words).small)

pub slice_bounds-receive-count : goal.slice_bounds-receive-count
slice_bounds-receive-count c =
    omega (arith, (starts (goal.at.slice_bounds-receive-count c).After-site_words).within)

pub slice_bounds-receive-start : goal.slice_bounds-receive-start
slice_bounds-receive-start c =
    omega (arith, (starts (goal.at.slice_bounds-receive-start c).After-site_words).within)

pub record_of-numbers-requires : goal.record_of-numbers-requires
record_of-numbers-requires c =
    omega (
      arith,
      site_few c.requires.0 c.args.progress.waiting.first.site c.if-settings-message.false,
    )

pub returns-in-Err : goal.returns-in-Err
returns-in-Err c =
    λ memory.
    site_stops c.requires.0 c.requires.1 c.if-settings-message.false _ _
    c.record_of-numbers.ensures c.site_words.ensures _ c.in-Err.ensures (some_number _) memory

pub with_record-requires : goal.with_record-requires
with_record-requires c =
    site_few c.requires.0 c.args.progress.waiting.first.site c.if-settings-message.false

pub send-requires : goal.send-requires
send-requires c = c.requires.1.few_carried

pub returns-in-Ok : goal.returns-in-Ok
returns-in-Ok c =
    λ memory.
    site_goes c.requires.0 c.requires.1 c.if-settings-message.false _ _
    c.record_of-numbers.ensures c.site_words.ensures _ c.in-Ok.ensures refl memory
    _ _ _ c.with_record.ensures c.take_head.ensures c.send.ensures
