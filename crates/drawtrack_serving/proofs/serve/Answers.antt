-- The loop's calls are a course of the session, and their bytes are handed out; it ends because the
-- course does.
use Rattle.std.proofs.Common.{◌≡◌, sym, ◌∙◌, subst, true, false, ◌<◌, take, arith}
use Rattle.std.proofs.lemmas.Bool.{false≢true}
use Rattle.drawtrack_steps.specs.Outcome.{buffers}
use Rattle.drawtrack_course.specs.Rooms.{input_room}
use Rattle.drawtrack_turns.proofs.ServingLaws.{begun_within, advanced_within, serving_begins, begins_bytes, serving_on, on_bytes, serving_over, serves, front_bytes, all_taken}
use Rattle.drawtrack_serving.specs.Handing.{Handing}
use Rattle.drawtrack_serving.proofs.HandingLaws.{handing_begins, handing_on, handed_out}
use Rattle.drawtrack_serving.proofs.serve.Given as given
use Rattle.drawtrack_serving.proofs.serve.Goals as goal
use Rattle.drawtrack_serving.proofs.serve.Goals.{then-loop-taken-test+then-session+else-turns-lt-SESSION_INPUT_BYTES, then-loop-taken-test+else-session, else-loop-taken-test}

-- ---- The calls

pub hand_out-taken-requires : goal.hand_out-taken-requires
hand_out-taken-requires g c =
    begun_within c.args.input.now
    (buffers c.args.site_memory.now c.args.coordinator_memory.now c.args.log.now c.args.list.now
    c.args.out.now)
    _ _ _ c.begin-first.result c.begin-first.ensures

pub loop-taken-init : goal.loop-taken-init
loop-taken-init g c =
    let given =
    buffers c.args.site_memory.now c.args.coordinator_memory.now c.args.log.now
    c.args.list.now c.args.out.now in
    let first = c.begin-first in (
      serving_begins c.args.input.now given _ _ _ first.result first.ensures c.requires,
      handing_begins _ _ (take first.result.written first.new.out) _ _
          (begins_bytes c.args.input.now given _ _ _ first.result first.ensures c.requires)
          c.hand_out-taken.ensures,
    )

pub hand_out-taken-requires-in-loop-taken : goal.hand_out-taken-requires-in-loop-taken
hand_out-taken-requires-in-loop-taken g c =
    advanced_within _ _ _ _ c.loop-taken.turns c.loop-taken.invariant.0 _ c.advance-moved.result
    c.advance-moved.ensures

-- ---- A turn

pub loop-taken-preserved : goal.loop-taken-preserved
loop-taken-preserved g c =
    let (serving, handing) = c.loop-taken.invariant in
    let moved = c.advance-moved in
    let more : c.loop-taken.turns < input_room = omega arith in (
      serving_on _ _ _ _ c.loop-taken.turns serving _ moved.result more c.if-session.true
          moved.ensures,
      handing_on _ _ _ serving.bytes (take moved.result.written moved.new.out) _ _
          (on_bytes _ _ _ _ c.loop-taken.turns serving _ moved.result more c.if-session.true
          moved.ensures)
          (subst (Handing _ _ serving.bytes) c.loop-taken-test.true handing)
          c.hand_out-taken-in-loop-taken.ensures,
    )

-- ---- After the loop

-- If every write was taken, the loop was left because the session has ended: the turns are never
-- over before.
ended : (g : given.Over)
    → (c : goal.After-stopped_at g)
    → c.loop-taken.taken ≡ true
    → c.loop-taken.session.going ≡ false
ended g c all =
    elim c.loop-taken-test.branch [
      | then-loop-taken-test+then-session+else-turns-lt-SESSION_INPUT_BYTES w ↦
          serving_over _ _ _ _ c.loop-taken.turns c.loop-taken.invariant.0
          w.if-turns-lt-SESSION_INPUT_BYTES.false
      | then-loop-taken-test+else-session w ↦ w.if-session.false
      | else-loop-taken-test w ↦ absurd (false≢true (sym w.loop-taken-test.false ∙ all))
    ]

pub returns : goal.returns
returns g c =
    let (serving, handing) = c.loop-taken.invariant in
    let begun = c.begin-first in
    let turns = c.loop-taken.turns in
    record {
      says =
          serves _ _ _ _ _ begun.result begun.ensures _ _ turns serving c.loop-taken.taken _
          c.stopped_at.ensures (ended g c);
      handed =
          handed_out _ _ _ serving.bytes c.loop-taken.session turns c.loop-taken.taken _
          c.stopped_at.ensures handing
          (front_bytes _ _ _ _ _ begun.result begun.ensures _ _ turns serving)
          (λ all. all_taken _ _ _ _ _ begun.result begun.ensures _ _ turns serving (ended g c all));
    }
