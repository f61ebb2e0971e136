-- The loop's calls are a course of the session, and their bytes are handed out; it ends because the
-- course does.
use Rattle.std.proofs.Common.{◌-◌}
use Rattle.drawtrack_steps.specs.Outcome.{buffers}
use Rattle.drawtrack_course.specs.Rooms.{input_room}
use Rattle.drawtrack_turns.specs.Serving.{situation, Serving}
use Rattle.drawtrack_serving.specs.Handing.{Handing}
use Rattle.drawtrack_serving.proofs.serve.Given as goal

abbrev pub invariant-loop-taken : goal.invariant-loop-taken
invariant-loop-taken g l =
    (serving : Serving l.input
    (situation l.initial.session
    (buffers l.initial.site_memory l.initial.coordinator_memory l.initial.log l.initial.list
    l.initial.out))
    (situation l.session (buffers l.site_memory l.coordinator_memory l.log l.list l.out))
    l.turns)
    × Handing (g.W.Write.contents l.fn.output) (g.W.Write.contents l.output) serving.bytes l.taken

abbrev pub decreases-loop-taken : goal.decreases-loop-taken
decreases-loop-taken g l = input_room - l.turns
