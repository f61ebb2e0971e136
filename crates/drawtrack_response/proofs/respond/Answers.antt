-- By whether the input was read, whether every write was taken, and whether it is refused.
use Rattle.std.proofs.Common.{refl}
use Rattle.drawtrack_response.proofs.RespondLaws.{respond_unread, respond_lost, respond_results, respond_refused}
use Rattle.drawtrack_response.proofs.HandLaws.{hands_taken, hands_lost, hands_nothing}
use Rattle.drawtrack_response.proofs.respond.Goals as goal

pub serve-ended-requires : goal.serve-ended-requires
serve-ended-requires g c = c.requires.serve

pub returns-then-ended-eq-NO_REFUSAL : goal.returns-then-ended-eq-NO_REFUSAL
returns-then-ended-eq-NO_REFUSAL g c =
    let served = c.serve-ended in
    record {
      says =
          respond_results _ _ _ _ _ c.if-read.true served.result served.ensures.says
          c.if-ended.true c.if-ended-eq-NO_REFUSAL.true;
      handed =
          hands_taken _ _ _ _ _ _ served.result c.if-read.true served.ensures.says
          served.ensures.handed _ c.if-ended.true;
    }

pub returns-then-ended : goal.returns-then-ended
returns-then-ended g c =
    let served = c.serve-ended in
    record {
      says =
          respond_refused _ _ _ _ _ c.if-read.true served.result served.ensures.says
          c.if-ended.true c.if-ended-eq-NO_REFUSAL.false c.requires.reason_long _ _
          c.write_reason.ensures;
      handed =
          hands_taken _ _ _ _ _ _ served.result c.if-read.true served.ensures.says
          served.ensures.handed _ c.if-ended.true;
    }

pub returns-else-ended : goal.returns-else-ended
returns-else-ended g c =
    let served = c.serve-ended in
    record {
      says =
          respond_lost _ _ _ _ _ c.if-read.true served.result served.ensures.says
          c.if-ended.false;
      handed =
          hands_lost _ _ _ _ _ _ served.result c.if-read.true served.ensures.says
          served.ensures.handed _ refl;
    }

pub returns-else-read : goal.returns-else-read
returns-else-read g c = record {
  says = respond_unread _ _ _ _ c.if-read.false;
  handed = hands_nothing _ _ _ _ refl;
}
