use Rattle.std.proofs.Common.{sym, ◌∙◌, arith}
use Rattle.link_plans.proofs.Renewals.Links.{moves_next, moves_skip}
use Rattle.link_plans.proofs.moves.Moves.next_link.Goals as goal

pub returns-in-Some-clause-next : goal.returns-in-Some-clause-next
returns-in-Some-clause-next c =
    let l = c.loop-self.self in
    sym c.loop-self.invariant.left ∙ moves_next c.args.tasks.now.tasks l.tail l.made l.task l.moves.items c.deref.result.now _ c.in-Some.link c.deref.ensures.0 (omega arith) (sym c.in-Some.is ∙ c.link.ensures.link)

pub loop-self-preserved : goal.loop-self-preserved
loop-self-preserved c =
    let l = c.loop-self.self in
    record {
      left = moves_skip c.args.tasks.now.tasks l.tail l.made l.task l.moves.items c.deref.result.now _ c.deref.ensures.0 (omega arith) (sym c.in_default.is ∙ c.link.ensures.link) ∙ c.loop-self.invariant.left;
      moves = c.loop-self.invariant.moves;
      tail = c.loop-self.invariant.tail;
    }
