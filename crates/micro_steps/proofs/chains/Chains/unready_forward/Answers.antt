use Rattle.std.proofs.Common.{◌≡◌, ◌<◌, ℕ, List, sym, subst, arith}
use Rattle.links.specs.Chain.{times, total, list_at, left, unlinked_after}
use Rattle.links.proofs.Times.{times-le-total}
use Rattle.micro_steps.specs.Blocks.{LeavesReady}
use Rattle.micro_steps.specs.Starts.{halves_of, IsFound}
use Rattle.micro_steps.proofs.Founds.{unlinked_ready, other_ready}
use Rattle.micro_steps.proofs.chains.Chains.unready_forward.Goals as goal

pub unlink_forward-requires-clause-stands : goal.unlink_forward-requires-clause-stands
unlink_forward-requires-clause-stands g c =
    let r = c.self.inside.ready in let x = c.args.task.0 in let p = c.args._prio.0 in
    let leaves : LeavesReady x p (halves_of r c.self.inside.pend) = rw (← c.self.view_is) at c.requires.leaves in
    let whole : r.forward ≡ r.back = rw (← c.self.view_is) at c.requires.whole in
    let many = c.consistent.ensures.back.count in
    let part = times-le-total x r.back p (omega (arith, many, leaves.prio)) in
    subst (λ (ls : List (List ℕ)). 0 < total x ls) (sym whole) (omega (arith, part, leaves.stands))

pub invariant_of-self : goal.invariant_of-self
invariant_of-self g c =
    let r = c.self.inside.ready in let x = c.args.task.0 in
    let now = unlinked_ready r.nexts c.self.inside.pend.nexts c.self.inside.start c.mark_ready.new.self c.self.invariant c.mark_ready.ensures.found.0 c.mark_ready.ensures.found.1 c.predecessor-before.result x c.mark_ready.ensures.stale in
    rw c.unlink_forward.ensures.nexts (subst (λ b. IsFound (unlinked_after r.nexts b x) c.self.inside.pend.nexts c.mark_ready.new.self) c.predecessor-before.ensures.node now)

pub returns-clause-halves : goal.returns-clause-halves
returns-clause-halves g c =
    let r = c.self.inside.ready in let x = c.args.task.0 in let p = c.args._prio.0 in
    let leaves : LeavesReady x p (halves_of r c.self.inside.pend) = rw (← c.self.view_is) at c.requires.leaves in
    let whole : r.forward ≡ r.back = rw (← c.self.view_is) at c.requires.whole in
    let some : 0 < times x (list_at r.forward p) = subst (λ (ls : List (List ℕ)). 0 < times x (list_at ls p)) (sym whole) leaves.stands in
    rw (← c.self.view_is)
    (other_ready r c.unlink_forward.new.self c.self.inside.pend (left r.forward p x) (c.unlink_forward.ensures.forward p leaves.prio some) c.unlink_forward.ensures.others.0 c.unlink_forward.ensures.others.2)
