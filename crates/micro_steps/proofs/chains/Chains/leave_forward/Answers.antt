use Rattle.std.proofs.Common.{◌≡◌, ◌<◌, ℕ, List, sym, subst, arith}
use Rattle.links.specs.Chain.{times, total, list_at, left, unlinked_after}
use Rattle.links.proofs.Times.{times-le-total}
use Rattle.micro_steps.specs.Blocks.{LeavesPend}
use Rattle.micro_steps.specs.Starts.{halves_of, IsFound}
use Rattle.micro_steps.proofs.Founds.{unlinked_pend, other_pend}
use Rattle.micro_steps.proofs.chains.Chains.leave_forward.Goals as goal

pub unlink_forward-requires-clause-stands : goal.unlink_forward-requires-clause-stands
unlink_forward-requires-clause-stands g c =
    let r = c.self.inside.pend in let x = c.args.node in let p = c.args._object.0 in
    let leaves : LeavesPend x p (halves_of c.self.inside.ready r) = rw (← c.self.view_is) at c.requires.leaves in
    let whole : r.forward ≡ r.back = rw (← c.self.view_is) at c.requires.whole in
    let many = c.consistent.ensures.back.count in
    let part = times-le-total x r.back p (omega (arith, many, leaves.object)) in
    subst (λ (ls : List (List ℕ)). 0 < total x ls) (sym whole) (omega (arith, part, leaves.stands))

pub invariant_of-self : goal.invariant_of-self
invariant_of-self g c =
    let r = c.self.inside.pend in let x = c.args.node in
    let now = unlinked_pend c.self.inside.ready.nexts r.nexts c.self.inside.start c.mark_pend.new.self c.self.invariant c.mark_pend.ensures.found.0 c.mark_pend.ensures.found.1 c.predecessor-before.result x c.mark_pend.ensures.stale in
    rw c.unlink_forward.ensures.nexts (subst (λ b. IsFound c.self.inside.ready.nexts (unlinked_after r.nexts b x) c.mark_pend.new.self) c.predecessor-before.ensures.node now)

pub returns-clause-halves : goal.returns-clause-halves
returns-clause-halves g c =
    let r = c.self.inside.pend in let x = c.args.node in let p = c.args._object.0 in
    let leaves : LeavesPend x p (halves_of c.self.inside.ready r) = rw (← c.self.view_is) at c.requires.leaves in
    let whole : r.forward ≡ r.back = rw (← c.self.view_is) at c.requires.whole in
    let some : 0 < times x (list_at r.forward p) = subst (λ (ls : List (List ℕ)). 0 < times x (list_at ls p)) (sym whole) leaves.stands in
    rw (← c.self.view_is)
    (other_pend c.self.inside.ready r c.unlink_forward.new.self (left r.forward p x) (c.unlink_forward.ensures.forward p leaves.object some) c.unlink_forward.ensures.others.0)
