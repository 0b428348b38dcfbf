use Rattle.std.proofs.Common.{◌≡◌, ◌∙◌, ℕ, List, ap, subst}
use Rattle.links.specs.Chain.{list_at, inserted, linked_after}
use Rattle.micro_steps.specs.Blocks.{place_at}
use Rattle.micro_steps.specs.Starts.{IsFound}
use Rattle.micro_steps.proofs.Founds.{linked_ready, other_ready}
use Rattle.micro_steps.proofs.chains.Chains.ready_forward.Goals as goal

pub invariant_of-self : goal.invariant_of-self
invariant_of-self g c =
    let r = c.self.inside.ready in let x = c.args.task.0 in
    let now =
    linked_ready r.nexts c.self.inside.pend.nexts c.self.inside.start c.mark_ready-2.new.self c.self.invariant (c.mark_ready-2.ensures.found.0 ∙ c.mark_ready.ensures.found.0) (c.mark_ready-2.ensures.found.1 ∙ c.mark_ready.ensures.found.1) c.join_after-before.result x
    (λ y none. let two = c.mark_ready-2.ensures.stale y none in let one = c.mark_ready.ensures.stale y two.0 in (one.0, one.1, two.1)) in
    rw c.link_forward.ensures.nexts (subst (λ b. IsFound (linked_after r.nexts b x) c.self.inside.pend.nexts c.mark_ready-2.new.self) c.join_after-before.ensures.node now)

pub returns-clause-halves : goal.returns-clause-halves
returns-clause-halves g c =
    let r = c.self.inside.ready in let x = c.args.task.0 in let p = c.args.prio.0 in
    let whole : r.forward ≡ r.back = rw (← c.self.view_is) at c.requires.whole in
    let made = c.link_forward.ensures.forward ∙ ap (λ (ls : List (List ℕ)). inserted r.forward p (place_at c.args.tail (list_at ls p)) x) whole in
    rw (← c.self.view_is)
    (other_ready r c.link_forward.new.self c.self.inside.pend (inserted r.forward p (place_at c.args.tail (list_at r.back p)) x) made c.link_forward.ensures.others.0 c.link_forward.ensures.others.2)
