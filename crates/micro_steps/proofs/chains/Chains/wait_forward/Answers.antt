use Rattle.std.proofs.Common.{◌≡◌, ◌∙◌, ℕ, List, sym, ap, subst, arith}
use Rattle.links.specs.Chain.{total, list_at, inserted}
use Rattle.pend_lists.specs.Pending.{IsBefore, IsAbsent}
use Rattle.micro_steps.specs.Blocks.{JoinsPend}
use Rattle.micro_steps.specs.Starts.{halves_of}
use Rattle.micro_steps.proofs.Founds.{linked_pend, other_pend}
use Rattle.micro_steps.proofs.Waits.{place_below}
use Rattle.micro_steps.proofs.chains.Chains.wait_forward.Goals as goal

pub mark_pend-requires : goal.mark_pend-requires
mark_pend-requires g c =
    let r = c.self.inside.pend in let o = c.args._object.0 in
    let place : (i : ℕ) × IsBefore r.forward c.args.after o i = rw (← c.self.view_is) at c.requires.place in
    let low = place_below (list_at r.forward o) o place.0 place.1.object (c.consistent.ensures.forward.nodes o place.1.object) in
    omega (arith, place.1.node, low)

pub link_forward-requires : goal.link_forward-requires
link_forward-requires g c =
    let r = c.self.inside.pend in let x = c.args.node in let o = c.args._object.0 in
    let joins : JoinsPend x o (halves_of c.self.inside.ready r) = rw (← c.self.view_is) at c.requires.joins in
    let whole : r.forward ≡ r.back = rw (← c.self.view_is) at c.requires.whole in
    let place : (i : ℕ) × IsBefore r.forward c.args.after o i = rw (← c.self.view_is) at c.requires.place in
    record {
      node = joins.node;
      place = (o, place.0, place.1, subst (λ (ls : List (List ℕ)). IsAbsent x (list_at ls o)) (sym whole) joins.absent);
      nowhere = ap (total x) whole ∙ joins.nowhere;
    }

pub invariant_of-self : goal.invariant_of-self
invariant_of-self g c =
    let r = c.self.inside.pend in let x = c.args.node in
    let now =
    linked_pend c.self.inside.ready.nexts r.nexts c.self.inside.start c.mark_pend-2.new.self c.self.invariant (c.mark_pend-2.ensures.found.0 ∙ c.mark_pend.ensures.found.0) (c.mark_pend-2.ensures.found.1 ∙ c.mark_pend.ensures.found.1) c.args.after x
    (λ y none. let two = c.mark_pend-2.ensures.stale y none in let one = c.mark_pend.ensures.stale y two.0 in (one.0, one.1, two.1)) in
    rw c.link_forward.ensures.nexts now

pub returns-clause-halves : goal.returns-clause-halves
returns-clause-halves g c =
    let r = c.self.inside.pend in
    rw (← c.self.view_is)
    (λ i before. other_pend c.self.inside.ready r c.link_forward.new.self (inserted r.forward c.args._object.0 i c.args.node) (c.link_forward.ensures.forward c.args._object.0 i before) c.link_forward.ensures.others.0)
