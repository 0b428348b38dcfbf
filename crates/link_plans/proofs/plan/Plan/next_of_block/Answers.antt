use Rattle.std.proofs.Common.{◌-◌, ◌+◌, ◌∷◌, ◌∙◌, ℕ, List, drop, get_or, sym, ap, arith}
use Rattle.kern_model.specs.State.{Task}
use Rattle.micro_steps.specs.declared.link.Link.TheVariants.{Wait}
use Rattle.link_plans.specs.Plans.{block_links}
use Rattle.link_plans.proofs.Plans.Blocks.{wait_next, wait_none}
use Rattle.link_plans.proofs.plan.Plan.next_of_block.Goals as goal

pub returns-then-index-len-clause-next : goal.returns-then-index-len-clause-next
returns-then-index-len-clause-next c =
    let q = c.args.self.now in let ts = c.args.tasks.now.tasks in let os = q.objects.items in let p = c.get.result.now.prio in
    wait_next ts q.caller.0 p.0 q.made c.node_of.result os (ap (λ (t : Task). t.prio) c.get.ensures.task) c.if-made-eq0.false (omega (arith, c.if-index-len.true, c.len.ensures.value)) c.node_of.ensures.node
    ∙ ap (λ (ids : List ℕ). Wait c.node_of.result p (record { 0 = get_or ids (q.made - 1) 0 }) ∷ drop (q.made + 1) (block_links ts q.caller.0 os)) (sym c.deref.ensures.0)

pub returns-clause-next : goal.returns-clause-next
returns-clause-next c =
    let q = c.args.self.now in
    wait_none c.args.tasks.now.tasks q.caller.0 q.made q.objects.items c.if-made-eq0.false (omega (arith, c.if-index-len.false, c.len.ensures.value))
