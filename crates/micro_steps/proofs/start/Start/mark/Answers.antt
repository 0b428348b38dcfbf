use Rattle.std.proofs.Common.{arith}
use Rattle.micro_steps.proofs.Stales.{room, marked_more, stale_before, not_marked}
use Rattle.micro_steps.proofs.start.Start.mark.Goals as goal

pub push-requires : goal.push-requires
push-requires c = (omega arith, room c.self.inside.marks c.self.inside.stale.items c.args.node c.self.invariant c.requires c.if-not-self-node.true)

pub invariant_of-self : goal.invariant_of-self
invariant_of-self c = rw c.push.ensures.items (marked_more c.self.inside.marks c.self.inside.stale.items c.args.node c.self.invariant c.requires c.if-not-self-node.true)

pub returns-then-not-self-node-clause-stale : goal.returns-then-not-self-node-clause-stale
returns-then-not-self-node-clause-stale c = rw (← c.self.view_is, c.push.ensures.items) (λ x. stale_before c.self.inside.stale.items c.args.node x)

pub returns-else-not-self-node-clause-stale : goal.returns-else-not-self-node-clause-stale
returns-else-not-self-node-clause-stale c = rw (← c.self.view_is) (not_marked c.self.inside.marks c.self.inside.stale.items c.args.node c.self.invariant c.requires c.if-not-self-node.false)
