use Rattle.std.proofs.Common.{arith}
use Rattle.round_robin.proofs.Fronts.{second-low, second-none}
use Rattle.round_robin.proofs.turns.behind.Goals as goal

pub returns-then-node-lt64-clause-second : goal.returns-then-node-lt64-clause-second
returns-then-node-lt64-clause-second g c =
    let node = c.successor-node in
    second-low c.args.ready.now c.consistent.ensures c.args.prio.0 c.args.task.0 node.result c.requires.numbers.1 c.requires.first node.ensures.node c.if-node-lt64.true

pub returns-else-node-lt64-clause-second : goal.returns-else-node-lt64-clause-second
returns-else-node-lt64-clause-second g c =
    let node = c.successor-node in
    second-none c.args.ready.now c.consistent.ensures c.args.prio.0 c.args.task.0 node.result c.requires.numbers.1 c.requires.first node.ensures.node (omega (arith, c.if-node-lt64.false))
