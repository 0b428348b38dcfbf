use Rattle.std.proofs.Common.{◌∙◌, take}
use Rattle.link_plans.proofs.Renewals.Links.{leave_at, wait_at, nothing_at}
use Rattle.link_plans.proofs.moves.Move.wait_link.Goals as goal

pub returns-in_err-get-clause-link : goal.returns-in_err-get-clause-link
returns-in_err-get-clause-link c =
    let m = c.args.self.now in let t = c.args.tcb.now in
    c.from_residual.ensures ∙ nothing_at m.task.0 m.to.0 c.args.made (take t.n_ids t.ids) c.in_err-get.ensures.lookup.3

pub returns-then-made-eq0-clause-link : goal.returns-then-made-eq0-clause-link
returns-then-made-eq0-clause-link c =
    let m = c.args.self.now in let t = c.args.tcb.now in let found = c.in_ok-get.ensures.lookup.3 in
    leave_at m.task.0 m.to.0 c.args.made c.node_of-node.result c.in_ok-get.field-0.now (take t.n_ids t.ids) c.if-made-eq0.true found.0 c.node_of-node.ensures.node (found.1 0)

pub returns-else-made-eq0-clause-link : goal.returns-else-made-eq0-clause-link
returns-else-made-eq0-clause-link c =
    let m = c.args.self.now in let t = c.args.tcb.now in let found = c.in_ok-get.ensures.lookup.3 in
    wait_at m.task.0 m.to.0 c.args.made c.node_of-node.result c.in_ok-get.field-0.now (take t.n_ids t.ids) c.if-made-eq0.false found.0 c.node_of-node.ensures.node (found.1 0)
