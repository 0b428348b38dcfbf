use Rattle.std.proofs.Common.{◌≡◌, ◌<◌, ◌+◌, ◌∙◌, ap, get_or, arith}
use Rattle.links.proofs.Both.{none_read}
use Rattle.pend_lists.proofs.Heads.{head_read, head_times}
use Rattle.pend_lists.proofs.PendLists.first_node.Goals as goal

pub returns-then-first-lt512 : goal.returns-then-first-lt512
returns-then-first-lt512 g c =
    let n = g.L.Links.nexts c.self.inside.links in let m = g.L.Links.prevs c.self.inside.links in
    let is : c.next-first.result ≡ get_or n (512 + c.args.obj.0) 0 = c.next-first.ensures ∙ ap (λ k. get_or n k 0) c.head_node.ensures in
    let low : get_or n (512 + c.args.obj.0) 0 < 512 = omega (arith, is, c.if-first-lt512.true) in
    rw (← c.self.view_is, is) (low, head_read n m c.self.invariant c.args.obj.0 c.requires low, head_times n m c.self.invariant c.args.obj.0 c.requires low)

pub returns-else-first-lt512 : goal.returns-else-first-lt512
returns-else-first-lt512 g c =
    let n = g.L.Links.nexts c.self.inside.links in let m = g.L.Links.prevs c.self.inside.links in
    let is : c.next-first.result ≡ get_or n (512 + c.args.obj.0) 0 = c.next-first.ensures ∙ ap (λ k. get_or n k 0) c.head_node.ensures in
    rw (← c.self.view_is) (none_read 512 64 n m c.self.invariant.chained c.args.obj.0 c.requires (omega (arith, is, c.if-first-lt512.false)))
