use Rattle.std.proofs.Common.{◌≡◌, ◌<◌, ◌∙◌, ℕ, [], sym, ap, subst, arith, get_or-set_same}
use Rattle.links.specs.Chain.{total, times, list_at, left, without, unlinked_after}
use Rattle.links.proofs.Both.{forward_count}
use Rattle.links.proofs.Steps.{forward-left}
use Rattle.links.proofs.Times.{total_at}
use Rattle.pend_lists.proofs.Tasks.{left_once, changed_once, left_absent}
use Rattle.pend_lists.specs.Pending.{forward_of, back_of, nodes_of, ArePending, AreOnceEach, IsHalfUnlinked, IsAbsent}
use Rattle.pend_lists.proofs.PendLists.unlink_forward.Goals as goal

pub unlink_next-requires : goal.unlink_next-requires
unlink_next-requires g c =
    let nodes = c.self.invariant.chained.forward_nodes in
    let low = g.met.L.Links.prev_below c.self.inside.links c.args.node (omega arith) in
    (omega (arith, low, c.prev-before.ensures), omega arith)

pub invariant_of-self : goal.invariant_of-self
invariant_of-self g c =
    let n = g.L.Links.nexts c.self.inside.links in let m = g.L.Links.prevs c.self.inside.links in
    let y = c.args.node in let b = c.prev-before.result in
    let whole : forward_of n ≡ back_of m = rw (← c.self.view_is) at c.requires.whole in
    let some : 0 < total y (forward_of n) = rw (← c.self.view_is) at c.requires.stands in
    let now = forward-left 512 64 n m c.self.invariant.chained y b whole some c.prev-before.ensures in
    let at = total_at y (forward_of n) some in let many = forward_count 512 64 n m c.self.invariant.chained in
    let low : at.0 < 64 = omega (arith, at.1, many) in
    let once : AreOnceEach (left (forward_of n) at.0 y) = changed_once (forward_of n) at.0 _ at.1 c.self.invariant.forward_once (left_once (list_at (forward_of n) at.0) y (c.self.invariant.forward_once at.0 low)) in
    let made : ArePending (unlinked_after n b y) m = record { chained = now.2; forward_once = subst AreOnceEach (sym (now.0 at.0 low at.2)) once; back_once = c.self.invariant.back_once } in
    rw (c.unlink_next.ensures.nexts, c.unlink_next.ensures.prevs) made

pub returns-clause-forward : goal.returns-clause-forward
returns-clause-forward g c =
    let n = g.L.Links.nexts c.self.inside.links in let m = g.L.Links.prevs c.self.inside.links in
    let whole : forward_of n ≡ back_of m = rw (← c.self.view_is) at c.requires.whole in
    let some : 0 < total c.args.node (forward_of n) = rw (← c.self.view_is) at c.requires.stands in
    rw (← c.self.view_is, c.unlink_next.ensures.nexts) (forward-left 512 64 n m c.self.invariant.chained c.args.node c.prev-before.result whole some c.prev-before.ensures).0

pub returns-clause-nowhere : goal.returns-clause-nowhere
returns-clause-nowhere g c =
    let n = g.L.Links.nexts c.self.inside.links in let m = g.L.Links.prevs c.self.inside.links in
    let whole : forward_of n ≡ back_of m = rw (← c.self.view_is) at c.requires.whole in
    let some : 0 < total c.args.node (forward_of n) = rw (← c.self.view_is) at c.requires.stands in
    rw c.unlink_next.ensures.nexts (forward-left 512 64 n m c.self.invariant.chained c.args.node c.prev-before.result whole some c.prev-before.ensures).1

pub returns-clause-half : goal.returns-clause-half
returns-clause-half g c =
    let n = g.L.Links.nexts c.self.inside.links in let m = g.L.Links.prevs c.self.inside.links in
    let y = c.args.node in let b = c.prev-before.result in
    let whole : forward_of n ≡ back_of m = rw (← c.self.view_is) at c.requires.whole in
    let some : 0 < total y (forward_of n) = rw (← c.self.view_is) at c.requires.stands in
    let now = forward-left 512 64 n m c.self.invariant.chained y b whole some c.prev-before.ensures in
    let at = total_at y (forward_of n) some in let many = forward_count 512 64 n m c.self.invariant.chained in
    let low : at.0 < 64 = omega (arith, at.1, many) in
    let stands : 0 < times y (list_at (back_of m) at.0) = subst (λ ls. 0 < times y (list_at ls at.0)) whole at.2 in
    let made : forward_of (unlinked_after n b y) ≡ left (back_of m) at.0 y = now.0 at.0 low at.2 ∙ ap (λ ls. left ls at.0 y) whole in
    let half : IsHalfUnlinked (nodes_of (unlinked_after n b y) m) y = (at.0, low, stands, made) in
    subst (λ k. IsHalfUnlinked (nodes_of (g.L.Links.nexts c.unlink_next.new.links) k) y) (sym c.unlink_next.ensures.prevs)
    (subst (λ k. IsHalfUnlinked (nodes_of k m) y) (sym c.unlink_next.ensures.nexts) half)

pub returns-clause-absent : goal.returns-clause-absent
returns-clause-absent g c =
    let n = g.L.Links.nexts c.self.inside.links in let m = g.L.Links.prevs c.self.inside.links in
    let y = c.args.node in let b = c.prev-before.result in
    let whole : forward_of n ≡ back_of m = rw (← c.self.view_is) at c.requires.whole in
    let some : 0 < total y (forward_of n) = rw (← c.self.view_is) at c.requires.stands in
    let now = forward-left 512 64 n m c.self.invariant.chained y b whole some c.prev-before.ensures in
    let many = forward_count 512 64 n m c.self.invariant.chained in
    let gone : (o : ℕ) → o < 64 → 0 < times y (list_at (forward_of n) o) → IsAbsent y (list_at (forward_of (unlinked_after n b y)) o) =
    λ o low stands.
    let at : list_at (forward_of (unlinked_after n b y)) o ≡ without y (list_at (forward_of n) o) = ap (λ ls. list_at ls o) (now.0 o low stands) ∙ get_or-set_same (forward_of n) o (without y (list_at (forward_of n) o)) [] (omega (arith, low, many)) in
    subst (IsAbsent y) (sym at) (left_absent y (list_at (forward_of n) o) (c.self.invariant.forward_once o low) stands) in
    rw (← c.self.view_is)
    (subst (λ k. (o : ℕ) → o < 64 → 0 < times y (list_at (forward_of n) o) → IsAbsent y (list_at (forward_of k) o)) (sym c.unlink_next.ensures.nexts) gone)
