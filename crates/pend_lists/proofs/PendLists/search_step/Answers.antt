use Rattle.std.proofs.Common.{◌≡◌, ◌<◌, ◌+◌, ◌/◌, ◌∙◌, ap, inl, inr, length, get_or, arith}
use Rattle.std.proofs.Math.Nat.{not-suc-le-zero}
use Rattle.std.proofs.lemmas.Bool.Decides.{leb_tells}
use Rattle.links.specs.Chain.{list_at}
use Rattle.links.proofs.Steps.{node_before-low, next-entry, next-head}
use Rattle.pend_lists.proofs.Places.{beyond}
use Rattle.pend_lists.specs.Pending.{forward_of, IsPlace, IsBefore, prio_by}
use Rattle.pend_lists.proofs.PendLists.search_step.Goals as goal

pub next-next-requires : goal.next-next-requires
next-next-requires g c =
    let n = g.L.Links.nexts c.self.inside.links in let m = g.L.Links.prevs c.self.inside.links in
    let place : IsPlace (forward_of n) c.args.place = rw (← c.self.view_is) at c.requires in
    let low = node_before-low 512 64 n m c.self.invariant.chained place.0 place.1 place.2.object in
    let nodes = c.self.invariant.chained.forward_nodes in
    omega (arith, low, place.2.node, nodes)

pub returns-then-next-ge512-clause-next : goal.returns-then-next-ge512-clause-next
returns-then-next-ge512-clause-next g c =
    let n = g.L.Links.nexts c.self.inside.links in let m = g.L.Links.prevs c.self.inside.links in
    rw (← c.self.view_is)
    (λ blank o i at inside. let at' : IsBefore (forward_of n) c.args.place o i = at in
    let entry = next-entry 512 64 n m c.self.invariant.chained o i at'.object inside in
    let is : c.next-next.result ≡ get_or (list_at (forward_of n) o) i 0 = c.next-next.ensures ∙ ap (λ k. get_or n k 0) at'.node ∙ entry.0 in
    absurd (not-suc-le-zero {n = 0} (omega (arith, is, entry.1, c.if-next-ge512.true))))

pub returns-then-prio-prio_of-clause-next : goal.returns-then-prio-prio_of-clause-next
returns-then-prio-prio_of-clause-next g c =
    let n = g.L.Links.nexts c.self.inside.links in let m = g.L.Links.prevs c.self.inside.links in
    rw (← c.self.view_is)
    (λ blank o i at inside. let at' : IsBefore (forward_of n) c.args.place o i = at in
    let entry = next-entry 512 64 n m c.self.invariant.chained o i at'.object inside in
    let is : c.next-next.result ≡ get_or (list_at (forward_of n) o) i 0 = c.next-next.ensures ∙ ap (λ k. get_or n k 0) at'.node ∙ entry.0 in
    let read = c.prio_of.ensures blank ∙ ap (λ k. (get_or c.args.prios.now (k / 8) blank).0) is in
    omega (arith, read, c.if-prio-prio_of.true))

pub returns-clause-next : goal.returns-clause-next
returns-clause-next g c =
    let n = g.L.Links.nexts c.self.inside.links in let m = g.L.Links.prevs c.self.inside.links in
    rw (← c.self.view_is)
    (λ blank o i at. let at' : IsBefore (forward_of n) c.args.place o i = at in
    let read = c.prio_of.ensures blank in let low : c.next-next.result < 512 = c.if-next-ge512.false in
    elim (leb_tells (length (list_at (forward_of n) o)) i) [
      | inl out ↦
          let head = next-head 512 64 n m c.self.invariant.chained o i at'.object out.1 in
          let is : c.next-next.result ≡ 512 + o = c.next-next.ensures ∙ ap (λ k. get_or n k 0) at'.node ∙ head in
          absurd (not-suc-le-zero {n = 0} (omega (arith, is, low)))
      | inr inside ↦
          let entry = next-entry 512 64 n m c.self.invariant.chained o i at'.object inside.1 in
          (inside.1, c.next-next.ensures ∙ ap (λ k. get_or n k 0) at'.node ∙ entry.0, omega (arith, read, c.if-prio-prio_of.false))
    ])

pub returns-then-next-ge512-clause-rest : goal.returns-then-next-ge512-clause-rest
returns-then-next-ge512-clause-rest g c =
    λ blank o i at rises _. beyond (prio_by c.args.prios.now blank) c.args.prio.0 (list_at c.args.self.now.forward o) i rises (returns-then-next-ge512-clause-next g c blank o i at)

pub returns-then-prio-prio_of-clause-rest : goal.returns-then-prio-prio_of-clause-rest
returns-then-prio-prio_of-clause-rest g c =
    λ blank o i at rises _. beyond (prio_by c.args.prios.now blank) c.args.prio.0 (list_at c.args.self.now.forward o) i rises (returns-then-prio-prio_of-clause-next g c blank o i at)
