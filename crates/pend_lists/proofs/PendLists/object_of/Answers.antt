use Rattle.std.proofs.Common.{◌≡◌, ◌≢◌, ◌<◌, ◌+◌, ◌-◌, ◌∙◌, ◌∷◌, ℕ, sym, ap, inl, inr, length, drop, arith}
use Rattle.std.proofs.Math.Nat.{not-suc-le-zero}
use Rattle.std.proofs.Math.Seq.{drop-append_seam}
use Rattle.std.proofs.lemmas.Bool.Decides.{eqb_tells}
use Rattle.links.specs.Chain.{total, list_at, first_of}
use Rattle.links.proofs.Both.{forward_count}
use Rattle.links.proofs.Times.{total_at, times_split}
use Rattle.links.proofs.Walking.{more}
use Rattle.pend_lists.specs.Pending.{forward_of}
use Rattle.pend_lists.proofs.Places.{left_from, one_less}
use Rattle.pend_lists.proofs.PendLists.object_of.Goals as goal

pub loop-at-init : goal.loop-at-init
loop-at-init g c =
    let n = g.L.Links.nexts c.self.inside.links in let m = g.L.Links.prevs c.self.inside.links in let y = c.args.node in
    let some : 0 < total y (forward_of n) = rw (← c.self.view_is) at c.requires.stands in
    let at = total_at y (forward_of n) some in let many = forward_count 512 64 n m c.self.invariant.chained in
    let low : at.0 < 64 = omega (arith, at.1, many) in
    let parts = times_split y (list_at (forward_of n) at.0) at.2 in let us = parts.0 in let vs = parts.1 in
    let seam : drop (length us) (list_at (forward_of n) at.0) ≡ y ∷ vs = ap (drop (length us)) (sym parts.2) ∙ drop-append_seam us (y ∷ vs) in
    (at.0, length us, low, at.2, sym (ap (λ zs. first_of zs (512 + at.0)) seam))

pub loop-at-smaller : goal.loop-at-smaller
loop-at-smaller g c =
    let n = g.L.Links.nexts c.self.inside.links in let m = g.L.Links.prevs c.self.inside.links in
    let i = c.loop-at.invariant in let o = i.0 in let k = i.1 in let many = forward_count 512 64 n m c.self.invariant.chained in
    let inside : o < length (forward_of n) = omega (arith, i.2, many) in
    let ne : c.loop-at.at ≢ 512 + o = λ e. absurd (not-suc-le-zero {n = 0} (omega (arith, e, c.loop-at-test.true))) in
    let on = more n 512 (forward_of n) c.self.invariant.chained.forward_chains o inside k c.loop-at.at i.4 ne in
    let was = left_from n m c.self.invariant.chained o i.2 k c.loop-at.at i.4 in
    let now = left_from n m c.self.invariant.chained o i.2 (k + 1) c.next-at.result (c.next-at.ensures ∙ on.3) in
    let less = one_less n m c.self.invariant.chained o i.2 k on.0 in
    rw (was, now) less

pub loop-at-preserved : goal.loop-at-preserved
loop-at-preserved g c =
    let n = g.L.Links.nexts c.self.inside.links in let m = g.L.Links.prevs c.self.inside.links in
    let i = c.loop-at.invariant in let o = i.0 in let k = i.1 in let many = forward_count 512 64 n m c.self.invariant.chained in
    let inside : o < length (forward_of n) = omega (arith, i.2, many) in
    let ne : c.loop-at.at ≢ 512 + o = λ e. absurd (not-suc-le-zero {n = 0} (omega (arith, e, c.loop-at-test.true))) in
    let on = more n 512 (forward_of n) c.self.invariant.chained.forward_chains o inside k c.loop-at.at i.4 ne in
    (o, k + 1, i.2, i.3, c.next-at.ensures ∙ on.3)

-- the walk ends at the head
ends : (at o : ℕ) → (at ≢ 512 + o → at < 512) → (at < 512 → ⊥) → at ≡ 512 + o
ends at o low high =
    elim (eqb_tells at (512 + o)) [
      | inl e ↦ e.1
      | inr e ↦ absurd (high (low e.1))
    ]

pub overflow_cast-result : goal.overflow_cast-result
overflow_cast-result g c =
    let n = g.L.Links.nexts c.self.inside.links in let m = g.L.Links.prevs c.self.inside.links in
    let i = c.loop-at.invariant in let o = i.0 in let many = forward_count 512 64 n m c.self.invariant.chained in
    let inside : o < length (forward_of n) = omega (arith, i.2, many) in
    let end = ends c.loop-at.at o (λ ne. (more n 512 (forward_of n) c.self.invariant.chained.forward_chains o inside i.1 c.loop-at.at i.4 ne).1) (λ l. absurd (not-suc-le-zero {n = 0} (omega (arith, l, c.loop-at-test.false)))) in
    omega (arith, end, i.2)

pub returns : goal.returns
returns g c =
    let n = g.L.Links.nexts c.self.inside.links in let m = g.L.Links.prevs c.self.inside.links in
    let i = c.loop-at.invariant in let o = i.0 in let many = forward_count 512 64 n m c.self.invariant.chained in
    let inside : o < length (forward_of n) = omega (arith, i.2, many) in
    let end = ends c.loop-at.at o (λ ne. (more n 512 (forward_of n) c.self.invariant.chained.forward_chains o inside i.1 c.loop-at.at i.4 ne).1) (λ l. absurd (not-suc-le-zero {n = 0} (omega (arith, l, c.loop-at-test.false)))) in
    let is : o ≡ c.loop-at.at - 512 = omega (arith, end) in
    rw (← c.self.view_is, ← is) (i.2, i.3)
