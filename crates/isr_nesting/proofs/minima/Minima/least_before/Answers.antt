use Rattle.std.proofs.Common.{◌≡◌, ◌<◌, ◌≤◌, ◌+◌, ◌-◌, ◌*◌, ◌/◌, ℕ, List, length, get_or, drop, ap, sym, ◌∙◌, arith, length-drop}
use Rattle.std.specs.Prelude.{min, slice_index}
use Rattle.std.proofs.lemmas.List.{get_or_default}
use Rattle.isr_nesting.specs.Least.{nothing}
use Rattle.isr_nesting.proofs.TreeLaws.{run, least-low, left-odd, left-even, right-odd, right-even, run-halved}
use Rattle.isr_nesting.proofs.minima.Minima.least_before.Goals as goal
use Rattle.isr_nesting.proofs.minima.Minima.least_before.Goals.{then-low-eq1, else-low-eq1, then-high-eq1, else-high-eq1}

-- a node that was read, at its place
read_at : (xs : List ℕ) (i x : ℕ) → i < length xs → x ≡ get_or xs i x → x ≡ slice_index xs i
read_at xs i x h e = e ∙ get_or_default xs i x 0 h

least_with_none : (n x : ℕ) → x ≤ nothing → n ≡ nothing → min n x ≡ x
least_with_none n x h e = omega arith

pub loop-low-init : goal.loop-low-init
loop-low-init c =
    let xs = c.self.inside.nodes.items in
    let n = c.self.inside.count in
    let size : length xs ≡ 2 * n = c.self.invariant.size in
    let all : length (drop n xs) ≡ n = length-drop n xs ∙ omega arith in
    let few : c.args.k ≤ n = omega (arith, ap length c.self.view_is, all) in
    let count : n + c.args.k - n ≡ c.args.k = omega arith in
    record {
      ordered = omega arith;
      high = omega arith;
      low = λ h. h;
      small = omega arith;
      same = least_with_none 4294967295 (run xs n (n + c.args.k - n)) (least-low _) (omega arith) ∙ ap (λ m. run xs n m) count;
    }

pub loop-low-preserved : goal.loop-low-preserved
loop-low-preserved c =
    let xs = c.self.inside.nodes.items in
    let n = c.self.inside.count in
    let low = c.loop-low.low in
    let high = c.loop-low.high in
    let a = (low + 1) / 2 in
    let b = high / 2 in
    let inv = c.loop-low.invariant in
    let size : length xs ≡ 2 * n = c.self.invariant.size in
    let open_yet : low < high = c.loop-low-test.true in
    let long : high ≤ length xs = omega arith in
    let left : min c.loop-low.best (run xs low (high - low)) ≡ min c.if-low-eq1.best (run xs (2 * a) (high - 2 * a)) =
    elim c.if-low-eq1.branch [
      | then-low-eq1 w ↦
          left-odd xs low high c.loop-low.best open_yet long w.if-low-eq1.true
          ∙ ap (λ v. min v (run xs (2 * a) (high - 2 * a))) (sym (w.best-is ∙ w.min-best.ensures ∙ ap (λ v. min c.loop-low.best v) (read_at xs low w.index.result.now (omega arith) w.index.ensures)))
      | else-low-eq1 w ↦
          left-even xs low high c.loop-low.best (λ e. omega arith)
          ∙ ap (λ v. min v (run xs (2 * a) (high - 2 * a))) (sym w.best-is)
    ] in
    let small : c.if-low-eq1.best ≤ nothing =
    elim c.if-low-eq1.branch [ then-low-eq1 w ↦ omega (arith, w.min-best.ensures, w.best-is, inv.small) | else-low-eq1 w ↦ omega (arith, w.best-is, inv.small) ] in
    let right : min c.if-low-eq1.best (run xs (2 * a) (high - 2 * a)) ≡ min c.if-high-eq1.best (run xs (2 * a) (2 * b - 2 * a)) =
    elim c.if-high-eq1.branch [
      | then-high-eq1 w ↦
          right-odd xs (2 * a) high c.if-low-eq1.best (omega (arith, w.if-high-eq1.true)) long small w.if-high-eq1.true
          ∙ ap (λ v. min v (run xs (2 * a) (2 * b - 2 * a))) (sym (w.best-is ∙ w.min-best-then-high-eq1.ensures ∙ ap (λ v. min c.if-low-eq1.best v) (read_at xs (high - 1) w.index-then-high-eq1.result.now (omega arith) w.index-then-high-eq1.ensures)))
      | else-high-eq1 w ↦
          right-even xs (2 * a) high c.if-low-eq1.best (λ e. omega arith)
          ∙ ap (λ v. min v (run xs (2 * a) (2 * b - 2 * a))) (sym w.best-is)
    ] in
    let last : c.if-high-eq1.best ≤ nothing =
    elim c.if-high-eq1.branch [ then-high-eq1 w ↦ omega (arith, w.min-best-then-high-eq1.ensures, w.best-is, small) | else-high-eq1 w ↦ omega (arith, w.best-is, small) ] in
    let above : run xs (2 * a) (2 * b - 2 * a) ≡ run xs a (b - a) =
    run-halved xs n a b size (omega arith) (omega arith) (omega arith) c.self.invariant.nodes in
    record {
      ordered = omega arith;
      high = omega arith;
      low = λ h. omega arith;
      small = last;
      same = ap (λ v. min c.if-high-eq1.best v) (sym above) ∙ sym right ∙ sym left ∙ inv.same;
    }
