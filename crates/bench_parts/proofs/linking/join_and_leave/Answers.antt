use Rattle.std.proofs.Common.{◌≡◌, ◌<◌, ◌≤◌, ◌+◌, ◌%◌, ◌∷◌, ◌∙◌, [], inl, inr, sym, ap, subst, arith, length, length-set}
use Rattle.std.proofs.Math.Nat.{not-suc-le-zero}
use Rattle.std.proofs.lemmas.Bool.Decides.{eqb_tells}
use Rattle.links.proofs.Steps.{total-left-le}
use Rattle.links.specs.Chain.{times, total, list_at}
use Rattle.links.proofs.Times.{times_here, times_other, total-inserted, times-inserted}
use Rattle.bench_parts.proofs.linking.join_and_leave.Goals as goal

-- one task more stands in the list, and none behind it
pub loop-task-preserved : goal.loop-task-preserved
loop-task-preserved g c =
    let was = c.loop-task.invariant in let inside : c.args.count % 64 < length c.loop-task.ready.forward = let n = was.lists in omega (arith, n) in
    record {
      whole = sym c.insert.ensures.whole;
      lists = ap length c.insert.ensures.forward ∙ length-set c.loop-task.ready.forward (c.args.count % 64) _ ∙ was.lists;
      absent = λ x h.
          let now : total x c.insert.new.self.forward ≡ times x (c.loop-task.task ∷ []) + total x c.loop-task.ready.forward = ap (total x) c.insert.ensures.forward ∙ total-inserted c.loop-task.ready.forward (c.args.count % 64) _ x c.loop-task.task inside in
          let none = was.absent x (omega (arith, h)) in
          let other = times_other x c.loop-task.task [] (λ e. absurd (not-suc-le-zero {n = 0} (omega (arith, e, h)))) in
          omega (arith, now, none, other);
    }

pub remove-requires-clause-stands : goal.remove-requires-clause-stands
remove-requires-clause-stands g c =
    let lists = c.loop-turn.ready.forward in let p = c.args.count % 64 in let x = 60 + c.loop-turn.turn % 4 in
    let inside : p < length lists = let n = c.loop-turn.invariant.lists in omega (arith, n) in
    let now : times x (list_at c.insert-in-loop-turn.new.self.forward p) ≡ times x (x ∷ list_at lists p) = ap (λ ls. times x (list_at ls p)) c.insert-in-loop-turn.ensures.forward ∙ times-inserted lists p _ x x inside in
    let here = times_here x (list_at lists p) in
    omega (arith, now, here)

-- the task has left, and no other came
pub loop-turn-preserved : goal.loop-turn-preserved
loop-turn-preserved g c =
    let lists = c.loop-turn.ready.forward in let p = c.args.count % 64 in let x = 60 + c.loop-turn.turn % 4 in let new = c.insert-in-loop-turn.new.self.forward in
    let inside : p < length lists = let n = c.loop-turn.invariant.lists in omega (arith, n) in
    let count : length new ≡ 64 = ap length c.insert-in-loop-turn.ensures.forward ∙ length-set lists p _ ∙ c.loop-turn.invariant.lists in
    record {
      whole = sym c.remove.ensures.whole;
      lists = ap length c.remove.ensures.forward ∙ length-set new p _ ∙ count;
      absent = λ y h.
          elim (eqb_tells x y) [
            | inl e ↦ subst (λ z. total z c.remove.new.self.forward ≡ 0) e.1 c.remove.ensures.nowhere
            | inr e ↦
                let left : total y c.remove.new.self.forward ≤ total y new = subst (λ ls. total y ls ≤ total y new) (sym c.remove.ensures.forward) (total-left-le new p y x (omega (arith, count, inside))) in
                let now : total y new ≡ times y (x ∷ []) + total y lists = ap (total y) c.insert-in-loop-turn.ensures.forward ∙ total-inserted lists p _ y x inside in
                let none = c.loop-turn.invariant.absent y h in let other = times_other y x [] e.1 in
                omega (arith, left, now, none, other)
          ];
    }
