use Rattle.std.proofs.Common.{◌≡◌, ◌≢◌, ◌<◌, ◌/◌, ◌∙◌, sym, refl, ap, subst, get_or, arith, inl, inr}
use Rattle.std.proofs.lemmas.Bool.Decides.{eqb_tells}
use Rattle.std.proofs.lemmas.List.{get_or_default}
use Rattle.kern_base.specs.declared.numbers.Prio.{Prio}
use Rattle.kern_model.specs.Effect.{stands_in}
use Rattle.links.specs.Chain.{times, list_at, inserted}
use Rattle.pend_lists.specs.Pending.{node_for, prio_by, wait_place}
use Rattle.pend_multi.specs.Waits.{tasks_in, prio_in}
use Rattle.pend_multi.proofs.Numbers.{apart}
use Rattle.pend_multi.proofs.Waiting.{task-node, no-node, tasks-joined, other-joined, joined-node, stands-joined, stands_in-more, stands_in-all}
use Rattle.pend_multi.proofs.waits.wait_on.Goals as goal

pub loop-index-init : goal.loop-index-init
loop-index-init g c =
    record {
      whole = c.requires.whole;
      waits = λ blank. refl;
      nodes = λ j from low. no-node c.args.lists.now.forward c.args.task.0 j c.consistent.ensures.forward.count c.requires.nowhere low;
      absent = λ j from inside. c.requires.nowhere (get_or c.args.ids.now j 0) (c.requires.ids.low j 0 inside);
      stands = λ j before. absurd (omega arith);
    }

pub join-requires-clause-nowhere : goal.join-requires-clause-nowhere
join-requires-clause-nowhere g c = let few = c.requires.ids.few in rw c.node_of.ensures.node (c.loop-index.invariant.nodes c.loop-index.index (omega arith) (omega arith))

pub loop-index-preserved : goal.loop-index-preserved
loop-index-preserved g c =
    let task = c.args.task.0 in
    let i = c.loop-index.index in
    let ids = c.args.ids.now in
    let prios = c.args.prios.now in
    let lists = c.loop-index.lists.forward in
    let new = c.join.new.self.forward in
    let o = get_or ids i 0 in
    let n = c.node_of.result in
    let h = c.loop-index-test.true in
    let few = c.requires.ids.few in
    let low : o < 64 = c.requires.ids.low i 0 h in
    let inv = c.loop-index.invariant in
    let count = c.consistent-in-loop-index.ensures.forward.count in
    let own : n / 8 ≡ task = ap (λ m. m / 8) c.node_of.ensures.node ∙ task-node task i (omega arith) in
    let zero : Prio = record { 0 = 0 } in
    let place = wait_place (prio_by prios zero) (get_or prios task zero).0 (list_at lists o) in
    let at = c.join.ensures.forward zero in
    record {
      whole = sym c.join.ensures.whole;
      waits = λ blank.
          let p : (get_or prios task zero).0 ≡ prio_in prios blank task = ap (λ (q : Prio). q.0) (get_or_default prios task zero blank (omega arith)) in
          let e : new ≡ inserted lists o (wait_place (prio_by prios blank) (prio_in prios blank task) (list_at lists o)) n = rw (← p) (c.join.ensures.forward blank) in
          let prio = prio_in prios blank in
          let whole = stands_in prio task (prio task) ids (tasks_in c.args.lists.now.forward) in
          let joins = tasks-joined prios blank (prio task) lists new o n task own e in
          stands_in-more prio task (prio task) ids i (tasks_in lists) (tasks_in new) whole h joins (inv.waits blank);
      nodes = λ j from less.
          let other : n ≢ node_for task j = λ e. absurd (omega (arith, e, c.node_of.ensures.node)) in
          joined-node lists new o place n (node_for task j) (omega arith) other at ∙ inv.nodes j (omega arith) less;
      absent = λ j from inside.
          let same = other-joined lists new o place n (get_or ids j 0) (λ t. apart ids j i c.requires.ids.different (omega arith) inside (sym t)) at in
          rw same (inv.absent j (omega arith) inside);
      stands = λ j before. elim (eqb_tells j i) [
        | inl e ↦
            let here = stands-joined lists new o place n (omega arith) at in
            subst (λ k. 0 < times (node_for task k) (list_at new (get_or ids k 0))) (sym e.1) (subst (λ m. 0 < times m (list_at new o)) c.node_of.ensures.node here)
        | inr e ↦
            let same = other-joined lists new o place n (get_or ids j 0) (apart ids i j c.requires.ids.different (omega (arith, e.1)) h) at in
            rw same (inv.stands j (omega (arith, e.1)))
      ];
    }

pub returns-clause-waiters : goal.returns-clause-waiters
returns-clause-waiters g c = λ blank.
    stands_in-all (prio_in c.args.prios.now blank) c.args.task.0 c.args.ids.now c.loop-index.index (tasks_in c.loop-index.lists.forward) (tasks_in c.args.lists.now.forward) c.loop-index-test.false (c.loop-index.invariant.waits blank)
