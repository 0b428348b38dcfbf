use Rattle.std.proofs.Common.{◌≡◌, ◌<◌, ◌/◌, ◌∙◌, sym, refl, ap, get_or, arith}
use Rattle.links.specs.Chain.{times, list_at}
use Rattle.links.proofs.Times.{times-le-total}
use Rattle.pend_lists.specs.Pending.{node_for}
use Rattle.pend_multi.specs.Waits.{tasks_in}
use Rattle.pend_multi.proofs.Numbers.{apart}
use Rattle.pend_multi.proofs.Waiting.{task-node, tasks-left, other-left, left_all-more}
use Rattle.pend_multi.proofs.waits.leave_others.Goals as goal

pub loop-index-init : goal.loop-index-init
loop-index-init g c = record { whole = c.requires.whole; waiters = refl; stands = λ j from inside. c.requires.stands j inside }

pub leave-requires-clause-stands : goal.leave-requires-clause-stands
leave-requires-clause-stands g c =
    let task = c.args.task.0 in
    let i = c.loop-index.index in
    let ids = c.args.ids.now in
    let lists = c.loop-index.lists.forward in
    let low = c.requires.ids.low i 0 c.loop-index-test.true in
    let count = c.consistent.ensures.forward.count in
    let stands = c.loop-index.invariant.stands i (omega arith) c.loop-index-test.true in
    let among = times-le-total (node_for task i) lists (get_or ids i 0) (omega arith) in
    rw c.node_of.ensures.node (omega arith)

pub loop-index-preserved : goal.loop-index-preserved
loop-index-preserved g c =
    let task = c.args.task.0 in
    let i = c.loop-index.index in
    let ids = c.args.ids.now in
    let lists = c.loop-index.lists.forward in
    let new = c.leave.new.self.forward in
    let o = get_or ids i 0 in
    let n = c.node_of.result in
    let few = c.requires.ids.few in
    let low : o < 64 = c.requires.ids.low i 0 c.loop-index-test.true in
    let stands : 0 < times n (list_at lists o) = rw c.node_of.ensures.node (c.loop-index.invariant.stands i (omega arith) c.loop-index-test.true) in
    let own : n / 8 ≡ task = ap (λ m. m / 8) c.node_of.ensures.node ∙ task-node task i (omega arith) in
    let e = c.leave.ensures.forward o low stands in
    record {
      whole = sym c.leave.ensures.whole;
      waiters = left_all-more task ids i (tasks_in lists) (tasks_in new) c.loop-index-test.true (tasks-left lists new o n task own (c.consistent.ensures.forward.once_each o low) stands e) ∙ c.loop-index.invariant.waiters;
      stands = λ j from inside.
          let same = other-left lists new o n (get_or ids j 0) (λ t. apart ids j i c.requires.ids.different (omega arith) inside (sym t)) e in
          rw same (c.loop-index.invariant.stands j (omega arith) inside);
    }
