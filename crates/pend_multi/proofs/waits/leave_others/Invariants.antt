use Rattle.std.proofs.Common.{◌≡◌, ◌<◌, ◌≤◌, ℕ, List, length, drop, get_or}
use Rattle.kern_model.specs.Effect.{left_all}
use Rattle.links.specs.Chain.{times, list_at}
use Rattle.pend_lists.specs.Pending.{node_for}
use Rattle.pend_multi.specs.Waits.{tasks_in}
use Rattle.pend_multi.proofs.waits.leave_others.Given as goal

-- the lists of the objects that are left are still to be left, and the nodes of the task stand there
pub record Leaving (task i : ℕ) (ids : List ℕ) (first now back : List (List ℕ)) : Type 0 where
  pub whole : now ≡ back
  pub waiters : left_all task (drop i ids) (tasks_in now) ≡ left_all task ids (tasks_in first)
  pub stands : (j : ℕ) → i ≤ j → j < length ids → 0 < times (node_for task j) (list_at now (get_or ids j 0))

abbrev pub invariant-loop-index : goal.invariant-loop-index
invariant-loop-index g l = Leaving l.task.0 l.index l.ids l.fn.lists.forward l.lists.forward l.lists.back
