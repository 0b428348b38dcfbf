use Rattle.std.proofs.Common.{◌≡◌, ◌<◌, ◌≤◌, ℕ, List, length, drop, get_or}
use Rattle.kern_base.specs.declared.numbers.Prio.{Prio}
use Rattle.kern_model.specs.Effect.{stands_in}
use Rattle.links.specs.Chain.{times, total, list_at}
use Rattle.pend_lists.specs.Pending.{node_for, waiters}
use Rattle.pend_multi.specs.Waits.{tasks_in, prio_in}
use Rattle.pend_multi.proofs.waits.wait_on.Given as goal

-- the lists of the objects that are left are still to be joined, the task stands there nowhere yet, and its nodes stand in the others
pub record Joining (task i : ℕ) (prios : List Prio) (ids : List ℕ) (first now back : List (List ℕ)) : Type 0 where
  pub whole : now ≡ back
  pub waits : (blank : Prio) → stands_in (prio_in prios blank) task (prio_in prios blank task) (drop i ids) (tasks_in now) ≡ stands_in (prio_in prios blank) task (prio_in prios blank task) ids (tasks_in first)
  pub nodes : (j : ℕ) → i ≤ j → j < 8 → total (node_for task j) now ≡ 0
  pub absent : (j : ℕ) → i ≤ j → j < length ids → times task (waiters (list_at now (get_or ids j 0))) ≡ 0
  pub stands : (j : ℕ) → j < i → 0 < times (node_for task j) (list_at now (get_or ids j 0))

abbrev pub invariant-loop-index : goal.invariant-loop-index
invariant-loop-index g l = Joining l.task.0 l.index l.prios l.ids l.fn.lists.forward l.lists.forward l.lists.back
