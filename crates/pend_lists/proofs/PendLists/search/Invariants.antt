use Rattle.std.proofs.Common.{◌≤◌, ℕ, get_or, length}
use Rattle.kern_base.specs.declared.numbers.Prio.{Prio as NumberedPrio}
use Rattle.links.specs.Chain.{list_at}
use Rattle.pend_lists.specs.Pending.{IsBefore, prio_by, wait_place}
use Rattle.pend_lists.proofs.Places.{to_head}
use Rattle.pend_lists.proofs.PendLists.search.Given as goal

abbrev pub invariant-loop-next : goal.invariant-loop-next
invariant-loop-next g l =
    (i : ℕ) × IsBefore l.self.forward l.place l.fn.obj.0 i × ((blank : NumberedPrio) → i ≤ wait_place (prio_by l.prios blank) l.prio.0 (list_at l.self.forward l.fn.obj.0))

abbrev pub decreases-loop-next : goal.decreases-loop-next
decreases-loop-next g l = to_head l.self.nexts (length l.self.nexts) (get_or l.self.nexts l.place 0)
