use Rattle.std.proofs.Common.{◌≡◌, length, refl, sym, ap, ◌∙◌, arith, length-set}
use Rattle.kern_base.specs.declared.numbers.Prio.{Prio}
use Rattle.links.specs.Chain.{list_at, inserted, left}
use Rattle.pend_lists.specs.Pending.{IsAbsent, prio_by, wait_place}
use Rattle.list_uses.proofs.Joined.{none_joined, stands_joined}
use Rattle.list_uses.proofs.pend_tests.link_by_link.Goals as goal

abbrev some_prio : Prio
some_prio = record { 0 = 0 }

pub search_step-requires : goal.search_step-requires
search_step-requires g c = (63, _, c.search-after.ensures some_prio)

pub link_forward-requires-clause-place : goal.link_forward-requires-clause-place
link_forward-requires-clause-place g c =
    let none : IsAbsent c.node_of-node.result (list_at c.new-pend.result.forward 63) = rw c.new-pend.ensures.lists.0 refl in
    (63, _, c.search-after.ensures some_prio, none)

pub link_back-requires-clause-half : goal.link_back-requires-clause-half
link_back-requires-clause-half g c =
    let i = wait_place (prio_by c.prios_of_tasks-prios.result some_prio) 40 (list_at c.new-pend.result.forward 63) in
    (63, i, omega arith, c.link_forward.ensures.forward 63 i (c.search-after.ensures some_prio) ∙ ap (λ ls. inserted ls 63 i c.node_of-node.result) (c.new-pend.ensures.lists.0 ∙ sym c.new-pend.ensures.lists.1 ∙ sym c.link_forward.ensures.others.0))

pub object_of-requires-clause-stands : goal.object_of-requires-clause-stands
object_of-requires-clause-stands g c =
    let now = c.link_back.ensures.others.0 ∙ c.link_forward.ensures.forward 63 _ (c.search-after.ensures some_prio) in
    (stands_joined c.new-pend.result.forward c.link_back.new.self.forward 63 _ c.node_of-node.result (none_joined c.new-pend.result.forward c.new-pend.ensures.lists.0).count (omega arith) now).1

pub move_prio-requires-clause-stands : goal.move_prio-requires-clause-stands
move_prio-requires-clause-stands g c =
    let now = c.link_back.ensures.others.0 ∙ c.link_forward.ensures.forward 63 _ (c.search-after.ensures some_prio) in
    (stands_joined c.new-pend.result.forward c.link_back.new.self.forward 63 _ c.node_of-node.result (none_joined c.new-pend.result.forward c.new-pend.ensures.lists.0).count (omega arith) now).1

pub unlink_forward-requires-clause-stands : goal.unlink_forward-requires-clause-stands
unlink_forward-requires-clause-stands g c =
    let before = c.link_back.ensures.others.0 ∙ c.link_forward.ensures.forward 63 _ (c.search-after.ensures some_prio) in
    let was = stands_joined c.new-pend.result.forward c.link_back.new.self.forward 63 _ c.node_of-node.result (none_joined c.new-pend.result.forward c.new-pend.ensures.lists.0).count (omega arith) before in
    let o = c.object_of.result.0 in
    let count : length (left c.link_back.new.self.forward o c.node_of-node.result) ≡ 64 = length-set c.link_back.new.self.forward o _ ∙ was.0 in
    (stands_joined (left c.link_back.new.self.forward o c.node_of-node.result) c.move_prio.new.self.forward o _ c.node_of-node.result count c.object_of.ensures.0 (c.move_prio.ensures.forward some_prio o c.object_of.ensures.0 c.object_of.ensures.1)).1
