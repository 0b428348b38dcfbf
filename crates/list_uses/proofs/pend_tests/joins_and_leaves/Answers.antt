use Rattle.std.proofs.Common.{[], ◌∷◌, ◌/◌, refl, arith}
use Rattle.kern_base.specs.declared.numbers.Prio.{Prio}
use Rattle.list_uses.proofs.Joined.{none_joined, one_joined}
use Rattle.list_uses.proofs.pend_tests.joins_and_leaves.Goals as goal

abbrev some_prio : Prio
some_prio = record { 0 = 0 }

pub join-requires-2-clause-nowhere : goal.join-requires-2-clause-nowhere
join-requires-2-clause-nowhere g c =
    let has = one_joined [] c.new-pend.result.forward c.join.new.self.forward _ c.node_of.result (none_joined c.new-pend.result.forward c.new-pend.ensures.lists.0) (c.join.ensures.forward some_prio) in
    rw (has.nodes c.node_of-2.result, c.node_of.ensures.node, c.node_of-2.ensures.node) refl

pub join-requires-2-clause-absent : goal.join-requires-2-clause-absent
join-requires-2-clause-absent g c =
    let has = one_joined [] c.new-pend.result.forward c.join.new.self.forward _ c.node_of.result (none_joined c.new-pend.result.forward c.new-pend.ensures.lists.0) (c.join.ensures.forward some_prio) in
    rw (has.tasks (c.node_of-2.result / 8), c.node_of.ensures.node, c.node_of-2.ensures.node) refl

pub join-requires-3-clause-nowhere : goal.join-requires-3-clause-nowhere
join-requires-3-clause-nowhere g c =
    let one = one_joined [] c.new-pend.result.forward c.join.new.self.forward _ c.node_of.result (none_joined c.new-pend.result.forward c.new-pend.ensures.lists.0) (c.join.ensures.forward some_prio) in
    let has = one_joined (c.node_of.result ∷ []) c.join.new.self.forward c.join-2.new.self.forward _ c.node_of-2.result one (c.join-2.ensures.forward some_prio) in
    rw (has.nodes c.node_of-3.result, c.node_of.ensures.node, c.node_of-2.ensures.node, c.node_of-3.ensures.node) refl

pub join-requires-3-clause-absent : goal.join-requires-3-clause-absent
join-requires-3-clause-absent g c =
    let one = one_joined [] c.new-pend.result.forward c.join.new.self.forward _ c.node_of.result (none_joined c.new-pend.result.forward c.new-pend.ensures.lists.0) (c.join.ensures.forward some_prio) in
    let has = one_joined (c.node_of.result ∷ []) c.join.new.self.forward c.join-2.new.self.forward _ c.node_of-2.result one (c.join-2.ensures.forward some_prio) in
    rw (has.tasks (c.node_of-3.result / 8), c.node_of.ensures.node, c.node_of-2.ensures.node, c.node_of-3.ensures.node) refl

pub leave-requires-clause-stands : goal.leave-requires-clause-stands
leave-requires-clause-stands g c =
    let one = one_joined [] c.new-pend.result.forward c.join.new.self.forward _ c.node_of.result (none_joined c.new-pend.result.forward c.new-pend.ensures.lists.0) (c.join.ensures.forward some_prio) in
    let two = one_joined (c.node_of.result ∷ []) c.join.new.self.forward c.join-2.new.self.forward _ c.node_of-2.result one (c.join-2.ensures.forward some_prio) in
    let has = one_joined (c.node_of-2.result ∷ c.node_of.result ∷ []) c.join-2.new.self.forward c.join-3.new.self.forward _ c.node_of-3.result two (c.join-3.ensures.forward some_prio) in
    rw (has.nodes c.node_of-4.result, c.node_of.ensures.node, c.node_of-2.ensures.node, c.node_of-3.ensures.node, c.node_of-4.ensures.node) (omega arith)
