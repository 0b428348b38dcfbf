use Rattle.std.proofs.Common.{subst, sym, arith}
use Rattle.task_objects.specs.Box.{TaskObjects}
use Rattle.msg_queues.specs.Stored.{AreStored}
use Rattle.message_store.proofs.Changes.{own-stored}
use Rattle.message_store.proofs.stores.MessageStore.decide_own.Goals as goal

pub decide-requires-clause-stored : goal.decide-requires-clause-stored
decide-requires-clause-stored c =
    let p = c.self.inside.pool in
    let t = c.index.result.now in
    subst (λ (x : TaskObjects). AreStored x.keys p) (sym c.index.ensures)
    (own-stored c.self.inside.queues.items c.self.inside.own.items p p c.self.invariant.apart c.args.task.0 t (omega (arith, c.self.invariant.tasks, c.requires.number)))
