use Rattle.std.proofs.Common.{subst, sym}
use Rattle.msg_queues.specs.Stored.{Queue, AreStored}
use Rattle.message_store.proofs.Changes.{queue-stored}
use Rattle.message_store.proofs.CallFacts.{queue-inside}
use Rattle.message_store.proofs.stores.MessageStore.decide.Goals as goal

pub decide-requires-clause-stored : goal.decide-requires-clause-stored
decide-requires-clause-stored c =
    let p = c.self.inside.pool in
    let queues = c.self.inside.queues.items in
    let own = c.self.inside.own.items in
    let q = c.index.result.now in
    subst (λ (x : Queue). AreStored x.keys p) (sym c.index.ensures)
    (queue-stored queues own p p c.self.invariant.apart c.args.obj.0 q (queue-inside p queues own c.args.self.now c.args.obj.0 c.self.view_is c.requires.number))
