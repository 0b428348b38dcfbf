use Rattle.std.proofs.Common.{subst, sym}
use Rattle.msg_queues.specs.Stored.{Queue, AreStored}
use Rattle.message_store.proofs.Changes.{queue-stored}
use Rattle.message_store.proofs.CallFacts.{queue-inside, after-call, queue-apart}
use Rattle.message_store.proofs.stores.MessageStore.apply.Goals as goal

pub apply-requires-clause-stored : goal.apply-requires-clause-stored
apply-requires-clause-stored c =
    let p = c.self.inside.pool in
    let queues = c.self.inside.queues.items in
    let own = c.self.inside.own.items in
    let q = c.index_mut.result.now in
    subst (λ (x : Queue). AreStored x.keys p) (sym c.index_mut.ensures.value)
    (queue-stored queues own p p c.self.invariant.apart c.args.obj.0 q (queue-inside p queues own c.args.self.now c.args.obj.0 c.self.view_is c.requires.number))

pub invariant_of-self : goal.invariant_of-self
invariant_of-self c =
    let p = c.self.inside.pool in
    let queues = c.self.inside.queues.items in
    let own = c.self.inside.own.items in
    record {
      apart =
          queue-apart p c.apply.new.pool queues own c.args.self.now c.self.view_is c.self.invariant.apart c.args.obj.0 c.index_mut.result.now c.apply.new.self c.args.request.now c.args.decision.now
          (queue-inside p queues own c.args.self.now c.args.obj.0 c.self.view_is c.requires.number) c.index_mut.ensures.value c.apply.ensures.stored c.apply.ensures.exchanged;
      tasks = c.self.invariant.tasks;
    }

pub returns : goal.returns
returns c =
    let p = c.self.inside.pool in
    let queues = c.self.inside.queues.items in
    let own = c.self.inside.own.items in
    after-call p c.apply.new.pool queues own c.args.self.now c.self.view_is c.self.invariant.apart c.args.obj.0 c.index_mut.result.now c.apply.new.self c.args.request.now c.args.decision.now
    (queue-inside p queues own c.args.self.now c.args.obj.0 c.self.view_is c.requires.number) c.index_mut.ensures.value
    c.apply.ensures.limit c.apply.ensures.messages c.apply.ensures.free c.apply.ensures.stored c.apply.ensures.exchanged
