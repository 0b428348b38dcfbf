use Rattle.std.proofs.Common.{◌<◌, ◌∙◌, length, subst, sym, arith, length-set}
use Rattle.task_objects.specs.Box.{TaskObjects}
use Rattle.msg_queues.specs.Stored.{AreStored}
use Rattle.message_store.proofs.Changes.{own-stored}
use Rattle.message_store.proofs.CallFacts.{after-own_call, own-apart}
use Rattle.message_store.proofs.stores.MessageStore.apply_own.Goals as goal

pub apply-requires-clause-stored : goal.apply-requires-clause-stored
apply-requires-clause-stored c =
    let p = c.self.inside.pool in
    subst (λ (x : TaskObjects). AreStored x.keys p) (sym c.index_mut.ensures.value)
    (own-stored c.self.inside.queues.items c.self.inside.own.items p p c.self.invariant.apart c.args.task.0 c.index_mut.result.now (omega (arith, c.self.invariant.tasks, c.requires.number)))

pub invariant_of-self : goal.invariant_of-self
invariant_of-self c =
    let own = c.self.inside.own.items in
    let inside : c.args.task.0 < length own = omega (arith, c.self.invariant.tasks, c.requires.number) in
    record {
      apart =
          own-apart c.self.inside.pool c.apply.new.pool c.self.inside.queues.items own c.args.self.now c.self.view_is c.self.invariant.apart c.args.task.0 c.index_mut.result.now c.apply.new.self
          inside c.index_mut.ensures.value c.apply.ensures.stored c.apply.ensures.exchanged;
      tasks = length-set own c.args.task.0 c.apply.new.self ∙ c.self.invariant.tasks;
    }

pub returns : goal.returns
returns c =
    let own = c.self.inside.own.items in
    let inside : c.args.task.0 < length own = omega (arith, c.self.invariant.tasks, c.requires.number) in
    after-own_call c.self.inside.pool c.apply.new.pool c.self.inside.queues.items own c.args.self.now c.self.view_is c.self.invariant.apart c.args.task.0 c.index_mut.result.now c.apply.new.self
    inside c.index_mut.ensures.value c.args.request.now c.args.decision.now
    c.apply.ensures.limit c.apply.ensures.count c.apply.ensures.messages c.apply.ensures.free c.apply.ensures.stored c.apply.ensures.exchanged
