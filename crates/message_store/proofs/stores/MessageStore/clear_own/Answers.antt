use Rattle.std.proofs.Common.{◌≡◌, ◌<◌, ◌∙◌, [], length, ap, subst, sym, arith, length-set}
use Rattle.task_objects.specs.Box.{TaskObjects}
use Rattle.msg_queues.specs.Stored.{AreStored, Exchanges}
use Rattle.message_store.proofs.Changes.{own-stored}
use Rattle.message_store.proofs.CallFacts.{after-clear, own-apart, nothing-stored}
use Rattle.message_store.proofs.stores.MessageStore.clear_own.Goals as goal

pub clear-requires : goal.clear-requires
clear-requires c =
    let p = c.self.inside.pool in
    subst (λ (x : TaskObjects). AreStored x.keys p) (sym c.index_mut.ensures.value)
    (own-stored c.self.inside.queues.items c.self.inside.own.items p p c.self.invariant.apart c.args.task.0 c.index_mut.result.now (omega (arith, c.self.invariant.tasks, c.requires)))

pub invariant_of-self : goal.invariant_of-self
invariant_of-self c =
    let p = c.self.inside.pool in
    let q = c.clear.new.pool in
    let own = c.self.inside.own.items in
    let inside : c.args.task.0 < length own = omega (arith, c.self.invariant.tasks, c.requires) in
    let none : [] ≡ c.clear.new.self.keys = sym (ap (λ (t : TaskObjects). t.keys) c.clear.ensures.empty) in
    record {
      apart =
          own-apart p q c.self.inside.queues.items own c.args.self.now c.self.view_is c.self.invariant.apart c.args.task.0 c.index_mut.result.now c.clear.new.self
          inside c.index_mut.ensures.value (subst (λ keys. AreStored keys q) none (nothing-stored q)) (subst (λ keys. Exchanges c.index_mut.result.now.keys keys p q) none c.clear.ensures.exchanged);
      tasks = length-set own c.args.task.0 c.clear.new.self ∙ c.self.invariant.tasks;
    }

pub returns : goal.returns
returns c =
    let p = c.self.inside.pool in
    let q = c.clear.new.pool in
    let own = c.self.inside.own.items in
    let inside : c.args.task.0 < length own = omega (arith, c.self.invariant.tasks, c.requires) in
    let none : [] ≡ c.clear.new.self.keys = sym (ap (λ (t : TaskObjects). t.keys) c.clear.ensures.empty) in
    after-clear p q c.self.inside.queues.items own c.args.self.now c.self.view_is c.self.invariant.apart c.args.task.0 c.index_mut.result.now c.clear.new.self
    inside c.index_mut.ensures.value c.clear.ensures.empty c.clear.ensures.free (subst (λ keys. AreStored keys q) none (nothing-stored q)) (subst (λ keys. Exchanges c.index_mut.result.now.keys keys p q) none c.clear.ensures.exchanged)
