use Rattle.std.proofs.Common.{◌≡◌, ◌≤◌, ap, sym, ◌∙◌, length, subst, arith}
use Rattle.std.specs.Prelude.{slice_index, slice_set}
use Rattle.std.proofs.lemmas.Grind.{common_steps}
use Rattle.std.proofs.lemmas.List.{length-set}
use Rattle.kern_model.specs.State.{Content}
use Rattle.message_store.specs.Store.{Store, queue_at}
use Rattle.kernel_records.specs.Deciding.{IsCallOn, decision_by}
use Rattle.kernel_records.proofs.ObjectCalls.{content-is, inside, kinds-changed, queue-inside, records-changed}
use Rattle.kernel_records.proofs.records.Records.apply_to_object.Goals as goal

pub index_mut-object-requires : goal.index_mut-object-requires
index_mut-object-requires c =
    let here = inside c.self.inside c.args.request.now c.self.invariant (rw (← c.self.view_is) at c.requires.object) in
    grind (arith, common_steps)

pub overflow_cast-number-2 : goal.overflow_cast-number-2
overflow_cast-number-2 c =
    let here = inside c.self.inside c.args.request.now c.self.invariant (rw (← c.self.view_is) at c.requires.object) in
    omega (arith, here, c.self.invariant.few)

pub apply_to-requires-clause-number : goal.apply_to-requires-clause-number
apply_to-requires-clause-number c = queue-inside c.self.inside c.args.request.now c.self.invariant (rw (← c.self.view_is) at c.requires.object)

pub apply_to-requires-clause-call : goal.apply_to-requires-clause-call
apply_to-requires-clause-call c =
    subst (λ (x : Content). IsCallOn x c.args.request.now)
    (content-is c.self.inside c.args.request.now c.self.invariant (rw (← c.self.view_is) at c.requires.object) c.index_mut-object.result.now _ c.index_mut-object.ensures.value)
    (rw (← c.self.view_is) at c.requires.call)

pub apply_to-requires-clause-decided : goal.apply_to-requires-clause-decided
apply_to-requires-clause-decided c =
    (rw (← c.self.view_is) at c.requires.decided)
    ∙ ap (λ (x : Content). decision_by x c.self.inside.messages.free c.args.request.now c.args.seen.now)
    (content-is c.self.inside c.args.request.now c.self.invariant (rw (← c.self.view_is) at c.requires.object) c.index_mut-object.result.now _ c.index_mut-object.ensures.value)

pub invariant_of-self : goal.invariant_of-self
invariant_of-self c =
    let a = c.self.inside in
    let n = slice_index c.args.request.now.args 0 in
    let s = c.apply_to.new.messages in
    let store = c.apply_to.ensures.messages in
    let count : length (slice_set a.objects.items n (record { content = c.apply_to.new.content; deleted = c.index_mut-object.result.now.deleted })) ≡ length a.objects.items = length-set a.objects.items n _ in
    record {
      kinds = kinds-changed a c.args.request.now c.self.invariant (rw (← c.self.view_is) at c.requires.object) c.index_mut-object.result.now _ c.index_mut-object.ensures.value c.args.decision.now c.apply_to.new.content s c.apply_to.ensures.content store;
      few = subst (λ m. m ≤ 64) (sym count) c.self.invariant.few;
      queues = ap (λ (m : Store). length m.queues) store ∙ length-set a.messages.queues n (queue_at s n) ∙ c.self.invariant.queues ∙ sym count;
      own = ap (λ (m : Store). length m.own) store ∙ c.self.invariant.own;
      tasks = c.self.invariant.tasks;
      lock = c.self.invariant.lock;
    }

pub returns : goal.returns
returns c =
    rw (← c.self.view_is)
    (records-changed c.self.inside c.args.request.now c.self.invariant (rw (← c.self.view_is) at c.requires.object) c.index_mut-object.result.now _ c.index_mut-object.ensures.value c.args.decision.now c.apply_to.new.content c.apply_to.new.messages c.apply_to.ensures.content c.apply_to.ensures.messages)
