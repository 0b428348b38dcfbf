use Rattle.std.proofs.Common.{◌≡◌, ◌≤◌, ◌∙◌, sym, length, length-set, subst, true, arith}
use Rattle.std.specs.Prelude.{slice_index, slice_set}
use Rattle.std.proofs.lemmas.Grind.{common_steps}
use Rattle.kernel_records.proofs.DeletionFacts.{kinds-gone, records-gone}
use Rattle.kernel_records.proofs.ObjectCalls.{inside}
use Rattle.kernel_records.proofs.records.Records.delete_object.Goals as goal

pub index_mut-object-requires : goal.index_mut-object-requires
index_mut-object-requires c =
    let here = inside c.self.inside c.args.request.now c.self.invariant (rw (← c.self.view_is) at c.requires.object) in
    grind (arith, common_steps)

pub invariant_of-self : goal.invariant_of-self
invariant_of-self c =
    let a = c.self.inside in
    let n = slice_index c.args.request.now.args 0 in
    let count : length (slice_set a.objects.items n (record { content = c.index_mut-object.result.now.content; deleted = true })) ≡ length a.objects.items = length-set a.objects.items n _ in
    record {
      kinds = kinds-gone a c.args.request.now c.self.invariant (rw (← c.self.view_is) at c.requires.object) c.index_mut-object.result.now _ c.index_mut-object.ensures.value;
      few = subst (λ m. m ≤ 64) (sym count) c.self.invariant.few;
      queues = c.self.invariant.queues ∙ sym count;
      own = c.self.invariant.own;
      tasks = c.self.invariant.tasks;
      lock = c.self.invariant.lock;
    }

pub returns : goal.returns
returns c =
    rw (← c.self.view_is)
    (records-gone c.self.inside c.args.request.now c.self.invariant (rw (← c.self.view_is) at c.requires.object) c.index_mut-object.result.now _ c.index_mut-object.ensures.value (rw (← c.self.view_is) at c.requires.empty))
