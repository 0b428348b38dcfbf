use Rattle.std.proofs.Common.{◌≡◌, ◌≤◌, sym, ◌∙◌, length, length-set, subst, arith}
use Rattle.std.specs.Prelude.{slice_index, slice_set}
use Rattle.std.proofs.lemmas.Grind.{common_steps}
use Rattle.kernel_records.proofs.ObjectCalls.{inside}
use Rattle.kernel_records.proofs.TimerObjects.{kinds-called, records-called}
use Rattle.kernel_records.proofs.records.Records.apply_to_timer.Goals as goal

pub index_mut-object-requires : goal.index_mut-object-requires
index_mut-object-requires c =
    let here = inside c.self.inside c.args.request.now c.self.invariant (rw (← c.self.view_is) at c.requires.object) in
    grind (arith, common_steps)

pub overflow_cast-number-2 : goal.overflow_cast-number-2
overflow_cast-number-2 c =
    let here = inside c.self.inside c.args.request.now c.self.invariant (rw (← c.self.view_is) at c.requires.object) in
    omega (arith, here, c.self.invariant.few)

pub apply_to-requires : goal.apply_to-requires
apply_to-requires c =
    let here = inside c.self.inside c.args.request.now c.self.invariant (rw (← c.self.view_is) at c.requires.object) in
    omega (arith, here, c.self.invariant.few)

pub invariant_of-self : goal.invariant_of-self
invariant_of-self c =
    let a = c.self.inside in
    let r = c.args.request.now in
    let n = slice_index r.args 0 in
    let here = inside a r c.self.invariant (rw (← c.self.view_is) at c.requires.object) in
    let count : length (slice_set a.objects.items n c.apply_to.new.object) ≡ length a.objects.items = length-set a.objects.items n _ in
    record {
      kinds = kinds-called a c.self.invariant n here c.index_mut-object.result.now _ c.apply_to.new.object c.index_mut-object.ensures.value r.service c.apply_to.ensures.object;
      few = subst (λ m. m ≤ 64) (sym count) c.self.invariant.few;
      queues = c.self.invariant.queues ∙ sym count;
      own = c.self.invariant.own;
      tasks = c.self.invariant.tasks;
      lock = c.self.invariant.lock;
    }

pub returns : goal.returns
returns c =
    let a = c.self.inside in
    let r = c.args.request.now in
    let n = slice_index r.args 0 in
    let here = inside a r c.self.invariant (rw (← c.self.view_is) at c.requires.object) in
    rw (← c.self.view_is)
    (records-called a c.self.invariant n here c.index_mut-object.result.now _ c.apply_to.new.object c.index_mut-object.ensures.value r.service c.apply_to.ensures.object c.apply_to.new.timers c.apply_to.ensures.matches)
