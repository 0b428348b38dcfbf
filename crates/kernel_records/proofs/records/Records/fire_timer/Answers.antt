use Rattle.std.proofs.Common.{◌≡◌, ◌<◌, ◌≤◌, sym, ◌∙◌, length, length-set, subst, arith}
use Rattle.std.specs.Prelude.{slice_set}
use Rattle.std.proofs.lemmas.Grind.{common_steps}
use Rattle.kernel_records.proofs.TimerObjects.{fired-past, kinds-fired, records-fired}
use Rattle.kernel_records.proofs.records.Records.fire_timer.Goals as goal

pub returns-then-number-len : goal.returns-then-number-len
returns-then-number-len c =
    let past : length c.self.inside.objects.items ≤ c.args.obj.0 = grind (arith, common_steps) in
    rw (← c.self.view_is) (fired-past c.self.inside c.args.obj.0 past)

pub invariant_of-self : goal.invariant_of-self
invariant_of-self c =
    let a = c.self.inside in
    let n = c.args.obj.0 in
    let here : n < length a.objects.items = grind (arith, common_steps) in
    let count : length (slice_set a.objects.items n c.fire_in-self-inside.new.object) ≡ length a.objects.items = length-set a.objects.items n _ in
    record {
      kinds = kinds-fired a c.self.invariant n here c.index_mut-object.result.now _ c.fire_in-self-inside.new.object c.index_mut-object.ensures.value c.fire_in-self-inside.ensures.object;
      few = subst (λ m. m ≤ 64) (sym count) c.self.invariant.few;
      queues = c.self.invariant.queues ∙ sym count;
      own = c.self.invariant.own;
      tasks = c.self.invariant.tasks;
      lock = c.self.invariant.lock;
    }

pub returns : goal.returns
returns c =
    let a = c.self.inside in
    let n = c.args.obj.0 in
    let here : n < length a.objects.items = grind (arith, common_steps) in
    let did = c.fire_in-self-inside in
    rw (← c.self.view_is)
    (records-fired a c.self.invariant n here c.index_mut-object.result.now _ did.new.object c.index_mut-object.ensures.value did.ensures.object did.new.timers did.ensures.matches did.result did.ensures.callback)
