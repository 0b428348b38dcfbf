use Rattle.std.proofs.Common.{◌≡◌, ◌≤◌, List, ap, sym, ◌∙◌, map, length, refl, subst, rules, arith}
use Rattle.std.proofs.lemmas.List.{length-map}
use Rattle.kern_model.specs.State.{Object, Task, kind_of}
use Rattle.kern_model.specs.Start.{object_of, start_tasks}
use Rattle.message_store.specs.Start.{own_of, start_store}
use Rattle.message_store.specs.Store.{Store}
use Rattle.tcb_pool.specs.TaskView.{without_own}
use Rattle.kernel_records.specs.ObjectView.{declared_queue, objects_in, tasks_in}
use Rattle.kernel_records.proofs.ObjectFacts.{with-without}
use Rattle.kernel_records.proofs.StartFacts.{count-start, kinds-start}
use Rattle.kernel_records.proofs.records.Records.new.Goals as goal

pub invariant_of-result : goal.invariant_of-result
invariant_of-result c =
    let i = c.args.image.now in
    let items = c.in_ok-start_objects.field-0.items in
    let s = c.in_ok-new.field-0 in
    let store : s ≡ start_store i = c.in_ok-new.ensures in
    let objects : objects_in s.queues items ≡ map object_of i.objects =
    ap (λ (m : Store). objects_in m.queues items) store
    ∙ ap (λ ds. objects_in (map declared_queue ds) items) (sym c.objects.ensures.value)
    ∙ c.in_ok-start_objects.ensures.objects ∙ ap (map object_of) c.objects.ensures.value in
    let kinds : c.start_kinds.result.objects ≡ map (λ (b : Object). kind_of b.content) (objects_in s.queues items) =
    c.start_kinds.ensures.objects ∙ ap (map (λ d. d.kind)) c.objects-2.ensures.value ∙ sym (kinds-start i.objects) ∙ ap (map (λ (b : Object). kind_of b.content)) (sym objects) in
    let tasks : c.start_kinds.result.tasks ≡ length c.tasks-2.result.now = search rules in
    let size : length items ≡ length i.objects = c.in_ok-start_objects.ensures.size ∙ ap (λ ds. length ds) c.objects.ensures.value in
    let many : length (start_tasks i) ≡ 64 = count-start i c.tasks-2.ensures.valid.tasks_room in
    record {
      kinds = rw (← kinds, ← tasks) refl;
      few = subst (λ n. n ≤ 64) (sym size) c.tasks-2.ensures.valid.objects_room;
      queues = ap (λ (m : Store). length m.queues) store ∙ length-map i.objects declared_queue ∙ sym size;
      own = ap (λ (m : Store). length m.own) store ∙ length-map (start_tasks i) own_of ∙ many;
      tasks = ap (λ (ts : List Task). length ts) c.new.ensures.tasks ∙ length-map (start_tasks i) without_own ∙ many;
      lock = omega arith;
    }

pub returns : goal.returns
returns c =
    let i = c.args.image.now in
    let items = c.in_ok-start_objects.field-0.items in
    let s = c.in_ok-new.field-0 in
    let store : s ≡ start_store i = c.in_ok-new.ensures in
    let objects : objects_in s.queues items ≡ map object_of i.objects =
    ap (λ (m : Store). objects_in m.queues items) store
    ∙ ap (λ ds. objects_in (map declared_queue ds) items) (sym c.objects.ensures.value)
    ∙ c.in_ok-start_objects.ensures.objects ∙ ap (map object_of) c.objects.ensures.value in
    let tasks : tasks_in s.own c.new.result.tasks ≡ start_tasks i =
    ap (λ (m : Store). tasks_in m.own c.new.result.tasks) store ∙ ap (tasks_in (map own_of (start_tasks i))) c.new.ensures.tasks ∙ with-without (start_tasks i) in
    let free = ap (λ (m : Store). m.free) store in
    rw (objects, tasks, free, c.new.ensures.registers, c.new-2.ensures, c.new-3.ensures, c.tasks-2.ensures.value, c.config-config.ensures.value) refl
