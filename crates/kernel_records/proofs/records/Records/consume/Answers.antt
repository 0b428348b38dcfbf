use Rattle.std.proofs.Common.{◌≡◌, ◌<◌, ◌≤◌, List, ap, sym, ◌∙◌, length, map, subst, true, arith}
use Rattle.std.specs.Vec.{with_items}
use Rattle.std.proofs.lemmas.Grind.{common_steps}
use Rattle.kern_base.specs.declared.kinds.Kind.{Kind}
use Rattle.kern_model.specs.State as state
use Rattle.kern_model.specs.State.{Task, kind_of, task_at}
use Rattle.kern_model.specs.Finish.{consumed_in, flags_consumed}
use Rattle.tcb_pool.specs.TaskView.{task_of}
use Rattle.kernel_records.specs.declared.objects.Object.{Object}
use Rattle.kernel_records.specs.ObjectView.{objects_in}
use Rattle.kernel_records.specs.RecordsRecord.{RecordsRecord}
use Rattle.kernel_records.specs.RecordsView.{records_of, state_of}
use Rattle.kernel_records.specs.TaskChanges.{took_flags}
use Rattle.kernel_records.proofs.ConsumeFacts.{kinds-consumed}
use Rattle.kernel_records.proofs.ObjectFacts.{task-at}
use Rattle.kernel_records.proofs.TaskFacts.{flags-taken}
use Rattle.kernel_records.proofs.records.Records.consume.Goals as goal

pub invariant_of-self : goal.invariant_of-self
invariant_of-self c =
    let a = c.self.inside in
    let qs = a.messages.queues in
    let new = c.consume_in.new.objects in
    let written : (with_items a.objects new).items ≡ new = grind (arith, common_steps) in
    let t = c.get-tcb.result.now in
    let objects = c.consume_in.ensures.objects qs ∙ ap (λ (bs : List Object). consumed_in (task_of t).objects c.args.res.now.answer.value t.opt (objects_in qs bs)) c.deref_mut.ensures.value in
    let size : length (with_items a.objects new).items ≡ length a.objects.items = ap (λ (bs : List Object). length bs) written ∙ c.consume_in.ensures.size ∙ ap (λ (bs : List Object). length bs) c.deref_mut.ensures.value in
    record {
      kinds =
          c.self.invariant.kinds
          ∙ ap (λ (ks : List Kind). record { objects = ks; tasks = a.settings.tasks })
          (sym (ap (λ (bs : List Object). map (λ (b : state.Object). kind_of b.content) (objects_in qs bs)) written ∙ ap (map (λ (b : state.Object). kind_of b.content)) objects ∙ kinds-consumed (task_of t).objects c.args.res.now.answer.value t.opt (objects_in qs a.objects.items)));
      few = subst (λ n. n ≤ 64) (sym size) c.self.invariant.few;
      queues = c.self.invariant.queues ∙ sym size;
      own = c.self.invariant.own;
      tasks = c.self.invariant.tasks;
      lock = c.self.invariant.lock;
    }

pub returns : goal.returns
returns c =
    let a = c.self.inside in
    let x = c.args.task.0 in
    let qs = a.messages.queues in
    let os = a.messages.own in
    let ts = a.tasks.tasks in
    let bs = objects_in qs a.objects.items in
    let new = c.consume_in.new.objects in
    let v = c.args.res.now.answer.value in
    let written : (with_items a.objects new).items ≡ new = grind (arith, common_steps) in
    let h : x < length ts = subst (λ n. x < n) (sym c.self.invariant.tasks) c.requires in
    let took : took_flags c.args.res.now.service c.args.res.now.answer.err ≡ true = cc in
    let objects : objects_in qs (with_items a.objects new).items ≡ flags_consumed c.args.res.now.service c.args.res.now.answer.err (task_at (state_of a) x) v bs =
    ap (objects_in qs) written ∙ c.consume_in.ensures.objects qs
    ∙ ap (λ (us : List Object). consumed_in (task_of c.get-tcb.result.now).objects v c.get-tcb.result.now.opt (objects_in qs us)) c.deref_mut.ensures.value
    ∙ ap (λ (t : Task). consumed_in t.objects v t.opt bs) c.get-tcb.ensures.task
    ∙ ap (λ (t : Task). consumed_in t.objects v t.opt bs) (sym (task-at os ts x h))
    ∙ sym (flags-taken c.args.res.now.service c.args.res.now.answer.err (task_at (state_of a) x) v bs took) in
    rw (← c.self.view_is)
    (ap (λ (us : List state.Object). let b : RecordsRecord = record (records_of a) { state = record (state_of a) { objects = us } } in b) objects)
