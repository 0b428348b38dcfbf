use Rattle.std.proofs.Common.{◌≤◌, ap, sym, ◌∙◌, length, subst, arith}
use Rattle.kern_model.specs.State.{Object}
use Rattle.machine_model.specs.Steps.{after_fire}
use Rattle.message_store.specs.Store.{queue_at}
use Rattle.tcb_pool.specs.TaskTable.{TaskTable}
use Rattle.kernel_records.specs.RecordsRecord.{RecordsRecord}
use Rattle.kernel_records.specs.RecordsView.{state_of}
use Rattle.kernel_records.specs.ObjectView.{tasks_in}
use Rattle.kernel_records.proofs.ObjectFacts.{object-past, some-object}
use Rattle.kernel_records.proofs.records.Records.enter_callback.Goals as goal

pub invariant_of-self : goal.invariant_of-self
invariant_of-self c =
    let i = c.self.invariant in
    record {
      kinds = i.kinds;
      few = i.few;
      queues = i.queues;
      own = i.own;
      tasks = ap (λ (t : TaskTable). length t.tasks) (c.enter.ensures (queue_at c.self.inside.messages c.args.timer.0)) ∙ i.tasks;
      lock = i.lock;
    }

pub returns-in-Some : goal.returns-in-Some
returns-in-Some c =
    let a = c.self.inside in
    let n = c.args.timer.0 in
    let config = c.args.config.now in
    rw (← c.self.view_is)
    (ap (λ (t : TaskTable). let r : RecordsRecord = record { state = record (state_of a) { tasks = tasks_in a.messages.own t.tasks }; registers = t.registers } in r) (c.enter.ensures (queue_at a.messages n))
    ∙ ap (λ (b : Object). let r : RecordsRecord = record { state = state_of a; registers = after_fire config n b.content a.tasks.registers } in r)
    (sym (some-object a.messages.queues a.objects.items c.deref.result.now n c.in-Some.object.now _ c.deref.ensures.value c.in-Some.ensures.lookup.0 c.in-Some.ensures.lookup.1)))

pub returns-in_default : goal.returns-in_default
returns-in_default c =
    let a = c.self.inside in
    let n = c.args.timer.0 in
    let past : length c.deref.result.now ≤ n = grind (arith, c.get.ensures.lookup, c.in_default.not-Some) in
    let end : length a.objects.items ≤ n = subst (λ v. length v ≤ n) c.deref.ensures.value past in
    rw (← c.self.view_is)
    (ap (λ (b : Object). let r : RecordsRecord = record { state = state_of a; registers = after_fire c.args.config.now n b.content a.tasks.registers } in r)
    (sym (object-past a.messages.queues a.objects.items n end)))
