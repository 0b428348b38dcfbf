use Rattle.std.proofs.Common.{◌≡◌, ◌∙◌, ap, sym, length, true, false}
use Rattle.std.proofs.lemmas.Bool.{true≢false}
use Rattle.kern_base.specs.declared.services.Service.TheVariants.{RoundRobinYield}
use Rattle.kern_model.specs.State.{list_at}
use Rattle.kern_model.specs.Micro.{Halves, lists_of}
use Rattle.kern_model.specs.Checks.{argument}
use Rattle.micro_steps.specs.Halfway.{tasks_in}
use Rattle.decisions.specs.Around.{first_waiter}
use Rattle.kernel_records.specs.SchedulerCalls.{is_scheduler_call}
use Rattle.kernel_records.proofs.DecidingFacts.{scheduler-waiters}
use Rattle.kernel_records.proofs.RowFacts.{waiters-object, waiters-scheduler, waiters-task}
use Rattle.kernel_calls.specs.KernelView.{state_with}
use Rattle.kernel_calls.proofs.PlanningFacts.{all-waiters}
use Rattle.kernel_calls.proofs.StepFacts.{at-rest, free-of}
use Rattle.kernel_calls.proofs.kernels.Kernel.first_waiter.Goals.{in-RoundRobinYield, in_default}
use Rattle.kernel_calls.proofs.kernels.Kernel.first_waiter.Goals as goal

pub returns-then-is_scheduler_call : goal.returns-then-is_scheduler_call
returns-then-is_scheduler_call g c =
    let k = state_with c.self.inside.records.state c.self.inside.steps.start in
    let other : c.args.request.now.service ≡ RoundRobinYield → ⊥ =
    elim c.match-matches.branch [
      | in-RoundRobinYield w ↦ absurd (true≢false (sym w.matches-is ∙ c.if-matches.false))
      | in_default w ↦ w.in_default.not-RoundRobinYield
    ] in
    rw (← c.self.view_is)
    (c.delayed_task.ensures
    ∙ ap first_waiter (scheduler-waiters c.args.request.now.service c.args.request.now c.args.caller.0 c.self.inside.records.state (lists_of k) other ∙ sym (waiters-scheduler c.args.request.now c.args.caller.0 k (sym c.is_scheduler_call.ensures ∙ c.if-is_scheduler_call.true))))

pub returns-then-is_task_call : goal.returns-then-is_task_call
returns-then-is_task_call g c =
    let k = state_with c.self.inside.records.state c.self.inside.steps.start in
    rw (← c.self.view_is)
    (c.own_waiter.ensures ∙ ap first_waiter (sym (waiters-task c.args.request.now c.args.caller.0 k (sym c.is_scheduler_call.ensures ∙ c.if-is_scheduler_call.false) (sym c.is_task_call.ensures ∙ c.if-is_task_call.true))))

pub returns-else-is_task_call : goal.returns-else-is_task_call
returns-else-is_task_call g c =
    let k = state_with c.self.inside.records.state c.self.inside.steps.start in
    let o = argument c.args.request.now 0 in
    let free = free-of c.self.inside.busy c.self.inside.work (rw (← c.self.view_is) at c.requires.free) in
    let rest = at-rest c.self.inside.busy c.self.inside.work c.self.inside.plan c.self.inside.seen k c.self.inside.steps free c.self.invariant.hand in
    let pend = c.pend.ensures.forward ∙ ap (λ (h : Halves). h.forward.pend) (c.chains.ensures.0 ∙ rest.halves) in
    let first : c.first_waiter.result ≡ first_waiter (list_at k.pend o) =
    c.first_waiter.ensures ∙ ap (λ lists. first_waiter (list_at (tasks_in lists) o)) pend
    ∙ ap first_waiter (sym (all-waiters (length k.objects) c.self.inside.steps.start.pend o c.self.invariant.nodes.past)) in
    rw (← c.self.view_is)
    (first ∙ ap first_waiter (sym (waiters-object c.args.request.now c.args.caller.0 k (sym c.is_scheduler_call.ensures ∙ c.if-is_scheduler_call.false) (sym c.is_task_call.ensures ∙ c.if-is_task_call.false))))
