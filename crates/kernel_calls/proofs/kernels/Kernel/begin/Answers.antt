use Rattle.std.proofs.Common.{◌≡◌, ◌<◌, ◌∙◌, ap, sym, subst, refl, length, false}
use Rattle.std.specs.Prelude.{All}
use Rattle.kern_base.specs.declared.numbers.TaskId.{TaskId}
use Rattle.kern_base.specs.declared.numbers.Prio.{Prio}
use Rattle.kern_model.specs.State.{list_at}
use Rattle.kern_model.specs.Micro.{Halves, lists_of}
use Rattle.kern_model.specs.Checks.{argument, named_task}
use Rattle.kern_model.specs.Call.{call_of}
use Rattle.served.specs.Served.{program_serves}
use Rattle.kern_model.specs.Services.{effect}
use Rattle.kern_model.specs.Valid.{IsLinked}
use Rattle.micro_steps.specs.Halfway.{tasks_in}
use Rattle.decisions.specs.Around.{IsAround, first_waiter}
use Rattle.task_objects.specs.Rows.{is_task_call}
use Rattle.link_plans.specs.declared.plan.Plan.{Plan}
use Rattle.kernel_records.specs.Deciding.{IsServedDecision, decision_of, effect_by, waiters_of}
use Rattle.kernel_records.specs.Concluding.{objects_waited, woken_of}
use Rattle.kernel_records.specs.SchedulerCalls.{is_scheduler_call}
use Rattle.kernel_records.specs.Served.{IsServed}
use Rattle.kernel_records.proofs.RowFacts.{waiters-object}
use Rattle.kernel_records.proofs.SuspensionFacts.{moved-inside}
use Rattle.kernel_calls.specs.Works.{WorkRecord, begun, effect_of}
use Rattle.kernel_calls.specs.Stepping.{AreNodes, IsInHand, IsPlanned, planned_bits}
use Rattle.kernel_calls.specs.Moving.{known_links}
use Rattle.kernel_calls.specs.KernelView.{state_with}
use Rattle.kernel_calls.proofs.BeginFacts.{as-call, at-start, begun-hand, call-body, some-steps}
use Rattle.kernel_calls.specs.declared.seen.Seen.{Seen}
use Rattle.kernel_calls.proofs.PlanningFacts.{all-waiters, bits-lists, known-lists, objects-below, woken-below}
use Rattle.kernel_calls.proofs.StepFacts.{at-rest, free-of}
use Rattle.kernel_records.proofs.WaitFacts.{decision-lists}
use Rattle.kernel_calls.proofs.WaiterFacts.{AllWait-woken}
use Rattle.kernel_calls.proofs.kernels.Kernel.begin.Goals as goal

pub returns-clause-open_yet : goal.returns-clause-open_yet
returns-clause-open_yet g c = some-steps _ _

-- what was decided of the call is decided in the kernel with its lists
pub plan_call-requires : goal.plan_call-requires
plan_call-requires g c =
    let rs = c.self.inside.records.state in
    let k = state_with rs c.self.inside.steps.start in
    let r = c.args.request.now in
    let seen = c.around-self-inside.result in
    let value : c.decide-decision.result ≡ decision_of r seen k = c.decide-decision.ensures.value ∙ decision-lists r seen rs (lists_of k) in
    record {
      served = c.decide-decision.ensures.served;
      objects = objects-below c.decide-decision.result r seen k value c.decide-decision.ensures.served c.self.invariant.valid.sizes.objects;
    }

-- a task that is suspended or resumed is one of the tasks
pub plan_move-requires-clause-inside : goal.plan_move-requires-clause-inside
plan_move-requires-clause-inside g c =
    let rs = c.self.inside.records.state in
    let k = state_with rs c.self.inside.steps.start in
    let r = c.args.request.now in
    let seen = c.around-self-inside.result in
    let value : c.decide-decision.result ≡ decision_of r seen k = c.decide-decision.ensures.value ∙ decision-lists r seen rs (lists_of k) in
    let who : seen.caller.0 ≡ c.args.caller.0 = ap (λ (t : TaskId). t.0) c.around-self-inside.ensures.caller in
    λ other moves. subst (λ n. named_task r c.args.caller.0 < n) c.self.invariant.valid.sizes.tasks
    (subst (λ z. named_task r z < length k.tasks) who (moved-inside r seen c.decide-decision.result k other value moves))

pub invariant_of-self : goal.invariant_of-self
invariant_of-self g c =
    let rs = c.self.inside.records.state in
    let start = c.self.inside.steps.start in
    let k = state_with rs start in
    let r = c.args.request.now in
    let x = c.args.caller.0 in
    let h = c.args.compared.0 in
    let d = c.decide-decision.result in
    let p = c.plan_call.new.plan in
    let q : Plan = record p { bits = c.planned_bits-bits.result; known = c.plan_move.new.known } in
    let seen = c.around-self-inside.result in
    let w = begun x r c.args.interrupted.0 h in
    let ws = waiters_of r x k in
    let free = free-of c.self.inside.busy c.self.inside.work (rw (← c.self.view_is) at c.requires.free) in
    let rest = at-rest c.self.inside.busy c.self.inside.work c.self.inside.plan c.self.inside.seen k c.self.inside.steps free c.self.invariant.hand in
    let may = rw (← c.self.view_is) at c.requires.may in
    let around : IsAround seen ws k = rw (← c.self.view_is) at c.around-self-inside.ensures.around in
    let who : seen.caller.0 ≡ x = ap (λ (t : TaskId). t.0) c.around-self-inside.ensures.caller in
    let decision : q.decision ≡ d = c.plan_call.ensures.decision in
    let seen_bare : IsAround seen (waiters_of r seen.caller.0 k) rs = record { locked = around.locked; first = around.first ∙ ap (λ y. first_waiter (waiters_of r y k)) (sym who); prio = around.prio } in
    let row = c.decide-decision.ensures.row (lists_of k) c.args.interrupted.0 h seen_bare in
    let does : effect_of w k ≡ effect_by q.decision r x h ws k =
    ap (λ y. effect program_serves (call_of r y c.args.interrupted.0 h) k) (sym who) ∙ row
    ∙ ap (λ y. effect_by d r y h (waiters_of r y k) k) who
    ∙ ap (λ e. effect_by e r x h ws k) (sym decision) in
    let value : q.decision ≡ decision_of r seen k = decision ∙ c.decide-decision.ensures.value ∙ decision-lists r seen rs (lists_of k) in
    let served : IsServedDecision q.decision r.service = subst (λ e. IsServedDecision e r.service) (sym decision) c.decide-decision.ensures.served in
    let pend = c.pend-pend.ensures.forward ∙ ap (λ (a : Halves). a.forward.pend) (c.chains.ensures.0 ∙ rest.halves) in
    let object : is_scheduler_call r.service ≡ false → is_task_call r.service ≡ false → ws ≡ list_at (tasks_in c.pend-pend.result.now.forward) (argument r 0) =
    λ n t. waiters-object r x k n t ∙ all-waiters (length k.objects) start.pend (argument r 0) c.self.invariant.nodes.past
    ∙ ap (λ lists. list_at (tasks_in lists) (argument r 0)) (sym pend) in
    let woken : q.woken.items ≡ woken_of q.decision ws = c.plan_call.ensures.woken ws around.first object ∙ ap (λ e. woken_of e ws) (sym decision) in
    let objects : q.objects.items ≡ objects_waited q.decision r = c.plan_call.ensures.objects ∙ ap (λ e. objects_waited e r) (sym decision) in
    let plan : IsPlanned w q seen k =
    record {
      around = around;
      who = who;
      decision = value;
      effect = does;
      served = served;
      caller = ap (λ (t : TaskId). t.0) c.plan_call.ensures.caller ∙ who;
      compared = ap (λ (a : Prio). a.0) c.plan_call.ensures.compared;
      woken = woken;
      bits = c.planned_bits-bits.ensures x ∙ bits-lists d r x rs (lists_of k) ∙ ap (λ e. planned_bits e r x k) (sym decision);
      objects = objects;
      known = c.plan_move.ensures ∙ known-lists d r x h rs (lists_of k) ∙ ap (λ e. known_links e r x h k) (sym decision);
      woken_below = subst (All (λ y. y < 64)) (sym woken) (woken-below q.decision k ws (AllWait-woken q.decision r x k served c.self.invariant.valid));
      objects_below = subst (All (λ y. y < 64)) (sym objects) (objects-below q.decision r seen k value served c.self.invariant.valid.sizes.objects);
    } in
    let fresh = c.plan_call.ensures.fresh in
    let whole : Seen = record { around = seen; turn = c.self.inside.seen.turn } in
    let body = call-body w q seen k start c.self.inside.steps.prios c.self.invariant.valid (at-start rs c.self.inside.steps c.self.invariant.nodes) rest.prios may plan c.plan_call.ensures.last in
    let hand : IsInHand w q whole k c.take.new.self =
    begun-hand w q whole rs c.self.inside.steps c.take.new.self c.self.invariant.valid c.self.invariant.nodes rest c.requires.task refl may (as-call w q whole k refl (sym c.is_tick.ensures ∙ c.if-is_tick.false) plan) fresh.1 fresh.2 fresh.3 body c.take.ensures.midway c.take.ensures.prios in
    let begins = c.begin.ensures in
    record {
      valid = subst (λ l. IsLinked (state_with rs l)) (sym c.take.ensures.kept.1) c.self.invariant.valid;
      served = subst (λ l. IsServed (state_with rs l)) (sym c.take.ensures.kept.1) c.self.invariant.served;
      nodes = subst (λ l. AreNodes (state_with rs l) l) (sym c.take.ensures.kept.1) c.self.invariant.nodes;
      hand =
          subst (λ (v : WorkRecord). IsInHand v q whole (state_with rs c.take.new.self.start) c.take.new.self) (sym begins)
          (subst (λ l. IsInHand w q whole (state_with rs l) c.take.new.self) (sym c.take.ensures.kept.1) hand);
    }
