-- What the last micro-step of a call makes in the records is what the call does.
use Rattle.std.proofs.Common.{◌≡◌, ℕ, ◌≤◌, List, refl, sym, ap, ◌∙◌, subst, Bool, true, false, ◌&&◌, arith}
use Rattle.std.specs.Prelude.{◌==◌}
use Rattle.kern_base.specs.declared.numbers.TaskId.{TaskId}
use Rattle.kern_base.specs.declared.outcomes.Around.{Around}
use Rattle.kern_model.specs.State.{Kernel, count_of, is_ready, list_at, prio_of, task_at}
use Rattle.kern_model.specs.Checks.{named_task}
use Rattle.kern_model.specs.Micro.{Lists}
use Rattle.kern_model.specs.Effect.{Effect}
use Rattle.kern_model.specs.Valid.{IsLinked, one_if}
use Rattle.decisions.specs.Around.{first_waiter}
use Rattle.link_plans.specs.declared.plan.Plan.{Plan}
use Rattle.kernel_records.specs.RecordsRecord.{without_lists}
use Rattle.kernel_records.specs.Deciding.{own_change, waiters_of}
use Rattle.kernel_records.specs.Suspension.{moves_task}
use Rattle.kernel_records.specs.Concluding.{outcome_after, outcome_of, records_after, woken_of}
use Rattle.kernel_records.specs.Served.{IsServed}
use Rattle.kernel_records.proofs.ConcludingFacts.{after-bare, after-decided, after-moved, has-outcome, is-concluded, outcome-bare, outcome-decided, outcome-moved, own-bare}
use Rattle.kernel_records.proofs.DecidingFacts.{effect-decided, effect-moved}
use Rattle.kernel_records.proofs.SuspensionFacts.{IsMoving, IsTurning, is-moved, is-moving, is-turning}
use Rattle.kernel_calls.specs.Works.{WorkRecord, effect_of}
use Rattle.kernel_calls.specs.Ending.{OfCall, outcome_by, records_by}
use Rattle.kernel_calls.specs.Stepping.{IsPlanned}
use Rattle.kernel_calls.specs.KernelView.{state_with}
use Rattle.kernel_calls.specs.declared.seen.Seen.{Seen}
use Rattle.kernel_calls.proofs.ServedFacts.{served-effect}
use Rattle.kernel_calls.proofs.WaiterFacts.{AllWait-woken}

one-at-most : (b : Bool) → one_if b ≤ 1
one-at-most true = omega arith
one-at-most false = omega arith

module _ (w : WorkRecord) (q : Plan) (seen : Seen) (rs : Kernel) (start : Lists) (valid : IsLinked (state_with rs start)) (planned : IsPlanned w q seen.around (state_with rs start)) where
  abbrev before : Kernel
  before = state_with rs start

  abbrev made : Effect
  made = effect_of w before

  abbrev around : Around
  around = seen.around

  abbrev xs : List ℕ
  xs = waiters_of w.request w.caller before

  abbrev ys : List ℕ
  ys = woken_of q.decision xs

  -- of a yield, one behind the caller has its turn
  turning : moves_task w.request.service q.decision ≡ true → IsTurning w.request.service w.caller around.first before
  turning m =
      let first = planned.around.first ∙ ap (λ x. first_waiter (waiters_of w.request x before)) (sym planned.who) in
      let once : (z : ℕ) → count_of z (list_at before.ready (prio_of before around.caller.0)) ≤ 1 =
      λ z. subst (λ n. n ≤ 1) (sym (valid.lists.stands (prio_of before around.caller.0) z)) (one-at-most (is_ready (task_at before z) && (prio_of before z == prio_of before around.caller.0))) in
      subst (λ x. IsTurning w.request.service x around.first before) planned.who (is-turning w.request around q.decision before planned.decision m first once)

  -- a task was moved among the lists, or what was decided is made
  records-if : (b : Bool) → moves_task w.request.service q.decision ≡ b → records_after q.decision w.request w.caller around.first ys (without_lists rs) ≡ without_lists made.kernel
  records-if true m =
      let moved = is-moved w.request.service (named_task w.request w.caller) w.caller w.compared around.first before (subst (λ z. IsMoving w.request.service (task_at before (named_task w.request z))) planned.who (is-moving w.request around q.decision before planned.decision m)) (turning m) in
      after-moved q.decision w.request w.caller around.first ys (without_lists rs) m
      ∙ sym moved.kernel
      ∙ ap (λ (e : Effect). without_lists e.kernel) (sym (effect-moved w.request q.decision w.caller w.compared xs before m) ∙ sym planned.effect)
  records-if false m =
      after-decided q.decision w.request w.caller around.first ys (without_lists rs) m
      ∙ sym (is-concluded q.decision w.request w.caller w.compared xs before planned.served)
      ∙ ap (λ (e : Effect). without_lists e.kernel) (sym (effect-decided w.request q.decision w.caller w.compared xs before m) ∙ sym planned.effect)

  pub records-call : without_lists (records_by OfCall w q seen rs) ≡ without_lists made.kernel
  records-call =
      ap (λ x. without_lists (records_after q.decision w.request x around.first q.woken.items rs)) planned.who
      ∙ ap (λ zs. without_lists (records_after q.decision w.request w.caller around.first zs rs)) planned.woken
      ∙ after-bare q.decision w.request w.caller around.first ys rs
      ∙ records-if (moves_task w.request.service q.decision) refl

  own-made : without_lists (own_change w.request w.caller q.decision rs) ≡ without_lists (own_change w.request w.caller q.decision before)
  own-made = own-bare w.request w.caller q.decision rs ∙ sym (own-bare w.request w.caller q.decision before)

  outcome-if : (b : Bool) → moves_task w.request.service q.decision ≡ b → outcome_after q.decision w.request w.caller ys rs ≡ made.outcome
  outcome-if true m =
      let moved = is-moved w.request.service (named_task w.request w.caller) w.caller w.compared around.first before (subst (λ z. IsMoving w.request.service (task_at before (named_task w.request z))) planned.who (is-moving w.request around q.decision before planned.decision m)) (turning m) in
      outcome-moved q.decision w.request w.caller ys rs m
      ∙ sym moved.outcome
      ∙ ap (λ (e : Effect). e.outcome) (sym (effect-moved w.request q.decision w.caller w.compared xs before m) ∙ sym planned.effect)
  outcome-if false m =
      outcome-decided q.decision w.request w.caller ys rs m
      ∙ outcome-bare q.decision w.request ys (own_change w.request w.caller q.decision rs)
      ∙ ap (outcome_of q.decision w.request ys) own-made
      ∙ sym (outcome-bare q.decision w.request ys (own_change w.request w.caller q.decision before))
      ∙ sym (has-outcome q.decision w.request w.caller w.compared xs before planned.served)
      ∙ ap (λ (e : Effect). e.outcome) (sym (effect-decided w.request q.decision w.caller w.compared xs before m) ∙ sym planned.effect)

  pub outcome-call : outcome_by OfCall w q seen rs ≡ made.outcome
  outcome-call =
      ap (λ x. outcome_after q.decision w.request x q.woken.items rs) planned.who
      ∙ ap (λ zs. outcome_after q.decision w.request w.caller zs rs) planned.woken
      ∙ outcome-if (moves_task w.request.service q.decision) refl

-- no task waits for what is not served
pub served-call : (w : WorkRecord) (q : Plan) (seen : Seen) (k : Kernel) → IsLinked k → IsPlanned w q seen.around k → IsServed k → IsServed (effect_of w k).kernel
served-call w q seen k v h s =
    subst (λ (e : Effect). IsServed e.kernel) (sym h.effect)
    (served-effect q.decision w.request seen.around w.caller w.compared (waiters_of w.request w.caller k) k h.decision h.who h.served (AllWait-woken q.decision w.request w.caller k h.served v) s)
