-- What the last micro-step of a call, a tick or a unit makes in the records is what the whole step does.
use Rattle.std.proofs.Common.{◌≡◌, ℕ, ◌<◌, ◌+◌, List, [], ◌∷◌, get_or, refl, sym, ap, ◌∙◌, subst, Bool, true, false, Option, Some, None, inl, inr, arith}
use Rattle.std.specs.Prelude.{◌==◌, ◌&&◌, ◌≤◌, length, ◌%◌, ◌^◌, ◌-◌, if◌then◌else◌, nat_lt}
use Rattle.std.proofs.lemmas.Bool.{false≢true, true≢false}
use Rattle.kern_base.specs.declared.services.Service.{Service}
use Rattle.kern_base.specs.declared.services.Service.TheVariants.{TimeTick}
use Rattle.kern_base.specs.declared.requests.Request.{Request}
use Rattle.kern_base.specs.declared.outcomes.Outcome.{Outcome}
use Rattle.kern_base.specs.declared.outcomes.Outcome.TheVariants.{Quiet}
use Rattle.kern_base.specs.declared.outcomes.UnitEnd.TheVariants.{Tick, TmrEnd}
use Rattle.kern_base.specs.declared.outcomes.Waiting.{Waiting}
use Rattle.kern_base.specs.declared.outcomes.Waiting.TheVariants.{No, Delay, Obj, TaskSem, TaskQ, Multi, Signal}
use Rattle.kern_model.specs.State.{Kernel, Task, Completed, Content, Timed, count_of, is_ready, list_at, no_task, object_at, prio_of, task_at, tick_task, update_task}
use Rattle.kern_model.specs.Call.{call_of}
use Rattle.kern_model.specs.Checks.{named_task}
use Rattle.kern_model.specs.Micro.{Lists}
use Rattle.kern_model.specs.Effect.{Effect, answers, done, fine}
use Rattle.kern_model.specs.RoundRobin.{first_in, full_quantum, rotates, round_robin}
use Rattle.kern_model.specs.Services.{effect, unit_effect}
use Rattle.kern_model.specs.Time.{due, signalled, signals_tick, signals_timer, tick_unit, ticked, time_tick, waits_for_signal}
use Rattle.kern_model.specs.Timers.{due_timer, fired, has_callback, rests, runs, timer_counts, timer_ends, timer_goes_on, timer_unit}
use Rattle.kern_model.specs.Valid.{IsLinked, one_if}
use Rattle.kern_model.proofs.Lemmas.{AllWait-due, choice, linked-tick_signalled}
use Rattle.served.specs.Served.{program_serves}
use Rattle.micro_steps.specs.Halfway.{seen_lists}
use Rattle.link_plans.specs.declared.plan.Plan.{Plan}
use Rattle.round_robin.specs.Turns.{front, spent, turn_in, turned, turned_tasks}
use Rattle.round_robin.proofs.TurnFacts.{is-turn}
use Rattle.round_robin.specs.declared.turns.Turn.{Turn}
use Rattle.round_robin.specs.declared.turns.Turn.TheVariants.{Stays, Spends, Rotates}
use Rattle.kernel_records.specs.RecordsRecord.{with_lists, without_lists}
use Rattle.kernel_records.specs.Ticks.{counted, is_tick, plain_ticked, records_after_tick, records_ticked, rests_if, timed_out_all}
use Rattle.kernel_records.specs.Served.{IsServed}
use Rattle.kernel_records.proofs.TickFacts.{after-tick-bare, ticked-bare}
use Rattle.kernel_calls.specs.Works.{MayBegin, MayRunUnit, WorkRecord, effect_of, unit_of}
use Rattle.kernel_calls.specs.Ending.{Course, OfCall, OfTick, OfUnit, course_for, course_of, outcome_by, records_by, unit_outcome, unit_records}
use Rattle.kernel_calls.specs.Ticking.{tick_turn, unit_woken}
use Rattle.kernel_calls.specs.Stepping.{IsPlannedAs, MayWork}
use Rattle.kernel_calls.specs.KernelView.{state_with}
use Rattle.kernel_calls.specs.declared.seen.Seen.{Seen}
use Rattle.kernel_calls.proofs.CallEnds.{outcome-call, records-call, served-call}
use Rattle.kernel_calls.proofs.ServedFacts.{bare-timed_out, served-task, served-tasks, served-wakes_by}
use Rattle.kernel_calls.proofs.StepFacts.{unit-is}
use Rattle.kernel_calls.proofs.TickCase.{same-tick_turn}
use Rattle.kernel_calls.proofs.UnitCase.{served-tick, ticked-plain}

-- Which course a work has.

not-unit : (b c : Bool) → OfTick ≡ (if b then OfUnit else course_for c) → (b ≡ false) × (c ≡ true)
not-unit true c e = absurd cc
not-unit false true e = (refl, refl)
not-unit false false e = absurd cc

a-unit : (b c : Bool) → OfUnit ≡ (if b then OfUnit else course_for c) → b ≡ true
a-unit true c e = refl
a-unit false true e = absurd cc
a-unit false false e = absurd cc

pub a-call : (b c : Bool) → OfCall ≡ (if b then OfUnit else course_for c) → (b ≡ false) × (c ≡ false)
a-call true c e = absurd cc
a-call false true e = absurd cc
a-call false false e = (refl, refl)

the-tick : (s : Service) → is_tick s ≡ true → s ≡ TimeTick
the-tick TimeTick h = refl
the-tick _ h = absurd (false≢true h)

-- OSTimeTick passes all checks
tick-request : (r : Request) (x i h : ℕ) (k : Kernel) → r.service ≡ TimeTick → effect program_serves (call_of r x i h) k ≡ time_tick i h k
tick-request r x i h k e = ap (λ s. effect program_serves (call_of (record r { service = s }) x i h) k) e

pub tick-effect : (w : WorkRecord) (k : Kernel) → OfTick ≡ course_of w → effect_of w k ≡ time_tick w.interrupted w.compared k
tick-effect w k e =
    let is = not-unit w.unit (is_tick w.request.service) e in
    ap (λ b. if b then unit_of w.caller k else effect program_serves (call_of w.request w.caller w.interrupted w.compared) k) is.0
    ∙ tick-request w.request w.caller w.interrupted w.compared k (the-tick w.request.service is.1)

pub unit-effect-is : (w : WorkRecord) (k : Kernel) → OfUnit ≡ course_of w → effect_of w k ≡ unit_effect w.caller k
unit-effect-is w k e =
    ap (λ b. if b then unit_of w.caller k else effect program_serves (call_of w.request w.caller w.interrupted w.compared) k) (a-unit w.unit (is_tick w.request.service) e)
    ∙ unit-is w.caller k

-- The records after a tick do not depend on the lists.

bare-signalled : (w : Waiting) (x h g : ℕ) (k : Kernel) → without_lists (signalled w x h k).kernel ≡ (signalled w x g (without_lists k)).kernel
bare-signalled Signal x h g k = refl
bare-signalled _ x h g k = refl

bare-turned : (turn : Turn) (k : Kernel) → without_lists (turned_tasks turn k) ≡ turned_tasks turn (without_lists k)
bare-turned Stays k = refl
bare-turned (Spends y) k = refl
bare-turned (Rotates y z) k = refl

bare-timer : (k : Kernel) → without_lists (signals_timer 0 k).kernel ≡ (signals_timer 0 (without_lists k)).kernel
bare-timer k = by (nat_lt (k.tick_calls + 1) k.settings.tmr_div)
  where
    by : (b : Bool) → without_lists (if b then done (record k { tick_calls = k.tick_calls + 1 }) (fine 0) else signalled (task_at k 61).waiting 61 0 (record k { tick_calls = 0; timer_signals = k.timer_signals + 1 })).kernel
        ≡ (if b then done (record (without_lists k) { tick_calls = k.tick_calls + 1 }) (fine 0) else signalled (task_at k 61).waiting 61 0 (record (without_lists k) { tick_calls = 0; timer_signals = k.timer_signals + 1 })).kernel
    by true = refl
    by false = bare-signalled (task_at k 61).waiting 61 0 0 (record k { tick_calls = 0; timer_signals = k.timer_signals + 1 })

bare-ticked : (turn : Turn) (k : Kernel) → without_lists (records_ticked turn k) ≡ records_ticked turn (without_lists k)
bare-ticked turn k =
    let first = (signals_tick 0 k).kernel in
    bare-timer (turned_tasks turn first)
    ∙ ap (λ j. (signals_timer 0 j).kernel) (bare-turned turn first)
    ∙ ap (λ j. (signals_timer 0 (turned_tasks turn j)).kernel) (bare-signalled (task_at k 60).waiting 60 0 0 (record k { tick_signals = k.tick_signals + 1 }))

-- nor do those after a unit

bare-timed : (xs : List ℕ) (k : Kernel) → without_lists (timed_out_all xs k) ≡ timed_out_all xs (without_lists k)
bare-timed [] k = refl
bare-timed (x ∷ xs) k = bare-timed xs _

bare-rests : (b : Bool) (k : Kernel) → without_lists (rests_if b k) ≡ rests_if b (without_lists k)
bare-rests true k = refl
bare-rests false k = refl

bare-after_tick : (xs : List ℕ) (k : Kernel) → without_lists (records_after_tick xs k) ≡ records_after_tick xs (without_lists k)
bare-after_tick xs k = bare-rests (k.tick_signals == 1) (timed_out_all xs (counted k)) ∙ ap (rests_if (k.tick_signals == 1)) (bare-timed xs (counted k))

-- the same change and outcome, whatever the lists are
record IsSameUnit (e f : Effect) : Type 0 where
  kernel : without_lists e.kernel ≡ without_lists f.kernel
  outcome : e.outcome ≡ f.outcome

same-fired : (o : ℕ) (c : Content) (k : Kernel) (l : Lists) → without_lists (fired o c (with_lists k l)) ≡ without_lists (fired o c k)
same-fired o (Timed t) k l = by t.periodic
  where
    by : (b : Bool) → without_lists (record (if b then runs o t t.period (with_lists k l) else rests o t Completed (with_lists k l)) { in_callback = has_callback t.callback }) ≡ without_lists (record (if b then runs o t t.period k else rests o t Completed k) { in_callback = has_callback t.callback })
    by true = refl
    by false = refl
same-fired o _ k l = refl

same-ends : (b : Bool) (k : Kernel) (l : Lists) → IsSameUnit (if b then waits_for_signal 61 (record { kernel = record (with_lists k l) { lock = 0; processing = false }; outcome = Quiet TmrEnd; blocks = [] }) else record { kernel = record (with_lists k l) { lock = 0; processing = false }; outcome = Quiet TmrEnd; blocks = [] })
    (if b then waits_for_signal 61 (record { kernel = record k { lock = 0; processing = false }; outcome = Quiet TmrEnd; blocks = [] }) else record { kernel = record k { lock = 0; processing = false }; outcome = Quiet TmrEnd; blocks = [] })
same-ends true k l = record { kernel = refl; outcome = refl }
same-ends false k l = record { kernel = refl; outcome = refl }

same-goes_on : (o : Option ℕ) (k : Kernel) (l : Lists) → IsSameUnit (timer_goes_on o (with_lists k l)) (timer_goes_on o k)
same-goes_on (Some o) k l = record { kernel = same-fired o (object_at k o).content k l; outcome = refl }
same-goes_on None k l = same-ends (k.timer_signals == 0) k l

same-timer_unit : (k : Kernel) (l : Lists) → IsSameUnit (timer_unit (with_lists k l)) (timer_unit k)
same-timer_unit k l = by k.processing
  where
    by : (b : Bool) → IsSameUnit (if b then timer_goes_on (due_timer k.timer_count k.timer_matches) (with_lists k l) else timer_counts (with_lists k l)) (if b then timer_goes_on (due_timer k.timer_count k.timer_matches) k else timer_counts k)
    by true = same-goes_on (due_timer k.timer_count k.timer_matches) k l
    by false = record { kernel = refl; outcome = refl }

-- Outcomes.

outcome-signalled : (w : Waiting) (x h : ℕ) (k : Kernel) → (signalled w x h k).outcome ≡ answers (fine 0)
outcome-signalled Signal x h k = refl
outcome-signalled _ x h k = refl

outcome-time_tick : (i h : ℕ) (k : Kernel) → (time_tick i h k).outcome ≡ answers (fine 0)
outcome-time_tick i h k =
    let j = (round_robin i (signals_tick h k).kernel).kernel in
    choice (λ (e : Effect). e.outcome ≡ answers (fine 0)) (nat_lt (j.tick_calls + 1) j.settings.tmr_div) _ _ refl (outcome-signalled (task_at j 61).waiting 61 h (record j { tick_calls = 0; timer_signals = j.timer_signals + 1 }))

-- The records after each course.

module _ (w : WorkRecord) (q : Plan) (seen : Seen) (rs : Kernel) (start : Lists) where
  abbrev before : Kernel
  before = state_with rs start

  abbrev made : Effect
  made = effect_of w before

  -- one task stands once in a ready list
  once : IsLinked before → (i : ℕ) (x : ℕ) → count_of x (list_at (signals_tick w.compared before).kernel.ready i) ≤ 1
  once v i x =
      let linked = linked-tick_signalled (task_at before 60).waiting w.compared before refl v in
      let stands = linked.lists.stands i x in
      let most = one-at-most (is_ready (task_at (signals_tick w.compared before).kernel x) && (prio_of (signals_tick w.compared before).kernel x == i)) in
      omega (arith, stands, most)
    where
      one-at-most : (b : Bool) → one_if b ≤ 1
      one-at-most true = omega arith
      one-at-most false = omega arith

  records-tick : IsLinked before → IsPlannedAs OfTick w q seen before → without_lists (records_ticked seen.turn rs) ≡ without_lists (time_tick w.interrupted w.compared before).kernel
  records-tick v h =
      bare-ticked seen.turn rs
      ∙ sym (ticked-bare seen.turn w.interrupted w.compared before (h.turn ∙ sym (same-tick_turn w.interrupted w.compared before)) (once v w.interrupted))

  records-tick_unit : IsLinked before → IsServed before → q.woken.items ≡ unit_woken 60 before → without_lists (records_after_tick q.woken.items rs) ≡ without_lists (tick_unit before).kernel
  records-tick_unit v s woken =
      bare-after_tick q.woken.items rs
      ∙ ap (λ xs. records_after_tick xs (without_lists rs)) woken
      ∙ sym (after-tick-bare before)
      ∙ ap (λ (e : Effect). without_lists (if before.tick_signals == 1 then waits_for_signal 60 e else e).kernel) (sym (ticked-plain before v s))

  records-unit : (x : ℕ) → MayRunUnit x before → IsLinked before → IsServed before → q.woken.items ≡ unit_woken x before → without_lists (unit_records x q.woken.items rs) ≡ without_lists (unit_effect x before).kernel
  records-unit x may v s woken = elim may.0 [
    | inl e ↦ subst (λ y. q.woken.items ≡ unit_woken y before → without_lists (unit_records y q.woken.items rs) ≡ without_lists (unit_effect y before).kernel) (sym e) (records-tick_unit v s) woken
    | inr e ↦ subst (λ y. without_lists (unit_records y q.woken.items rs) ≡ without_lists (unit_effect y before).kernel) (sym e) (sym (same-timer_unit rs (seen_lists (length rs.objects) start)).kernel)
  ]

  pub records-work : (c : Course) → c ≡ course_of w → IsLinked before → MayWork w.unit w before → IsPlannedAs c w q seen before → IsServed before → without_lists (records_by c w q seen rs) ≡ without_lists made.kernel
  records-work OfCall e v m h s = records-call w q seen rs start v h
  records-work OfTick e v m h s = records-tick v h ∙ ap (λ (f : Effect). without_lists f.kernel) (sym (tick-effect w before e))
  records-work OfUnit e v m h s =
      let may : MayRunUnit w.caller before = subst (λ b. MayWork b w before) (a-unit w.unit (is_tick w.request.service) e) m in
      records-unit w.caller may v s h.woken ∙ ap (λ (f : Effect). without_lists f.kernel) (sym (unit-effect-is w before e))

  outcome-unit : (x : ℕ) → MayRunUnit x before → unit_outcome x rs ≡ (unit_effect x before).outcome
  outcome-unit x may = elim may.0 [
    | inl e ↦ subst (λ y. unit_outcome y rs ≡ (unit_effect y before).outcome) (sym e) (sym (choice (λ (f : Effect). f.outcome ≡ Quiet (Tick ((rs.ticks + 1) % 2 ^ 32))) (before.tick_signals == 1) _ _ refl refl))
    | inr e ↦ subst (λ y. unit_outcome y rs ≡ (unit_effect y before).outcome) (sym e) (sym (same-timer_unit rs (seen_lists (length rs.objects) start)).outcome)
  ]

  pub outcome-work : (c : Course) → c ≡ course_of w → IsLinked before → MayWork w.unit w before → IsPlannedAs c w q seen before → outcome_by c w q seen rs ≡ made.outcome
  outcome-work OfCall e v m h = outcome-call w q seen rs start v h
  outcome-work OfTick e v m h = sym (outcome-time_tick w.interrupted w.compared before) ∙ ap (λ (f : Effect). f.outcome) (sym (tick-effect w before e))
  outcome-work OfUnit e v m h =
      let may : MayRunUnit w.caller before = subst (λ b. MayWork b w before) (a-unit w.unit (is_tick w.request.service) e) m in
      outcome-unit w.caller may ∙ ap (λ (f : Effect). f.outcome) (sym (unit-effect-is w before e))

-- What is served stays so.

served-signalled : (w : Waiting) (x h : ℕ) (k : Kernel) → IsServed k → IsServed (signalled w x h k).kernel
served-signalled Signal x h k s = served-task k (signalled Signal x h k).kernel x (λ t. record t { waiting = No }) refl (λ l. tt) (s.reads x) (s.bases x) s
served-signalled No x h k s = s
served-signalled Delay x h k s = s
served-signalled (Obj service) x h k s = s
served-signalled TaskSem x h k s = s
served-signalled TaskQ x h k s = s
served-signalled Multi x h k s = s

served-spent : (y : ℕ) (k : Kernel) → IsServed k → IsServed (spent y k)
served-spent y k s = served-task k (spent y k) y (λ t. record t { quantum = t.quantum - 1 }) refl (s.waits y) (s.reads y) (s.bases y) s

pub served-rotates : (x p : ℕ) (k : Kernel) → IsServed k → IsServed (rotates x p k).kernel
served-rotates x p k s =
    let y = first_in (list_at (rotates x p k).kernel.ready p) in
    served-task k (rotates x p k).kernel y full_quantum refl (s.waits y) (s.reads y) (s.bases y) s

served-turned : (turn : Turn) (p : ℕ) (k : Kernel) → IsServed k → IsServed (turned turn p k).kernel
served-turned Stays p k s = s
served-turned (Spends y) p k s = served-spent y.0 k s
served-turned (Rotates y z) p k s = served-rotates y.0 p (spent y.0 k) (served-spent y.0 k s)

counts-served : (k : Kernel) (a b c : ℕ) → IsServed k → IsServed (record k { tick_signals = a; timer_signals = b; tick_calls = c })
counts-served k a b c s = served-tasks k (record k { tick_signals = a; timer_signals = b; tick_calls = c }) refl s

served-time_tick : (i h : ℕ) (k : Kernel) → IsServed k → IsServed (time_tick i h k).kernel
served-time_tick i h k s =
    let k1 = (signals_tick h k).kernel in
    let one : IsServed k1 = served-signalled (task_at k 60).waiting 60 h (record k { tick_signals = k.tick_signals + 1 }) (counts-served k (k.tick_signals + 1) k.timer_signals k.tick_calls s) in
    let k2 = (round_robin i k1).kernel in
    let two : IsServed k2 = subst (λ (e : Effect). IsServed e.kernel) (sym (is-turn i k1)) (served-turned (turn_in (front (list_at k1.ready i)) k1) i k1 one) in
    choice (λ (e : Effect). IsServed e.kernel) (nat_lt (k2.tick_calls + 1) k2.settings.tmr_div) _ _ (counts-served k2 k2.tick_signals k2.timer_signals (k2.tick_calls + 1) two)
    (served-signalled (task_at k2 61).waiting 61 h (record k2 { tick_calls = 0; timer_signals = k2.timer_signals + 1 }) (counts-served k2 k2.tick_signals (k2.timer_signals + 1) 0 two))

served-waits : (x : ℕ) (e : Effect) → 60 ≤ x → IsServed e.kernel → IsServed (waits_for_signal x e).kernel
served-waits x e far s =
    served-task e.kernel (waits_for_signal x e).kernel x (λ t. record t { waiting = Signal }) refl (λ l. absurd (omega (arith, l, far))) (s.reads x) (s.bases x) s

served-tick_unit : (k : Kernel) → IsLinked k → IsServed k → IsServed (tick_unit k).kernel
served-tick_unit k v s =
    let plain : IsServed (ticked k).kernel = subst (λ (e : Effect). IsServed e.kernel) (sym (ticked-plain k v s)) (served-tick k v s) in
    choice (λ (e : Effect). IsServed e.kernel) (k.tick_signals == 1) (waits_for_signal 60 (ticked k)) (ticked k) (served-waits 60 (ticked k) (omega arith) plain) plain

tasks-fired : (o : ℕ) (c : Content) (k : Kernel) → (fired o c k).tasks ≡ k.tasks
tasks-fired o (Timed t) k = choice (λ (i : Kernel). i.tasks ≡ k.tasks) t.periodic _ _ refl refl
tasks-fired o _ k = refl

served-goes_on : (o : Option ℕ) (k : Kernel) → IsServed k → IsServed (timer_goes_on o k).kernel
served-goes_on (Some o) k s = served-tasks k (fired o (object_at k o).content k) (tasks-fired o (object_at k o).content k) s
served-goes_on None k s =
    let e : Effect = record { kernel = record k { lock = 0; processing = false }; outcome = Quiet TmrEnd; blocks = [] } in
    let same : IsServed e.kernel = served-tasks k e.kernel refl s in
    choice (λ (f : Effect). IsServed f.kernel) (k.timer_signals == 0) (waits_for_signal 61 e) e (served-waits 61 e (omega arith) same) same

served-timer_unit : (k : Kernel) → IsServed k → IsServed (timer_unit k).kernel
served-timer_unit k s =
    choice (λ (e : Effect). IsServed e.kernel) k.processing _ _ (served-goes_on (due_timer k.timer_count k.timer_matches) k s) (served-tasks k (timer_counts k).kernel refl s)

served-unit : (x : ℕ) (k : Kernel) → IsLinked k → IsServed k → IsServed (unit_effect x k).kernel
served-unit x k v s = choice (λ (e : Effect). IsServed e.kernel) (x == tick_task) (tick_unit k) (timer_unit k) (served-tick_unit k v s) (served-timer_unit k s)

pub served-work : (c : Course) (w : WorkRecord) (q : Plan) (seen : Seen) (k : Kernel) → c ≡ course_of w → IsLinked k → IsPlannedAs c w q seen k → IsServed k → IsServed (effect_of w k).kernel
served-work OfCall w q seen k e v h s = served-call w q seen k v h s
served-work OfTick w q seen k e v h s = subst (λ (f : Effect). IsServed f.kernel) (sym (tick-effect w k e)) (served-time_tick w.interrupted w.compared k s)
served-work OfUnit w q seen k e v h s = subst (λ (f : Effect). IsServed f.kernel) (sym (unit-effect-is w k e)) (served-unit w.caller k v s)
