-- Calls on the scheduler: what is decided of them is what their services do.
use Rattle.std.proofs.Common.{◌≡◌, ◌≢◌, ℕ, zero, suc, ◌<◌, ◌≤◌, ◌+◌, ◌-◌, List, [], ◌∷◌, refl, sym, ap, ◌∙◌, subst, Bool, true, false, not, ◌&&◌, ◌||◌, Option, Some, None, inl, inr, arith}
use Rattle.std.specs.Prelude.{if◌then◌else◌, ◌==◌, nat_lt, slice_get, All}
use Rattle.std.proofs.lemmas.Bool.{false≢true, true≢false}
use Rattle.std.proofs.lemmas.Bool.Decides.{eqb_tells, leb_tells}
use Rattle.kern_base.specs.declared.numbers.TaskId.{TaskId}
use Rattle.kern_base.specs.declared.services.Service.{Service}
use Rattle.kern_base.specs.declared.services.Service.TheVariants.{SchedLock, SchedUnlock, TimeGet, TimeDly, TimeDlyResume, TaskSuspend, TaskResume, RoundRobinYield, TimeTick}
use Rattle.kern_base.specs.declared.requests.Request.{Request}
use Rattle.kern_base.specs.declared.errors.OsErr.{OsErr}
use Rattle.kern_base.specs.declared.errors.OsErr.TheVariants.{Depth, LockOverflow, RoundRobinAlone, RoundRobinDisabled, SchedLocked, SchedNotLocked, TaskResumeSelf, ZeroDelay}
use Rattle.kern_base.specs.declared.outcomes.Around.{Around}
use Rattle.kern_base.specs.declared.outcomes.Decision.{Decision}
use Rattle.kern_base.specs.declared.outcomes.Decision.TheVariants.{Done, Block}
use Rattle.kern_base.specs.declared.outcomes.Waiting.{Waiting}
use Rattle.kern_base.specs.declared.outcomes.Waiting.TheVariants.{No, Delay, Obj, TaskSem, TaskQ, Multi, Signal}
use Rattle.kern_model.specs.State.{Kernel, is_zero, list_at, nesting_limit, prio_of, task_at, timer_task}
use Rattle.kern_model.specs.Call.{call_of}
use Rattle.kern_model.specs.Checks.{call_error, named_task}
use Rattle.kern_model.specs.Effect.{answer, blocks_on, done, fine, refused, waits_for}
use Rattle.served.specs.Served.{program_serves}
use Rattle.kern_model.specs.Services.{perform}
use Rattle.kern_model.specs.RoundRobin.{is_alone, rotates}
use Rattle.kern_model.specs.Tasks.{resumes, suspends, unlocks}
use Rattle.kern_model.proofs.Lemmas.{choice}
use Rattle.kern_model.specs.Time.{delay_of, delays, resumes_delayed}
use Rattle.decisions.specs.Decided.{decided, ended_delay, replied}
use Rattle.decisions.specs.Around.{first_waiter}
use Rattle.decisions.specs.Rows.{refusal}
use Rattle.round_robin.specs.Turns.{yield_decision, yield_to}
use Rattle.tick_timers.specs.Delays.{delay_decision, is_delayed, resume_decision}
use Rattle.kernel_records.specs.RecordsRecord.{with_lists}
use Rattle.kernel_records.specs.Suspension.{resumed_from, suspend_decision, task_resume_decision}
use Rattle.kernel_records.specs.SchedulerCalls.{is_scheduler_call, is_tick, lock_after, lock_decision, scheduler_decision, scheduler_decision_for, scheduler_waiters, turn_waiters, unlocked_to}
use Rattle.kernel_records.specs.Deciding.{IsRow, IsServedDecision, acts, decision_of, effect_for, scheduler_change, waiters_of}
use Rattle.kernel_records.proofs.DecidingFacts.{about-scheduler, acting, own-scheduler, scheduler-lists}
use Rattle.kernel_records.proofs.RowFacts.{performed, waiters-scheduler}

-- the kernel with this lock
abbrev locked : ℕ → Kernel → Kernel
locked n k = record k { lock = n }

-- Each service.

row-lock : (b : Bool) (r : Request) (x h : ℕ) (xs : List ℕ) (k : Kernel) → (if b then refused k LockOverflow else done (locked (k.lock + 1) k) (fine (k.lock + 1))) ≡ (let d = if b then refusal LockOverflow else Done (fine (k.lock + 1)) in decided d SchedLock r x h xs (locked (lock_after SchedLock d k.lock) k))
row-lock true r x h xs k = refl
row-lock false r x h xs k = refl

unlock-left : (n lock : ℕ) (r : Request) (x h : ℕ) (xs : List ℕ) (k : Kernel) → lock - 1 ≡ n → unlocks n k ≡ decided (unlocked_to n) SchedUnlock r x h xs (locked (lock_after SchedUnlock (unlocked_to n) lock) k)
unlock-left zero lock r x h xs k e = ap (λ n. done (locked n k) (fine 0)) (sym e)
unlock-left (suc n) lock r x h xs k e = ap (λ m. done (locked m k) (answer SchedLocked (suc n))) (sym e)

row-unlock : (b : Bool) (r : Request) (x h : ℕ) (xs : List ℕ) (k : Kernel) → (if b then refused k SchedNotLocked else unlocks (k.lock - 1) k) ≡ (let d = if b then refusal SchedNotLocked else unlocked_to (k.lock - 1) in decided d SchedUnlock r x h xs (locked (lock_after SchedUnlock d k.lock) k))
row-unlock true r x h xs k = refl
row-unlock false r x h xs k = unlock-left (k.lock - 1) k.lock r x h xs k refl

row-delay : (b : Bool) (n : ℕ) (r : Request) (x h : ℕ) (xs : List ℕ) (k : Kernel) → delay_of r k.ticks ≡ n → (if b then delays n x k else refused k SchedLocked) ≡ (let d = delay_decision (not b) n in decided d TimeDly r x h xs (locked (lock_after TimeDly d k.lock) k))
row-delay true zero r x h xs k e = refl
row-delay true (suc n) r x h xs k e = ap (λ m. blocks_on k x (waits_for Delay [] m)) (sym e)
row-delay false n r x h xs k e = refl

row-resume : (w : Waiting) (r : Request) (x y h : ℕ) (k : Kernel) → resumes_delayed w y h k ≡ (let d = resume_decision (is_delayed w) in decided d TimeDlyResume r x h (if is_delayed w then y ∷ [] else []) (locked (lock_after TimeDlyResume d k.lock) k))
row-resume Delay r x y h k = refl
row-resume No r x y h k = refl
row-resume (Obj s) r x y h k = refl
row-resume TaskSem r x y h k = refl
row-resume TaskQ r x y h k = refl
row-resume Multi r x y h k = refl
row-resume Signal r x y h k = refl

row-suspend : (b c own : Bool) (r : Request) (x y h : ℕ) (xs : List ℕ) (k : Kernel) → (if b then refused k SchedLocked else (if c then refused k Depth else suspends own y k)) ≡ (let d = if b then refusal SchedLocked else (if c then refusal Depth else Done (fine 0)) in if acts d then suspends own y k else decided d TaskSuspend r x h xs (locked (lock_after TaskSuspend d k.lock) k))
row-suspend true c own r x y h xs k = refl
row-suspend false true own r x y h xs k = refl
row-suspend false false own r x y h xs k = refl

row-task-resume : (own : Bool) (n : ℕ) (r : Request) (x y h : ℕ) (xs : List ℕ) (k : Kernel) → (if own then refused k TaskResumeSelf else resumes n y h k) ≡ (let d = task_resume_decision own n in if acts d then resumes n y h k else decided d TaskResume r x h xs (locked (lock_after TaskResume d k.lock) k))
row-task-resume true n r x y h xs k = refl
row-task-resume false zero r x y h xs k = refl
row-task-resume false (suc n) r x y h xs k = refl

row-yield : (b off alone : Bool) (r : Request) (x h : ℕ) (xs : List ℕ) (k : Kernel) → (if b then refused k SchedLocked else (if off then refused k RoundRobinDisabled else (if alone then refused k RoundRobinAlone else rotates x (prio_of k x) k))) ≡ (let d = if b then refusal SchedLocked else (if off then refusal RoundRobinDisabled else (if alone then refusal RoundRobinAlone else Done (fine 0))) in effect_for RoundRobinYield d r x h xs k (locked (lock_after RoundRobinYield d k.lock) k))
row-yield true off alone r x h xs k = refl
row-yield false true alone r x h xs k = refl
row-yield false false true r x h xs k = refl
row-yield false false false r x h xs k = refl

-- one has its turn exactly where the ready list has another task
yields-alone : (x : ℕ) (xs : List ℕ) → (if is_alone xs then refusal RoundRobinAlone else Done (fine 0)) ≡ yield_to (first_waiter (turn_waiters x xs))
yields-alone x [] = refl
yields-alone x (y ∷ []) = refl
yields-alone x (y ∷ z ∷ zs) = choice (λ (ys : List ℕ). Done (fine 0) ≡ yield_to (first_waiter ys)) (y == x) (z ∷ zs) (y ∷ z ∷ zs) refl refl

yield-decided : (seen : Around) (x : ℕ) (k : Kernel) → seen.locked ≡ not (k.lock == 0) → seen.first ≡ first_waiter (turn_waiters x (list_at k.ready (prio_of k x)))
    → (if not (k.lock == 0) then refusal SchedLocked else (if not k.settings.round_robin then refusal RoundRobinDisabled else (if is_alone (list_at k.ready (prio_of k x)) then refusal RoundRobinAlone else Done (fine 0))))
    ≡ yield_decision seen.first seen.locked k.settings.round_robin
yield-decided seen x k e f =
    let on = k.settings.round_robin in
    ap (λ (d : Decision). if not (k.lock == 0) then refusal SchedLocked else (if not on then refusal RoundRobinDisabled else d)) (yields-alone x (list_at k.ready (prio_of k x)))
    ∙ ap (λ (o : Option TaskId). yield_decision o (not (k.lock == 0)) on) (sym f)
    ∙ ap (λ (b : Bool). yield_decision seen.first b on) (sym e)

-- the lock is on
not-zero : (n : ℕ) → 1 ≤ n → (n == 0) ≡ false
not-zero n h = elim (eqb_tells n 0) [ inl e ↦ absurd (let z = e.1 in omega arith) | inr e ↦ e.0 ]

is-zero : (n : ℕ) → n < 1 → (n == 0) ≡ true
is-zero n h = elim (eqb_tells n 0) [ inl e ↦ e.0 | inr e ↦ absurd (e.1 (omega arith)) ]

pub is-locked : (n : ℕ) → nat_lt 0 n ≡ not (n == 0)
is-locked n = elim (leb_tells 1 n) [ inl a ↦ a.0 ∙ sym (ap not (not-zero n a.1)) | inr b ↦ b.0 ∙ sym (ap not (is-zero n b.1)) ]

row-for : (s : Service) (r : Request) (seen : Around) (i h : ℕ) (k : Kernel) → is_scheduler_call s ≡ true → is_tick s ≡ false → seen.first ≡ first_waiter (scheduler_waiters s r seen.caller.0 k) → seen.locked ≡ not (k.lock == 0) → perform s (call_of r seen.caller.0 i h) k ≡ (let d = scheduler_decision_for s r seen k in effect_for s d r seen.caller.0 h (scheduler_waiters s r seen.caller.0 k) k (locked (lock_after s d k.lock) k))
row-for SchedLock r seen i h k n t f e = row-lock (k.lock == nesting_limit) r seen.caller.0 h [] k
row-for SchedUnlock r seen i h k n t f e = row-unlock ((k.lock == 0) || ((k.lock == 1) && (seen.caller.0 == timer_task))) r seen.caller.0 h [] k
row-for TimeGet r seen i h k n t f e = refl
row-for TimeDly r seen i h k n t f e =
    row-delay (k.lock == 0) (delay_of r k.ticks) r seen.caller.0 h [] k refl
    ∙ ap (λ b. let d = delay_decision b (delay_of r k.ticks) in decided d TimeDly r seen.caller.0 h [] (locked (lock_after TimeDly d k.lock) k)) (sym e)
row-for TimeDlyResume r seen i h k n t f e = let y = named_task r seen.caller.0 in row-resume (task_at k y).waiting r seen.caller.0 y h k
row-for TaskSuspend r seen i h k n t f e =
    let x = seen.caller.0 in
    let y = named_task r x in
    row-suspend ((y == x) && nat_lt 0 k.lock) ((task_at k y).suspended == nesting_limit) (y == x) r x y h [] k
    ∙ ap (λ l. let d = suspend_decision ((y == x) && l) (task_at k y).suspended in effect_for TaskSuspend d r x h [] k (locked (lock_after TaskSuspend d k.lock) k)) (is-locked k.lock ∙ sym e)
row-for TaskResume r seen i h k n t f e =
    let x = seen.caller.0 in
    let y = named_task r x in
    row-task-resume (y == x) (task_at k y).suspended r x y h [] k
row-for RoundRobinYield r seen i h k n t f e =
    let x = seen.caller.0 in
    let ws = turn_waiters x (list_at k.ready (prio_of k x)) in
    row-yield (not (k.lock == 0)) (not k.settings.round_robin) (is_alone (list_at k.ready (prio_of k x))) r x h ws k
    ∙ ap (λ (d : Decision). effect_for RoundRobinYield d r x h ws k (locked (lock_after RoundRobinYield d k.lock) k)) (yield-decided seen x k e f)
row-for TimeTick r seen i h k n t f e = absurd (true≢false t)
row-for _ r seen i h k n t f e = absurd (false≢true n)

-- what is decided is what the service does, whatever the lists are
pub row-scheduler : (r : Request) (seen : Around) (d : Decision) (k : Kernel) → program_serves r.service ≡ true → call_error r seen.caller.0 k ≡ None → is_scheduler_call r.service ≡ true → is_tick r.service ≡ false → d ≡ scheduler_decision r seen k → IsRow r seen d k
row-scheduler r seen d k s p n t e l i h around =
    let j = with_lists k l in
    let x = seen.caller.0 in
    performed r seen d k s p l i h
    ∙ row-for r.service r seen i h j n t (around.first ∙ ap first_waiter (waiters-scheduler r x j n)) around.locked
    ∙ ap (λ (f : Decision). effect_for r.service f r x h (scheduler_waiters r.service r x j) j (locked (lock_after r.service f j.lock) j)) (sym (e ∙ scheduler-lists r.service r seen k l))
    ∙ ap (λ (ys : List ℕ). effect_for r.service d r x h ys j (scheduler_change r d j)) (sym (waiters-scheduler r x j n))
    ∙ ap (effect_for r.service d r x h (waiters_of r x j) j) (sym (own-scheduler r x d j n))

-- it is one of those that come of services that are served

answer-served : (b : Bool) (s : Service) (err : OsErr) (d : Decision) → IsServedDecision d s → IsServedDecision (if b then refusal err else d) s
answer-served true s err d h = tt
answer-served false s err d h = h

left-served : (n : ℕ) → IsServedDecision (unlocked_to n) SchedUnlock
left-served zero = tt
left-served (suc n) = tt

resume-served : (b : Bool) → IsServedDecision (resume_decision b) TimeDlyResume
resume-served true = refl
resume-served false = tt

resumed-served : (n : ℕ) → IsServedDecision (resumed_from n) TaskResume
resumed-served zero = tt
resumed-served (suc n) = tt

yield-served : (o : Option TaskId) → IsServedDecision (yield_to o) RoundRobinYield
yield-served None = tt
yield-served (Some z) = tt

pub scheduler-served : (s : Service) (r : Request) (seen : Around) (k : Kernel) → IsServedDecision (scheduler_decision_for s r seen k) s
scheduler-served SchedLock r seen k = answer-served (k.lock == nesting_limit) SchedLock LockOverflow (Done (fine (k.lock + 1))) tt
scheduler-served SchedUnlock r seen k = answer-served ((k.lock == 0) || ((k.lock == 1) && (seen.caller.0 == timer_task))) SchedUnlock SchedNotLocked (unlocked_to (k.lock - 1)) (left-served (k.lock - 1))
scheduler-served TimeGet r seen k = tt
scheduler-served TimeDly r seen k = answer-served seen.locked TimeDly SchedLocked _ (answer-served (is_zero (delay_of r k.ticks)) TimeDly ZeroDelay Block refl)
scheduler-served TimeDlyResume r seen k = resume-served (is_delayed (task_at k (named_task r seen.caller.0)).waiting)
scheduler-served TaskSuspend r seen k =
    let y = named_task r seen.caller.0 in
    answer-served ((y == seen.caller.0) && seen.locked) TaskSuspend SchedLocked _ (answer-served ((task_at k y).suspended == nesting_limit) TaskSuspend Depth (Done (fine 0)) tt)
scheduler-served TaskResume r seen k =
    let y = named_task r seen.caller.0 in
    answer-served (y == seen.caller.0) TaskResume TaskResumeSelf _ (resumed-served (task_at k y).suspended)
scheduler-served RoundRobinYield r seen k =
    answer-served seen.locked RoundRobinYield SchedLocked _ (answer-served (not k.settings.round_robin) RoundRobinYield RoundRobinDisabled (yield_to seen.first) (yield-served seen.first))
scheduler-served _ r seen k = tt

-- a lock that is taken was not taken as often as it may be

lock-acts : (b : Bool) (n : ℕ) → acts (if b then refusal LockOverflow else Done (fine n)) ≡ true → b ≡ false
lock-acts true n h = absurd (false≢true h)
lock-acts false n h = refl

pub lock-below : (r : Request) (seen : Around) (d : Decision) (k : Kernel) → r.service ≡ SchedLock → d ≡ decision_of r seen k → acts d ≡ true → k.lock ≢ nesting_limit
lock-below r seen d k s e a =
    let it = acting r seen d k e a in
    let n : is_scheduler_call r.service ≡ true = ap is_scheduler_call s in
    let is : d ≡ lock_decision k.lock = it.decided ∙ about-scheduler r seen k n ∙ ap (λ t. scheduler_decision_for t r seen k) s in
    let other : (k.lock == nesting_limit) ≡ false = lock-acts (k.lock == nesting_limit) (k.lock + 1) (sym (ap acts is) ∙ a) in
    elim (eqb_tells k.lock nesting_limit) [
      | inl t ↦ absurd (false≢true (sym other ∙ t.0))
      | inr t ↦ t.1
    ]

-- the answer of the call that ends the delay of a task

pub replied-first : (s : Service) (xs : List ℕ) (x : ℕ) (k : Kernel) → s ≡ TimeDlyResume → Some x ≡ slice_get xs 0 → replied s xs k ≡ ended_delay (task_at k x).suspended
replied-first s xs x k e h = ap (λ t. replied t xs k) e ∙ first-of xs h
  where
    first-of : (ys : List ℕ) → Some x ≡ slice_get ys 0 → replied TimeDlyResume ys k ≡ ended_delay (task_at k x).suspended
    first-of [] i = absurd cc
    first-of (y ∷ ys) i = let same : y ≡ x = cc in ap (λ n. ended_delay (task_at k n).suspended) same

pub first-below : (xs : List ℕ) (x : ℕ) → All (λ y. y < 64) xs → Some x ≡ slice_get xs 0 → x < 64
first-below [] x all h = absurd cc
first-below (y ∷ ys) x all h = let same : y ≡ x = cc in subst (λ n. n < 64) same (all 0 y (omega arith))

-- none waits for what a call is about that ends no delay and is no yield
pub waiters-no_call : (s : Service) (r : Request) (x : ℕ) (k : Kernel) → (s ≡ TimeDlyResume → ⊥) → (s ≡ RoundRobinYield → ⊥) → scheduler_waiters s r x k ≡ []
waiters-no_call TimeDlyResume r x k a b = absurd (a refl)
waiters-no_call RoundRobinYield r x k a b = absurd (b refl)
waiters-no_call _ r x k a b = refl
