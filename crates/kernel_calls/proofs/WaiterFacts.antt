-- Who waits for what a call is about: application tasks, of which none stands twice.
use Rattle.std.proofs.Common.{◌≡◌, ℕ, ◌≤◌, List, [], ◌∷◌, refl, sym, ap, ◌∙◌, subst, inl, inr, arith, Bool, true, false, not}
use Rattle.std.specs.Prelude.{if◌then◌else◌, ◌&&◌}
use Rattle.std.proofs.lemmas.Bool.{false≢true, true≢false}
use Rattle.std.proofs.lemmas.Bool.Decides.{eqb_tells, leb_tells}
use Rattle.std.proofs.lemmas.List.{get_or_past}
use Rattle.kern_base.specs.declared.services.Service.{Service}
use Rattle.kern_base.specs.declared.services.Service.TheVariants.{TaskQPost, TaskQPend, TaskQPendAbort, TimeDlyResume, RoundRobinYield, FlagPost}
use Rattle.kern_base.specs.declared.requests.Request.{Request}
use Rattle.kern_base.specs.declared.outcomes.Decision.{Decision}
use Rattle.kern_base.specs.declared.outcomes.Decision.TheVariants.{Done, Block, Wake}
use Rattle.kern_base.specs.declared.outcomes.Who.{Who}
use Rattle.kern_base.specs.declared.outcomes.Who.TheVariants.{First, All, Matching}
use Rattle.kern_base.specs.declared.outcomes.Waiting.{Waiting}
use Rattle.kern_base.specs.declared.outcomes.Waiting.TheVariants.{No, Delay, Obj, TaskSem, TaskQ, Multi, Signal}
use Rattle.kern_model.specs.State.{Kernel, Task, no_task, task_at, is_zero, waits_for_nothing}
use Rattle.kern_model.specs.Checks.{argument, named_task}
use Rattle.kern_model.specs.TaskObjects.{waits_for_queue, waits_for_semaphore}
use Rattle.kern_model.specs.Valid.{AllWait, IsLinked}
use Rattle.kern_model.proofs.Lemmas.{AllWait-pend, and_first, and_second}
use Rattle.task_objects.specs.Rows.{is_task_call, target, waits_for_it}
use Rattle.tick_timers.specs.Delays.{is_delayed}
use Rattle.kernel_records.specs.Deciding.{IsServedDecision, waiters_of}
use Rattle.kernel_records.specs.Served.{is_served_wake, may_wake_all}
use Rattle.kernel_records.specs.SchedulerCalls.{is_scheduler_call, scheduler_waiters}
use Rattle.kernel_records.proofs.RowFacts.{waiters-object, waiters-scheduler, waiters-task}

-- the waits of tasks other than the application's
abbrev pub IsIdleWait : Waiting → Type 0
IsIdleWait No = Unit {0}
IsIdleWait Signal = Unit {0}
IsIdleWait _ = ⊥

idle-nothing : (w : Waiting) → waits_for_nothing w ≡ true → IsIdleWait w
idle-nothing No h = tt
idle-nothing Signal h = tt
idle-nothing Delay h = absurd (true≢false (sym h))
idle-nothing (Obj s) h = absurd (true≢false (sym h))
idle-nothing TaskSem h = absurd (true≢false (sym h))
idle-nothing TaskQ h = absurd (true≢false (sym h))
idle-nothing Multi h = absurd (true≢false (sym h))

idle-if : (b : Bool) → IsIdleWait (if b then Signal else No)
idle-if true = tt
idle-if false = tt

-- who does not live, does not wait
idle-dead : (b : Bool) (t : Task) → waits_for_nothing t.waiting ≡ b → (waits_for_nothing t.waiting ≡ false → t.alive ≡ true) → t.alive ≡ false → waits_for_nothing t.waiting ≡ true
idle-dead true t e lives dead = e
idle-dead false t e lives dead = absurd (true≢false (sym (lives e) ∙ dead))

pub internal-wait : (k : Kernel) → IsLinked k → (x : ℕ) → 60 ≤ x → IsIdleWait (task_at k x).waiting
internal-wait k v x h =
    elim (eqb_tells 60 x) [
      | inl e ↦ subst (λ y. IsIdleWait (task_at k y).waiting) e.1 (subst IsIdleWait (sym v.internal.tick_waits) (idle-if (is_zero k.tick_signals)))
      | inr n ↦
          elim (eqb_tells 61 x) [
            | inl e ↦ subst (λ y. IsIdleWait (task_at k y).waiting) e.1 (subst IsIdleWait (sym v.internal.timer_waits) (idle-if (is_zero k.timer_signals && not k.processing)))
            | inr m ↦
                elim (eqb_tells 62 x) [
                  | inl e ↦
                      subst (λ y. IsIdleWait (task_at k y).waiting) e.1
                      (idle-nothing (task_at k 62).waiting (and_first (waits_for_nothing (task_at k 62).waiting) (is_zero (task_at k 62).suspended) (and_second (task_at k 62).alive (waits_for_nothing (task_at k 62).waiting && is_zero (task_at k 62).suspended) v.internal.idle)))
                  | inr p ↦
                      elim (eqb_tells 63 x) [
                        | inl e ↦
                            subst (λ y. IsIdleWait (task_at k y).waiting) e.1
                            (idle-nothing (task_at k 63).waiting (idle-dead (waits_for_nothing (task_at k 63).waiting) (task_at k 63) refl (v.tasks.each_task 63).lives v.internal.handler))
                        | inr q ↦
                            let many = v.sizes.tasks in
                            subst (λ (t : Task). IsIdleWait t.waiting) (sym (get_or_past k.tasks x no_task (omega (arith, many, h, n.1, m.1, p.1, q.1)))) tt
                      ]
                ]
          ]
    ]

-- a task that waits for its own semaphore or queue
own-queue : (w : Waiting) → waits_for_queue w ≡ true → (waits_for_nothing w ≡ false) × (IsIdleWait w → ⊥)
own-queue TaskQ h = (refl, λ i. i)
own-queue _ h = absurd (true≢false (sym h))

own-semaphore : (w : Waiting) → waits_for_semaphore w ≡ true → (waits_for_nothing w ≡ false) × (IsIdleWait w → ⊥)
own-semaphore TaskSem h = (refl, λ i. i)
own-semaphore _ h = absurd (true≢false (sym h))

own-waits : (s : Service) (w : Waiting) → waits_for_it s w ≡ true → (waits_for_nothing w ≡ false) × (IsIdleWait w → ⊥)
own-waits TaskQPost w h = own-queue w h
own-waits TaskQPend w h = own-queue w h
own-waits TaskQPendAbort w h = own-queue w h
own-waits _ w h = own-semaphore w h

-- a task in a delay
delay-waits : (w : Waiting) → is_delayed w ≡ true → (waits_for_nothing w ≡ false) × (IsIdleWait w → ⊥)
delay-waits Delay h = (refl, λ i. i)
delay-waits _ h = absurd (true≢false (sym h))

-- one task, where it waits
AllWait-one : (y : ℕ) (k : Kernel) → IsLinked k → (waits_for_nothing (task_at k y).waiting ≡ false) × (IsIdleWait (task_at k y).waiting → ⊥) → AllWait k (y ∷ [])
AllWait-one y k v waits =
    elim (leb_tells 60 y) [
      | inl d ↦ absurd (waits.1 (internal-wait k v y d.1))
      | inr d ↦ (d.1, waits.0, refl, tt)
    ]

AllWait-if : (b : Bool) (s : Service) (y : ℕ) (k : Kernel) → IsLinked k → waits_for_it s (task_at k y).waiting ≡ b → AllWait k (if b then y ∷ [] else [])
AllWait-if false s y k v e = tt
AllWait-if true s y k v e = AllWait-one y k v (own-waits s (task_at k y).waiting e)

AllWait-delayed : (b : Bool) (y : ℕ) (k : Kernel) → IsLinked k → is_delayed (task_at k y).waiting ≡ b → AllWait k (if b then y ∷ [] else [])
AllWait-delayed false y k v e = tt
AllWait-delayed true y k v e = AllWait-one y k v (delay-waits (task_at k y).waiting e)

AllWait-scheduler : (s : Service) (r : Request) (x : ℕ) (k : Kernel) → (s ≡ RoundRobinYield → ⊥) → IsLinked k → AllWait k (scheduler_waiters s r x k)
AllWait-scheduler TimeDlyResume r x k o v = let y = named_task r x in AllWait-delayed (is_delayed (task_at k y).waiting) y k v refl
AllWait-scheduler RoundRobinYield r x k o v = absurd (o refl)
AllWait-scheduler _ r x k o v = tt

AllWait-objects : (b : Bool) (r : Request) (x : ℕ) (k : Kernel) → IsLinked k → is_scheduler_call r.service ≡ false → is_task_call r.service ≡ b → AllWait k (waiters_of r x k)
AllWait-objects true r x k v n t =
    let y = target r.service r x in
    subst (AllWait k) (sym (waiters-task r x k n t)) (AllWait-if (waits_for_it r.service (task_at k y).waiting) r.service y k v refl)
AllWait-objects false r x k v n t = subst (AllWait k) (sym (waiters-object r x k n t)) (AllWait-pend k v (argument r 0))

AllWait-by : (b : Bool) (r : Request) (x : ℕ) (k : Kernel) → (r.service ≡ RoundRobinYield → ⊥) → IsLinked k → is_scheduler_call r.service ≡ b → AllWait k (waiters_of r x k)
AllWait-by true r x k o v n = subst (AllWait k) (sym (waiters-scheduler r x k n)) (AllWait-scheduler r.service r x k o v)
AllWait-by false r x k o v n = AllWait-objects (is_task_call r.service) r x k v n refl

-- a yield wakes nobody
wakes-other : (who : Who) (s : Service) → IsServedDecision (Wake who) s → s ≡ RoundRobinYield → ⊥
wakes-other First s h e = false≢true (sym (ap is_served_wake e) ∙ h)
wakes-other All s h e = false≢true (sym (ap may_wake_all e) ∙ h)
wakes-other Matching s h e = other (sym h ∙ e)
  where
    other : FlagPost ≡ RoundRobinYield → ⊥
    other f = absurd cc

-- Those wait that a decision wakes.
abbrev pub AreWaiting : Decision → Kernel → List ℕ → Type 0
AreWaiting (Wake who) k xs = AllWait k xs
AreWaiting d k xs = Unit {0}

pub AllWait-woken : (d : Decision) (r : Request) (x : ℕ) (k : Kernel) → IsServedDecision d r.service → IsLinked k → AreWaiting d k (waiters_of r x k)
AllWait-woken (Done a) r x k s v = tt
AllWait-woken Block r x k s v = tt
AllWait-woken (Wake who) r x k s v = AllWait-by (is_scheduler_call r.service) r x k (wakes-other who r.service s) v refl
