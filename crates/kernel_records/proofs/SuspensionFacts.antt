-- Tasks that are suspended, resumed or that yield: they are there, and what a call does to them is made in the records.
use Rattle.std.proofs.Common.{◌≡◌, ℕ, zero, suc, ◌<◌, ◌≤◌, ◌-◌, List, [], ◌∷◌, length, refl, sym, ap, ◌∙◌, subst, Bool, true, false, not, ◌&&◌, Option, Some, None, arith}
use Rattle.std.specs.Prelude.{◌==◌, if◌then◌else◌, slice_set}
use Rattle.std.proofs.lemmas.Bool.{false≢true}
use Rattle.kern_base.specs.Checks.{names_task}
use Rattle.kern_base.specs.declared.numbers.TaskId.{TaskId}
use Rattle.kern_base.specs.declared.errors.OsErr.TheVariants.{SchedLocked, RoundRobinDisabled}
use Rattle.kern_base.specs.declared.services.Service.{Service}
use Rattle.kern_base.specs.declared.services.Service.TheVariants.{TaskSuspend, TaskResume, RoundRobinYield}
use Rattle.kern_base.specs.declared.requests.Request.{Request}
use Rattle.kern_base.specs.declared.outcomes.Around.{Around}
use Rattle.kern_base.specs.declared.outcomes.Answer.{Answer}
use Rattle.kern_base.specs.declared.outcomes.Decision.{Decision}
use Rattle.kern_base.specs.declared.outcomes.Decision.TheVariants.{Done, Block, Wake}
use Rattle.kern_base.specs.declared.outcomes.Who.TheVariants.{First, All, Matching}
use Rattle.kern_model.specs.State.{Kernel, Task, count_of, list_at, prio_of, task_at, update_task}
use Rattle.kern_model.specs.Checks.{named_task}
use Rattle.kern_model.specs.Effect.{Effect, answers, fine}
use Rattle.kern_model.specs.RoundRobin.{rotates}
use Rattle.kern_model.specs.Tasks.{resumes}
use Rattle.kern_model.proofs.Lemmas.{equal}
use Rattle.decisions.specs.Around.{first_waiter}
use Rattle.decisions.specs.Rows.{refusal}
use Rattle.round_robin.specs.Turns.{refilled, yield_decision, yield_to}
use Rattle.message_store.specs.Store.{OwnObjects}
use Rattle.kernel_records.specs.ObjectView.{with_own}
use Rattle.kernel_records.specs.RecordsRecord.{without_lists}
use Rattle.kernel_records.specs.Suspension.{acts, moves_in_lists, moves_task, outcome_moved, records_moved, refilled_first, resumed_task, suspension_of, task_moved, task_resume_decision}
use Rattle.kernel_records.specs.SchedulerCalls.{is_scheduler_call, scheduler_decision_for, scheduler_waiters, turn_waiters}
use Rattle.kernel_records.specs.Deciding.{IsServedDecision, decision_of, waiters_of}
use Rattle.kernel_records.proofs.DecidingFacts.{about-scheduler, acting}
use Rattle.kernel_records.proofs.RowFacts.{waiters-scheduler}
use Rattle.kernel_records.proofs.TaskCalls.{alive-inside, named-alive}
use Rattle.kernel_records.proofs.TickFacts.{new-head, same-head}

both : (b c : Bool) → (b && c) ≡ true → (b ≡ true) × (c ≡ true)
both true c h = (refl, h)
both false c h = absurd (false≢true h)

suspension-scheduler : (s : Service) → moves_in_lists s ≡ true → is_scheduler_call s ≡ true
suspension-scheduler TaskSuspend h = refl
suspension-scheduler TaskResume h = refl
suspension-scheduler RoundRobinYield h = refl
suspension-scheduler _ h = absurd (false≢true h)

suspension-names : (s : Service) → moves_in_lists s ≡ true → (s ≡ RoundRobinYield → ⊥) → names_task s ≡ true
suspension-names TaskSuspend h n = refl
suspension-names TaskResume h n = refl
suspension-names RoundRobinYield h n = absurd (n refl)
suspension-names _ h n = absurd (false≢true h)

-- a call other than OSTaskSuspend resumes
pub moved-other : (s : Service) (own : Bool) (t : Task) → (s ≡ TaskSuspend → ⊥) → task_moved s own t ≡ resumed_task t
moved-other TaskSuspend own t n = absurd (n refl)
moved-other _ own t n = refl

-- and what is made of a call other than a yield is in the task's record
pub records-other : (s : Service) (y x : ℕ) (first : Option TaskId) (k : Kernel) → (s ≡ RoundRobinYield → ⊥) → records_moved s y x first k ≡ record k { tasks = update_task k.tasks y (task_moved s (y == x)) }
records-other RoundRobinYield y x first k n = absurd (n refl)
records-other _ y x first k n = refl

pub outcome-other : (s : Service) (own : Bool) → (s ≡ TaskSuspend → ⊥) → outcome_moved s own ≡ answers (fine 0)
outcome-other TaskSuspend own n = absurd (n refl)
outcome-other _ own n = refl

-- the change of a task has no part in its own semaphore and queue
pub moved-own : (s : Service) (own : Bool) (o : OwnObjects) (t : Task) → with_own o (task_moved s own t) ≡ task_moved s own (with_own o t)
moved-own TaskSuspend own o t = refl
moved-own _ own o t = refl

-- the task that a call suspends or resumes is there
pub moved-inside : (r : Request) (seen : Around) (d : Decision) (k : Kernel) → (r.service ≡ RoundRobinYield → ⊥) → d ≡ decision_of r seen k → moves_task r.service d ≡ true → named_task r seen.caller.0 < length k.tasks
moved-inside r seen d k n e m =
    let x = seen.caller.0 in
    let two = both (moves_in_lists r.service) (acts d) m in
    alive-inside k (named_task r x) (named-alive r x k (suspension-names r.service two.0 n) (acting r seen d k e two.1).passed)

-- a task that is resumed is suspended
abbrev pub IsMoving : Service → Task → Type 0
IsMoving TaskSuspend t = Unit {0}
IsMoving TaskResume t = (m : ℕ) × (t.suspended ≡ suc m)
IsMoving RoundRobinYield t = Unit {0}
IsMoving s t = ⊥

some-resumed : (own : Bool) (n : ℕ) → acts (task_resume_decision own n) ≡ true → (m : ℕ) × (n ≡ suc m)
some-resumed true n a = absurd (false≢true a)
some-resumed false zero a = absurd (false≢true a)
some-resumed false (suc n) a = (n, refl)

moving-by : (s : Service) (r : Request) (seen : Around) (d : Decision) (k : Kernel) → moves_in_lists s ≡ true → d ≡ scheduler_decision_for s r seen k → acts d ≡ true → IsMoving s (task_at k (named_task r seen.caller.0))
moving-by TaskSuspend r seen d k i e a = tt
moving-by TaskResume r seen d k i e a =
    let y = named_task r seen.caller.0 in some-resumed (y == seen.caller.0) (task_at k y).suspended (sym (ap acts e) ∙ a)
moving-by RoundRobinYield r seen d k i e a = tt
moving-by _ r seen d k i e a = absurd (false≢true i)

pub is-moving : (r : Request) (seen : Around) (d : Decision) (k : Kernel) → d ≡ decision_of r seen k → moves_task r.service d ≡ true → IsMoving r.service (task_at k (named_task r seen.caller.0))
is-moving r seen d k e m =
    let two = both (moves_in_lists r.service) (acts d) m in
    moving-by r.service r seen d k two.0 ((acting r seen d k e two.1).decided ∙ about-scheduler r seen k (suspension-scheduler r.service two.0)) two.1

-- ---- the yield

-- this task is the first of those whose turn comes once x has yielded, which stands once in its list
pub record IsTurn (x : ℕ) (first : Option TaskId) (k : Kernel) : Type 0 where
  pub once : (z : ℕ) → count_of z (list_at k.ready (prio_of k x)) ≤ 1
  pub waiter : first ≡ first_waiter (turn_waiters x (list_at k.ready (prio_of k x)))
  pub some : (z : TaskId) × (first ≡ Some z)

-- the same of a call that is a yield
abbrev pub IsTurning : Service → ℕ → Option TaskId → Kernel → Type 0
IsTurning RoundRobinYield x first k = IsTurn x first k
IsTurning s x first k = Unit {0}

yield-some : (b c : Bool) (first : Option TaskId) → acts (if b then refusal SchedLocked else (if c then refusal RoundRobinDisabled else yield_to first)) ≡ true → (z : TaskId) × (first ≡ Some z)
yield-some true c first a = absurd (false≢true a)
yield-some false true first a = absurd (false≢true a)
yield-some false false None a = absurd (false≢true a)
yield-some false false (Some z) a = (z, refl)

-- a yield that is not refused has seen one whose turn comes
pub yields-to : (r : Request) (seen : Around) (d : Decision) (k : Kernel) → r.service ≡ RoundRobinYield → d ≡ decision_of r seen k → acts d ≡ true → (z : TaskId) × (seen.first ≡ Some z)
yields-to r seen d k s e a =
    let n : is_scheduler_call r.service ≡ true = ap is_scheduler_call s in
    let is : d ≡ yield_decision seen.first seen.locked k.settings.round_robin =
    (acting r seen d k e a).decided ∙ about-scheduler r seen k n ∙ ap (λ t. scheduler_decision_for t r seen k) s in
    yield-some seen.locked (not k.settings.round_robin) seen.first (sym (ap acts is) ∙ a)

unlocked-if : (b c : Bool) (first : Option TaskId) → acts (if b then refusal SchedLocked else (if c then refusal RoundRobinDisabled else yield_to first)) ≡ true → b ≡ false
unlocked-if true c first a = absurd (false≢true a)
unlocked-if false c first a = refl

-- it is made outside of the lock
pub yields-unlocked : (r : Request) (seen : Around) (d : Decision) (k : Kernel) → r.service ≡ RoundRobinYield → d ≡ decision_of r seen k → acts d ≡ true → seen.locked ≡ false
yields-unlocked r seen d k s e a =
    let n : is_scheduler_call r.service ≡ true = ap is_scheduler_call s in
    let is : d ≡ yield_decision seen.first seen.locked k.settings.round_robin =
    (acting r seen d k e a).decided ∙ about-scheduler r seen k n ∙ ap (λ t. scheduler_decision_for t r seen k) s in
    unlocked-if seen.locked (not k.settings.round_robin) seen.first (sym (ap acts is) ∙ a)

-- a call that yields moves its caller, which stands once in its list
turning-by : (s : Service) (r : Request) (seen : Around) (d : Decision) (k : Kernel) → r.service ≡ s → d ≡ decision_of r seen k → acts d ≡ true → seen.first ≡ first_waiter (waiters_of r seen.caller.0 k) → ((z : ℕ) → count_of z (list_at k.ready (prio_of k seen.caller.0)) ≤ 1) → IsTurning s seen.caller.0 seen.first k
turning-by RoundRobinYield r seen d k s e a f once =
    let x = seen.caller.0 in
    record {
      once = once;
      waiter = f ∙ ap first_waiter (waiters-scheduler r x k (ap is_scheduler_call s) ∙ ap (λ t. scheduler_waiters t r x k) s);
      some = yields-to r seen d k s e a;
    }
turning-by _ r seen d k s e a f once = tt

pub is-turning : (r : Request) (seen : Around) (d : Decision) (k : Kernel) → d ≡ decision_of r seen k → moves_task r.service d ≡ true → seen.first ≡ first_waiter (waiters_of r seen.caller.0 k) → ((z : ℕ) → count_of z (list_at k.ready (prio_of k seen.caller.0)) ≤ 1) → IsTurning r.service seen.caller.0 seen.first k
is-turning r seen d k e m f once = turning-by r.service r seen d k refl e (both (moves_in_lists r.service) (acts d) m).1 f once

none-first : (first : Option TaskId) → first ≡ None → (z : TaskId) × (first ≡ Some z) → ⊥
none-first first e some = some≢none some.0 (sym some.1 ∙ e)
  where
    some≢none : (z : TaskId) → Some z ≡ None → ⊥
    some≢none z h = cc

-- the head after x has gone to the tail of this list
rotated-to : (b : Bool) (x y z : ℕ) (zs : List ℕ) (first : Option TaskId) (k : Kernel) → (y == x) ≡ b → list_at k.ready (prio_of k x) ≡ y ∷ z ∷ zs → ((w : ℕ) → count_of w (y ∷ z ∷ zs) ≤ 1)
    → first ≡ first_waiter (if b then z ∷ zs else y ∷ z ∷ zs) → without_lists (rotates x (prio_of k x) k).kernel ≡ refilled_first first (without_lists k)
rotated-to true x y z zs first k e is once f =
    let same : y ≡ x = equal y x e in
    let here : list_at k.ready (prio_of k x) ≡ x ∷ z ∷ zs = is ∙ ap (λ n. n ∷ z ∷ zs) same in
    let alone : (w : ℕ) → count_of w (x ∷ z ∷ zs) ≤ 1 = λ w. subst (λ n. count_of w (n ∷ z ∷ zs) ≤ 1) same (once w) in
    ap (λ n. refilled n (without_lists k)) (new-head k.ready (prio_of k x) x z zs here alone) ∙ ap (λ o. refilled_first o (without_lists k)) (sym f)
rotated-to false x y z zs first k e is once f =
    ap (λ n. refilled n (without_lists k)) (same-head k.ready (prio_of k x) x y (z ∷ zs) is e) ∙ ap (λ o. refilled_first o (without_lists k)) (sym f)

yielded-in : (xs : List ℕ) (x : ℕ) (first : Option TaskId) (k : Kernel) → list_at k.ready (prio_of k x) ≡ xs → ((w : ℕ) → count_of w xs ≤ 1) → first ≡ first_waiter (turn_waiters x xs) → (z : TaskId) × (first ≡ Some z) → without_lists (rotates x (prio_of k x) k).kernel ≡ refilled_first first (without_lists k)
yielded-in [] x first k is once f some = absurd (none-first first f some)
yielded-in (y ∷ []) x first k is once f some = absurd (none-first first f some)
yielded-in (y ∷ z ∷ zs) x first k is once f some = rotated-to (y == x) x y z zs first k refl is once f

is-yielded : (x : ℕ) (first : Option TaskId) (k : Kernel) → IsTurn x first k → without_lists (rotates x (prio_of k x) k).kernel ≡ refilled_first first (without_lists k)
is-yielded x first k t = yielded-in (list_at k.ready (prio_of k x)) x first k refl t.once t.waiter t.some

-- what a call does to it is made in the records, with its outcome
pub record IsMoved (s : Service) (y x h : ℕ) (first : Option TaskId) (k : Kernel) : Type 0 where
  pub kernel : without_lists (suspension_of s y x h k).kernel ≡ records_moved s y x first (without_lists k)
  pub outcome : (suspension_of s y x h k).outcome ≡ outcome_moved s (y == x)

pub is-moved : (s : Service) (y x h : ℕ) (first : Option TaskId) (k : Kernel) → IsMoving s (task_at k y) → IsTurning s x first k → IsMoved s y x h first k
is-moved TaskSuspend y x h first k i t = record { kernel = refl; outcome = refl }
is-moved RoundRobinYield y x h first k i t = record { kernel = is-yielded x first k t; outcome = refl }
is-moved TaskResume y x h first k i t =
    let less : i.0 ≡ (task_at k y).suspended - 1 = let e = i.1 in omega (arith, e) in
    let made = ap (λ n. resumes n y h k) i.1 in
    record {
      kernel =
          ap (λ (f : Effect). without_lists f.kernel) made
          ∙ ap (λ n. record (without_lists k) { tasks = slice_set k.tasks y (record (task_at k y) { suspended = n }) }) less;
      outcome = ap (λ (f : Effect). f.outcome) made;
    }
is-moved _ y x h first k i t = absurd i

-- a call that moves a task neither waits nor wakes
pub moves-done : (s : Service) (d : Decision) → moves_task s d ≡ true → IsServedDecision d s → (a : Answer) × (d ≡ Done a)
moves-done s d m i = done-by s d (both (moves_in_lists s) (acts d) m).0 i
  where
    done-by : (s : Service) (d : Decision) → moves_in_lists s ≡ true → IsServedDecision d s → (a : Answer) × (d ≡ Done a)
    done-by s (Done a) h i = (a, refl)
    done-by TaskSuspend Block h i = absurd (false≢true i)
    done-by TaskResume Block h i = absurd (false≢true i)
    done-by RoundRobinYield Block h i = absurd (false≢true i)
    done-by RoundRobinYield (Wake First) h i = absurd (false≢true i)
    done-by RoundRobinYield (Wake All) h i = absurd (false≢true i)
    done-by TaskSuspend (Wake First) h i = absurd (false≢true i)
    done-by TaskResume (Wake First) h i = absurd (false≢true i)
    done-by TaskSuspend (Wake All) h i = absurd (false≢true i)
    done-by TaskResume (Wake All) h i = absurd (false≢true i)
    done-by s (Wake Matching) h i = absurd (false≢true (sym (ap moves_in_lists i) ∙ h))
    done-by _ d h i = absurd (false≢true h)
