-- What is decided of a call: what a refusal leaves, what is known of a decision that acts, and that a decision is what the service does.
use Rattle.std.proofs.Common.{◌≡◌, ℕ, ◌<◌, ◌+◌, ◌-◌, List, [], ◌∷◌, length, refl, sym, ap, ◌∙◌, subst, Bool, true, false, ◌&&◌, ◌||◌, not, Option, Some, None}
use Rattle.std.specs.Prelude.{if◌then◌else◌, ◌==◌, nat_lt, slice_get, slice_index, slice_set}
use Rattle.std.proofs.lemmas.Bool.{false≢true}
use Rattle.std.proofs.lemmas.List.{set-get_or}
use Rattle.std.proofs.Math.Seq.{map-set_same}
use Rattle.kern_base.specs.Tables.{KindTable}
use Rattle.kern_base.specs.Services.{names_option}
use Rattle.kern_base.specs.Checks.{static_error, target_error, object_error, is_one_of, kinds_wanted, names_task, caller_number}
use Rattle.kern_base.specs.declared.kinds.Kind.{Kind}
use Rattle.kern_base.specs.declared.kinds.Kind.TheVariants.{Sem, Queue, Flags, OneShot, Periodic}
use Rattle.kern_base.specs.declared.services.Service.{Service}
use Rattle.kern_base.specs.declared.services.Service.TheVariants.{SemPost, QPost, FlagPost, TaskSemPost, TaskQPost, SemPend, QPend, FlagPend, TaskSemPend, TaskQPend, QDel, SchedLock, SchedUnlock, TimeGet, TimeDly, TimeDlyResume, SemPendAbort, QPendAbort, FlagPendAbort, TaskSemPendAbort, TaskQPendAbort, SemDel, FlagDel, TaskSuspend, TaskResume, RoundRobinYield, TimeTick, TmrStart, TmrStop, TmrRemainGet, TmrStateGet, TmrDel}
use Rattle.kern_base.specs.declared.requests.Request.{Request}
use Rattle.kern_base.specs.declared.errors.OsErr.{OsErr}
use Rattle.kern_base.specs.declared.errors.OsErr.TheVariants.{CallUnknown, ObjectType, OptionInvalid, TaskInvalid, TaskNotExist}
use Rattle.kern_base.specs.declared.outcomes.Around.{Around}
use Rattle.kern_base.specs.declared.outcomes.Decision.{Decision}
use Rattle.kern_model.specs.State.{Kernel, Object, Content, Count, Messages, Bits, Held, Timed, object_at, no_object, task_at, kind_of, kinds_of, with_content}
use Rattle.kern_model.specs.Effect.{refused}
use Rattle.kern_model.specs.Checks.{argument, call_error, existence_error, first_error, is_deleted, named_task}
use Rattle.kern_model.specs.Services.{content_for}
use Rattle.served.specs.Served.{program_serves}
use Rattle.kern_model.specs.Micro.{Lists}
use Rattle.kern_model.proofs.Lemmas.{checked_object}
use Rattle.kern_laws.proofs.Lemmas.{named_object}
use Rattle.decisions.specs.Rows.{is_no_error, refusal}
use Rattle.decisions.specs.Decided.{decided}
use Rattle.task_objects.specs.Rows as own
use Rattle.task_objects.specs.Rows.{Holds, IsTaskDecided, is_task_call, target, waiters}
use Rattle.kernel_records.specs.RecordsRecord.{with_lists}
use Rattle.kernel_records.specs.SchedulerCalls.{is_scheduler_call, lock_after, scheduler_decision, scheduler_decision_for, scheduler_waiters}
use Rattle.kernel_records.specs.TimerCalls.{counted_in, is_timer_call, timer_change, timer_decision}
use Rattle.kernel_records.specs.Served.{serves_object}
use Rattle.kernel_records.proofs.TimerChanges.{kinds-timer}
use Rattle.kernel_records.specs.Suspension.{moves_in_lists, moves_task, suspension_of}
use Rattle.kernel_records.specs.Deciding.{IsCallOn, acts, effect_by, changed_by, changed_objects, content_after, decision_about, decision_after, decision_by, decision_of, decision_on_objects, object_change, own_change, scheduler_change, task_change, decision_on_named, held_change}

-- an object that keeps what it holds
pub same-content : (k : Kernel) (o : ℕ) (c : Content) → c ≡ (object_at k o).content → with_content k o c ≡ k
same-content k o c e =
    ap (λ bs. record k { objects = bs })
    (ap (λ d. slice_set k.objects o (record (object_at k o) { content = d })) e ∙ set-get_or k.objects o no_object)

-- what changes by what a call is about
pub own-objects : (r : Request) (x : ℕ) (d : Decision) (k : Kernel) → is_scheduler_call r.service ≡ false → own_change r x d k ≡ changed_objects r x d k
own-objects r x d k n = ap (λ b. if b then scheduler_change r d k else changed_objects r x d k) n

pub own-scheduler : (r : Request) (x : ℕ) (d : Decision) (k : Kernel) → is_scheduler_call r.service ≡ true → own_change r x d k ≡ scheduler_change r d k
own-scheduler r x d k n = ap (λ b. if b then scheduler_change r d k else changed_objects r x d k) n

-- a decision that acts not leaves what a call is about
pub own-none : (r : Request) (x : ℕ) (d : Decision) (k : Kernel) → is_scheduler_call r.service ≡ false → acts d ≡ false → own_change r x d k ≡ k
own-none r x d k n h = own-objects r x d k n ∙ ap (λ c. if c then changed_by r x d k else k) h

pub own-acts : (r : Request) (x : ℕ) (d : Decision) (k : Kernel) → is_scheduler_call r.service ≡ false → acts d ≡ true → own_change r x d k ≡ changed_by r x d k
own-acts r x d k n h = own-objects r x d k n ∙ ap (λ c. if c then changed_by r x d k else k) h

-- a refusal leaves the lock, and so does a call that waits or wakes
lock-refused : (s : Service) (err : OsErr) (lock : ℕ) → is_no_error err ≡ false → lock_after s (refusal err) lock ≡ lock
lock-refused SchedLock err lock h = ap (λ b. if b then lock + 1 else lock) h
lock-refused SchedUnlock err lock h = ap (λ b. if b || false then lock - 1 else lock) h
lock-refused _ err lock h = refl

pub same-lock : (r : Request) (d : Decision) (k : Kernel) → lock_after r.service d k.lock ≡ k.lock → scheduler_change r d k ≡ k
same-lock r d k e = ap (λ n. record k { lock = n }) e

refused-by : (b : Bool) (r : Request) (x : ℕ) (err : OsErr) (k : Kernel) → is_scheduler_call r.service ≡ b → is_no_error err ≡ false → own_change r x (refusal err) k ≡ k
refused-by true r x err k n h = own-scheduler r x (refusal err) k n ∙ same-lock r (refusal err) k (lock-refused r.service err k.lock h)
refused-by false r x err k n h = own-none r x (refusal err) k n h

pub own-refused : (r : Request) (x : ℕ) (err : OsErr) (k : Kernel) → is_no_error err ≡ false → own_change r x (refusal err) k ≡ k
own-refused r x err k h = refused-by (is_scheduler_call r.service) r x err k refl h

pub changed-timer : (r : Request) (x : ℕ) (d : Decision) (k : Kernel) → is_timer_call r.service ≡ true → changed_by r x d k ≡ timer_change r.service (argument r 0) (content_for r k) k
changed-timer r x d k m = ap (λ b. if b then timer_change r.service (argument r 0) (content_for r k) k else held_change r x d k) m

pub changed-held : (r : Request) (x : ℕ) (d : Decision) (k : Kernel) → is_timer_call r.service ≡ false → changed_by r x d k ≡ held_change r x d k
changed-held r x d k m = ap (λ b. if b then timer_change r.service (argument r 0) (content_for r k) k else held_change r x d k) m

pub changed-object : (r : Request) (x : ℕ) (d : Decision) (k : Kernel) → is_timer_call r.service ≡ false → is_task_call r.service ≡ false → changed_by r x d k ≡ object_change r d k
changed-object r x d k m h = changed-held r x d k m ∙ ap (λ c. if c then task_change r (target r.service r x) d k else object_change r d k) h

pub changed-task : (r : Request) (x : ℕ) (d : Decision) (k : Kernel) → is_timer_call r.service ≡ false → is_task_call r.service ≡ true → changed_by r x d k ≡ task_change r (target r.service r x) d k
changed-task r x d k m h = changed-held r x d k m ∙ ap (λ c. if c then task_change r (target r.service r x) d k else object_change r d k) h

-- a change of an object leaves its kind
pub kind-after : (r : Request) (d : Decision) (c : Content) → kind_of (content_after r d c) ≡ kind_of c
kind-after r d (Count n) = refl
kind-after r d (Messages limit ms) = refl
kind-after r d (Bits bits) = refl
kind-after r d (Held owner nesting) = refl
kind-after r d (Timed t) = refl

pub kinds-object : (r : Request) (d : Decision) (k : Kernel) → kinds_of (object_change r d k) ≡ kinds_of k
kinds-object r d k =
    ap (λ (ks : List Kind). record { objects = ks; tasks = k.settings.tasks })
    (map-set_same (λ (b : Object). kind_of b.content) k.objects (argument r 0) _ no_object (kind-after r d (content_for r k)))

kinds-held : (b : Bool) (r : Request) (x : ℕ) (d : Decision) (k : Kernel) → is_timer_call r.service ≡ false → is_task_call r.service ≡ b → kinds_of (changed_by r x d k) ≡ kinds_of k
kinds-held true r x d k m e = ap kinds_of (changed-task r x d k m e)
kinds-held false r x d k m e = ap kinds_of (changed-object r x d k m e) ∙ kinds-object r d k

kinds-changed : (b : Bool) (r : Request) (x : ℕ) (d : Decision) (k : Kernel) → is_timer_call r.service ≡ b → kinds_of (changed_by r x d k) ≡ kinds_of k
kinds-changed true r x d k m = ap kinds_of (changed-timer r x d k m) ∙ kinds-timer r.service (argument r 0) (content_for r k) k refl
kinds-changed false r x d k m = kinds-held (is_task_call r.service) r x d k m refl

kinds-by : (b : Bool) (r : Request) (x : ℕ) (d : Decision) (k : Kernel) → is_scheduler_call r.service ≡ false → acts d ≡ b → kinds_of (own_change r x d k) ≡ kinds_of k
kinds-by true r x d k n e = ap kinds_of (own-acts r x d k n e) ∙ kinds-changed (is_timer_call r.service) r x d k refl
kinds-by false r x d k n e = ap kinds_of (own-none r x d k n e)

kinds-if : (b : Bool) (r : Request) (x : ℕ) (d : Decision) (k : Kernel) → is_scheduler_call r.service ≡ b → kinds_of (own_change r x d k) ≡ kinds_of k
kinds-if true r x d k n = ap kinds_of (own-scheduler r x d k n)
kinds-if false r x d k n = kinds-by (acts d) r x d k n refl

pub kinds-own : (r : Request) (x : ℕ) (d : Decision) (k : Kernel) → kinds_of (own_change r x d k) ≡ kinds_of k
kinds-own r x d k = kinds-if (is_scheduler_call r.service) r x d k refl

-- the error of a check is one
abbrev Fails : Option OsErr → Type 0
Fails None = Unit {0}
Fails (Some err) = is_no_error err ≡ false

fails-if : (b : Bool) (x y : Option OsErr) → Fails x → Fails y → Fails (if b then x else y)
fails-if true x y p q = p
fails-if false x y p q = q

fails-object : (ws : List Kind) (k : Option Kind) → Fails (object_error ws k)
fails-object ws None = refl
fails-object ws (Some kind) = fails-if (is_one_of ws kind) None (Some ObjectType) tt refl

fails-target : (ws : List Kind) (task : Bool) (args : List ℕ) (table : KindTable) (own : Bool) → Fails (target_error ws task args table own)
fails-target (w ∷ ws) task args table own = fails-object (w ∷ ws) (slice_get table.objects (slice_index args 0))
fails-target [] true args table own = fails-if (nat_lt (slice_index args 0) table.tasks || (own && (slice_index args 0 == caller_number))) None (Some TaskInvalid) tt refl
fails-target [] false args table own = tt

fails-first : (x y : Option OsErr) → Fails x → Fails y → Fails (first_error x y)
fails-first (Some err) y p q = p
fails-first None y p q = q

pub fails-call : (r : Request) (x : ℕ) (k : Kernel) (err : OsErr) → call_error r x k ≡ Some err → is_no_error err ≡ false
fails-call r x k err e =
    subst Fails e
    (fails-first (static_error r.service r.args (kinds_of k) (nat_lt x 60)) (existence_error r x k)
    (fails-if (names_option r.service r.args) (target_error (kinds_wanted r.service) (names_task r.service) r.args (kinds_of k) (nat_lt x 60)) (Some OptionInvalid) (fails-target (kinds_wanted r.service) (names_task r.service) r.args (kinds_of k) (nat_lt x 60)) refl)
    (fails-if (is_deleted (kinds_wanted r.service) (object_at k (argument r 0))) (Some ObjectType) _ refl (fails-if (names_task r.service && not (task_at k (named_task r x)).alive) (Some TaskNotExist) None refl tt)))

-- a call that suspends no task and resumes none comes to what was decided
pub effect-decided : (r : Request) (d : Decision) (x h : ℕ) (xs : List ℕ) (k : Kernel) → moves_task r.service d ≡ false → effect_by d r x h xs k ≡ decided d r.service r x h xs (own_change r x d k)
effect-decided r d x h xs k n = ap (λ b. if b then suspension_of r.service (named_task r x) x h k else decided d r.service r x h xs (own_change r x d k)) n

pub effect-moved : (r : Request) (d : Decision) (x h : ℕ) (xs : List ℕ) (k : Kernel) → moves_task r.service d ≡ true → effect_by d r x h xs k ≡ suspension_of r.service (named_task r x) x h k
effect-moved r d x h xs k n = ap (λ b. if b then suspension_of r.service (named_task r x) x h k else decided d r.service r x h xs (own_change r x d k)) n

-- such are the calls that are not on the scheduler, and those that are refused
no-suspension : (s : Service) → is_scheduler_call s ≡ false → moves_in_lists s ≡ false
no-suspension TaskSuspend n = absurd (false≢true (sym n))
no-suspension TaskResume n = absurd (false≢true (sym n))
no-suspension RoundRobinYield n = absurd (false≢true (sym n))
no-suspension _ n = refl

pub still-objects : (s : Service) (d : Decision) → is_scheduler_call s ≡ false → moves_task s d ≡ false
still-objects s d n = ap (λ b. b && acts d) (no-suspension s n)

still-if : (b c : Bool) → c ≡ false → (b && c) ≡ false
still-if true c h = h
still-if false c h = refl

pub still-refused : (s : Service) (d : Decision) → acts d ≡ false → moves_task s d ≡ false
still-refused s d h = still-if (moves_in_lists s) (acts d) h

-- a refusal as a decision
pub row-refused : (r : Request) (x h : ℕ) (xs : List ℕ) (k : Kernel) (err : OsErr) → is_no_error err ≡ false → refused k err ≡ effect_by (refusal err) r x h xs k
row-refused r x h xs k err e =
    ap (λ j. refused j err) (sym (own-refused r x err k e))
    ∙ sym (effect-decided r (refusal err) x h xs k (still-refused r.service (refusal err) e))

-- a decision that acts comes of a call that has passed its checks
pub record HasPassed (r : Request) (seen : Around) (d : Decision) (k : Kernel) : Type 0 where
  pub served : program_serves r.service ≡ true
  pub passed : call_error r seen.caller.0 k ≡ None
  pub decided : d ≡ decision_about r seen k

acts-after : (r : Request) (seen : Around) (d : Decision) (k : Kernel) (e : Option OsErr) → call_error r seen.caller.0 k ≡ e → d ≡ decision_after e r seen k → acts d ≡ true → (e ≡ None) × (d ≡ decision_about r seen k)
acts-after r seen d k None i h a = (refl, h)
acts-after r seen d k (Some err) i h a = absurd (false≢true (sym (fails-call r seen.caller.0 k err i) ∙ sym (ap acts h) ∙ a))

acts-served : (r : Request) (seen : Around) (d : Decision) (k : Kernel) (b : Bool) → program_serves r.service ≡ b → d ≡ (if b then decision_after (call_error r seen.caller.0 k) r seen k else refusal CallUnknown) → acts d ≡ true → HasPassed r seen d k
acts-served r seen d k true s h a =
    let both = acts-after r seen d k (call_error r seen.caller.0 k) refl h a in
    record { served = s; passed = both.0; decided = both.1 }
acts-served r seen d k false s h a = absurd (false≢true (sym (ap acts h) ∙ a))

pub acting : (r : Request) (seen : Around) (d : Decision) (k : Kernel) → d ≡ decision_of r seen k → acts d ≡ true → HasPassed r seen d k
acting r seen d k h a = acts-served r seen d k (program_serves r.service) refl h a

-- what is decided by what the call is about
pub about-named : (r : Request) (seen : Around) (k : Kernel) → is_scheduler_call r.service ≡ false → decision_about r seen k ≡ decision_on_named r seen k
about-named r seen k n = ap (λ b. if b then scheduler_decision r seen k else decision_on_named r seen k) n

pub about-objects : (r : Request) (seen : Around) (k : Kernel) → is_scheduler_call r.service ≡ false → is_timer_call r.service ≡ false → decision_about r seen k ≡ decision_on_objects r seen k
about-objects r seen k n m =
    about-named r seen k n
    ∙ ap (λ b. if b then timer_decision r.service (content_for r k) (argument r 0) (counted_in k) else decision_on_objects r seen k) m

pub about-timer : (r : Request) (seen : Around) (k : Kernel) → is_scheduler_call r.service ≡ false → is_timer_call r.service ≡ true → decision_about r seen k ≡ timer_decision r.service (content_for r k) (argument r 0) (counted_in k)
about-timer r seen k n m =
    about-named r seen k n
    ∙ ap (λ b. if b then timer_decision r.service (content_for r k) (argument r 0) (counted_in k) else decision_on_objects r seen k) m

pub about-scheduler : (r : Request) (seen : Around) (k : Kernel) → is_scheduler_call r.service ≡ true → decision_about r seen k ≡ scheduler_decision r seen k
about-scheduler r seen k n = ap (λ b. if b then scheduler_decision r seen k else decision_on_named r seen k) n

-- a decision on objects that acts comes of a call that has passed its checks
pub record HasPassedObjects (r : Request) (seen : Around) (d : Decision) (k : Kernel) : Type 0 where
  pub served : serves_object r.service ≡ true
  pub passed : call_error r seen.caller.0 k ≡ None
  pub decided : d ≡ decision_on_objects r seen k

-- what the object decides, of a call that names one; and what the task decides
pub by-object : (r : Request) (seen : Around) (k : Kernel) → is_task_call r.service ≡ false → decision_on_objects r seen k ≡ decision_by (content_for r k) k.free r seen
by-object r seen k h = ap (λ b. if b then own.decision_of (task_at k (target r.service r seen.caller.0)).count (task_at k (target r.service r seen.caller.0)).limit (task_at k (target r.service r seen.caller.0)).messages k.free r seen else decision_by (content_for r k) k.free r seen) h

pub by-task : (r : Request) (seen : Around) (k : Kernel) → is_task_call r.service ≡ true → let t = task_at k (target r.service r seen.caller.0) in decision_on_objects r seen k ≡ own.decision_of t.count t.limit t.messages k.free r seen
by-task r seen k h = ap (λ b. if b then own.decision_of (task_at k (target r.service r seen.caller.0)).count (task_at k (target r.service r seen.caller.0)).limit (task_at k (target r.service r seen.caller.0)).messages k.free r seen else decision_by (content_for r k) k.free r seen) h

-- what is decided of a call on the scheduler does not depend on the lists, nor who waits for what it is about, but for a yield
pub scheduler-lists : (s : Service) (r : Request) (seen : Around) (k : Kernel) (l : Lists) → scheduler_decision_for s r seen k ≡ scheduler_decision_for s r seen (with_lists k l)
scheduler-lists SchedLock r seen k l = refl
scheduler-lists SchedUnlock r seen k l = refl
scheduler-lists TimeGet r seen k l = refl
scheduler-lists TimeDly r seen k l = refl
scheduler-lists TimeDlyResume r seen k l = refl
scheduler-lists TaskSuspend r seen k l = refl
scheduler-lists TaskResume r seen k l = refl
scheduler-lists RoundRobinYield r seen k l = refl
scheduler-lists _ r seen k l = refl

pub scheduler-waiters : (s : Service) (r : Request) (x : ℕ) (k : Kernel) (l : Lists) → (s ≡ RoundRobinYield → ⊥) → scheduler_waiters s r x k ≡ scheduler_waiters s r x (with_lists k l)
scheduler-waiters TimeDlyResume r x k l n = refl
scheduler-waiters RoundRobinYield r x k l n = absurd (n refl)
scheduler-waiters _ r x k l n = refl

pub about-lists : (r : Request) (seen : Around) (k : Kernel) (l : Lists) → decision_about r seen k ≡ decision_about r seen (with_lists k l)
about-lists r seen k l = ap (λ d. if is_scheduler_call r.service then d else decision_on_named r seen k) (scheduler-lists r.service r seen k l)

-- a service that is served is one for objects, or a call on the scheduler or on a timer
pub serves-by : (s : Service) → program_serves s ≡ true → is_scheduler_call s ≡ false → is_timer_call s ≡ false → serves_object s ≡ true
serves-by SemPost p n m = refl
serves-by QPost p n m = refl
serves-by FlagPost p n m = refl
serves-by TaskSemPost p n m = refl
serves-by TaskQPost p n m = refl
serves-by SemPend p n m = refl
serves-by QPend p n m = refl
serves-by FlagPend p n m = refl
serves-by TaskSemPend p n m = refl
serves-by TaskQPend p n m = refl
serves-by SemPendAbort p n m = refl
serves-by QPendAbort p n m = refl
serves-by FlagPendAbort p n m = refl
serves-by TaskSemPendAbort p n m = refl
serves-by TaskQPendAbort p n m = refl
serves-by SemDel p n m = refl
serves-by QDel p n m = refl
serves-by FlagDel p n m = refl
serves-by SchedLock p n m = absurd (false≢true (sym n))
serves-by SchedUnlock p n m = absurd (false≢true (sym n))
serves-by TimeGet p n m = absurd (false≢true (sym n))
serves-by TimeDly p n m = absurd (false≢true (sym n))
serves-by TimeDlyResume p n m = absurd (false≢true (sym n))
serves-by TaskSuspend p n m = absurd (false≢true (sym n))
serves-by TaskResume p n m = absurd (false≢true (sym n))
serves-by TmrStart p n m = absurd (false≢true (sym m))
serves-by TmrStop p n m = absurd (false≢true (sym m))
serves-by TmrRemainGet p n m = absurd (false≢true (sym m))
serves-by TmrStateGet p n m = absurd (false≢true (sym m))
serves-by TmrDel p n m = absurd (false≢true (sym m))
serves-by RoundRobinYield p n m = absurd (false≢true (sym n))
serves-by TimeTick p n m = absurd (false≢true (sym n))
serves-by _ p n m = absurd (false≢true p)

-- and the first is neither the second
pub no-timer-call : (s : Service) → serves_object s ≡ true → is_timer_call s ≡ false
no-timer-call SemPost p = refl
no-timer-call QPost p = refl
no-timer-call FlagPost p = refl
no-timer-call TaskSemPost p = refl
no-timer-call TaskQPost p = refl
no-timer-call SemPend p = refl
no-timer-call QPend p = refl
no-timer-call FlagPend p = refl
no-timer-call TaskSemPend p = refl
no-timer-call TaskQPend p = refl
no-timer-call SemPendAbort p = refl
no-timer-call QPendAbort p = refl
no-timer-call FlagPendAbort p = refl
no-timer-call TaskSemPendAbort p = refl
no-timer-call TaskQPendAbort p = refl
no-timer-call SemDel p = refl
no-timer-call QDel p = refl
no-timer-call FlagDel p = refl
no-timer-call _ p = absurd (false≢true p)

pub no-scheduler : (s : Service) → serves_object s ≡ true → is_scheduler_call s ≡ false
no-scheduler SemPost p = refl
no-scheduler QPost p = refl
no-scheduler FlagPost p = refl
no-scheduler TaskSemPost p = refl
no-scheduler TaskQPost p = refl
no-scheduler SemPend p = refl
no-scheduler QPend p = refl
no-scheduler FlagPend p = refl
no-scheduler TaskSemPend p = refl
no-scheduler TaskQPend p = refl
no-scheduler SemPendAbort p = refl
no-scheduler QPendAbort p = refl
no-scheduler FlagPendAbort p = refl
no-scheduler TaskSemPendAbort p = refl
no-scheduler TaskQPendAbort p = refl
no-scheduler SemDel p = refl
no-scheduler QDel p = refl
no-scheduler FlagDel p = refl
no-scheduler _ p = absurd (false≢true p)

pub served-object : (s : Service) → serves_object s ≡ true → program_serves s ≡ true
served-object SemPost p = refl
served-object QPost p = refl
served-object FlagPost p = refl
served-object TaskSemPost p = refl
served-object TaskQPost p = refl
served-object SemPend p = refl
served-object QPend p = refl
served-object FlagPend p = refl
served-object TaskSemPend p = refl
served-object TaskQPend p = refl
served-object SemPendAbort p = refl
served-object QPendAbort p = refl
served-object FlagPendAbort p = refl
served-object TaskSemPendAbort p = refl
served-object TaskQPendAbort p = refl
served-object SemDel p = refl
served-object QDel p = refl
served-object FlagDel p = refl
served-object _ p = absurd (false≢true p)

pub acting-objects : (r : Request) (seen : Around) (d : Decision) (k : Kernel) → is_scheduler_call r.service ≡ false → is_timer_call r.service ≡ false → d ≡ decision_of r seen k → acts d ≡ true → HasPassedObjects r seen d k
acting-objects r seen d k n m h a =
    let it = acting r seen d k h a in
    record { served = serves-by r.service it.served n m; passed = it.passed; decided = it.decided ∙ about-objects r seen k n m }

-- the kind of object that a call wants
pub record WantsKind (s : Service) : Type 0 where
  pub kind : Kind
  pub wanted : kinds_wanted s ≡ kind ∷ []

pub wants-kind : (s : Service) → serves_object s ≡ true → is_task_call s ≡ false → WantsKind s
wants-kind SemPost p t = record { kind = Sem; wanted = refl }
wants-kind SemPend p t = record { kind = Sem; wanted = refl }
wants-kind QPost p t = record { kind = Queue; wanted = refl }
wants-kind QPend p t = record { kind = Queue; wanted = refl }
wants-kind FlagPost p t = record { kind = Flags; wanted = refl }
wants-kind FlagPend p t = record { kind = Flags; wanted = refl }
wants-kind SemPendAbort p t = record { kind = Sem; wanted = refl }
wants-kind QPendAbort p t = record { kind = Queue; wanted = refl }
wants-kind FlagPendAbort p t = record { kind = Flags; wanted = refl }
wants-kind SemDel p t = record { kind = Sem; wanted = refl }
wants-kind QDel p t = record { kind = Queue; wanted = refl }
wants-kind FlagDel p t = record { kind = Flags; wanted = refl }
wants-kind TaskSemPendAbort p t = absurd (false≢true (sym t))
wants-kind TaskQPendAbort p t = absurd (false≢true (sym t))
wants-kind TaskSemPost p t = absurd (false≢true (sym t))
wants-kind TaskSemPend p t = absurd (false≢true (sym t))
wants-kind TaskQPost p t = absurd (false≢true (sym t))
wants-kind TaskQPend p t = absurd (false≢true (sym t))
wants-kind _ p t = absurd (false≢true p)

-- its object is there
pub passed-inside : (r : Request) (x : ℕ) (k : Kernel) → serves_object r.service ≡ true → is_task_call r.service ≡ false → call_error r x k ≡ None → argument r 0 < length k.objects
passed-inside r x k s t h = let w = wants-kind r.service s t in checked_object r x k w.kind [] w.wanted h

-- a timer is of neither of these kinds
no-timer : (w : Kind) → is_one_of (w ∷ []) Periodic ≡ false → is_one_of (w ∷ []) OneShot ≡ false → (b : Bool) → is_one_of (w ∷ []) (if b then Periodic else OneShot) ≡ true → ⊥
no-timer w p o true h = false≢true (sym p ∙ h)
no-timer w p o false h = false≢true (sym o ∙ h)

-- and holds what the call is for
on-call : (s : Service) (c : Content) (r : Request) → s ≡ r.service → serves_object s ≡ true → is_task_call s ≡ false → is_one_of (kinds_wanted s) (kind_of c) ≡ true → IsCallOn c r
on-call SemPost (Count n) r e p t h = ap kinds_wanted (sym e)
on-call SemPost (Messages limit ms) r e p t h = absurd (false≢true h)
on-call SemPost (Bits bits) r e p t h = absurd (false≢true h)
on-call SemPost (Held owner nesting) r e p t h = absurd (false≢true h)
on-call SemPost (Timed u) r e p t h = no-timer Sem refl refl u.periodic h
on-call SemPend (Count n) r e p t h = ap kinds_wanted (sym e)
on-call SemPend (Messages limit ms) r e p t h = absurd (false≢true h)
on-call SemPend (Bits bits) r e p t h = absurd (false≢true h)
on-call SemPend (Held owner nesting) r e p t h = absurd (false≢true h)
on-call SemPend (Timed u) r e p t h = no-timer Sem refl refl u.periodic h
on-call QPost (Count n) r e p t h = absurd (false≢true h)
on-call QPost (Messages limit ms) r e p t h = ap kinds_wanted (sym e)
on-call QPost (Bits bits) r e p t h = absurd (false≢true h)
on-call QPost (Held owner nesting) r e p t h = absurd (false≢true h)
on-call QPost (Timed u) r e p t h = no-timer Queue refl refl u.periodic h
on-call QPend (Count n) r e p t h = absurd (false≢true h)
on-call QPend (Messages limit ms) r e p t h = ap kinds_wanted (sym e)
on-call QPend (Bits bits) r e p t h = absurd (false≢true h)
on-call QPend (Held owner nesting) r e p t h = absurd (false≢true h)
on-call QPend (Timed u) r e p t h = no-timer Queue refl refl u.periodic h
on-call FlagPost (Count n) r e p t h = absurd (false≢true h)
on-call FlagPost (Messages limit ms) r e p t h = absurd (false≢true h)
on-call FlagPost (Bits bits) r e p t h = ap kinds_wanted (sym e)
on-call FlagPost (Held owner nesting) r e p t h = absurd (false≢true h)
on-call FlagPost (Timed u) r e p t h = no-timer Flags refl refl u.periodic h
on-call FlagPend (Count n) r e p t h = absurd (false≢true h)
on-call FlagPend (Messages limit ms) r e p t h = absurd (false≢true h)
on-call FlagPend (Bits bits) r e p t h = ap kinds_wanted (sym e)
on-call FlagPend (Held owner nesting) r e p t h = absurd (false≢true h)
on-call FlagPend (Timed u) r e p t h = no-timer Flags refl refl u.periodic h
on-call SemPendAbort (Count n) r e p t h = ap kinds_wanted (sym e)
on-call SemPendAbort (Messages limit ms) r e p t h = absurd (false≢true h)
on-call SemPendAbort (Bits bits) r e p t h = absurd (false≢true h)
on-call SemPendAbort (Held owner nesting) r e p t h = absurd (false≢true h)
on-call SemPendAbort (Timed u) r e p t h = no-timer Sem refl refl u.periodic h
on-call QPendAbort (Count n) r e p t h = absurd (false≢true h)
on-call QPendAbort (Messages limit ms) r e p t h = ap kinds_wanted (sym e)
on-call QPendAbort (Bits bits) r e p t h = absurd (false≢true h)
on-call QPendAbort (Held owner nesting) r e p t h = absurd (false≢true h)
on-call QPendAbort (Timed u) r e p t h = no-timer Queue refl refl u.periodic h
on-call FlagPendAbort (Count n) r e p t h = absurd (false≢true h)
on-call FlagPendAbort (Messages limit ms) r e p t h = absurd (false≢true h)
on-call FlagPendAbort (Bits bits) r e p t h = ap kinds_wanted (sym e)
on-call FlagPendAbort (Held owner nesting) r e p t h = absurd (false≢true h)
on-call FlagPendAbort (Timed u) r e p t h = no-timer Flags refl refl u.periodic h
on-call SemDel (Count n) r e p t h = ap kinds_wanted (sym e)
on-call SemDel (Messages limit ms) r e p t h = absurd (false≢true h)
on-call SemDel (Bits bits) r e p t h = absurd (false≢true h)
on-call SemDel (Held owner nesting) r e p t h = absurd (false≢true h)
on-call SemDel (Timed u) r e p t h = no-timer Sem refl refl u.periodic h
on-call QDel (Count n) r e p t h = absurd (false≢true h)
on-call QDel (Messages limit ms) r e p t h = ap kinds_wanted (sym e)
on-call QDel (Bits bits) r e p t h = absurd (false≢true h)
on-call QDel (Held owner nesting) r e p t h = absurd (false≢true h)
on-call QDel (Timed u) r e p t h = no-timer Queue refl refl u.periodic h
on-call FlagDel (Count n) r e p t h = absurd (false≢true h)
on-call FlagDel (Messages limit ms) r e p t h = absurd (false≢true h)
on-call FlagDel (Bits bits) r e p t h = ap kinds_wanted (sym e)
on-call FlagDel (Held owner nesting) r e p t h = absurd (false≢true h)
on-call FlagDel (Timed u) r e p t h = no-timer Flags refl refl u.periodic h
on-call TaskSemPendAbort c r e p t h = absurd (false≢true (sym t))
on-call TaskQPendAbort c r e p t h = absurd (false≢true (sym t))
on-call TaskSemPost c r e p t h = absurd (false≢true (sym t))
on-call TaskSemPend c r e p t h = absurd (false≢true (sym t))
on-call TaskQPost c r e p t h = absurd (false≢true (sym t))
on-call TaskQPend c r e p t h = absurd (false≢true (sym t))
on-call _ c r e p t h = absurd (false≢true p)

pub passed-call : (r : Request) (x : ℕ) (k : Kernel) → serves_object r.service ≡ true → is_task_call r.service ≡ false → call_error r x k ≡ None → IsCallOn (content_for r k) r
passed-call r x k s t h =
    let w = wants-kind r.service s t in
    on-call r.service (content_for r k) r refl s t (subst (λ ws. is_one_of ws (kind_of (content_for r k)) ≡ true) (sym w.wanted) (named_object r x k w.kind [] w.wanted h).kind)
