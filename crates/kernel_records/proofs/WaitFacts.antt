-- A caller waits only while the scheduler is not locked, and for objects that there are.
use Rattle.std.proofs.Common.{◌≡◌, ℕ, zero, suc, ◌<◌, ◌≤◌, ◌+◌, List, [], ◌∷◌, length, refl, ap, ◌∙◌, Bool, true, false, Option, Some, None, arith}
use Rattle.std.specs.Prelude.{All, if◌then◌else◌, ◌==◌}
use Rattle.std.proofs.lemmas.Bool.{false≢true}
use Rattle.std.proofs.lemmas.List.Elements.{All-nil, All-cons}
use Rattle.kern_base.specs.Checks.{kinds_wanted}
use Rattle.kern_base.specs.declared.kinds.Kind.TheVariants.{Sem, Queue, Flags}
use Rattle.kern_base.specs.declared.services.Service.{Service}
use Rattle.kern_base.specs.declared.services.Service.TheVariants.{SemPend, QPend, FlagPend, TaskSemPend, TaskQPend, TimeDly}
use Rattle.kern_base.specs.declared.requests.Request.{Request}
use Rattle.kern_base.specs.declared.errors.OsErr.{OsErr}
use Rattle.kern_base.specs.declared.errors.OsErr.TheVariants.{CallUnknown}
use Rattle.kern_base.specs.declared.outcomes.Around.{Around}
use Rattle.kern_base.specs.declared.outcomes.Decision.TheVariants.{Block}
use Rattle.kern_model.specs.State.{Kernel, Content, Count, Messages, Bits, Held, Timed, count_of, task_at}
use Rattle.kern_model.specs.Checks.{argument, call_error}
use Rattle.kern_model.specs.Micro.{Lists}
use Rattle.served.specs.Served.{program_serves}
use Rattle.kern_model.specs.Services.{content_for}
use Rattle.decisions.specs.Decided.{wait_objects, wait_of}
use Rattle.decisions.specs.Rows.{refusal, wait_decision}
use Rattle.semaphores.specs.Rows as semaphore
use Rattle.event_flags.specs.Rows as flags
use Rattle.msg_queues.specs.Rows as queue
use Rattle.task_objects.specs.Rows as own
use Rattle.task_objects.specs.Rows.{is_task_call, target}
use Rattle.kernel_records.specs.RecordsRecord.{with_lists}
use Rattle.tick_timers.specs.Delays.{delay_decision}
use Rattle.kernel_records.specs.SchedulerCalls.{is_scheduler_call, scheduler_decision_for}
use Rattle.kernel_records.specs.Served.{is_served_wait}
use Rattle.kernel_records.specs.Deciding.{IsCallOn, decision_after, decision_by, decision_of}
use Rattle.kernel_records.proofs.RowFacts.{wait-no-timer}
use Rattle.kernel_records.proofs.DecidingFacts.{about-lists, about-scheduler, acting, acting-objects, by-object, by-task, passed-call, passed-inside}

-- a call that can not go on at once
wait-unlocked : (nb locked : Bool) → Block ≡ wait_decision nb locked → locked ≡ false
wait-unlocked true locked h = absurd cc
wait-unlocked false true h = absurd cc
wait-unlocked false false h = refl

sem-unlocked : (n option : ℕ) (locked : Bool) → Block ≡ semaphore.pend_decision n option locked → locked ≡ false
sem-unlocked zero option locked h = wait-unlocked _ locked h
sem-unlocked (suc n) option locked h = absurd cc

q-unlocked : (ms : List (ℕ × ℕ)) (option : ℕ) (locked : Bool) → Block ≡ queue.pend_decision ms option locked → locked ≡ false
q-unlocked [] option locked h = wait-unlocked _ locked h
q-unlocked (m ∷ ms) option locked h = absurd cc

flag-unlocked : (ready : Option ℕ) (option : ℕ) (locked : Bool) → Block ≡ flags.pend_decision ready option locked → locked ≡ false
flag-unlocked None option locked h = wait-unlocked _ locked h
flag-unlocked (Some ready) option locked h = absurd cc

task-sem-unlocked : (n option : ℕ) (locked : Bool) → Block ≡ own.sem_pend_decision n option locked → locked ≡ false
task-sem-unlocked zero option locked h = wait-unlocked _ locked h
task-sem-unlocked (suc n) option locked h = absurd cc

-- on an object that holds what the call is for
semaphore-unlocked : (s : Service) (n : ℕ) (r : Request) (seen : Around) → is_served_wait s ≡ true → kinds_wanted s ≡ Sem ∷ [] → Block ≡ semaphore.decision_for s n r seen → seen.locked ≡ false
semaphore-unlocked SemPend n r seen w e h = sem-unlocked n (argument r 2) seen.locked h
semaphore-unlocked QPend n r seen w e h = absurd cc
semaphore-unlocked FlagPend n r seen w e h = absurd cc
semaphore-unlocked TaskSemPend n r seen w e h = absurd cc
semaphore-unlocked TaskQPend n r seen w e h = absurd cc
semaphore-unlocked TimeDly n r seen w e h = absurd cc
semaphore-unlocked _ n r seen w e h = absurd (false≢true w)

queue-unlocked : (s : Service) (limit : ℕ) (ms : List (ℕ × ℕ)) (free : ℕ) (r : Request) (seen : Around) → is_served_wait s ≡ true → kinds_wanted s ≡ Queue ∷ [] → Block ≡ queue.decision_for s limit ms free r seen → seen.locked ≡ false
queue-unlocked QPend limit ms free r seen w e h = q-unlocked ms (argument r 2) seen.locked h
queue-unlocked SemPend limit ms free r seen w e h = absurd cc
queue-unlocked FlagPend limit ms free r seen w e h = absurd cc
queue-unlocked TaskSemPend limit ms free r seen w e h = absurd cc
queue-unlocked TaskQPend limit ms free r seen w e h = absurd cc
queue-unlocked TimeDly limit ms free r seen w e h = absurd cc
queue-unlocked _ limit ms free r seen w e h = absurd (false≢true w)

flags-unlocked : (s : Service) (bits : ℕ) (r : Request) (seen : Around) → is_served_wait s ≡ true → kinds_wanted s ≡ Flags ∷ [] → Block ≡ flags.decision_for s bits r seen → seen.locked ≡ false
flags-unlocked FlagPend bits r seen w e h = flag-unlocked _ (argument r 3) seen.locked h
flags-unlocked SemPend bits r seen w e h = absurd cc
flags-unlocked QPend bits r seen w e h = absurd cc
flags-unlocked TaskSemPend bits r seen w e h = absurd cc
flags-unlocked TaskQPend bits r seen w e h = absurd cc
flags-unlocked TimeDly bits r seen w e h = absurd cc
flags-unlocked _ bits r seen w e h = absurd (false≢true w)

object-unlocked : (c : Content) (free : ℕ) (r : Request) (seen : Around) → is_served_wait r.service ≡ true → IsCallOn c r → Block ≡ decision_by c free r seen → seen.locked ≡ false
object-unlocked (Count n) free r seen w on h = semaphore-unlocked r.service n r seen w on h
object-unlocked (Messages limit ms) free r seen w on h = queue-unlocked r.service limit ms free r seen w on h
object-unlocked (Bits bits) free r seen w on h = flags-unlocked r.service bits r seen w on h
object-unlocked (Held owner nesting) free r seen w on h = absurd cc
object-unlocked (Timed t) free r seen w on h = absurd cc

-- on the caller's own semaphore or queue
task-unlocked : (s : Service) (n limit : ℕ) (ms : List (ℕ × ℕ)) (free : ℕ) (r : Request) (seen : Around) → is_served_wait s ≡ true → is_task_call s ≡ true → Block ≡ own.decision_for s n limit ms free r seen → seen.locked ≡ false
task-unlocked TaskSemPend n limit ms free r seen w t h = task-sem-unlocked n (argument r 1) seen.locked h
task-unlocked TaskQPend n limit ms free r seen w t h = q-unlocked ms (argument r 1) seen.locked h
task-unlocked SemPend n limit ms free r seen w t h = absurd (false≢true t)
task-unlocked QPend n limit ms free r seen w t h = absurd (false≢true t)
task-unlocked FlagPend n limit ms free r seen w t h = absurd (false≢true t)
task-unlocked TimeDly n limit ms free r seen w t h = absurd (false≢true t)
task-unlocked _ n limit ms free r seen w t h = absurd (false≢true w)

-- up to eight objects of the kernel, none twice
pub record AreObjects (n : ℕ) (os : List ℕ) : Type 0 where
  pub inside : All (λ o. o < n) os
  pub once : (o : ℕ) → count_of o os ≤ 1
  pub few : length os ≤ 8

no-objects : (n : ℕ) → AreObjects n []
no-objects n = record { inside = All-nil (λ o. o < n); once = λ o. omega arith; few = omega arith }

once-one : (b : Bool) → (if b then 1 else 0) + 0 ≤ 1
once-one true = omega arith
once-one false = omega arith

one-object : (n o : ℕ) → o < n → AreObjects n (o ∷ [])
one-object n o h = record { inside = All-cons (λ i. i < n) o [] h (All-nil (λ i. i < n)); once = λ i. once-one (o == i); few = omega arith }

waited-by : (s : Service) (r : Request) (n : ℕ) → is_served_wait s ≡ true → (is_scheduler_call s ≡ false → is_task_call s ≡ false → argument r 0 < n) → AreObjects n (wait_objects s r)
waited-by SemPend r n w h = one-object n (argument r 0) (h refl refl)
waited-by QPend r n w h = one-object n (argument r 0) (h refl refl)
waited-by FlagPend r n w h = one-object n (argument r 0) (h refl refl)
waited-by TimeDly r n w h = no-objects n
waited-by TaskSemPend r n w h = no-objects n
waited-by TaskQPend r n w h = no-objects n
waited-by _ r n w h = absurd (false≢true w)

-- a call on the scheduler
delay-unlocked : (locked : Bool) (n : ℕ) → Block ≡ delay_decision locked n → locked ≡ false
delay-unlocked true n h = absurd cc
delay-unlocked false n h = refl

scheduler-unlocked : (s : Service) (r : Request) (seen : Around) (k : Kernel) → is_served_wait s ≡ true → is_scheduler_call s ≡ true → Block ≡ scheduler_decision_for s r seen k → seen.locked ≡ false
scheduler-unlocked TimeDly r seen k w n h = delay-unlocked seen.locked _ h
scheduler-unlocked SemPend r seen k w n h = absurd (false≢true n)
scheduler-unlocked QPend r seen k w n h = absurd (false≢true n)
scheduler-unlocked FlagPend r seen k w n h = absurd (false≢true n)
scheduler-unlocked TaskSemPend r seen k w n h = absurd (false≢true n)
scheduler-unlocked TaskQPend r seen k w n h = absurd (false≢true n)
scheduler-unlocked _ r seen k w n h = absurd (false≢true w)

-- what the caller waits for has these objects
pub wait-objects : (s : Service) (r : Request) (ticks : ℕ) → (wait_of s r ticks).objects ≡ wait_objects s r
wait-objects FlagPend r ticks = refl
wait-objects TaskSemPend r ticks = refl
wait-objects TaskQPend r ticks = refl
wait-objects TimeDly r ticks = refl
wait-objects _ r ticks = refl

-- the caller waits
module _ (r : Request) (seen : Around) (k : Kernel) (e : Block ≡ decision_of r seen k) (w : is_served_wait r.service ≡ true) where
  unlocked-objects : (b : Bool) → is_task_call r.service ≡ b → is_scheduler_call r.service ≡ false → seen.locked ≡ false
  unlocked-objects true t n =
      let it = acting-objects r seen Block k n (wait-no-timer r.service w) e refl in
      let u = task_at k (target r.service r seen.caller.0) in
      task-unlocked r.service u.count u.limit u.messages k.free r seen w t (it.decided ∙ by-task r seen k t)
  unlocked-objects false t n =
      let it = acting-objects r seen Block k n (wait-no-timer r.service w) e refl in
      object-unlocked (content_for r k) k.free r seen w (passed-call r seen.caller.0 k it.served t it.passed) (it.decided ∙ by-object r seen k t)

  unlocked-if : (b : Bool) → is_scheduler_call r.service ≡ b → seen.locked ≡ false
  unlocked-if true n = scheduler-unlocked r.service r seen k w n ((acting r seen Block k e refl).decided ∙ about-scheduler r seen k n)
  unlocked-if false n = unlocked-objects (is_task_call r.service) refl n

  pub unlocked : seen.locked ≡ false
  unlocked = unlocked-if (is_scheduler_call r.service) refl

  pub waited-objects : AreObjects (length k.objects) (wait_objects r.service r)
  waited-objects =
      waited-by r.service r (length k.objects) w
      (λ n t. let it = acting-objects r seen Block k n (wait-no-timer r.service w) e refl in passed-inside r seen.caller.0 k it.served t it.passed)

-- what is decided does not depend on the lists of the kernel
after-lists : (e : Option OsErr) (r : Request) (seen : Around) (k : Kernel) (l : Lists) → decision_after e r seen k ≡ decision_after e r seen (with_lists k l)
after-lists None r seen k l = about-lists r seen k l
after-lists (Some err) r seen k l = refl

pub decision-lists : (r : Request) (seen : Around) (k : Kernel) (l : Lists) → decision_of r seen k ≡ decision_of r seen (with_lists k l)
decision-lists r seen k l = ap (λ d. if program_serves r.service then d else refusal CallUnknown) (after-lists (call_error r seen.caller.0 k) r seen k l)
