-- What a service does, its outcome and its blocks of micro-steps side by side; and what all services share: to refuse,
-- to wake tasks, to block the caller.
use Rattle.std.specs.Prelude.{ℕ, zero, suc, ◌+◌, ◌*◌, ◌%◌, ◌^◌, Bool, true, false, not, List, [], ◌∷◌, ◌++◌, length, Some, None, if◌then◌else◌, ◌==◌, slice_set, filter, insert, replicate}
use Rattle.kern_base.specs.declared.services.Service.{Service}
use Rattle.kern_base.specs.declared.services.Service.TheVariants.{TaskSemPend, TaskQPend, PendMulti, TimeDly, Unknown}
use Rattle.kern_base.specs.declared.outcomes.Waiting.{Waiting}
use Rattle.kern_base.specs.declared.outcomes.Waiting.TheVariants.{No, Delay, Obj, TaskSem, TaskQ, Multi, Signal}
use Rattle.kern_base.specs.declared.errors.OsErr.{OsErr}
use Rattle.kern_base.specs.declared.errors.OsErr.TheVariants.{NoError, WouldBlock, SchedLocked}
use Rattle.kern_base.specs.declared.outcomes.Answer.{Answer}
use Rattle.kern_base.specs.declared.outcomes.Finished.{Finished}
use Rattle.kern_base.specs.declared.outcomes.Outcome.{Outcome}
use Rattle.kern_base.specs.declared.outcomes.Outcome.TheVariants.{Answered, Waits}
use Rattle.kern_model.specs.State.{Kernel, Task, update_list, update_task, without, task_at, prio_of, place_of, is_zero}
use Rattle.kern_model.specs.Micro.{Block, unready, readied, wait, leave, join_place, wait_place}

-- The new kernel, the outcome, and the blocks between begin and end.
pub record Effect : Type 0 where
  pub kernel : Kernel
  pub outcome : Outcome
  pub blocks : List Block

-- answers

-- an answer with this error and value, and no message
abbrev pub answer : OsErr → ℕ → Answer
answer err value = record { err = err; value = value; extra = 0 }

-- an answer without an error
abbrev pub fine : ℕ → Answer
fine value = answer NoError value

-- the outcome of a call that is answered at once
abbrev pub answers : Answer → Outcome
answers a = Answered a None

-- a call that is refused changes nothing
abbrev pub refused : Kernel → OsErr → Effect
refused k err = record { kernel = k; outcome = answers (answer err 0); blocks = [] }

-- a call that is answered at once, without a block
abbrev pub done : Kernel → Answer → Effect
done k a = record { kernel = k; outcome = answers a; blocks = [] }

-- an effect, and then another from the kernel that it leaves: the outcome is the second one's
abbrev pub and_then : Effect → (Kernel → Effect) → Effect
and_then e f =
    let g = f e.kernel in
    record { kernel = g.kernel; outcome = g.outcome; blocks = e.blocks ++ g.blocks }

-- The results that wait for a task.

-- the result of a call other than OSPendMulti
abbrev pub plain_result : Service → Answer → Finished
plain_result s a = record { service = s; answer = a; ready = 0; msgs = replicate 8 (0, 0); table = 0; n_ids = 0 }

-- the result of the OSPendMulti in which this task waits: the entries with a bit in `ready` were taken
abbrev pub multi_result : Task → Answer → ℕ → List (ℕ × ℕ) → Finished
multi_result t a ready msgs =
    record { service = PendMulti; answer = a; ready = ready; msgs = msgs; table = t.table; n_ids = length t.objects }

-- the result of the call in which a task waits, where no message is handed to it
abbrev pub waited : Waiting → Task → Answer → Finished
waited (Obj s) t a = plain_result s a
waited Delay t a = plain_result TimeDly a
waited TaskSem t a = plain_result TaskSemPend a
waited TaskQ t a = plain_result TaskQPend a
waited Multi t a = multi_result t a 0 (replicate 8 (0, 0))
waited No t a = plain_result (Unknown 0) a
waited Signal t a = plain_result (Unknown 0) a

-- the result of the call in which this task waits, where no message is handed to it
abbrev pub result_of : Answer → Task → Finished
result_of a t = waited t.waiting t a

-- an answer with this value and this message size
abbrev pub message : ℕ → ℕ → Answer
message value extra = record { err = NoError; value = value; extra = extra }

-- the result of a post to object o with this answer: in OSPendMulti the object's entry is taken, and the value is 1
abbrev pub posted_to : Waiting → ℕ → Answer → Task → Finished
posted_to Multi o a t =
    let i = place_of o t.objects in
    multi_result t (fine 1) (2 ^ i) (slice_set (replicate 8 (0, 0)) i (a.value, a.extra))
posted_to w o a t = waited w t a

-- the result of a post to object o for this task
abbrev pub posted_result : ℕ → Answer → Task → Finished
posted_result o a t = posted_to t.waiting o a t

-- To wake a task: it leaves its pend lists, its timeout is gone, and a result waits for it; where it is not suspended, it
-- joins the ready list of its priority.

-- the task waits no more, and this result waits for it
abbrev pub answered_task : Finished → Task → Task
answered_task f t = record t { waiting = No; answered = Some f }

-- x leaves the lists of these objects
abbrev pub left_all : ℕ → List ℕ → List (List ℕ) → List (List ℕ)
left_all x [] lists = lists
left_all x (o ∷ os) lists = left_all x os (update_list lists o (without x))

-- x joins the ready list of priority p, at this place
abbrev pub joined : (List ℕ → ℕ) → ℕ → ℕ → List (List ℕ) → List (List ℕ)
joined place x p lists = update_list lists p (λ xs. insert xs (place xs) x)

-- the ready lists after x, suspended so often, waits no more
abbrev pub woken_ready : ℕ → ℕ → ℕ → ℕ → List (List ℕ) → List (List ℕ)
woken_ready zero p compared x lists = joined (join_place p compared) x p lists
woken_ready (suc n) p compared x lists = lists

-- the match of x is gone
abbrev pub unmatched : ℕ → List (ℕ × ℕ) → List (ℕ × ℕ)
unmatched x matches = filter (λ m. not (m.0 == x)) matches

-- the kernel after x is woken with this result
abbrev pub wakes : Finished → ℕ → ℕ → Kernel → Kernel
wakes f compared x k =
    let t = task_at k x in
    record k {
      tasks = update_task k.tasks x (answered_task f);
      ready = woken_ready t.suspended t.prio compared x k.ready;
      pend = left_all x t.objects k.pend;
      matches = unmatched x k.matches;
    }

-- these tasks are woken in order, each with the result that f says
abbrev pub wakes_all : (Task → Finished) → ℕ → List ℕ → Kernel → Kernel
wakes_all f compared [] k = k
wakes_all f compared (x ∷ xs) k = wakes_all f compared xs (wakes (f (task_at k x)) compared x k)

-- x leaves the lists of these objects, one after another
abbrev pub leave_blocks : ℕ → List ℕ → List Block
leave_blocks x [] = []
leave_blocks x (o ∷ os) = leave x o ∷ leave_blocks x os

-- x joins the ready list of priority p, unless it is suspended
abbrev pub ready_blocks : ℕ → ℕ → ℕ → ℕ → List Block
ready_blocks zero x p compared = readied x p compared ∷ []
ready_blocks (suc n) x p compared = []

-- the blocks of a wake
abbrev pub wake_blocks : Kernel → ℕ → ℕ → List Block
wake_blocks k compared x =
    let t = task_at k x in
    leave_blocks x t.objects ++ ready_blocks t.suspended x t.prio compared

-- the blocks of several wakes
abbrev pub wakes_blocks : Kernel → ℕ → List ℕ → List Block
wakes_blocks k compared [] = []
wakes_blocks k compared (x ∷ xs) = wake_blocks k compared x ++ wakes_blocks k compared xs

-- how many micro-steps it takes to wake a task, and to wake these tasks
abbrev pub wake_cost : Task → ℕ
wake_cost t = 2 * length t.objects + (if is_zero t.suspended then 3 else 0)

-- of several tasks
abbrev pub wakes_cost : Kernel → List ℕ → ℕ
wakes_cost k [] = 0
wakes_cost k (x ∷ xs) = wake_cost (task_at k x) + wakes_cost k xs

-- a post, an abort or a deletion that wakes these
abbrev pub woken : (Task → Finished) → Answer → ℕ → List ℕ → Kernel → Effect
woken f a compared xs k = record { kernel = wakes_all f compared xs k; outcome = answers a; blocks = wakes_blocks k compared xs }

-- the first of the waiters, and all where the option says so
abbrev pub chosen : Bool → List ℕ → List ℕ
chosen all [] = []
chosen true (x ∷ xs) = x ∷ xs
chosen false (x ∷ xs) = x ∷ []

-- To block: the caller leaves its ready list and waits for these objects; where the timeout is not 0 it gets a match.

-- what the caller of a service waits for
pub record Wait : Type 0 where
  pub waiting : Waiting
  pub objects : List ℕ
  pub mask : ℕ
  pub opt : ℕ
  pub table : ℕ
  pub timeout : ℕ

-- a wait that is not for event flags, and not for several objects
abbrev pub waits_for : Waiting → List ℕ → ℕ → Wait
waits_for waiting objects timeout = record { waiting = waiting; objects = objects; mask = 0; opt = 0; table = 0; timeout = timeout }

-- the task waits so
abbrev pub waiting_task : Wait → Task → Task
waiting_task w t = record t { waiting = w.waiting; objects = w.objects; mask = w.mask; opt = w.opt; table = w.table }

-- the match of a new timeout, and none where the timeout is 0
abbrev pub new_match : ℕ → ℕ → ℕ → List (ℕ × ℕ)
new_match x zero ticks = []
new_match x (suc n) ticks = (x, (ticks + suc n) % 2 ^ 32) ∷ []

-- x stands in the lists of these objects, in each after those whose priority number is at most its own
abbrev pub stands_in : (ℕ → ℕ) → ℕ → ℕ → List ℕ → List (List ℕ) → List (List ℕ)
stands_in prio x p [] lists = lists
stands_in prio x p (o ∷ os) lists =
    stands_in prio x p os (update_list lists o (λ xs. insert xs (wait_place prio p xs) x))

-- the kernel after the caller x waits so
abbrev pub blocked : Kernel → ℕ → Wait → Kernel
blocked k x w =
    let p = prio_of k x in
    record k {
      tasks = update_task k.tasks x (waiting_task w);
      ready = update_list k.ready p (without x);
      pend = stands_in (prio_of k) x p w.objects k.pend;
      matches = k.matches ++ new_match x w.timeout k.ticks;
    }

-- x joins the waiters of these objects, one after another
abbrev pub wait_blocks : (ℕ → ℕ) → ℕ → ℕ → List ℕ → List Block
wait_blocks prio x p [] = []
wait_blocks prio x p (o ∷ os) = wait prio x p o ∷ wait_blocks prio x p os

-- the blocks of a caller that blocks
abbrev pub block_blocks : Kernel → ℕ → List ℕ → List Block
block_blocks k x objects = let p = prio_of k x in unready x p ∷ wait_blocks (prio_of k) x p objects

-- the caller x waits so
abbrev pub blocks_on : Kernel → ℕ → Wait → Effect
blocks_on k x w = record { kernel = blocked k x w; outcome = Waits; blocks = block_blocks k x w.objects }

-- a call that can not go on at once: it is non-blocking, or the scheduler is locked, or the caller blocks
abbrev pub waits_unless : Kernel → Bool → Effect → Effect
waits_unless k true e = refused k WouldBlock
waits_unless k false e = if k.lock == 0 then e else refused k SchedLocked
