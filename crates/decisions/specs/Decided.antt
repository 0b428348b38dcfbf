-- What a decision on a call comes to: the answers, who waits, who is woken with what, and that priorities are renewed. How the
-- object of the call changes is the object's own.
use Rattle.std.specs.Prelude.{◌≡◌, ℕ, Bool, true, false, List, [], ◌∷◌, length, if◌then◌else◌}
use Rattle.kern_base.specs.Services.{renews}
use Rattle.kern_base.specs.declared.services.Service.{Service}
use Rattle.kern_base.specs.declared.services.Service.TheVariants.{SemPost, QPost, TaskQPost, FlagPend, TaskSemPend, TaskQPend, MutexPost, SemPendAbort, QPendAbort, FlagPendAbort, MutexPendAbort, TaskSemPendAbort, TaskQPendAbort, SemDel, QDel, FlagDel, MutexDel, TimeDly, TimeDlyResume}
use Rattle.kern_base.specs.declared.requests.Request.{Request}
use Rattle.kern_base.specs.declared.errors.OsErr.TheVariants.{PendAbort, ObjectDeleted, TaskSuspended}
use Rattle.kern_base.specs.declared.outcomes.Answer.{Answer}
use Rattle.kern_base.specs.declared.outcomes.Around.{Around}
use Rattle.kern_base.specs.declared.outcomes.Decision.{Decision}
use Rattle.kern_base.specs.declared.outcomes.Decision.TheVariants.{Done, Block, Wake}
use Rattle.kern_base.specs.declared.outcomes.Finished.{Finished}
use Rattle.kern_base.specs.declared.outcomes.Waiting.TheVariants.{Delay, Obj, TaskSem, TaskQ}
use Rattle.kern_base.specs.declared.outcomes.Who.{Who}
use Rattle.kern_base.specs.declared.outcomes.Who.TheVariants.{First, All, Matching}
use Rattle.kern_model.specs.State.{Kernel, Task, Content, Bits, is_zero, list_at, task_at, with_content}
use Rattle.kern_model.specs.Micro.{at_head, at_tail}
use Rattle.kern_model.specs.Call.{call_of}
use Rattle.kern_model.specs.Checks.{argument}
use Rattle.kern_model.specs.Effect.{Effect, Wait, done, answer, answers, fine, message, result_of, posted_result, woken, chosen, blocks_on, waits_for}
use Rattle.kern_model.specs.Flags.{flag_wakes_all, flag_blocks_all}
use Rattle.kern_model.specs.Inherit.{renewing}
use Rattle.kern_model.specs.Services.{content_for, perform}
use Rattle.kern_model.specs.Time.{delay_of}
use Rattle.kern_model.specs.Waiters.{without_object}
use Rattle.decisions.specs.Around.{IsAround}

-- how a call of a service ends the waits of those that it wakes
pub data Ending : Type 0 where
  Posted : Ending
  Aborted : Ending
  Deleted : Ending

abbrev pub ending_of : Service → Ending
ending_of SemPendAbort = Aborted
ending_of QPendAbort = Aborted
ending_of FlagPendAbort = Aborted
ending_of MutexPendAbort = Aborted
ending_of TaskSemPendAbort = Aborted
ending_of TaskQPendAbort = Aborted
ending_of SemDel = Deleted
ending_of QDel = Deleted
ending_of FlagDel = Deleted
ending_of MutexDel = Deleted
ending_of _ = Posted

-- what a post hands to each task that it wakes: a message, or 1 for a mutex, or nothing
abbrev pub posted_answer : Service → Request → Answer
posted_answer QPost r = message (argument r 1) (argument r 2)
posted_answer TaskQPost r = message (argument r 1) (argument r 2)
posted_answer MutexPost r = fine 1
posted_answer _ r = fine 0

-- the answer that a woken task gets
abbrev pub handed : Ending → Service → Request → Answer
handed Posted s r = posted_answer s r
handed Aborted s r = answer PendAbort 0
handed Deleted s r = answer ObjectDeleted 0

-- its result: a post to a semaphore or a queue also ends waits for several objects
abbrev pub handed_result : Service → Request → Answer → Task → Finished
handed_result SemPost r a = posted_result (argument r 0) a
handed_result QPost r a = posted_result (argument r 0) a
handed_result _ r a = result_of a

-- the answer of the call that woke so many: a post's value is 0, an abort's and a deletion's is their number
abbrev pub reply : Ending → ℕ → Answer
reply Posted n = fine 0
reply Aborted n = fine n
reply Deleted n = fine n

-- the answer of the call that ended a delay: also where the task is suspended, and so not ready yet
abbrev pub ended_delay : ℕ → Answer
ended_delay suspended = if is_zero suspended then fine 0 else answer TaskSuspended 0

-- the answer of the call that woke these
abbrev pub replied : Service → List ℕ → Kernel → Answer
replied TimeDlyResume (x ∷ xs) k = ended_delay (task_at k x).suspended
replied s xs k = reply (ending_of s) (length xs)

-- these tasks are woken
abbrev pub ends_waits : Service → Request → ℕ → List ℕ → Kernel → Effect
ends_waits s r compared xs k =
    woken (handed_result s r (handed (ending_of s) s r)) (replied s xs k) compared xs k

-- the bits of a group
abbrev pub bits_in : Content → ℕ
bits_in (Bits bits) = bits
bits_in content = 0

-- each waiter whose condition holds on these bits is woken
abbrev pub wakes_matching : ℕ → ℕ → List ℕ → Kernel → Effect
wakes_matching bits compared xs k =
    record {
      kernel = flag_wakes_all bits compared xs k;
      outcome = answers (fine bits);
      blocks = flag_blocks_all bits compared xs k;
    }

-- of those that wait, the first is woken, or all, or those whose condition on the group's bits holds
abbrev pub wakes_some : Who → Service → Request → ℕ → List ℕ → Kernel → Effect
wakes_some First s r compared xs k = ends_waits s r compared (chosen false xs) k
wakes_some All s r compared xs k = ends_waits s r compared xs k
wakes_some Matching s r compared xs k = wakes_matching (bits_in (content_for r k)) compared xs k

-- after a deletion the object is gone
abbrev pub gone_by : Ending → ℕ → Kernel → Kernel
gone_by Deleted o k = without_object o k
gone_by _ o k = k

abbrev pub gone_after : Ending → ℕ → Effect → Effect
gone_after g o e = record { kernel = gone_by g o e.kernel; outcome = e.outcome; blocks = e.blocks }

-- the objects for which a caller waits that waits in this call
abbrev pub wait_objects : Service → Request → List ℕ
wait_objects TaskSemPend r = []
wait_objects TaskQPend r = []
wait_objects TimeDly r = []
wait_objects s r = argument r 0 ∷ []

-- what it waits for, at this tick
abbrev pub wait_of : Service → Request → ℕ → Wait
wait_of FlagPend r ticks =
    record {
      waiting = Obj FlagPend;
      objects = argument r 0 ∷ [];
      mask = argument r 1;
      opt = argument r 3;
      table = 0;
      timeout = argument r 2;
    }
wait_of TaskSemPend r ticks = waits_for TaskSem [] (argument r 0)
wait_of TaskQPend r ticks = waits_for TaskQ [] (argument r 0)
wait_of TimeDly r ticks = waits_for Delay [] (delay_of r ticks)
wait_of s r ticks = waits_for (Obj s) (argument r 0 ∷ []) (argument r 1)

-- priorities are renewed after a call that began or ended waits for a mutex
abbrev pub renewed_after : Bool → (List ℕ → ℕ) → Effect → Effect
renewed_after false place e = e
renewed_after true place e = renewing place e

-- The effect of a decision on a call of caller x, where these wait for the object, on a kernel in which the object has already
-- changed. Woken tasks are compared with the priority `compared`.
abbrev pub decided : Decision → Service → Request → ℕ → ℕ → List ℕ → Kernel → Effect
decided (Done a) s r x compared xs k = done k a
decided Block s r x compared xs k = renewed_after (renews s) at_head (blocks_on k x (wait_of s r k.ticks))
decided (Wake who) s r x compared xs k =
    renewed_after (renews s) at_tail (gone_after (ending_of s) (argument r 0) (wakes_some who s r compared xs k))

-- The decision on a call about an object that held `before` and then holds `after`, with this around it: it comes to what the
-- service does, in every kernel with this object and this around it.
abbrev pub IsDecided : Decision → Content → Content → Request → Around → Type 0
IsDecided d before after r seen =
    (k : Kernel) (interrupted compared : ℕ) → content_for r k ≡ before → IsAround seen (list_at k.pend (argument r 0)) k →
    perform r.service (call_of r seen.caller.0 interrupted compared) k
    ≡ decided d r.service r seen.caller.0 compared (list_at k.pend (argument r 0)) (with_content k (argument r 0) after)
