-- What a decision comes to in the records: the last micro-step of a whole step makes it.
use Rattle.std.specs.Prelude.{◌≡◌, ◌<◌, ℕ, Bool, true, false, List, [], ◌∷◌, ◌++◌, Option, Some, None, if◌then◌else◌, ◌==◌}
use Rattle.kern_base.specs.declared.numbers.TaskId.{TaskId}
use Rattle.kern_base.specs.declared.requests.Request.{Request}
use Rattle.kern_base.specs.declared.outcomes.Decision.{Decision}
use Rattle.kern_base.specs.declared.outcomes.Decision.TheVariants.{Done, Block, Wake}
use Rattle.kern_base.specs.declared.outcomes.Answer.{Answer}
use Rattle.kern_base.specs.declared.outcomes.Who.{Who}
use Rattle.kern_base.specs.declared.outcomes.Who.TheVariants.{First, All, Matching}
use Rattle.kern_base.specs.declared.outcomes.Outcome.{Outcome}
use Rattle.kern_base.specs.declared.outcomes.Outcome.TheVariants.{Waits}
use Rattle.kern_base.specs.declared.outcomes.Finished.{Finished}
use Rattle.kern_model.specs.State.{Kernel, Task, task_at, update_task}
use Rattle.kern_model.specs.Effect.{Wait, answers, answered_task, chosen, fine, new_match, result_of, unmatched, waiting_task}
use Rattle.kern_model.specs.Checks.{argument, named_task}
use Rattle.kern_model.specs.FlagBits.{ready_bits}
use Rattle.kern_model.specs.Services.{content_for}
use Rattle.decisions.specs.Decided.{Ending, Deleted, bits_in, decided, ending_of, gone_by, handed, handed_result, replied, wait_objects, wait_of}
use Rattle.kernel_records.specs.RecordsRecord.{without_lists}
use Rattle.kernel_records.specs.Suspension.{moves_task, outcome_moved, records_moved}
use Rattle.kernel_records.specs.Deciding.{IsServedDecision, own_change}
use Rattle.kernel_records.specs.Served.{IsSingle}

-- of those that wait for what a call is about the ones that a decision wakes, in order, or, of a post of event flags, looks at
abbrev pub woken_of : Decision → List ℕ → List ℕ
woken_of (Wake First) xs = chosen false xs
woken_of (Wake All) xs = xs
woken_of (Wake Matching) xs = xs
woken_of _ xs = []

-- the objects for which the caller then waits
abbrev pub objects_waited : Decision → Request → List ℕ
objects_waited Block r = wait_objects r.service r
objects_waited _ r = []

-- the bits of the event flag group that a call of x names, after this was decided of it; 0 where it names none
abbrev pub bits_left : Request → ℕ → Decision → Kernel → ℕ
bits_left r x d k = bits_in (content_for r (own_change r x d k))

-- the result that a call hands to a task that it wakes
abbrev pub handing : Request → Task → Finished
handing r t = handed_result r.service r (handed (ending_of r.service) r.service r) t

-- the records after task x waits no more and this result waits for it
abbrev pub given : ℕ → (Task → Finished) → Kernel → Kernel
given x f k = record k { tasks = update_task k.tasks x (answered_task (f (task_at k x))); matches = unmatched x k.matches }

-- the records after one task is woken, and after all of these
abbrev pub awakened : Request → ℕ → Kernel → Kernel
awakened r x k = given x (handing r) k

abbrev pub awakened_all : Request → List ℕ → Kernel → Kernel
awakened_all r [] k = k
awakened_all r (x ∷ xs) k = awakened_all r xs (awakened r x k)

-- the records after a waiter for event flags was looked at: it is woken where it has ready bits, and gets these
abbrev pub given_ready : Option ℕ → ℕ → Kernel → Kernel
given_ready None x k = k
given_ready (Some ready) x k = given x (result_of (fine ready)) k

abbrev pub looked_at : ℕ → ℕ → Kernel → Kernel
looked_at bits x k = given_ready (ready_bits bits (task_at k x).mask (task_at k x).opt) x k

abbrev pub looked_at_all : ℕ → List ℕ → Kernel → Kernel
looked_at_all bits [] k = k
looked_at_all bits (x ∷ xs) k = looked_at_all bits xs (looked_at bits x k)

-- the records after these are woken, or, by a post that has left its group's bits, looked at
abbrev pub awakens : Who → Request → List ℕ → Kernel → Kernel
awakens First r xs k = awakened_all r xs k
awakens All r xs k = awakened_all r xs k
awakens Matching r xs k = looked_at_all (bits_in (content_for r k)) xs k

-- the answer of a call that wakes these, in the kernel in which what it is about has changed
abbrev pub answer_of : Who → Request → List ℕ → Kernel → Answer
answer_of First r xs k = replied r.service xs k
answer_of All r xs k = replied r.service xs k
answer_of Matching r xs k = fine (bits_in (content_for r k))

-- whether a call that ends waits so is a deletion
abbrev pub is_deletion : Ending → Bool
is_deletion Deleted = true
is_deletion _ = false

-- the records after the caller x waits so
abbrev pub waiting_from : ℕ → Wait → Kernel → Kernel
waiting_from x w k =
    record k { tasks = update_task k.tasks x (waiting_task w); matches = k.matches ++ new_match x w.timeout k.ticks }

-- the records after the caller x waits in this call
abbrev pub waiting_in : Request → ℕ → Kernel → Kernel
waiting_in r x k = waiting_from x (wait_of r.service r k.ticks) k

-- the records after this decision on a call of caller x, which wakes these or looks at them
abbrev pub concluded : Decision → Request → ℕ → List ℕ → Kernel → Kernel
concluded (Done a) r x xs k = own_change r x (Done a) k
concluded Block r x xs k = waiting_in r x (own_change r x Block k)
concluded (Wake who) r x xs k =
    gone_by (ending_of r.service) (argument r 0) (awakens who r xs (own_change r x (Wake who) k))

-- the outcome of a decision that wakes these, in the kernel in which what the call is about has changed
abbrev pub outcome_of : Decision → Request → List ℕ → Kernel → Outcome
outcome_of (Done a) r xs k = answers a
outcome_of Block r xs k = Waits
outcome_of (Wake who) r xs k = answers (answer_of who r xs k)

-- The records and the outcome after the last micro-step of a call of x, where this task is the first of those that wait for what
-- the call is about: a task was moved in the ready lists, or what was decided is made.
abbrev pub records_after : Decision → Request → ℕ → Option TaskId → List ℕ → Kernel → Kernel
records_after d r x first xs k =
    if moves_task r.service d then records_moved r.service (named_task r x) x first k else concluded d r x xs k

abbrev pub outcome_after : Decision → Request → ℕ → List ℕ → Kernel → Outcome
outcome_after d r x xs k =
    if moves_task r.service d then outcome_moved r.service (named_task r x == x) else outcome_of d r xs (own_change r x d k)

-- What the decision comes to is just that in the records, whatever the lists are.
abbrev pub IsConcluded : Type 0
IsConcluded =
    (d : Decision) (r : Request) (x compared : ℕ) (xs : List ℕ) (k : Kernel) → IsServedDecision d r.service →
    without_lists (decided d r.service r x compared xs (own_change r x d k)).kernel ≡ concluded d r x (woken_of d xs) (without_lists k)

abbrev pub HasOutcome : Type 0
HasOutcome =
    (d : Decision) (r : Request) (x compared : ℕ) (xs : List ℕ) (k : Kernel) → IsServedDecision d r.service →
    (decided d r.service r x compared xs (own_change r x d k)).outcome ≡ outcome_of d r (woken_of d xs) (own_change r x d k)

-- No task waits for several objects.
abbrev pub AreSingle : Kernel → Type 0
AreSingle k = (x : ℕ) → x < 64 → IsSingle (task_at k x).waiting
