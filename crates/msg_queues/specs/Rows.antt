-- What is decided of a call on a message queue, and how its messages and the pool change.
use Rattle.std.specs.Prelude.{◌≡◌, ℕ, ◌+◌, ◌-◌, Bool, true, false, List, [], ◌∷◌, drop, length, Option, Some, None, if◌then◌else◌}
use Rattle.kern_base.specs.Services.{kinds_wanted}
use Rattle.kern_base.specs.declared.kinds.Kind.TheVariants as kind
use Rattle.kern_base.specs.declared.numbers.TaskId.{TaskId}
use Rattle.kern_base.specs.declared.services.Service.{Service}
use Rattle.kern_base.specs.declared.services.Service.TheVariants.{QPost, QPend, QPendAbort, QDel}
use Rattle.kern_base.specs.declared.requests.Request.{Request}
use Rattle.kern_base.specs.declared.errors.OsErr.{OsErr}
use Rattle.kern_base.specs.declared.outcomes.Around.{Around}
use Rattle.kern_base.specs.declared.outcomes.Decision.{Decision}
use Rattle.kern_base.specs.declared.outcomes.Decision.TheVariants.{Done, Wake}
use Rattle.kern_base.specs.declared.outcomes.Who.TheVariants.{First, All}
use Rattle.kern_model.specs.State.{Kernel, Messages, list_at, with_content}
use Rattle.kern_model.specs.Call.{call_of}
use Rattle.kern_model.specs.Checks.{argument}
use Rattle.kern_model.specs.Effect.{fine, message}
use Rattle.kern_model.specs.Options.{stores_first, hands_to_all, does_not_wait}
use Rattle.kern_model.specs.Queues.{stored, store_error}
use Rattle.kern_model.specs.Services.{content_for, perform}
use Rattle.decisions.specs.Around.{IsAround}
use Rattle.decisions.specs.Decided.{decided}
use Rattle.decisions.specs.Rows.{is_success, refusal, wait_decision, abort_decision, delete_decision}

-- a call whose object is a message queue
abbrev pub IsQueueCall : Request → Type 0
IsQueueCall r = kinds_wanted r.service ≡ kind.Queue ∷ []

-- a message is stored, unless it can not be
abbrev pub store_decision : Option OsErr → Decision
store_decision None = Done (fine 0)
store_decision (Some err) = refusal err

-- a post of a message, where so many are held, so many may be, and so many are free: the first waiter gets it, or all do; where
-- nobody waits it is stored
abbrev pub post_decision : ℕ → ℕ → ℕ → ℕ → Option TaskId → Decision
post_decision held limit free option None = store_decision (store_error held limit free)
post_decision held limit free option (Some x) = Wake (if hands_to_all option then All else First)

-- a wait gets the first of these messages; where there is none it can not go on
abbrev pub pend_decision : List (ℕ × ℕ) → ℕ → Bool → Decision
pend_decision [] option locked = wait_decision (does_not_wait option) locked
pend_decision (m ∷ ms) option locked = Done (message m.0 m.1)

-- the decision on a call, where a queue with this limit has these messages
abbrev pub decision_for : Service → ℕ → List (ℕ × ℕ) → ℕ → Request → Around → Decision
decision_for QPost limit ms free r seen = post_decision (length ms) limit free (argument r 3) seen.first
decision_for QPend limit ms free r seen = pend_decision ms (argument r 2) seen.locked
decision_for QPendAbort limit ms free r seen = abort_decision (argument r 1) seen.first
decision_for _ limit ms free r seen = delete_decision (argument r 1) seen.first

abbrev pub decision_of : ℕ → List (ℕ × ℕ) → ℕ → Request → Around → Decision
decision_of limit ms free r seen = decision_for r.service limit ms free r seen

-- whether a decision wakes somebody
abbrev pub wakes_some : Decision → Bool
wakes_some (Wake who) = true
wakes_some _ = false

-- the messages after a call that was decided so: a post that succeeds without waking anybody stores one, a wait that succeeds
-- takes one, and a deletion gives all of them back
abbrev pub messages_after : Service → Decision → Request → List (ℕ × ℕ) → List (ℕ × ℕ)
messages_after QPost d r ms = if is_success d then stored (stores_first (argument r 3)) (argument r 1, argument r 2) ms else ms
messages_after QPend d r ms = if is_success d then drop 1 ms else ms
messages_after QDel d r ms = if wakes_some d then [] else ms
messages_after _ d r ms = ms

-- the number of free messages after it, where so many were held
abbrev pub free_after : Service → Decision → ℕ → ℕ → ℕ
free_after QPost d held free = if is_success d then free - 1 else free
free_after QPend d held free = if is_success d then free + 1 else free
free_after QDel d held free = if wakes_some d then free + held else free
free_after _ d held free = free

-- the kernel with these messages in a queue, and so many free
abbrev pub with_messages : Kernel → ℕ → ℕ → List (ℕ × ℕ) → ℕ → Kernel
with_messages k o limit ms free = record (with_content k o (Messages limit ms)) { free = free }

-- The decision on a call about a queue with this limit and these messages, where so many are free and with this around it: it
-- comes to what the service does, in every kernel with this queue, so many free messages and this around it.
abbrev pub IsQueueDecided : Decision → ℕ → List (ℕ × ℕ) → ℕ → Request → Around → Type 0
IsQueueDecided d limit ms free r seen =
    (k : Kernel) (interrupted compared : ℕ) →
    content_for r k ≡ Messages limit ms → k.free ≡ free → IsAround seen (list_at k.pend (argument r 0)) k →
    perform r.service (call_of r seen.caller.0 interrupted compared) k
    ≡ decided d r.service r seen.caller.0 compared (list_at k.pend (argument r 0))
    (with_messages k (argument r 0) limit (messages_after r.service d r ms) (free_after r.service d (length ms) free))
