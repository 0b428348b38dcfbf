-- The services of message queues, and how a message is stored in a queue of limited length from the pool of free messages.
use Rattle.std.specs.Prelude.{ℕ, ◌+◌, ◌-◌, Bool, true, false, List, [], ◌∷◌, ◌++◌, length, if◌then◌else◌, ◌==◌, nat_le, Option, Some, None}
use Rattle.kern_base.specs.declared.services.Service.TheVariants.{QPend}
use Rattle.kern_base.specs.declared.outcomes.Waiting.TheVariants.{Obj}
use Rattle.kern_base.specs.declared.requests.Request.{Request}
use Rattle.kern_base.specs.declared.errors.OsErr.{OsErr}
use Rattle.kern_base.specs.declared.errors.OsErr.TheVariants.{ObjectType, QueueMax, PoolEmpty}
use Rattle.kern_model.specs.State.{Kernel, Content, Messages, list_at, with_content}
use Rattle.kern_model.specs.Effect.{Effect, refused, done, fine, message, woken, chosen, posted_result, waits_unless, blocks_on, waits_for}
use Rattle.kern_model.specs.Options.{stores_first, hands_to_all, does_not_wait}
use Rattle.kern_model.specs.Checks.{argument}

-- the messages after one more is stored: first with LIFO, else last
abbrev pub stored : Bool → ℕ × ℕ → List (ℕ × ℕ) → List (ℕ × ℕ)
stored true m ms = m ∷ ms
stored false m ms = ms ++ m ∷ []

-- why a message can not be stored: the queue is at its limit, or no message is free
abbrev pub store_error : ℕ → ℕ → ℕ → Option OsErr
store_error held limit free = if nat_le limit held then Some QueueMax else (if free == 0 then Some PoolEmpty else None)

-- a message is stored in a queue, unless it can not be
abbrev pub store_in : Option OsErr → ℕ → ℕ → List (ℕ × ℕ) → Kernel → Effect
store_in (Some err) o limit ms k = refused k err
store_in None o limit ms k = done (record (with_content k o (Messages limit ms)) { free = k.free - 1 }) (fine 0)

-- OSQPost: hands the message to the first waiter, or with option bit 1 to all of them; where nobody waits it is stored, with
-- option bit 0 as the first.
abbrev pub q_post_to : List ℕ → ℕ → List (ℕ × ℕ) → Request → ℕ → Kernel → Effect
q_post_to [] limit ms r compared k =
    let queue = argument r 0 in
    let address = argument r 1 in
    let size = argument r 2 in
    let option = argument r 3 in
    store_in (store_error (length ms) limit k.free) queue limit (stored (stores_first option) (address, size) ms) k
q_post_to (x ∷ xs) limit ms r compared k =
    let queue = argument r 0 in
    let address = argument r 1 in
    let size = argument r 2 in
    let option = argument r 3 in
    woken (posted_result queue (message address size)) (fine 0) compared (chosen (hands_to_all option) (x ∷ xs)) k

-- OSQPost on what an object holds
abbrev pub q_post : Content → Request → ℕ → Kernel → Effect
q_post (Messages limit ms) r compared k = let queue = argument r 0 in q_post_to (list_at k.pend queue) limit ms r compared k
q_post content r compared k = refused k ObjectType

-- OSQPend: takes the first message; where there is none the caller waits.
abbrev pub q_pend : Content → Request → ℕ → Kernel → Effect
q_pend (Messages limit []) r x k =
    let queue = argument r 0 in
    let timeout = argument r 1 in
    let option = argument r 2 in
    waits_unless k (does_not_wait option) (blocks_on k x (waits_for (Obj QPend) (queue ∷ []) timeout))
q_pend (Messages limit (m ∷ ms)) r x k =
    let queue = argument r 0 in
    done (record (with_content k queue (Messages limit ms)) { free = k.free + 1 }) (message m.0 m.1)
q_pend content r x k = refused k ObjectType
