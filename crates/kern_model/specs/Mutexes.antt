-- The services of mutexes.
use Rattle.std.specs.Prelude.{ℕ, ◌+◌, ◌-◌, Bool, false, List, [], ◌∷◌, if◌then◌else◌, ◌==◌, nat_lt, Some, None}
use Rattle.kern_base.specs.declared.services.Service.TheVariants.{MutexPend}
use Rattle.kern_base.specs.declared.outcomes.Waiting.TheVariants.{Obj}
use Rattle.kern_base.specs.declared.requests.Request.{Request}
use Rattle.kern_base.specs.declared.errors.OsErr.TheVariants.{ObjectType, Depth, MutexOwner, MutexNotOwner, MutexNesting, PendAbortNone, TaskWaiting}
use Rattle.kern_model.specs.State.{Kernel, Content, Held, list_at, with_content, nesting_limit}
use Rattle.kern_model.specs.Micro.{at_head, at_tail}
use Rattle.kern_model.specs.Effect.{Effect, refused, done, answer, fine, woken, chosen, result_of, waits_unless, blocks_on, waits_for}
use Rattle.kern_model.specs.Options.{does_not_wait, aborts_all, deletes_always}
use Rattle.kern_model.specs.Checks.{argument}
use Rattle.kern_model.specs.Inherit.{renewing}
use Rattle.kern_model.specs.Waiters.{aborts, deletes}

-- the owner nests it once more, up to 250 times
abbrev pub nests : ℕ → ℕ → ℕ → Kernel → Effect
nests o x nesting k =
    if nesting == nesting_limit then refused k Depth
    else done (with_content k o (Held (Some x) (nesting + 1))) (answer MutexOwner (nesting + 1))

-- OSMutexPend: a free mutex becomes the caller's; its owner nests it; every other caller waits, and priorities are renewed.
abbrev pub mutex_pend : Content → Request → ℕ → Kernel → Effect
mutex_pend (Held None nesting) r x k = let mutex = argument r 0 in done (with_content k mutex (Held (Some x) 1)) (fine 1)
mutex_pend (Held (Some v) nesting) r x k =
    let mutex = argument r 0 in
    let timeout = argument r 1 in
    let option = argument r 2 in
    if v == x then nests mutex x nesting k
    else waits_unless k (does_not_wait option) (renewing at_head (blocks_on k x (waits_for (Obj MutexPend) (mutex ∷ []) timeout)))
mutex_pend content r x k = refused k ObjectType

-- the mutex goes to the first waiter, and is free where nobody waits
abbrev pub passes_to : List ℕ → ℕ → ℕ → Kernel → Effect
passes_to [] o compared k = done (with_content k o (Held None 0)) (fine 0)
passes_to (x ∷ xs) o compared k = woken (result_of (fine 1)) (fine 0) compared (x ∷ []) (with_content k o (Held (Some x) 1))

-- OSMutexPost: the owner's nesting falls; at 0 the mutex goes on, and priorities are renewed.
abbrev pub released : ℕ → Request → ℕ → ℕ → Kernel → Effect
released nesting r x compared k =
    let mutex = argument r 0 in
    if nat_lt 1 nesting then done (with_content k mutex (Held (Some x) (nesting - 1))) (answer MutexNesting (nesting - 1))
    else renewing at_tail (passes_to (list_at k.pend mutex) mutex compared k)

-- OSMutexPost on what an object holds: only the owner may post
abbrev pub mutex_post : Content → Request → ℕ → ℕ → Kernel → Effect
mutex_post (Held None nesting) r x compared k = refused k MutexNotOwner
mutex_post (Held (Some v) nesting) r x compared k = if v == x then released nesting r x compared k else refused k MutexNotOwner
mutex_post content r x compared k = refused k ObjectType

-- OSMutexPendAbort: as for other objects, and priorities are renewed.
abbrev pub mutex_aborts : List ℕ → ℕ → Kernel → Effect
mutex_aborts [] compared k = refused k PendAbortNone
mutex_aborts (x ∷ xs) compared k = renewing at_tail (aborts (x ∷ xs) compared k)

-- OSMutexPendAbort for the first waiter, or for all
abbrev pub mutex_pend_abort : Request → ℕ → Kernel → Effect
mutex_pend_abort r compared k =
    let mutex = argument r 0 in
    let option = argument r 1 in
    mutex_aborts (chosen (aborts_all option) (list_at k.pend mutex)) compared k

-- OSMutexDel: as for other objects, and priorities are renewed.
abbrev pub mutex_deletes : Bool → List ℕ → ℕ → ℕ → Kernel → Effect
mutex_deletes false (x ∷ xs) o compared k = refused k TaskWaiting
mutex_deletes all xs o compared k = renewing at_tail (deletes all xs o compared k)

-- OSMutexDel with or without waiters
abbrev pub mutex_del : Request → ℕ → Kernel → Effect
mutex_del r compared k =
    let mutex = argument r 0 in
    let option = argument r 1 in
    mutex_deletes (deletes_always option) (list_at k.pend mutex) mutex compared k
