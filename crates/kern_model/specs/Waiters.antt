-- The services that end waits otherwise than by a post: to abort the waits for an object, and to delete an object.
use Rattle.std.specs.Prelude.{ℕ, ◌+◌, Bool, true, false, List, [], ◌∷◌, length}
use Rattle.kern_base.specs.declared.requests.Request.{Request}
use Rattle.kern_base.specs.declared.errors.OsErr.TheVariants.{PendAbort, PendAbortNone, ObjectDeleted, TaskWaiting}
use Rattle.kern_model.specs.State.{Kernel, Content, Messages, object_at, list_at, update_object}
use Rattle.kern_model.specs.Effect.{Effect, refused, answer, fine, woken, result_of, chosen}
use Rattle.kern_model.specs.Options.{aborts_all, deletes_always}
use Rattle.kern_model.specs.Checks.{argument}

-- OSSemPendAbort, OSQPendAbort, OSFlagPendAbort, and OSMutexPendAbort before it renews priorities: the first waiter, or with
-- option 1 all, wait no more.
abbrev pub aborts : List ℕ → ℕ → Kernel → Effect
aborts [] compared k = refused k PendAbortNone
aborts (x ∷ xs) compared k = woken (result_of (answer PendAbort 0)) (fine (length (x ∷ xs))) compared (x ∷ xs) k

-- the abort of the first wait for an object, or of all
abbrev pub pend_abort : Request → ℕ → Kernel → Effect
pend_abort r compared k =
    let object = argument r 0 in
    let option = argument r 1 in
    aborts (chosen (aborts_all option) (list_at k.pend object)) compared k

-- how many messages an object holds, and what is left of it without them
abbrev pub messages_in : Content → ℕ
messages_in (Messages limit ms) = length ms
messages_in content = 0

-- an object without its messages
abbrev pub emptied : Content → Content
emptied (Messages limit ms) = Messages limit []
emptied content = content

-- the object is deleted, and its messages are free
abbrev pub without_object : ℕ → Kernel → Kernel
without_object o k =
    record k {
      objects = update_object k.objects o (λ b. record { content = emptied b.content; deleted = true });
      free = k.free + messages_in (object_at k o).content;
    }

-- OSSemDel, OSQDel, OSFlagDel, and OSMutexDel before it renews priorities: with option 0 only an object for which nobody
-- waits is deleted, with option 1 all its waiters are told.
abbrev pub deletes : Bool → List ℕ → ℕ → ℕ → Kernel → Effect
deletes false (x ∷ xs) o compared k = refused k TaskWaiting
deletes all xs o compared k =
    let e = woken (result_of (answer ObjectDeleted 0)) (fine (length xs)) compared xs k in
    record { kernel = without_object o e.kernel; outcome = e.outcome; blocks = e.blocks }

-- the deletion of an object, with or without waiters
abbrev pub delete : Request → ℕ → Kernel → Effect
delete r compared k =
    let object = argument r 0 in
    let option = argument r 1 in
    deletes (deletes_always option) (list_at k.pend object) object compared k
