-- The change of what a call is about, in the fields of the records.
use Rattle.std.proofs.Common.{◌≡◌, ℕ, ◌<◌, List, length, sym, ap, ◌∙◌, subst}
use Rattle.std.specs.Prelude.{slice_index_or, slice_set}
use Rattle.kern_base.specs.declared.requests.Request.{Request}
use Rattle.kern_base.specs.declared.outcomes.Decision.{Decision}
use Rattle.kern_model.specs.State as state
use Rattle.kern_model.specs.State.{Task, object_in, task_in, update_object, update_task}
use Rattle.message_store.specs.Store.{HeldQueue, Store, after_own_call, own_after, own_at, no_queue}
use Rattle.kernel_records.specs.declared.objects.Content.{Content}
use Rattle.kernel_records.specs.declared.objects.Object.{Object}
use Rattle.kernel_records.specs.ObjectView.{content_seen, object_seen, objects_in, tasks_in}
use Rattle.kernel_records.specs.Deciding.{own_task_after}
use Rattle.kernel_records.proofs.ObjectFacts.{object-at, objects-set, own-set, task-at}

-- a task's own semaphore and queue have changed
pub own-changed : (s : Store) (ts : List Task) (y : ℕ) (r : Request) (d : Decision) → y < length s.own → length s.own ≡ length ts → tasks_in (after_own_call s y r d).own ts ≡ update_task (tasks_in s.own ts) y (own_task_after r d)
own-changed s ts y r d h e =
    own-set s.own ts y (own_after r d (own_at s y)) h e
    ∙ ap (λ (t : Task). slice_set (tasks_in s.own ts) y (own_task_after r d t)) (sym (task-at s.own ts y (subst (λ n. y < n) e h)))

-- an object has changed, and the queue of its number
pub object-changed : (qs : List HeldQueue) (bs : List Object) (o : ℕ) (q : HeldQueue) (b : Object) (c : Content) (d : Object) (f : state.Content → state.Content) → length qs ≡ length bs → o < length bs → b ≡ slice_index_or bs o d → content_seen q c ≡ f (content_seen (slice_index_or qs o no_queue) b.content)
    → objects_in (slice_set qs o q) (slice_set bs o (record { content = c; deleted = b.deleted })) ≡ update_object (objects_in qs bs) o (λ a. record a { content = f a.content })
object-changed qs bs o q b c d f e h is same =
    objects-set qs bs o q (record { content = c; deleted = b.deleted }) e
    ∙ ap (λ (x : state.Content). slice_set (objects_in qs bs) o (record { content = x; deleted = b.deleted })) same
    ∙ ap (λ (a : state.Object). slice_set (objects_in qs bs) o (record a { content = f a.content })) (sym (object-at qs bs o d h ∙ ap (object_seen (slice_index_or qs o no_queue)) (sym is)))
