-- Objects with the queues of their numbers, and tasks with their own semaphores and queues, inside lists.
use Rattle.std.proofs.Common.{◌≡◌, ℕ, zero, suc, ◌<◌, ◌≤◌, List, [], ◌∷◌, ◌++◌, length, map, get_or, refl, sym, ap, ◌∙◌, subst, true, false, arith}
use Rattle.std.specs.Prelude.{slice_index_or, slice_set, nat_lt, not, ◌&&◌, ◌||◌, ◌==◌}
use Rattle.kern_model.specs.State.{Task, is_ready, no_object, no_task, object_in, task_in, update_task}
use Rattle.kern_model.proofs.Lemmas.{less, not_less}
use Rattle.machine_model.specs.Steps.{some_readied}
use Rattle.message_store.specs.Store.{HeldQueue, OwnObjects, no_own, no_queue}
use Rattle.message_store.specs.Start.{own_of}
use Rattle.tcb_pool.specs.TaskView.{without_own}
use Rattle.kernel_records.specs.declared.objects.Object.{Object}
use Rattle.kernel_records.specs.ObjectView.{object_seen, objects_in, tasks_in, with_own}

-- objects

pub length-objects : (qs : List HeldQueue) (bs : List Object) → length (objects_in qs bs) ≡ length bs
length-objects qs [] = refl
length-objects [] (b ∷ bs) = ap suc (length-objects [] bs)
length-objects (q ∷ qs) (b ∷ bs) = ap suc (length-objects qs bs)

-- the object of a number
pub object-at : (qs : List HeldQueue) (bs : List Object) (o : ℕ) (d : Object) → o < length bs → object_in (objects_in qs bs) o ≡ object_seen (slice_index_or qs o no_queue) (get_or bs o d)
object-at qs [] o d h = absurd (omega (arith, h))
object-at [] (b ∷ bs) zero d h = refl
object-at (q ∷ qs) (b ∷ bs) zero d h = refl
object-at [] (b ∷ bs) (suc o) d h = object-at [] bs o d (omega (arith, h))
object-at (q ∷ qs) (b ∷ bs) (suc o) d h = object-at qs bs o d (omega (arith, h))

-- and past the last one
pub object-past : (qs : List HeldQueue) (bs : List Object) (o : ℕ) → length bs ≤ o → object_in (objects_in qs bs) o ≡ no_object
object-past qs [] o h = refl
object-past [] (b ∷ bs) zero h = absurd (omega (arith, h))
object-past (q ∷ qs) (b ∷ bs) zero h = absurd (omega (arith, h))
object-past [] (b ∷ bs) (suc o) h = object-past [] bs o (omega (arith, h))
object-past (q ∷ qs) (b ∷ bs) (suc o) h = object-past qs bs o (omega (arith, h))

-- one object and its queue are replaced
pub objects-set : (qs : List HeldQueue) (bs : List Object) (o : ℕ) (q : HeldQueue) (v : Object) → length qs ≡ length bs → objects_in (slice_set qs o q) (slice_set bs o v) ≡ slice_set (objects_in qs bs) o (object_seen q v)
objects-set [] [] o q v e = refl
objects-set (p ∷ qs) [] o q v e = absurd (omega (arith, e))
objects-set [] (b ∷ bs) o q v e = absurd (omega (arith, e))
objects-set (p ∷ qs) (b ∷ bs) zero q v e = refl
objects-set (p ∷ qs) (b ∷ bs) (suc o) q v e = ap (λ l. object_seen p b ∷ l) (objects-set qs bs o q v (omega (arith, e)))

-- an object alone is replaced
pub object-set : (qs : List HeldQueue) (bs : List Object) (o : ℕ) (v : Object) → objects_in qs (slice_set bs o v) ≡ slice_set (objects_in qs bs) o (object_seen (slice_index_or qs o no_queue) v)
object-set qs [] o v = refl
object-set [] (b ∷ bs) zero v = refl
object-set (p ∷ qs) (b ∷ bs) zero v = refl
object-set [] (b ∷ bs) (suc o) v = ap (λ l. object_seen no_queue b ∷ l) (object-set [] bs o v)
object-set (p ∷ qs) (b ∷ bs) (suc o) v = ap (λ l. object_seen p b ∷ l) (object-set qs bs o v)

-- one more of each
pub objects-more : (qs : List HeldQueue) (bs : List Object) (q : HeldQueue) (b : Object) → length qs ≡ length bs → objects_in (qs ++ q ∷ []) (bs ++ b ∷ []) ≡ objects_in qs bs ++ object_seen q b ∷ []
objects-more [] [] q b e = refl
objects-more (p ∷ qs) [] q b e = absurd (omega (arith, e))
objects-more [] (c ∷ bs) q b e = absurd (omega (arith, e))
objects-more (p ∷ qs) (c ∷ bs) q b e = ap (λ l. object_seen p c ∷ l) (objects-more qs bs q b (omega (arith, e)))

-- tasks

pub length-tasks : (os : List OwnObjects) (ts : List Task) → length (tasks_in os ts) ≡ length ts
length-tasks os [] = refl
length-tasks [] (t ∷ ts) = ap suc (length-tasks [] ts)
length-tasks (o ∷ os) (t ∷ ts) = ap suc (length-tasks os ts)

-- the task of a number
pub task-at : (os : List OwnObjects) (ts : List Task) (x : ℕ) → x < length ts → task_in (tasks_in os ts) x ≡ with_own (slice_index_or os x no_own) (task_in ts x)
task-at os [] x h = absurd (omega (arith, h))
task-at [] (t ∷ ts) zero h = refl
task-at (o ∷ os) (t ∷ ts) zero h = refl
task-at [] (t ∷ ts) (suc x) h = task-at [] ts x (omega (arith, h))
task-at (o ∷ os) (t ∷ ts) (suc x) h = task-at os ts x (omega (arith, h))

pub task-past : (os : List OwnObjects) (ts : List Task) (x : ℕ) → length ts ≤ x → task_in (tasks_in os ts) x ≡ no_task
task-past os [] x h = refl
task-past [] (t ∷ ts) zero h = absurd (omega (arith, h))
task-past (o ∷ os) (t ∷ ts) zero h = absurd (omega (arith, h))
task-past [] (t ∷ ts) (suc x) h = task-past [] ts x (omega (arith, h))
task-past (o ∷ os) (t ∷ ts) (suc x) h = task-past os ts x (omega (arith, h))

-- a task is replaced
pub task-set : (os : List OwnObjects) (ts : List Task) (x : ℕ) (t : Task) → tasks_in os (slice_set ts x t) ≡ slice_set (tasks_in os ts) x (with_own (slice_index_or os x no_own) t)
task-set os [] x t = refl
task-set [] (u ∷ ts) zero t = refl
task-set (o ∷ os) (u ∷ ts) zero t = refl
task-set [] (u ∷ ts) (suc x) t = ap (λ l. with_own no_own u ∷ l) (task-set [] ts x t)
task-set (o ∷ os) (u ∷ ts) (suc x) t = ap (λ l. with_own o u ∷ l) (task-set os ts x t)

-- a task changes by f, which has no part in its own objects
pub task-update : (os : List OwnObjects) (ts : List Task) (x : ℕ) (f g : Task → Task) → x < length ts → with_own (slice_index_or os x no_own) (f (task_in ts x)) ≡ g (with_own (slice_index_or os x no_own) (task_in ts x)) → tasks_in os (update_task ts x f) ≡ update_task (tasks_in os ts) x g
task-update os ts x f g h e = task-set os ts x (f (task_in ts x)) ∙ ap (slice_set (tasks_in os ts) x) (e ∙ ap g (sym (task-at os ts x h)))

-- where there is none, nothing changes
pub update-past : (ts : List Task) (x : ℕ) (f : Task → Task) → length ts ≤ x → update_task ts x f ≡ ts
update-past ts x f h = set-past ts x (f (task_in ts x)) h
  where
    set-past : (ts : List Task) (x : ℕ) (t : Task) → length ts ≤ x → slice_set ts x t ≡ ts
    set-past [] x t h = refl
    set-past (u ∷ ts) zero t h = absurd (omega (arith, h))
    set-past (u ∷ ts) (suc x) t h = ap (λ l. u ∷ l) (set-past ts x t (omega (arith, h)))

-- a task's own objects are replaced
pub own-set : (os : List OwnObjects) (ts : List Task) (x : ℕ) (o : OwnObjects) → x < length os → length os ≡ length ts → tasks_in (slice_set os x o) ts ≡ slice_set (tasks_in os ts) x (with_own o (task_in ts x))
own-set [] ts x o h e = absurd (omega (arith, h))
own-set (p ∷ os) [] x o h e = absurd (omega (arith, e))
own-set (p ∷ os) (t ∷ ts) zero o h e = refl
own-set (p ∷ os) (t ∷ ts) (suc x) o h e = ap (λ l. with_own p t ∷ l) (own-set os ts x o (omega (arith, h)) (omega (arith, e)))

-- without their own objects tasks are what their records tell
pub without-in : (os : List OwnObjects) (ts : List Task) → map without_own (tasks_in os ts) ≡ map without_own ts
without-in os [] = refl
without-in [] (t ∷ ts) = ap (λ l. without_own t ∷ l) (without-in [] ts)
without-in (o ∷ os) (t ∷ ts) = ap (λ l. without_own t ∷ l) (without-in os ts)

-- and with them what they were
pub with-without : (ts : List Task) → tasks_in (map own_of ts) (map without_own ts) ≡ ts
with-without [] = refl
with-without (t ∷ ts) = ap (λ l. t ∷ l) (with-without ts)

-- who is ready does not depend on them
pub ready-in : (os : List OwnObjects) (ts : List Task) → map is_ready (tasks_in os ts) ≡ map is_ready ts
ready-in os [] = refl
ready-in [] (t ∷ ts) = ap (λ l. is_ready t ∷ l) (ready-in [] ts)
ready-in (o ∷ os) (t ∷ ts) = ap (λ l. is_ready t ∷ l) (ready-in os ts)

pub some-ready : (p : ℕ) (before : List Task) (os : List OwnObjects) (ts : List Task) → some_readied p before (tasks_in os ts) ≡ some_readied p before ts
some-ready p [] os ts = refl
some-ready p (b ∷ bs) os [] = refl
some-ready p (b ∷ bs) [] (t ∷ ts) = ap (λ r. (not (is_ready b) && (is_ready t && (t.prio == p))) || r) (some-ready p bs [] ts)
some-ready p (b ∷ bs) (o ∷ os) (t ∷ ts) = ap (λ r. (not (is_ready b) && (is_ready t && (t.prio == p))) || r) (some-ready p bs os ts)

-- what a record tells of a task
pub field-at : {A : Type 0} (f : Task → A) → ((o : OwnObjects) (t : Task) → f (with_own o t) ≡ f t) → (os : List OwnObjects) (ts : List Task) (x : ℕ) → x < length ts → f (task_in (tasks_in os ts) x) ≡ f (task_in ts x)
field-at f same os ts x h = ap f (task-at os ts x h) ∙ same (slice_index_or os x no_own) (task_in ts x)

-- an object that was looked up
pub some-object : (qs : List HeldQueue) (bs found : List Object) (n : ℕ) (b d : Object) → found ≡ bs → true ≡ nat_lt n (length found) → b ≡ get_or found n d → object_in (objects_in qs bs) n ≡ object_seen (slice_index_or qs n no_queue) b
some-object qs bs found n b d e h is =
    let inside : n < length bs = subst (λ l. n < length l) e (less n (length found) (sym h)) in
    object-at qs bs n d inside ∙ ap (object_seen (slice_index_or qs n no_queue)) (sym (is ∙ ap (λ l. get_or l n d) e))

-- and one that there is not
pub none-object : (qs : List HeldQueue) (bs found : List Object) (n : ℕ) → found ≡ bs → false ≡ nat_lt n (length found) → object_in (objects_in qs bs) n ≡ no_object
none-object qs bs found n e h = object-past qs bs n (subst (λ l. length l ≤ n) e (not_less n (length found) (sym h)))
