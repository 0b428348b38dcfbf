-- What the change of what a call is about leaves: of each task all but its own semaphore and queue, and the number of objects.
use Rattle.std.specs.Prelude.{if◌then◌else◌}
use Rattle.std.proofs.Common.{◌≡◌, ℕ, List, [], ◌∷◌, ◌++◌, Option, Some, None, refl, ap, ◌∙◌, Bool, true, false}
use Rattle.kern_base.specs.declared.requests.Request.{Request}
use Rattle.kern_base.specs.declared.services.Service.{Service}
use Rattle.kern_base.specs.declared.services.Service.TheVariants.{FlagPost, TmrStart, TmrStop, TmrDel}
use Rattle.kern_base.specs.declared.outcomes.Decision.{Decision}
use Rattle.kern_base.specs.declared.outcomes.Decision.TheVariants.{Wake}
use Rattle.kern_base.specs.Services.{renews}
use Rattle.kern_base.specs.declared.outcomes.Finished.{Finished}
use Rattle.kern_base.specs.declared.outcomes.Who.{Who}
use Rattle.kern_base.specs.declared.outcomes.Who.TheVariants.{Matching}
use Rattle.kern_model.specs.State.{Kernel, Content, Object, Task, Timed, Timer, task_at, task_in}
use Rattle.kern_model.specs.FlagBits.{ready_bits}
use Rattle.kern_model.specs.Flags.{flag_blocks, flag_blocks_all, flag_wakes, flag_wakes_all}
use Rattle.kern_model.specs.Checks.{argument}
use Rattle.kern_model.specs.Effect.{Effect, wake_blocks, wakes, wakes_all, wakes_blocks}
use Rattle.kern_model.specs.Micro.{Block, at_tail}
use Rattle.kern_model.specs.Services.{content_for}
use Rattle.kern_model.proofs.Lemmas.{update_task_same}
use Rattle.decisions.specs.Decided.{ending_of, ends_waits, gone_after, renewed_after}
use Rattle.task_objects.specs.Rows.{is_task_call, target}
use Rattle.kernel_records.specs.SchedulerCalls.{is_scheduler_call}
use Rattle.kernel_records.specs.Deciding.{acts, changed_by, free_after, held_change, object_change, own_change, own_task_after}
use Rattle.kernel_records.specs.TimerCalls.{is_timer_call, timer_called, timer_change}
use Rattle.kernel_records.specs.Concluding.{handing}
use Rattle.kernel_records.specs.Served.{is_served_wake}
use Rattle.kernel_records.proofs.ConcludingFacts.{gone-tasks, plain-wake}
use Rattle.kernel_records.proofs.RowFacts.{beside, own-beside, wake-no-timer}
use Rattle.kernel_records.proofs.DecidingFacts.{changed-object, changed-task, own-acts, own-none, own-scheduler}

-- a call on a timer changes no task
timer-tasks : (s : Service) (o : ℕ) (t : Timer) (k : Kernel) → (timer_called s o t k).tasks ≡ k.tasks
timer-tasks TmrStart o t k = refl
timer-tasks TmrStop o t k = refl
timer-tasks TmrDel o t k = refl
timer-tasks _ o t k = refl

timer-keeps : (s : Service) (o : ℕ) (c : Content) (k : Kernel) → (timer_change s o c k).tasks ≡ k.tasks
timer-keeps s o (Timed t) k = timer-tasks s o t k
timer-keeps s o _ k = refl

changed-keeps : {B : Type 0} (g : Task → B) → ((t : Task) (n : ℕ) (ms : List (ℕ × ℕ)) → g (record t { count = n; messages = ms }) ≡ g t) → (b : Bool) (r : Request) (x : ℕ) (d : Decision) (k : Kernel) → is_timer_call r.service ≡ false → is_task_call r.service ≡ b → (y : ℕ) → g (task_at (changed_by r x d k) y) ≡ g (task_at k y)
changed-keeps g same true r x d k m e y =
    ap (λ (j : Kernel). g (task_at j y)) (changed-task r x d k m e)
    ∙ update_task_same g (own_task_after r d) (λ t. same t (own_task_after r d t).count (own_task_after r d t).messages) k.tasks (target r.service r x) y
changed-keeps g same false r x d k m e y = ap (λ (j : Kernel). g (task_at j y)) (changed-object r x d k m e)

changes-keep : {B : Type 0} (g : Task → B) → ((t : Task) (n : ℕ) (ms : List (ℕ × ℕ)) → g (record t { count = n; messages = ms }) ≡ g t) → (b : Bool) (r : Request) (x : ℕ) (d : Decision) (k : Kernel) → is_timer_call r.service ≡ b → (y : ℕ) → g (task_at (changed_by r x d k) y) ≡ g (task_at k y)
changes-keep g same true r x d k m y =
    ap (λ (c : Bool). g (task_at (if c then timer_change r.service (argument r 0) (content_for r k) k else held_change r x d k) y)) m
    ∙ ap (λ (ts : List Task). g (task_in ts y)) (timer-keeps r.service (argument r 0) (content_for r k) k)
changes-keep g same false r x d k m y = changed-keeps g same (is_task_call r.service) r x d k m refl y

keeps-by : {B : Type 0} (g : Task → B) → ((t : Task) (n : ℕ) (ms : List (ℕ × ℕ)) → g (record t { count = n; messages = ms }) ≡ g t) → (b : Bool) (r : Request) (x : ℕ) (d : Decision) (k : Kernel) → is_scheduler_call r.service ≡ false → acts d ≡ b → (y : ℕ) → g (task_at (own_change r x d k) y) ≡ g (task_at k y)
keeps-by g same true r x d k n e y = ap (λ (j : Kernel). g (task_at j y)) (own-acts r x d k n e) ∙ changes-keep g same (is_timer_call r.service) r x d k refl y
keeps-by g same false r x d k n e y = ap (λ (j : Kernel). g (task_at j y)) (own-none r x d k n e)

keeps-if : {B : Type 0} (g : Task → B) → ((t : Task) (n : ℕ) (ms : List (ℕ × ℕ)) → g (record t { count = n; messages = ms }) ≡ g t) → (b : Bool) (r : Request) (x : ℕ) (d : Decision) (k : Kernel) → is_scheduler_call r.service ≡ b → (y : ℕ) → g (task_at (own_change r x d k) y) ≡ g (task_at k y)
keeps-if g same true r x d k n y = ap (λ (j : Kernel). g (task_at j y)) (own-scheduler r x d k n)
keeps-if g same false r x d k n y = keeps-by g same (acts d) r x d k n refl y

-- a field of a task other than its own semaphore and queue
pub own-keeps : {B : Type 0} (g : Task → B) → ((t : Task) (n : ℕ) (ms : List (ℕ × ℕ)) → g (record t { count = n; messages = ms }) ≡ g t) → (r : Request) (x : ℕ) (d : Decision) (k : Kernel) (y : ℕ) → g (task_at (own_change r x d k) y) ≡ g (task_at k y)
own-keeps g same r x d k y = keeps-if g same (is_scheduler_call r.service) r x d k refl y

-- With other objects, and another number of free messages, a post of event flags looks at the same waiters.

wakes-beside : (ready : Option ℕ) (h x : ℕ) (k : Kernel) (os : List Object) (free : ℕ) → flag_wakes ready h x (beside k os free) ≡ beside (flag_wakes ready h x k) os free
wakes-beside None h x k os free = refl
wakes-beside (Some ready) h x k os free = refl

pub flag_wakes-beside : (bits h : ℕ) (xs : List ℕ) (k : Kernel) (os : List Object) (free : ℕ) → flag_wakes_all bits h xs (beside k os free) ≡ beside (flag_wakes_all bits h xs k) os free
flag_wakes-beside bits h [] k os free = refl
flag_wakes-beside bits h (x ∷ xs) k os free =
    let ready = ready_bits bits (task_at k x).mask (task_at k x).opt in
    ap (flag_wakes_all bits h xs) (wakes-beside ready h x k os free) ∙ flag_wakes-beside bits h xs (flag_wakes ready h x k) os free

blocks-beside : (ready : Option ℕ) (h x : ℕ) (k : Kernel) (os : List Object) (free : ℕ) → flag_blocks ready h x (beside k os free) ≡ flag_blocks ready h x k
blocks-beside None h x k os free = refl
blocks-beside (Some ready) h x k os free = refl

pub flag_blocks-beside : (bits h : ℕ) (xs : List ℕ) (k : Kernel) (os : List Object) (free : ℕ) → flag_blocks_all bits h xs (beside k os free) ≡ flag_blocks_all bits h xs k
flag_blocks-beside bits h [] k os free = refl
flag_blocks-beside bits h (x ∷ xs) k os free =
    let ready = ready_bits bits (task_at k x).mask (task_at k x).opt in
    ap (λ (bs : List Block). bs ++ flag_blocks_all bits h xs (beside k os free)) (blocks-beside ready h x k os free)
    ∙ ap (λ (bs : List Block). flag_blocks ready h x k ++ bs) (flag_blocks-beside bits h xs k os free)

-- what a post of event flags changes beside
abbrev pub objects_posted : Request → Kernel → List Object
objects_posted r k = (object_change r (Wake Matching) k).objects

abbrev pub free_posted : Request → Kernel → ℕ
free_posted r k = free_after r (Wake Matching) (content_for r k) k.free

pub own-flags : (r : Request) (x : ℕ) (k : Kernel) → r.service ≡ FlagPost → own_change r x (Wake Matching) k ≡ beside k (objects_posted r k) (free_posted r k)
own-flags r x k s = own-acts r x (Wake Matching) k (ap is_scheduler_call s) refl ∙ changed-object r x (Wake Matching) k (ap is_timer_call s) (ap is_task_call s)

-- and any other call wakes the same tasks

waits-beside : (f : Task → Finished) (h : ℕ) (xs : List ℕ) (k : Kernel) (os : List Object) (free : ℕ) → wakes_all f h xs (beside k os free) ≡ beside (wakes_all f h xs k) os free
waits-beside f h [] k os free = refl
waits-beside f h (x ∷ xs) k os free = waits-beside f h xs (wakes (f (task_at k x)) h x k) os free

wakes_blocks-beside : (h : ℕ) (xs : List ℕ) (k : Kernel) (os : List Object) (free : ℕ) → wakes_blocks (beside k os free) h xs ≡ wakes_blocks k h xs
wakes_blocks-beside h [] k os free = refl
wakes_blocks-beside h (x ∷ xs) k os free = ap (λ (bs : List Block). wake_blocks k h x ++ bs) (wakes_blocks-beside h xs k os free)

-- what such a call comes to, which wakes these of the tasks that wait
abbrev pub waking : Who → Request → ℕ → ℕ → List ℕ → Kernel → Effect
waking who r x h ws k =
    renewed_after (renews r.service) at_tail (gone_after (ending_of r.service) (argument r 0) (ends_waits r.service r h ws (own_change r x (Wake who) k)))

pub record IsWaking (r : Request) (h : ℕ) (ws : List ℕ) (k : Kernel) (e : Effect) : Type 0 where
  pub blocks : e.blocks ≡ wakes_blocks k h ws
  pub tasks : e.kernel.tasks ≡ (wakes_all (handing r) h ws k).tasks

pub is-waking : (who : Who) (r : Request) (x h : ℕ) (ws : List ℕ) (k : Kernel) → is_served_wake r.service ≡ true → IsWaking r h ws k (waking who r x h ws k)
is-waking who r x h ws k s =
    let j = own_change r x (Wake who) k in
    let by = own-beside who r x k (wake-no-timer r.service s) in
    let same = plain-wake r.service (gone_after (ending_of r.service) (argument r 0) (ends_waits r.service r h ws j)) s in
    record {
      blocks = ap (λ (e : Effect). e.blocks) same ∙ ap (λ (i : Kernel). wakes_blocks i h ws) by.is ∙ wakes_blocks-beside h ws k by.objects by.free;
      tasks =
          ap (λ (e : Effect). e.kernel.tasks) same
          ∙ gone-tasks (ending_of r.service) (argument r 0) (wakes_all (handing r) h ws j)
          ∙ ap (λ (i : Kernel). (wakes_all (handing r) h ws i).tasks) by.is
          ∙ ap (λ (i : Kernel). i.tasks) (waits-beside (handing r) h ws k by.objects by.free);
    }
