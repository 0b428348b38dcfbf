-- What keeps it true that no task waits for several objects, and that no result has a table.
use Rattle.std.proofs.Common.{◌≡◌, ℕ, suc, Bool, inl, inr, ◌<◌, List, [], ◌∷◌, get_or, Option, Some, None, refl, sym, ap, ◌∙◌, subst, true, false}
use Rattle.std.specs.Prelude.{◌==◌}
use Rattle.std.proofs.lemmas.Bool.Decides.{leb_tells}
use Rattle.kern_base.specs.declared.services.Service.{Service}
use Rattle.kern_base.specs.declared.services.Service.TheVariants.{FlagPend, TaskSemPend, TaskQPend, TimeDly, TaskSuspend, TaskResume, RoundRobinYield}
use Rattle.kern_base.specs.declared.requests.Request.{Request}
use Rattle.kern_base.specs.declared.outcomes.Answer.{Answer}
use Rattle.kern_base.specs.declared.outcomes.Around.{Around}
use Rattle.kern_base.specs.declared.outcomes.Decision.{Decision}
use Rattle.kern_base.specs.declared.outcomes.Decision.TheVariants.{Done, Block, Wake}
use Rattle.kern_base.specs.declared.outcomes.Finished.{Finished}
use Rattle.kern_base.specs.declared.outcomes.Who.TheVariants.{First, All, Matching}
use Rattle.kern_base.specs.declared.outcomes.Waiting.{Waiting}
use Rattle.kern_base.specs.declared.outcomes.Waiting.TheVariants.{No, Delay, Obj, TaskSem, TaskQ, Multi, Signal}
use Rattle.kern_model.specs.State.{Kernel, Task, list_at, no_task, prio_of, task_at, count_of, update_task}
use Rattle.kern_model.specs.Effect.{Effect, answered_task, blocked, chosen, fine, result_of, waited, waiting_task, wakes, wakes_all}
use Rattle.kern_model.specs.Checks.{named_task}
use Rattle.kern_model.specs.FlagBits.{ready_bits}
use Rattle.kern_model.specs.Flags.{flag_wakes, flag_wakes_all}
use Rattle.kern_model.specs.Services.{content_for}
use Rattle.kern_model.specs.RoundRobin.{first_in, full_quantum, rotates}
use Rattle.kern_model.specs.Time.{timed_out}
use Rattle.kern_model.specs.Tasks.{resumes, suspended_task, suspends}
use Rattle.kern_model.specs.Valid.{AllWait, IsLinked}
use Rattle.kern_model.proofs.Lemmas.{AllWait-chosen, AllWait-wakes, update_task_at}
use Rattle.decisions.specs.Decided.{bits_in, decided, ending_of, handed, wait_of}
use Rattle.kernel_records.specs.Suspension.{moves_task, suspension_of}
use Rattle.kernel_records.specs.Deciding.{IsServedDecision, decision_of, effect_by, own_change}
use Rattle.kernel_records.specs.Concluding.{handing}
use Rattle.kernel_records.specs.Served.{HasNoTable, IsServed, IsSingle, is_served_wait}
use Rattle.kernel_records.proofs.ConcludingFacts.{all-posts, handing-single, plain-flags, plain-wait}
use Rattle.kernel_records.proofs.RowFacts.{beside, own-block}
use Rattle.kernel_records.proofs.DecidingFacts.{effect-decided, effect-moved}
use Rattle.kernel_records.proofs.SuspensionFacts.{IsMoving, is-moving}
use Rattle.kernel_calls.proofs.OwnChanges.{flag_wakes-beside, free_posted, is-waking, objects_posted, own-flags, own-keeps, waking}
use Rattle.kernel_calls.proofs.WaiterFacts.{AreWaiting, IsIdleWait, internal-wait}

-- one task changed
pub served-task : (k j : Kernel) (x : ℕ) (f : Task → Task) → j.tasks ≡ update_task k.tasks x f → (x < 60 → IsSingle (f (task_at k x)).waiting) → HasNoTable (f (task_at k x)).answered → (f (task_at k x)).base ≡ (f (task_at k x)).prio → IsServed k → IsServed j
served-task k j x f e wait result same s =
    record {
      waits = subst (λ ts. (y : ℕ) → y < 60 → IsSingle (get_or ts y no_task).waiting) (sym e) (update_task_at (λ n t. n < 60 → IsSingle t.waiting) f k.tasks x (λ old. wait) s.waits);
      reads = subst (λ ts. (y : ℕ) → HasNoTable (get_or ts y no_task).answered) (sym e) (update_task_at (λ n t. HasNoTable t.answered) f k.tasks x (λ old. result) s.reads);
      bases = subst (λ ts. (y : ℕ) → (get_or ts y no_task).base ≡ (get_or ts y no_task).prio) (sym e) (update_task_at (λ n t. t.base ≡ t.prio) f k.tasks x (λ old. same) s.bases);
    }

-- the result of a wait that is not for several objects
bare-waited : (w : Waiting) (t : Task) (a : Answer) → IsSingle w → (waited w t a).n_ids ≡ 0
bare-waited No t a s = refl
bare-waited Delay t a s = refl
bare-waited (Obj service) t a s = refl
bare-waited TaskSem t a s = refl
bare-waited TaskQ t a s = refl
bare-waited Multi t a s = absurd s
bare-waited Signal t a s = refl

bare-handing : (r : Request) (t : Task) → IsSingle t.waiting → (handing r t).n_ids ≡ 0
bare-handing r t s =
    let a = handed (ending_of r.service) r.service r in
    ap (λ (f : Finished). f.n_ids) (handing-single r.service r a t s) ∙ bare-waited t.waiting t a s

-- one task is woken
served-wake : (f : Finished) (h x : ℕ) (k : Kernel) → f.n_ids ≡ 0 → IsServed k → IsServed (wakes f h x k)
served-wake f h x k e s = served-task k (wakes f h x k) x (answered_task f) refl (λ i. tt) e (s.bases x) s

-- these are woken with results that have no table
pub served-wakes_by : (f : Task → Finished) (h : ℕ) (xs : List ℕ) (k : Kernel) → ((t : Task) → IsSingle t.waiting → (f t).n_ids ≡ 0) → AllWait k xs → IsServed k → IsServed (wakes_all f h xs k)
served-wakes_by f h [] k bare w s = s
served-wakes_by f h (x ∷ xs) k bare w s =
    let g = f (task_at k x) in
    served-wakes_by f h xs (wakes g h x k) bare (AllWait-wakes g h x k xs w.2 w.3) (served-wake g h x k (bare (task_at k x) (s.waits x w.0)) s)

served-wakes : (r : Request) (h : ℕ) (xs : List ℕ) (k : Kernel) → AllWait k xs → IsServed k → IsServed (wakes_all (handing r) h xs k)
served-wakes r h xs k w s = served-wakes_by (handing r) h xs k (bare-handing r) w s

-- the result of a wait that ends at its tick
pub bare-timed_out : (w : Waiting) (t : Task) → IsSingle w → (timed_out w t).n_ids ≡ 0
bare-timed_out Delay t s = refl
bare-timed_out No t s = refl
bare-timed_out (Obj service) t s = refl
bare-timed_out TaskSem t s = refl
bare-timed_out TaskQ t s = refl
bare-timed_out Multi t s = absurd s
bare-timed_out Signal t s = refl

-- one task is looked at
served-look : (ready : Option ℕ) (h x : ℕ) (xs : List ℕ) (k : Kernel) → x < 60 → count_of x xs ≡ 0 → AllWait k xs → IsServed k → AllWait (flag_wakes ready h x k) xs × IsServed (flag_wakes ready h x k)
served-look None h x xs k below none w s = (w, s)
served-look (Some ready) h x xs k below none w s =
    let t = task_at k x in
    let f = result_of (fine ready) t in
    (AllWait-wakes f h x k xs none w, served-wake f h x k (bare-waited t.waiting t (fine ready) (s.waits x below)) s)

served-looks : (bits h : ℕ) (xs : List ℕ) (k : Kernel) → AllWait k xs → IsServed k → IsServed (flag_wakes_all bits h xs k)
served-looks bits h [] k w s = s
served-looks bits h (x ∷ xs) k w s =
    let ready = ready_bits bits (task_at k x).mask (task_at k x).opt in
    let one = served-look ready h x xs k w.0 w.2 w.3 s in
    served-looks bits h xs (flag_wakes ready h x k) one.0 one.1

-- what a call is about changes
served-own : (r : Request) (x : ℕ) (d : Decision) (k : Kernel) → IsServed k → IsServed (own_change r x d k)
served-own r x d k s =
    record {
      waits = λ y l. subst IsSingle (sym (own-keeps (λ (t : Task). t.waiting) (λ t n ms. refl) r x d k y)) (s.waits y l);
      reads = λ y. subst HasNoTable (sym (own-keeps (λ (t : Task). t.answered) (λ t n ms. refl) r x d k y)) (s.reads y);
      bases = λ y. own-keeps (λ (t : Task). t.base) (λ t n ms. refl) r x d k y ∙ s.bases y ∙ sym (own-keeps (λ (t : Task). t.prio) (λ t n ms. refl) r x d k y);
    }

-- a caller waits for one object, for its own semaphore or queue, or for a tick
single-wait : (s : Service) (r : Request) (ticks : ℕ) → is_served_wait s ≡ true → IsSingle (wait_of s r ticks).waiting
single-wait FlagPend r ticks h = refl
single-wait TaskSemPend r ticks h = tt
single-wait TaskQPend r ticks h = tt
single-wait TimeDly r ticks h = tt
single-wait s r ticks h = h

-- the answer that waits for a task that suspends itself has no table
bare-suspended : (own : Bool) (t : Task) → HasNoTable t.answered → HasNoTable (suspended_task own t).answered
bare-suspended true t h = refl
bare-suspended false t h = h

wait-suspended : (own : Bool) (t : Task) → IsSingle t.waiting → IsSingle (suspended_task own t).waiting
wait-suspended true t h = h
wait-suspended false t h = h

base-suspended : (own : Bool) (t : Task) → t.base ≡ t.prio → (suspended_task own t).base ≡ (suspended_task own t).prio
base-suspended true t h = h
base-suspended false t h = h

-- it is known of the tasks alone
pub served-tasks : (k j : Kernel) → j.tasks ≡ k.tasks → IsServed k → IsServed j
served-tasks k j e s =
    record {
      waits = λ x h. subst (λ (ts : List Task). IsSingle (get_or ts x no_task).waiting) (sym e) (s.waits x h);
      reads = λ x. subst (λ (ts : List Task). HasNoTable (get_or ts x no_task).answered) (sym e) (s.reads x);
      bases = λ x. subst (λ (ts : List Task). (get_or ts x no_task).base ≡ (get_or ts x no_task).prio) (sym e) (s.bases x);
    }

-- what was decided
served-decided : (d : Decision) (r : Request) (x h : ℕ) (xs : List ℕ) (k : Kernel) → IsServedDecision d r.service → AreWaiting d k xs → IsServed k → IsServed (decided d r.service r x h xs (own_change r x d k)).kernel
served-decided (Done a) r x h xs k d w s = served-own r x (Done a) k s
served-decided Block r x h xs k d w s =
    subst (λ (j : Kernel). IsServed (decided Block r.service r x h xs j).kernel) (sym (own-block r x k d))
    (subst (λ (e : Effect). IsServed e.kernel) (sym (plain-wait r.service _ d))
    (served-task k (blocked k x (wait_of r.service r k.ticks)) x (waiting_task (wait_of r.service r k.ticks)) refl (λ i. single-wait r.service r k.ticks d) (s.reads x) (s.bases x) s))
served-decided (Wake First) r x h xs k d w s =
    let ws = chosen false xs in
    served-tasks (wakes_all (handing r) h ws k) (waking First r x h ws k).kernel (is-waking First r x h ws k d).tasks (served-wakes r h ws k (AllWait-chosen k false xs w) s)
served-decided (Wake All) r x h xs k d w s =
    served-tasks (wakes_all (handing r) h xs k) (waking All r x h xs k).kernel (is-waking All r x h xs k (all-posts r.service d)).tasks (served-wakes r h xs k w s)
served-decided (Wake Matching) r x h xs k d w s =
    let os = objects_posted r k in
    let free = free_posted r k in
    let j = beside k os free in
    let bits = bits_in (content_for r j) in
    let looked = served-looks bits h xs k w s in
    let all : IsServed (beside (flag_wakes_all bits h xs k) os free) = record { waits = looked.waits; reads = looked.reads; bases = looked.bases } in
    subst (λ (i : Kernel). IsServed (decided (Wake Matching) r.service r x h xs i).kernel) (sym (own-flags r x k d))
    (subst (λ (e : Effect). IsServed e.kernel) (sym (plain-flags r.service _ _ d))
    (subst IsServed (sym (flag_wakes-beside bits h xs k os free)) all))

-- a task that is suspended or resumed
served-move : (s : Service) (y x h : ℕ) (k : Kernel) → IsMoving s (task_at k y) → IsServed k → IsServed (suspension_of s y x h k).kernel
served-move TaskSuspend y x h k i s = served-task k (suspends (y == x) y k).kernel y (suspended_task (y == x)) refl (λ l. wait-suspended (y == x) (task_at k y) (s.waits y l)) (bare-suspended (y == x) (task_at k y) (s.reads y)) (base-suspended (y == x) (task_at k y) (s.bases y)) s
served-move TaskResume y x h k i s =
    subst (λ n. IsServed (resumes n y h k).kernel) (sym i.1)
    (served-task k (resumes (suc i.0) y h k).kernel y (λ t. record t { suspended = i.0 }) refl (λ l. s.waits y l) (s.reads y) (s.bases y) s)
served-move RoundRobinYield y x h k i s =
    let p = prio_of k x in
    served-task k (rotates x p k).kernel (first_in (list_at (rotates x p k).kernel.ready p)) full_quantum refl (λ l. s.waits (first_in (list_at (rotates x p k).kernel.ready p)) l) (s.reads (first_in (list_at (rotates x p k).kernel.ready p))) (s.bases (first_in (list_at (rotates x p k).kernel.ready p))) s
served-move _ y x h k i s = absurd i

served-if : (b : Bool) (d : Decision) (r : Request) (seen : Around) (x h : ℕ) (xs : List ℕ) (k : Kernel) → moves_task r.service d ≡ b → d ≡ decision_of r seen k → seen.caller.0 ≡ x → IsServedDecision d r.service → AreWaiting d k xs → IsServed k → IsServed (effect_by d r x h xs k).kernel
served-if true d r seen x h xs k m e who served w s =
    subst (λ (f : Effect). IsServed f.kernel) (sym (effect-moved r d x h xs k m))
    (served-move r.service (named_task r x) x h k (subst (λ z. IsMoving r.service (task_at k (named_task r z))) who (is-moving r seen d k e m)) s)
served-if false d r seen x h xs k m e who served w s =
    subst (λ (f : Effect). IsServed f.kernel) (sym (effect-decided r d x h xs k m)) (served-decided d r x h xs k served w s)

-- what was planned
pub served-effect : (d : Decision) (r : Request) (seen : Around) (x h : ℕ) (xs : List ℕ) (k : Kernel) → d ≡ decision_of r seen k → seen.caller.0 ≡ x → IsServedDecision d r.service → AreWaiting d k xs → IsServed k → IsServed (effect_by d r x h xs k).kernel
served-effect d r seen x h xs k e who served w s = served-if (moves_task r.service d) d r seen x h xs k refl e who served w s

-- No task waits for several objects.
single-idle : (w : Waiting) → IsIdleWait w → IsSingle w
single-idle No h = tt
single-idle Signal h = tt
single-idle _ h = absurd h

pub all-single : (k : Kernel) → IsLinked k → IsServed k → (x : ℕ) → x < 64 → IsSingle (task_at k x).waiting
all-single k v s x h =
    elim (leb_tells 60 x) [
      | inr d ↦ s.waits x d.1
      | inl d ↦ single-idle (task_at k x).waiting (internal-wait k v x d.1)
    ]
