-- What a decision comes to in the records.
use Rattle.std.proofs.Common.{◌≡◌, ℕ, ◌<◌, List, [], ◌∷◌, refl, sym, ap, ◌∙◌, subst, Bool, true, false, Option, Some, None}
use Rattle.std.specs.Prelude.{if◌then◌else◌, ◌==◌}
use Rattle.std.proofs.lemmas.Bool.{false≢true}
use Rattle.kern_base.specs.Services.{renews}
use Rattle.kern_base.specs.declared.numbers.TaskId.{TaskId}
use Rattle.kern_base.specs.declared.services.Service.{Service}
use Rattle.kern_base.specs.declared.services.Service.TheVariants.{SemPost, QPost, FlagPost, TaskSemPost, TaskQPost, SemPend, QPend, FlagPend, TaskSemPend, TaskQPend, TimeDly, TimeDlyResume, SemPendAbort, QPendAbort, FlagPendAbort, TaskSemPendAbort, TaskQPendAbort, SemDel, QDel, FlagDel, RoundRobinYield}
use Rattle.kern_base.specs.declared.requests.Request.{Request}
use Rattle.kern_base.specs.declared.outcomes.Answer.{Answer}
use Rattle.kern_base.specs.declared.outcomes.Decision.{Decision}
use Rattle.kern_base.specs.declared.outcomes.Decision.TheVariants.{Done, Block, Wake}
use Rattle.kern_base.specs.declared.outcomes.Finished.{Finished}
use Rattle.kern_base.specs.declared.outcomes.Waiting.{Waiting}
use Rattle.kern_base.specs.declared.outcomes.Waiting.TheVariants.{No, Delay, Obj, TaskSem, TaskQ, Multi, Signal}
use Rattle.kern_base.specs.declared.outcomes.Who.{Who}
use Rattle.kern_base.specs.declared.outcomes.Who.TheVariants.{First, All, Matching}
use Rattle.kern_model.specs.State.{Kernel, Task, task_at, update_task}
use Rattle.kern_model.specs.Micro.{at_head, at_tail}
use Rattle.kern_model.specs.Effect.{Effect, answered_task, answers, fine, posted_to, result_of, unmatched, waited, wakes, wakes_all, chosen}
use Rattle.kern_model.specs.Checks.{argument, named_task}
use Rattle.kern_model.specs.FlagBits.{ready_bits}
use Rattle.kern_model.specs.Flags.{flag_wakes, flag_wakes_all}
use Rattle.kern_model.specs.Services.{content_for}
use Rattle.kern_model.proofs.Lemmas.{update_task_at}
use Rattle.decisions.specs.Decided.{Ending, Posted, Aborted, Deleted, bits_in, ending_of, ends_waits, gone_after, gone_by, handed, handed_result, renewed_after, replied}
use Rattle.task_objects.specs.Rows.{is_task_call}
use Rattle.kernel_records.specs.RecordsRecord.{without_lists}
use Rattle.kernel_records.specs.SchedulerCalls.{is_scheduler_call}
use Rattle.kernel_records.specs.Served.{IsSingle, is_served_wake, is_served_wait, may_wake_all}
use Rattle.kernel_records.specs.Deciding.{acts, changed_by, changed_objects, held_change, own_change}
use Rattle.kernel_records.specs.Suspension.{moves_task, outcome_moved, records_moved}
use Rattle.kernel_records.specs.TimerCalls.{is_timer_call}
use Rattle.kernel_records.proofs.DecidingFacts.{changed-held, changed-timer}
use Rattle.kernel_records.proofs.TimerChanges.{timer-bare}
use Rattle.kernel_records.specs.Concluding.{AreSingle, HasOutcome, IsConcluded, awakened, awakened_all, awakens, concluded, given, given_ready, handing, looked_at, looked_at_all, outcome_after, outcome_of, records_after, waiting_in}

-- tasks that are woken, in the records
pub wakes-awakened : (r : Request) (h : ℕ) (xs : List ℕ) (k : Kernel) → without_lists (wakes_all (handing r) h xs k) ≡ awakened_all r xs (without_lists k)
wakes-awakened r h [] k = refl
wakes-awakened r h (x ∷ xs) k = wakes-awakened r h xs (wakes (handing r (task_at k x)) h x k)

-- and those that are looked at
looks-one : (ready : Option ℕ) (h x : ℕ) (k : Kernel) → without_lists (flag_wakes ready h x k) ≡ given_ready ready x (without_lists k)
looks-one None h x k = refl
looks-one (Some ready) h x k = refl

pub looks-all : (bits h : ℕ) (xs : List ℕ) (k : Kernel) → without_lists (flag_wakes_all bits h xs k) ≡ looked_at_all bits xs (without_lists k)
looks-all bits h [] k = refl
looks-all bits h (x ∷ xs) k =
    let ready = ready_bits bits (task_at k x).mask (task_at k x).opt in
    looks-all bits h xs (flag_wakes ready h x k) ∙ ap (looked_at_all bits xs) (looks-one ready h x k)

-- a call that is served renews nothing
pub plain-wake : (s : Service) (e : Effect) → is_served_wake s ≡ true → renewed_after (renews s) at_tail e ≡ e
plain-wake SemPost e h = refl
plain-wake QPost e h = refl
plain-wake TaskSemPost e h = refl
plain-wake TaskQPost e h = refl
plain-wake TimeDlyResume e h = refl
plain-wake SemPendAbort e h = refl
plain-wake QPendAbort e h = refl
plain-wake FlagPendAbort e h = refl
plain-wake TaskSemPendAbort e h = refl
plain-wake TaskQPendAbort e h = refl
plain-wake SemDel e h = refl
plain-wake QDel e h = refl
plain-wake FlagDel e h = refl
plain-wake _ e h = absurd (false≢true h)

-- what a deletion takes has no part in the lists, and leaves the tasks
pub gone-bare : (g : Ending) (o : ℕ) (k : Kernel) → without_lists (gone_by g o k) ≡ gone_by g o (without_lists k)
gone-bare Posted o k = refl
gone-bare Aborted o k = refl
gone-bare Deleted o k = refl

pub gone-tasks : (g : Ending) (o : ℕ) (k : Kernel) → (gone_by g o k).tasks ≡ k.tasks
gone-tasks Posted o k = refl
gone-tasks Aborted o k = refl
gone-tasks Deleted o k = refl

-- nor does a post of event flags, which deletes nothing either
pub plain-flags : (s : Service) (o : ℕ) (e : Effect) → s ≡ FlagPost → renewed_after (renews s) at_tail (gone_after (ending_of s) o e) ≡ e
plain-flags s o e h = subst (λ u. renewed_after (renews u) at_tail (gone_after (ending_of u) o e) ≡ e) (sym h) refl

pub all-posts : (s : Service) → may_wake_all s ≡ true → is_served_wake s ≡ true
all-posts SemPost h = refl
all-posts QPost h = refl
all-posts SemPendAbort h = refl
all-posts QPendAbort h = refl
all-posts FlagPendAbort h = refl
all-posts SemDel h = refl
all-posts QDel h = refl
all-posts FlagDel h = refl
all-posts _ h = absurd (false≢true h)

pub plain-wait : (s : Service) (e : Effect) → is_served_wait s ≡ true → renewed_after (renews s) at_head e ≡ e
plain-wait SemPend e h = refl
plain-wait QPend e h = refl
plain-wait FlagPend e h = refl
plain-wait TaskSemPend e h = refl
plain-wait TaskQPend e h = refl
plain-wait TimeDly e h = refl
plain-wait _ e h = absurd (false≢true h)

-- the change of what a call is about has no part in the lists
held-bare : (b : Bool) (r : Request) (x : ℕ) (d : Decision) (k : Kernel) → is_task_call r.service ≡ b → without_lists (held_change r x d k) ≡ held_change r x d (without_lists k)
held-bare true r x d k e = rw e refl
held-bare false r x d k e = rw e refl

bare-by : (b : Bool) (r : Request) (x : ℕ) (d : Decision) (k : Kernel) → is_timer_call r.service ≡ b → without_lists (changed_by r x d k) ≡ changed_by r x d (without_lists k)
bare-by true r x d k m = ap without_lists (changed-timer r x d k m) ∙ timer-bare r.service (argument r 0) (content_for r k) k ∙ sym (changed-timer r x d (without_lists k) m)
bare-by false r x d k m = ap without_lists (changed-held r x d k m) ∙ held-bare (is_task_call r.service) r x d k refl ∙ sym (changed-held r x d (without_lists k) m)

objects-bare : (b : Bool) (r : Request) (x : ℕ) (d : Decision) (k : Kernel) → acts d ≡ b → without_lists (changed_objects r x d k) ≡ changed_objects r x d (without_lists k)
objects-bare true r x d k e = rw e (bare-by (is_timer_call r.service) r x d k refl)
objects-bare false r x d k e = rw e refl

own-bare-by : (b : Bool) (r : Request) (x : ℕ) (d : Decision) (k : Kernel) → is_scheduler_call r.service ≡ b → without_lists (own_change r x d k) ≡ own_change r x d (without_lists k)
own-bare-by true r x d k e = rw e refl
own-bare-by false r x d k e = rw e (objects-bare (acts d) r x d k refl)

pub own-bare : (r : Request) (x : ℕ) (d : Decision) (k : Kernel) → without_lists (own_change r x d k) ≡ own_change r x d (without_lists k)
own-bare r x d k = own-bare-by (is_scheduler_call r.service) r x d k refl

-- those that are woken, and what is gone then
woken-bare : (who : Who) (r : Request) (x h : ℕ) (ws : List ℕ) (k : Kernel) → is_served_wake r.service ≡ true
    → without_lists (renewed_after (renews r.service) at_tail (gone_after (ending_of r.service) (argument r 0) (ends_waits r.service r h ws (own_change r x (Wake who) k)))).kernel
    ≡ gone_by (ending_of r.service) (argument r 0) (awakened_all r ws (own_change r x (Wake who) (without_lists k)))
woken-bare who r x h ws k s =
    let j = own_change r x (Wake who) k in
    let g = ending_of r.service in
    let o = argument r 0 in
    ap (λ (e : Effect). without_lists e.kernel) (plain-wake r.service _ s)
    ∙ gone-bare g o (wakes_all (handing r) h ws j)
    ∙ ap (gone_by g o) (wakes-awakened r h ws j ∙ ap (awakened_all r ws) (own-bare r x (Wake who) k))

pub is-concluded : IsConcluded
is-concluded (Done a) r x h xs k s = own-bare r x (Done a) k
is-concluded Block r x h xs k s =
    ap (λ (e : Effect). without_lists e.kernel) (plain-wait r.service _ s)
    ∙ ap (λ (j : Kernel). waiting_in r x j) (own-bare r x Block k)
is-concluded (Wake First) r x h xs k s = woken-bare First r x h (chosen false xs) k s
is-concluded (Wake All) r x h xs k s = woken-bare All r x h xs k (all-posts r.service s)
is-concluded (Wake Matching) r x h xs k s =
    let j = own_change r x (Wake Matching) k in
    ap (λ (e : Effect). without_lists e.kernel) (plain-flags r.service _ _ s)
    ∙ looks-all (bits_in (content_for r j)) h xs j
    ∙ ap (λ (i : Kernel). looked_at_all (bits_in (content_for r i)) xs i) (own-bare r x (Wake Matching) k)
    ∙ sym (ap (λ t. gone_by (ending_of t) (argument r 0) (looked_at_all (bits_in (content_for r (own_change r x (Wake Matching) (without_lists k)))) xs (own_change r x (Wake Matching) (without_lists k)))) s)

pub has-outcome : HasOutcome
has-outcome (Done a) r x h xs k s = refl
has-outcome Block r x h xs k s = ap (λ (e : Effect). e.outcome) (plain-wait r.service _ s)
has-outcome (Wake First) r x h xs k s = ap (λ (e : Effect). e.outcome) (plain-wake r.service _ s)
has-outcome (Wake All) r x h xs k s = ap (λ (e : Effect). e.outcome) (plain-wake r.service _ (all-posts r.service s))
has-outcome (Wake Matching) r x h xs k s = ap (λ (e : Effect). e.outcome) (plain-flags r.service _ _ s)

-- the lists of the kernel have no part in it
awakened-bare : (r : Request) (xs : List ℕ) (k : Kernel) → without_lists (awakened_all r xs k) ≡ awakened_all r xs (without_lists k)
awakened-bare r [] k = refl
awakened-bare r (x ∷ xs) k = awakened-bare r xs (awakened r x k)

looked-one : (ready : Option ℕ) (x : ℕ) (k : Kernel) → without_lists (given_ready ready x k) ≡ given_ready ready x (without_lists k)
looked-one None x k = refl
looked-one (Some ready) x k = refl

looked-bare : (bits : ℕ) (xs : List ℕ) (k : Kernel) → without_lists (looked_at_all bits xs k) ≡ looked_at_all bits xs (without_lists k)
looked-bare bits [] k = refl
looked-bare bits (x ∷ xs) k =
    looked-bare bits xs (looked_at bits x k)
    ∙ ap (looked_at_all bits xs) (looked-one (ready_bits bits (task_at k x).mask (task_at k x).opt) x k)

awakens-bare : (who : Who) (r : Request) (xs : List ℕ) (k : Kernel) → without_lists (awakens who r xs k) ≡ awakens who r xs (without_lists k)
awakens-bare First r xs k = awakened-bare r xs k
awakens-bare All r xs k = awakened-bare r xs k
awakens-bare Matching r xs k = looked-bare (bits_in (content_for r k)) xs k

concluded-bare : (d : Decision) (r : Request) (x : ℕ) (xs : List ℕ) (k : Kernel) → without_lists (concluded d r x xs k) ≡ concluded d r x xs (without_lists k)
concluded-bare (Done a) r x xs k = own-bare r x (Done a) k
concluded-bare Block r x xs k = ap (λ (j : Kernel). waiting_in r x j) (own-bare r x Block k)
concluded-bare (Wake who) r x xs k =
    let g = ending_of r.service in
    let o = argument r 0 in
    gone-bare g o (awakens who r xs (own_change r x (Wake who) k))
    ∙ ap (gone_by g o) (awakens-bare who r xs (own_change r x (Wake who) k) ∙ ap (awakens who r xs) (own-bare r x (Wake who) k))

-- nor in its outcome
replied-bare : (s : Service) (r : Request) (xs : List ℕ) (k : Kernel) → answers (replied s xs k) ≡ answers (replied s xs (without_lists k))
replied-bare TimeDlyResume r [] k = refl
replied-bare TimeDlyResume r (x ∷ xs) k = refl
replied-bare _ r xs k = refl

pub outcome-bare : (d : Decision) (r : Request) (xs : List ℕ) (k : Kernel) → outcome_of d r xs k ≡ outcome_of d r xs (without_lists k)
outcome-bare (Done a) r xs k = refl
outcome-bare Block r xs k = refl
outcome-bare (Wake First) r xs k = replied-bare r.service r xs k
outcome-bare (Wake All) r xs k = replied-bare r.service r xs k
outcome-bare (Wake Matching) r xs k = refl

-- the records and the outcome after a call that moves a task in the ready lists, and after any other
pub after-moved : (d : Decision) (r : Request) (x : ℕ) (first : Option TaskId) (xs : List ℕ) (k : Kernel) → moves_task r.service d ≡ true → records_after d r x first xs k ≡ records_moved r.service (named_task r x) x first k
after-moved d r x first xs k m = ap (λ b. if b then records_moved r.service (named_task r x) x first k else concluded d r x xs k) m

pub after-decided : (d : Decision) (r : Request) (x : ℕ) (first : Option TaskId) (xs : List ℕ) (k : Kernel) → moves_task r.service d ≡ false → records_after d r x first xs k ≡ concluded d r x xs k
after-decided d r x first xs k m = ap (λ b. if b then records_moved r.service (named_task r x) x first k else concluded d r x xs k) m

pub outcome-moved : (d : Decision) (r : Request) (x : ℕ) (xs : List ℕ) (k : Kernel) → moves_task r.service d ≡ true → outcome_after d r x xs k ≡ outcome_moved r.service (named_task r x == x)
outcome-moved d r x xs k m = ap (λ b. if b then outcome_moved r.service (named_task r x == x) else outcome_of d r xs (own_change r x d k)) m

pub outcome-decided : (d : Decision) (r : Request) (x : ℕ) (xs : List ℕ) (k : Kernel) → moves_task r.service d ≡ false → outcome_after d r x xs k ≡ outcome_of d r xs (own_change r x d k)
outcome-decided d r x xs k m = ap (λ b. if b then outcome_moved r.service (named_task r x == x) else outcome_of d r xs (own_change r x d k)) m

moved-bare : (s : Service) (y x : ℕ) (first : Option TaskId) (k : Kernel) → without_lists (records_moved s y x first k) ≡ records_moved s y x first (without_lists k)
moved-bare RoundRobinYield y x None k = refl
moved-bare RoundRobinYield y x (Some z) k = refl
moved-bare _ y x first k = refl

bare-if : (b : Bool) (d : Decision) (r : Request) (x : ℕ) (first : Option TaskId) (xs : List ℕ) (k : Kernel) → moves_task r.service d ≡ b → without_lists (records_after d r x first xs k) ≡ records_after d r x first xs (without_lists k)
bare-if true d r x first xs k m =
    ap without_lists (after-moved d r x first xs k m)
    ∙ moved-bare r.service (named_task r x) x first k
    ∙ sym (after-moved d r x first xs (without_lists k) m)
bare-if false d r x first xs k m =
    ap without_lists (after-decided d r x first xs k m) ∙ concluded-bare d r x xs k ∙ sym (after-decided d r x first xs (without_lists k) m)

pub after-bare : (d : Decision) (r : Request) (x : ℕ) (first : Option TaskId) (xs : List ℕ) (k : Kernel) → without_lists (records_after d r x first xs k) ≡ records_after d r x first xs (without_lists k)
after-bare d r x first xs k = bare-if (moves_task r.service d) d r x first xs k refl

-- a task that waits for several objects does not get the answer of a post alone; any other does
single-posted : (w : Waiting) (o : ℕ) (a : Answer) (t : Task) → IsSingle w → posted_to w o a t ≡ waited w t a
single-posted No o a t s = refl
single-posted Delay o a t s = refl
single-posted (Obj service) o a t s = refl
single-posted TaskSem o a t s = refl
single-posted TaskQ o a t s = refl
single-posted Multi o a t s = absurd s
single-posted Signal o a t s = refl

-- what a call hands to a task that does not wait for several objects is the result of its wait
pub handing-single : (s : Service) (r : Request) (a : Answer) (t : Task) → IsSingle t.waiting → handed_result s r a t ≡ result_of a t
handing-single SemPost r a t h = single-posted t.waiting _ a t h
handing-single QPost r a t h = single-posted t.waiting _ a t h
handing-single _ r a t h = refl

-- a task that is woken waits for nothing, and all others wait on
pub single-given : (x : ℕ) (f : Task → Finished) (k : Kernel) → AreSingle k → AreSingle (given x f k)
single-given x f k h y i = update_task_at (λ n t. n < 64 → IsSingle t.waiting) (answered_task (f (task_at k x))) k.tasks x (λ old j. tt {0}) h y i

single-ready : (ready : Option ℕ) (x : ℕ) (k : Kernel) → AreSingle k → AreSingle (given_ready ready x k)
single-ready None x k h = h
single-ready (Some ready) x k h = single-given x (result_of (fine ready)) k h

pub single-looked : (bits x : ℕ) (k : Kernel) → AreSingle k → AreSingle (looked_at bits x k)
single-looked bits x k h = single-ready (ready_bits bits (task_at k x).mask (task_at k x).opt) x k h

-- one task is woken by a call
pub given-handing : (r : Request) (x : ℕ) (k : Kernel) (a : Answer) → IsSingle (task_at k x).waiting → a ≡ handed (ending_of r.service) r.service r → given x (result_of a) k ≡ awakened r x k
given-handing r x k a h e =
    ap (λ b. given x (result_of b) k) e
    ∙ ap (λ (f : Finished). record k { tasks = update_task k.tasks x (answered_task f); matches = unmatched x k.matches })
    (sym (handing-single r.service r (handed (ending_of r.service) r.service r) (task_at k x) h))
