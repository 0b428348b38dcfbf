-- What a call on a timer changes, and a timer that fires: the object of the timer, and the matches.
use Rattle.std.proofs.Common.{◌≡◌, ℕ, ◌<◌, List, [], length, refl, sym, ap, ◌∙◌, Bool, true, false, set-set, get_or-set_same}
use Rattle.std.specs.Prelude.{if◌then◌else◌, slice_set}
use Rattle.std.proofs.lemmas.Bool.{eq-eqb}
use Rattle.std.proofs.lemmas.List.{set-get_or}
use Rattle.std.proofs.Math.Seq.{map-set_same}
use Rattle.kern_base.specs.declared.kinds.Kind.{Kind}
use Rattle.kern_base.specs.declared.outcomes.Outcome.TheVariants.{Quiet}
use Rattle.kern_base.specs.declared.outcomes.UnitEnd.TheVariants.{TmrEnd}
use Rattle.kern_base.specs.declared.services.Service.{Service}
use Rattle.kern_base.specs.declared.services.Service.TheVariants.{TmrStart, TmrStop, TmrDel}
use Rattle.kern_model.specs.State.{Kernel, Object, Timer, Stopped, Running, Completed, Content, Count, Messages, Bits, Held, Timed, kind_of, kinds_of, no_object, object_at, timer_task, update_task, with_content}
use Rattle.kern_model.specs.Effect.{Effect, unmatched}
use Rattle.kern_model.specs.Time.{waits_for_signal}
use Rattle.kern_model.specs.Timers.{fired, has_callback, rests, runs, timer_ends}
use Rattle.tick_timers.specs.TimerCalls.{after_call, matched_from}
use Rattle.kernel_records.specs.RecordsRecord.{without_lists}
use Rattle.kernel_records.specs.Ticks.{resting_task}
use Rattle.kernel_records.specs.TimerCalls.{callback_after, changed_timer, counted_in, fired_object, matches_changed, matches_firing, object_deleted, timer_called, timer_change}

-- the kernel with another object at o, and other matches
abbrev pub with_object : Kernel → ℕ → Object → List (ℕ × ℕ) → Kernel
with_object k o b ms = record k { objects = slice_set k.objects o b; timer_matches = ms }

same-object : (k : Kernel) (o : ℕ) (b : Object) → b ≡ object_at k o → with_object k o b k.timer_matches ≡ k
same-object k o b e =
    ap (λ (c : Object). with_object k o c k.timer_matches) e ∙ ap (λ (bs : List Object). record k { objects = bs }) (set-get_or k.objects o no_object)

-- a call on a timer

gone-after : (k : Kernel) (o : ℕ) (t : Timer) → o < length k.objects → with_object k o (record { content = Timed (record t { state = Stopped }); deleted = true }) (unmatched o k.timer_matches) ≡ object_deleted o (rests o t Stopped k)
gone-after k o t h =
    let b : Object = record { content = Timed (record t { state = Stopped }); deleted = (object_at k o).deleted } in
    let j = rests o t Stopped k in
    ap (λ (bs : List Object). record j { objects = bs }) (sym (set-set k.objects o b (record { content = Timed (record t { state = Stopped }); deleted = true })))
    ∙ ap (λ (c : Object). record j { objects = slice_set (slice_set k.objects o b) o (record c { deleted = true }) }) (sym (get_or-set_same k.objects o b no_object h))

called-is : (s : Service) (o : ℕ) (t : Timer) (k : Kernel) → o < length k.objects → (object_at k o).content ≡ Timed t → with_object k o (changed_timer s (Timed t) (object_at k o)) (matches_changed s (Timed t) o (counted_in k)) ≡ timer_called s o t k
called-is TmrStart o t k h e = refl
called-is TmrStop o t k h e = refl
called-is TmrDel o t k h e = gone-after k o t h
called-is _ o t k h e =
    same-object k o (record { content = Timed t; deleted = (object_at k o).deleted }) (ap (λ (c : Content). let b : Object = record { content = c; deleted = (object_at k o).deleted } in b) (sym e))

change-by : (s : Service) (o : ℕ) (c : Content) (k : Kernel) → o < length k.objects → (object_at k o).content ≡ c → with_object k o (changed_timer s c (object_at k o)) (matches_changed s c o (counted_in k)) ≡ timer_change s o c k
change-by s o (Timed t) k h e = called-is s o t k h e
change-by s o (Count n) k h e = same-object k o (object_at k o) refl
change-by s o (Messages limit ms) k h e = same-object k o (object_at k o) refl
change-by s o (Bits bits) k h e = same-object k o (object_at k o) refl
change-by s o (Held owner n) k h e = same-object k o (object_at k o) refl

-- in the records: the object and the matches are these
pub change-is : (s : Service) (o : ℕ) (k : Kernel) → o < length k.objects → with_object k o (changed_timer s (object_at k o).content (object_at k o)) (matches_changed s (object_at k o).content o (counted_in k)) ≡ timer_change s o (object_at k o).content k
change-is s o k h = change-by s o (object_at k o).content k h refl

-- a timer that fires

fired-by : (b : Bool) (o : ℕ) (t : Timer) (k : Kernel) → (let j = with_object k o (record (object_at k o) { content = Timed (record t { state = if b then Running else Completed }) }) (if b then matched_from o t.period (counted_in k) else unmatched o k.timer_matches) in record j { in_callback = has_callback t.callback }) ≡ record (if b then runs o t t.period k else rests o t Completed k) { in_callback = has_callback t.callback }
fired-by true o t k = refl
fired-by false o t k = refl

fires-by : (o : ℕ) (c : Content) (k : Kernel) → (let j = with_object k o (fired_object c (object_at k o)) (matches_firing c o (counted_in k)) in record j { in_callback = callback_after c k.in_callback }) ≡ fired o c k
fires-by o (Timed t) k = fired-by t.periodic o t k
fires-by o (Count n) k = same-object k o (object_at k o) refl
fires-by o (Messages limit ms) k = same-object k o (object_at k o) refl
fires-by o (Bits bits) k = same-object k o (object_at k o) refl
fires-by o (Held owner n) k = same-object k o (object_at k o) refl

pub fired-is : (o : ℕ) (k : Kernel) → (let j = with_object k o (fired_object (object_at k o).content (object_at k o)) (matches_firing (object_at k o).content o (counted_in k)) in record j { in_callback = callback_after (object_at k o).content k.in_callback }) ≡ fired o (object_at k o).content k
fired-is o k = fires-by o (object_at k o).content k

-- the kinds of objects stay

call-kind : (s : Service) (t : Timer) → kind_of (Timed (after_call s t)) ≡ kind_of (Timed t)
call-kind TmrStart t = refl
call-kind TmrStop t = refl
call-kind TmrDel t = refl
call-kind _ t = refl

pub changed-kind : (s : Service) (c : Content) (b : Object) → b.content ≡ c → kind_of (changed_timer s c b).content ≡ kind_of b.content
changed-kind s (Timed t) b e = call-kind s t ∙ sym (ap kind_of e)
changed-kind s (Count n) b e = refl
changed-kind s (Messages limit ms) b e = refl
changed-kind s (Bits bits) b e = refl
changed-kind s (Held owner n) b e = refl

pub fired-kind : (c : Content) (b : Object) → b.content ≡ c → kind_of (fired_object c b).content ≡ kind_of b.content
fired-kind (Timed t) b e = sym (ap kind_of e)
fired-kind (Count n) b e = refl
fired-kind (Messages limit ms) b e = refl
fired-kind (Bits bits) b e = refl
fired-kind (Held owner n) b e = refl

kinds-content : (k : Kernel) (o : ℕ) (c : Content) → kind_of c ≡ kind_of (object_at k o).content → kinds_of (with_content k o c) ≡ kinds_of k
kinds-content k o c e =
    ap (λ (ks : List Kind). record { objects = ks; tasks = k.settings.tasks })
    (map-set_same (λ (b : Object). kind_of b.content) k.objects o (record (object_at k o) { content = c }) no_object e)

kinds-deleted : (k : Kernel) (o : ℕ) → kinds_of (object_deleted o k) ≡ kinds_of k
kinds-deleted k o =
    ap (λ (ks : List Kind). record { objects = ks; tasks = k.settings.tasks })
    (map-set_same (λ (b : Object). kind_of b.content) k.objects o (record (object_at k o) { deleted = true }) no_object refl)

kinds-called : (s : Service) (o : ℕ) (t : Timer) (k : Kernel) → kind_of (Timed t) ≡ kind_of (object_at k o).content → kinds_of (timer_called s o t k) ≡ kinds_of k
kinds-called TmrStart o t k e = kinds-content k o (Timed (record t { state = Running })) e
kinds-called TmrStop o t k e = kinds-content k o (Timed (record t { state = Stopped })) e
kinds-called TmrDel o t k e = kinds-deleted (rests o t Stopped k) o ∙ kinds-content k o (Timed (record t { state = Stopped })) e
kinds-called _ o t k e = refl

pub kinds-timer : (s : Service) (o : ℕ) (c : Content) (k : Kernel) → c ≡ (object_at k o).content → kinds_of (timer_change s o c k) ≡ kinds_of k
kinds-timer s o (Timed t) k e = kinds-called s o t k (ap kind_of e)
kinds-timer s o (Count n) k e = refl
kinds-timer s o (Messages limit ms) k e = refl
kinds-timer s o (Bits bits) k e = refl
kinds-timer s o (Held owner n) k e = refl

-- the lists have no part in it

called-bare : (s : Service) (o : ℕ) (t : Timer) (k : Kernel) → without_lists (timer_called s o t k) ≡ timer_called s o t (without_lists k)
called-bare TmrStart o t k = refl
called-bare TmrStop o t k = refl
called-bare TmrDel o t k = refl
called-bare _ o t k = refl

pub timer-bare : (s : Service) (o : ℕ) (c : Content) (k : Kernel) → without_lists (timer_change s o c k) ≡ timer_change s o c (without_lists k)
timer-bare s o (Timed t) k = called-bare s o t k
timer-bare s o (Count n) k = refl
timer-bare s o (Messages limit ms) k = refl
timer-bare s o (Bits bits) k = refl
timer-bare s o (Held owner n) k = refl

pub fired-bare : (o : ℕ) (c : Content) (k : Kernel) → without_lists (fired o c k) ≡ fired o c (without_lists k)
fired-bare o (Timed t) k = bare t.periodic
  where
    bare : (b : Bool) → without_lists (record (if b then runs o t t.period k else rests o t Completed k) { in_callback = has_callback t.callback }) ≡ record (if b then runs o t t.period (without_lists k) else rests o t Completed (without_lists k)) { in_callback = has_callback t.callback }
    bare true = refl
    bare false = refl
fired-bare o (Count n) k = refl
fired-bare o (Messages limit ms) k = refl
fired-bare o (Bits bits) k = refl
fired-bare o (Held owner n) k = refl

-- nor have the tasks

called-tasks : (s : Service) (o : ℕ) (t : Timer) (k : Kernel) → (timer_called s o t k).tasks ≡ k.tasks
called-tasks TmrStart o t k = refl
called-tasks TmrStop o t k = refl
called-tasks TmrDel o t k = refl
called-tasks _ o t k = refl

pub timer-tasks : (s : Service) (o : ℕ) (c : Content) (k : Kernel) → (timer_change s o c k).tasks ≡ k.tasks
timer-tasks s o (Timed t) k = called-tasks s o t k
timer-tasks s o (Count n) k = refl
timer-tasks s o (Messages limit ms) k = refl
timer-tasks s o (Bits bits) k = refl
timer-tasks s o (Held owner n) k = refl

-- the timer task waits for its next signal where none is left
pub ends-resting : (k : Kernel) → k.timer_signals ≡ 0 → record (without_lists k) { lock = 0; processing = false; tasks = update_task k.tasks timer_task resting_task } ≡ without_lists (timer_ends k).kernel
ends-resting k e =
    let ended : Effect = record { kernel = record k { lock = 0; processing = false }; outcome = Quiet TmrEnd; blocks = [] } in
    ap (λ (b : Bool). without_lists (if b then waits_for_signal timer_task ended else ended).kernel) (sym (eq-eqb k.timer_signals 0 e))
