-- Calls on timers: what is decided of them is what their services do.
use Rattle.std.proofs.Common.{◌≡◌, ℕ, ◌<◌, List, [], ◌∷◌, length, refl, sym, ap, ◌∙◌, true, false, None}
use Rattle.std.specs.Prelude.{if◌then◌else◌}
use Rattle.std.proofs.lemmas.Bool.{false≢true}
use Rattle.kern_base.specs.Checks.{kinds_wanted}
use Rattle.kern_base.specs.declared.kinds.Kind.TheVariants.{OneShot, Periodic}
use Rattle.kern_base.specs.declared.services.Service.{Service}
use Rattle.kern_base.specs.declared.services.Service.TheVariants.{TmrStart, TmrStop, TmrRemainGet, TmrStateGet, TmrDel}
use Rattle.kern_base.specs.declared.requests.Request.{Request}
use Rattle.kern_base.specs.declared.outcomes.Around.{Around}
use Rattle.kern_base.specs.declared.outcomes.Decision.{Decision}
use Rattle.kern_model.specs.State.{Kernel, Timer, TimerState, Stopped, Running, Completed, Content, Count, Messages, Bits, Held, Timed}
use Rattle.kern_model.specs.Call.{call_of}
use Rattle.kern_model.specs.Checks.{argument, call_error}
use Rattle.kern_model.specs.Effect.{Effect, done, fine}
use Rattle.kern_model.specs.Services.{content_for, perform}
use Rattle.kern_model.specs.Timers.{remains, rests, tmr_del, tmr_remain_get, tmr_start, tmr_state_get, tmr_stop, tmr_stop_in}
use Rattle.kern_model.proofs.Lemmas.{checked_object}
use Rattle.served.specs.Served.{program_serves}
use Rattle.decisions.specs.Decided.{decided}
use Rattle.tick_timers.specs.TimerRecord.{TimerRecord}
use Rattle.tick_timers.specs.TimerCalls.{stop_decision, time_left}
use Rattle.kernel_records.specs.RecordsRecord.{with_lists}
use Rattle.kernel_records.specs.SchedulerCalls.{is_scheduler_call}
use Rattle.kernel_records.specs.TimerCalls.{counted_in, is_timer_call, timer_change, timer_decision}
use Rattle.kernel_records.specs.Deciding.{IsRow, IsServedDecision, acts, own_change, waiters_of}
use Rattle.kernel_records.proofs.DecidingFacts.{changed-timer, effect-decided, own-objects, still-objects}
use Rattle.kernel_records.proofs.RowFacts.{performed}

-- a call on a timer is none on the scheduler, and names an object that is there
pub timer-scheduler : (s : Service) → is_timer_call s ≡ true → is_scheduler_call s ≡ false
timer-scheduler TmrStart m = refl
timer-scheduler TmrStop m = refl
timer-scheduler TmrRemainGet m = refl
timer-scheduler TmrStateGet m = refl
timer-scheduler TmrDel m = refl
timer-scheduler _ m = absurd (false≢true m)

timer-kinds : (s : Service) → is_timer_call s ≡ true → kinds_wanted s ≡ OneShot ∷ Periodic ∷ []
timer-kinds TmrStart m = refl
timer-kinds TmrStop m = refl
timer-kinds TmrRemainGet m = refl
timer-kinds TmrStateGet m = refl
timer-kinds TmrDel m = refl
timer-kinds _ m = absurd (false≢true m)

pub timer-inside : (r : Request) (x : ℕ) (k : Kernel) → is_timer_call r.service ≡ true → call_error r x k ≡ None → argument r 0 < length k.objects
timer-inside r x k m h = checked_object r x k OneShot (Periodic ∷ []) (timer-kinds r.service m) h

-- such a call is answered at once
stop-served : (state : TimerState) (s : Service) → IsServedDecision (stop_decision state) s
stop-served Running s = tt
stop-served Stopped s = tt
stop-served Completed s = tt

call-served : (s : Service) (t : Timer) (o : ℕ) (v : TimerRecord) → IsServedDecision (timer_decision s (Timed t) o v) s
call-served TmrStop t o v = stop-served t.state TmrStop
call-served TmrRemainGet t o v = tt
call-served TmrStateGet t o v = tt
call-served _ t o v = tt

pub timer-served : (s : Service) (c : Content) (o : ℕ) (v : TimerRecord) → IsServedDecision (timer_decision s c o v) s
timer-served s (Timed t) o v = call-served s t o v
timer-served s (Count n) o v = tt
timer-served s (Messages limit ms) o v = tt
timer-served s (Bits bits) o v = tt
timer-served s (Held owner n) o v = tt

-- what it comes to, where the object that it names holds this
module _ (r : Request) (x i h : ℕ) (xs : List ℕ) (j : Kernel) where
  abbrev o : ℕ
  o = argument r 0

  abbrev comes_to : Service → Content → Effect
  comes_to s c = let d = timer_decision s c o (counted_in j) in decided d s r x h xs (if acts d then timer_change s o c j else j)

  stops : (state : TimerState) (t : Timer) → tmr_stop_in state t o j ≡ (let d = stop_decision state in decided d TmrStop r x h xs (if acts d then rests o t Stopped j else j))
  stops Running t = refl
  stops Stopped t = refl
  stops Completed t = refl

  left-is : (state : TimerState) (t : Timer) → remains state t o j ≡ time_left state t o (counted_in j)
  left-is Running t = refl
  left-is Stopped t = refl
  left-is Completed t = refl

  starts-by : (c : Content) → tmr_start c r j ≡ comes_to TmrStart c
  starts-by (Timed t) = refl
  starts-by (Count n) = refl
  starts-by (Messages limit ms) = refl
  starts-by (Bits bits) = refl
  starts-by (Held owner n) = refl

  stops-by : (c : Content) → tmr_stop c r j ≡ comes_to TmrStop c
  stops-by (Timed t) = stops t.state t
  stops-by (Count n) = refl
  stops-by (Messages limit ms) = refl
  stops-by (Bits bits) = refl
  stops-by (Held owner n) = refl

  left-by : (c : Content) → tmr_remain_get c r j ≡ comes_to TmrRemainGet c
  left-by (Timed t) = ap (λ n. done j (fine n)) (left-is t.state t)
  left-by (Count n) = refl
  left-by (Messages limit ms) = refl
  left-by (Bits bits) = refl
  left-by (Held owner n) = refl

  state-by : (c : Content) → tmr_state_get c j ≡ comes_to TmrStateGet c
  state-by (Timed t) = refl
  state-by (Count n) = refl
  state-by (Messages limit ms) = refl
  state-by (Bits bits) = refl
  state-by (Held owner n) = refl

  deletes-by : (c : Content) → tmr_del c r j ≡ comes_to TmrDel c
  deletes-by (Timed t) = refl
  deletes-by (Count n) = refl
  deletes-by (Messages limit ms) = refl
  deletes-by (Bits bits) = refl
  deletes-by (Held owner n) = refl

  does : (s : Service) → is_timer_call s ≡ true → perform s (call_of r x i h) j ≡ comes_to s (content_for r j)
  does TmrStart m = starts-by (content_for r j)
  does TmrStop m = stops-by (content_for r j)
  does TmrRemainGet m = left-by (content_for r j)
  does TmrStateGet m = state-by (content_for r j)
  does TmrDel m = deletes-by (content_for r j)
  does _ m = absurd (false≢true m)

-- what changes by it
pub own-timer : (r : Request) (x : ℕ) (d : Decision) (k : Kernel) → is_timer_call r.service ≡ true → own_change r x d k ≡ (if acts d then timer_change r.service (argument r 0) (content_for r k) k else k)
own-timer r x d k m =
    own-objects r x d k (timer-scheduler r.service m) ∙ ap (λ (j : Kernel). if acts d then j else k) (changed-timer r x d k m)

pub row-timer : (r : Request) (seen : Around) (d : Decision) (k : Kernel) → program_serves r.service ≡ true → call_error r seen.caller.0 k ≡ None → is_timer_call r.service ≡ true → d ≡ timer_decision r.service (content_for r k) (argument r 0) (counted_in k) → IsRow r seen d k
row-timer r seen d k s p m e l i h around =
    let j = with_lists k l in
    let x = seen.caller.0 in
    let xs = waiters_of r x j in
    performed r seen d k s p l i h
    ∙ does r x i h xs j r.service m
    ∙ ap (λ (b : Decision). decided b r.service r x h xs (if acts b then timer_change r.service (argument r 0) (content_for r k) j else j)) (sym e)
    ∙ ap (decided d r.service r x h xs) (sym (own-timer r x d j m))
    ∙ sym (effect-decided r d x h xs j (still-objects r.service d (timer-scheduler r.service m)))
