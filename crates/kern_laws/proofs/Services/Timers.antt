-- The services of timers and the timer task's units keep what each plain change keeps.
use Rattle.kern_model.proofs.Common.{◌≡◌, ◌≢◌, ℕ, ◌<◌, ◌+◌, List, [], ◌∷◌, refl, ap, subst, Bool, true, false, arith, inl, inr, Option, Some, None, ◌==◌, if◌then◌else◌, map, Request, Signal, Quiet, TmrEnd, Kernel, Object, Timer, TimerState, Stopped, Running, Completed, Content, Timed, object_at, no_object, with_task, count_of, timer_task, Effect, argument, IsLinked, IsContent, one_if}
use Rattle.std.proofs.lemmas.List.{get_or-set_same}
use Rattle.kern_model.specs.Time.{waits_for_signal}
use Rattle.kern_model.specs.Timers.{runs, rests, tmr_start, tmr_stop_in, tmr_stop, tmr_remain_get, tmr_state_get, tmr_del, timer_counts, fired, timer_ends, timer_goes_on, timer_unit, due_timer, has_callback, start_delay}
use Rattle.kern_model.specs.Stop.{callback_ended}
use Rattle.kern_model.proofs.Halves.Effects.{choice}
use Rattle.kern_model.proofs.Linked.Wakes.{self_equal}
use Rattle.kern_model.proofs.Linked.Contents.{object_inside}
use Rattle.kern_model.proofs.Linked.TaskServices.{linked-rests}
use Rattle.kern_laws.proofs.Changes.Each.{Preserved, IsTimer}
use Rattle.kern_laws.proofs.Services.Wakes.{After}

-- a timer at rest does not run
stopped≢running : Stopped ≢ Running
stopped≢running e = cc

completed≢running : Completed ≢ Running
completed≢running e = cc

-- the timer that is due has a match
due_matched : (count o : ℕ) (ms : List (ℕ × ℕ)) → due_timer count ms ≡ Some o → 0 < count_of o (map (λ m. m.0) ms)
due_matched count o [] h = cc
due_matched count o (m ∷ ms) h = by_test (m.1 == count) (due_matched count o ms) h
  where
    by_test : (b : Bool) → (due_timer count ms ≡ Some o → 0 < count_of o (map (λ m. m.0) ms)) → (if b then Some m.0 else due_timer count ms) ≡ Some o → 0 < one_if (m.0 == o) + count_of o (map (λ m. m.0) ms)
    by_test true later e =
        let same : m.0 ≡ o = cc in
        let one : one_if (m.0 == o) ≡ 1 = ap one_if (subst (λ z. (m.0 == z) ≡ true) same (self_equal m.0)) in
        omega (arith, one)
    by_test false later e = omega (arith, later e)

module _ (P Q : Kernel → Type 0) (c : Preserved P Q) where
  pub preserved-tmr_start : (content : Content) (r : Request) (k : Kernel) → (object_at k (argument r 0)).content ≡ content → (object_at k (argument r 0)).deleted ≡ false → IsLinked k → P k → After P Q c (tmr_start content r k)
  preserved-tmr_start (Timed t) r k e d v p = c.timer_runs k (argument r 0) (start_delay t) t (record { links = v; holds = e; there = inl d }) p
  preserved-tmr_start _ r k e d v p = p

  preserved-tmr_stop_in : (s : TimerState) (t : Timer) (o : ℕ) (k : Kernel) → IsTimer k o t → P k → After P Q c (tmr_stop_in s t o k)
  preserved-tmr_stop_in Running t o k i p = c.timer_rests k o t Stopped i stopped≢running p
  preserved-tmr_stop_in _ t o k i p = p

  pub preserved-tmr_stop : (content : Content) (r : Request) (k : Kernel) → (object_at k (argument r 0)).content ≡ content → (object_at k (argument r 0)).deleted ≡ false → IsLinked k → P k → After P Q c (tmr_stop content r k)
  preserved-tmr_stop (Timed t) r k e d v p = preserved-tmr_stop_in t.state t (argument r 0) k (record { links = v; holds = e; there = inl d }) p
  preserved-tmr_stop _ r k e d v p = p

  pub preserved-tmr_remain_get : (content : Content) (r : Request) (k : Kernel) → P k → After P Q c (tmr_remain_get content r k)
  preserved-tmr_remain_get (Timed t) r k p = p
  preserved-tmr_remain_get _ r k p = p

  pub preserved-tmr_state_get : (content : Content) (k : Kernel) → P k → After P Q c (tmr_state_get content k)
  preserved-tmr_state_get (Timed t) k p = p
  preserved-tmr_state_get _ k p = p

  pub preserved-tmr_del : (content : Content) (r : Request) (k : Kernel) → (object_at k (argument r 0)).content ≡ content → (object_at k (argument r 0)).deleted ≡ false → IsContent content → IsLinked k → P k → After P Q c (tmr_del content r k)
  preserved-tmr_del (Timed t) r k e d i v p =
      let o = argument r 0 in
      let u : Timer = record t { state = Stopped } in
      let holds : (object_at (rests o t Stopped k) o).content ≡ Timed u =
      ap (λ (b : Object). b.content) (get_or-set_same k.objects o (record (object_at k o) { content = Timed u }) no_object (object_inside k o d)) in
      c.timer_deleted (rests o t Stopped k) o u (linked-rests o t Stopped k i v) holds stopped≢running
      (c.timer_rests k o t Stopped (record { links = v; holds = e; there = inl d }) stopped≢running p)
  preserved-tmr_del _ r k e d i v p = p

  -- the timer task's units

  preserved-timer_counts : (k : Kernel) → P k → After P Q c (timer_counts k)
  preserved-timer_counts k p = c.rest k (timer_counts k).kernel (record { tasks = refl; objects = refl; pend = refl; timer_matches = refl; settings = refl }) p

  preserved-in_callback : (k : Kernel) (b : Bool) → P k → P (record k { in_callback = b })
  preserved-in_callback k b p = c.rest k (record k { in_callback = b }) (record { tasks = refl; objects = refl; pend = refl; timer_matches = refl; settings = refl }) p

  preserved-fired : (o : ℕ) (content : Content) (k : Kernel) → (object_at k o).content ≡ content → 0 < count_of o (map (λ m. m.0) k.timer_matches) → IsLinked k → P k → P (fired o content k)
  preserved-fired o (Timed t) k e l v p = by_kind t.periodic
    where
      timer : IsTimer k o t
      timer = record { links = v; holds = e; there = inr l }

      by_kind : (b : Bool) → P (record (if b then runs o t t.period k else rests o t Completed k) { in_callback = has_callback t.callback })
      by_kind true = preserved-in_callback (runs o t t.period k) (has_callback t.callback) (c.timer_runs k o t.period t timer p)
      by_kind false = preserved-in_callback (rests o t Completed k) (has_callback t.callback) (c.timer_rests k o t Completed timer completed≢running p)
  preserved-fired o _ k e l v p = p

  preserved-timer_ends : (k : Kernel) → IsLinked k → P k → After P Q c (timer_ends k)
  preserved-timer_ends k v p =
      let e : Effect = record { kernel = record k { lock = 0; processing = false }; outcome = Quiet TmrEnd; blocks = [] } in
      choice (After P Q c) (k.timer_signals == 0) (waits_for_signal timer_task e) e
      (c.rest (with_task k 61 (λ t. record t { waiting = Signal })) (waits_for_signal timer_task e).kernel (record { tasks = refl; objects = refl; pend = refl; timer_matches = refl; settings = refl })
      (c.internal k 61 Signal v (inr refl) (inr refl) p))
      (c.rest k e.kernel (record { tasks = refl; objects = refl; pend = refl; timer_matches = refl; settings = refl }) p)

  preserved-timer_goes_on : (o : Option ℕ) (k : Kernel) → due_timer k.timer_count k.timer_matches ≡ o → IsLinked k → P k → After P Q c (timer_goes_on o k)
  preserved-timer_goes_on (Some o) k e v p = preserved-fired o (object_at k o).content k refl (due_matched k.timer_count o k.timer_matches e) v p
  preserved-timer_goes_on None k e v p = preserved-timer_ends k v p

  pub preserved-timer_unit : (k : Kernel) → IsLinked k → P k → After P Q c (timer_unit k)
  preserved-timer_unit k v p =
      let o = due_timer k.timer_count k.timer_matches in
      choice (After P Q c) k.processing (timer_goes_on o k) (timer_counts k) (preserved-timer_goes_on o k refl v p) (preserved-timer_counts k p)

  -- The end of a callback keeps it.
  pub preserved-callback_ended : (k : Kernel) → P k → P (callback_ended k)
  preserved-callback_ended k p = c.rest k (callback_ended k) (record { tasks = refl; objects = refl; pend = refl; timer_matches = refl; settings = refl }) p
