-- Round robin, the services of time, the tick and the tick task's unit keep what each plain change keeps.
use Rattle.kern_model.proofs.Common.{◌≡◌, ◌⊎◌, ℕ, zero, suc, ◌<◌, ◌+◌, ◌^◌, List, [], ◌∷◌, refl, sym, ap, subst, false, ◌&&◌, not, arith, inl, inr, ◌==◌, ◌-◌, ◌%◌, nat_lt, if◌then◌else◌, Request, SchedLocked, RoundRobinDisabled, RoundRobinAlone, Waiting, No, Delay, Signal, Gone, Kernel, Task, list_at, task_at, prio_of, with_task, update_task, waits_for_nothing, tick_task, timer_task, idle_task, at_tail, Effect, refused, done, fine, result_of, and_then, IsLinked, IsWord, MayCall}
use Rattle.kern_model.specs.RoundRobin.{first_in, full_quantum, rotates, spends, round_robin, is_alone, round_robin_yield}
use Rattle.kern_model.specs.Time.{delays, delay_of, time_dly, resumes_delayed, signalled, signals_tick, signals_timer, time_tick, due, timed_out, waits_for_signal, ticked, tick_unit}
use Rattle.kern_model.proofs.Halves.Effects.{choice}
use Rattle.kern_model.proofs.Linked.Counters.{linked-scalars}
use Rattle.kern_model.proofs.Linked.Ticks.{signals}
use Rattle.kern_model.proofs.Linked.TaskServices.{linked-tick_signalled, linked-round_robin, AllWait-due, tick_wakes, linked-tick_wakes, tick_renewed, linked-tick_renewed, kernel-ticked}
use Rattle.kern_laws.proofs.Changes.Each.{Preserved, SameRest, waits_for_mutex}
use Rattle.kern_laws.proofs.Services.Wakes.{After, results-of, results-timed, before_renewal-wakes_all}
use Rattle.kern_laws.proofs.Services.Tasks.{preserved-wakes_one, preserved-waits_alone}

module _ (P Q : Kernel → Type 0) (c : Preserved P Q) where
  -- round robin

  preserved-rotates : (x p : ℕ) (k : Kernel) → P k → After P Q c (rotates x p k)
  preserved-rotates x p k q =
      let j = (rotates x p k).kernel in
      let y = first_in (list_at j.ready p) in
      c.rest (with_task k y full_quantum) j (record { tasks = refl; objects = refl; pend = refl; timer_matches = refl; settings = refl }) (c.task k y full_quantum (λ t. refl) q)

  preserved-spends : (xs : List ℕ) (p : ℕ) (k : Kernel) → P k → After P Q c (spends xs p k)
  preserved-spends [] p k q = q
  preserved-spends (y ∷ []) p k q = c.task k y (λ t. record t { quantum = t.quantum - 1 }) (λ t. refl) q
  preserved-spends (y ∷ z ∷ zs) p k q =
      let f : Task → Task = λ t. record t { quantum = t.quantum - 1 } in
      let j = with_task k y f in
      let spent : P j = c.task k y f (λ t. refl) q in
      choice (After P Q c) ((task_at j y).quantum == 0) (rotates y p j) (done j (fine 0)) (preserved-rotates y p j spent) spent

  preserved-round_robin : (r : ℕ) (k : Kernel) → P k → After P Q c (round_robin r k)
  preserved-round_robin r k p =
      choice (After P Q c) (k.settings.round_robin && ((k.lock == 0) && not (first_in (list_at k.ready r) == idle_task))) (spends (list_at k.ready r) r k) (done k (fine 0)) (preserved-spends (list_at k.ready r) r k p) p

  pub preserved-round_robin_yield : (x : ℕ) (k : Kernel) → P k → After P Q c (round_robin_yield x k)
  preserved-round_robin_yield x k p =
      let alone = is_alone (list_at k.ready (prio_of k x)) in
      let last : Effect = if alone then refused k RoundRobinAlone else rotates x (prio_of k x) k in
      let rest : Effect = if not k.settings.round_robin then refused k RoundRobinDisabled else last in
      choice (After P Q c) (not (k.lock == 0)) (refused k SchedLocked) rest p
      (choice (After P Q c) (not k.settings.round_robin) (refused k RoundRobinDisabled) last p
      (choice (After P Q c) alone (refused k RoundRobinAlone) (rotates x (prio_of k x) k) p (preserved-rotates x (prio_of k x) k p)))

  -- delays

  pub preserved-time_dly : (r : Request) (x : ℕ) (k : Kernel) → IsLinked k → MayCall x k → P k → After P Q c (time_dly r x k)
  preserved-time_dly r x k v m p =
      by_delay (delay_of r k.ticks)
    where
      by_delay : (n : ℕ) → After P Q c (if k.lock == 0 then delays n x k else refused k SchedLocked)
      by_delay zero = choice (After P Q c) (k.lock == 0) (delays 0 x k) (refused k SchedLocked) p p
      by_delay (suc n) = preserved-waits_alone P Q c k v x m false Delay (suc n) refl (λ t. refl) refl p

  pub preserved-resumes_delayed : (w : Waiting) (x h : ℕ) (k : Kernel) → (task_at k x).waiting ≡ w → IsLinked k → x < 60 → P k → After P Q c (resumes_delayed w x h k)
  preserved-resumes_delayed Delay x h k e v l p = preserved-wakes_one P Q c (result_of (fine 0)) h x k (results-of (fine 0) (omega arith, omega arith) (task_at k x)) v l (ap waits_for_nothing e) (ap waits_for_mutex e) p
  preserved-resumes_delayed _ x h k e v l p = p

  -- the tick: an internal task is signalled; j is k with more signals

  preserved-signalled : (w : Waiting) (x h : ℕ) (k j : Kernel) → SameRest j k → IsLinked k → (x ≡ 60) ⊎ (x ≡ 61) → P k → After P Q c (signalled w x h j)
  preserved-signalled Signal x h k j same v i p =
      c.rest (with_task k x (λ t. record t { waiting = No })) (signalled Signal x h j).kernel
      (record { tasks = ap (λ ts. update_task ts x (λ t. record t { waiting = No })) same.tasks; objects = same.objects; pend = same.pend; timer_matches = same.timer_matches; settings = same.settings })
      (c.internal k x No v i (inl refl) p)
  preserved-signalled _ x h k j same v i p = c.rest k j same p

  preserved-signals_timer : (h : ℕ) (k : Kernel) → IsLinked k → P k → After P Q c (signals_timer h k)
  preserved-signals_timer h k v p =
      let j : Kernel = record k { tick_calls = 0; timer_signals = k.timer_signals + 1 } in
      choice (After P Q c) (nat_lt (k.tick_calls + 1) k.settings.tmr_div) (done (record k { tick_calls = k.tick_calls + 1 }) (fine 0)) (signalled (task_at k timer_task).waiting timer_task h j)
      (c.rest k (record k { tick_calls = k.tick_calls + 1 }) (record { tasks = refl; objects = refl; pend = refl; timer_matches = refl; settings = refl }) p)
      (preserved-signalled (task_at k timer_task).waiting timer_task h k j (record { tasks = refl; objects = refl; pend = refl; timer_matches = refl; settings = refl }) v (inr refl) p)

  pub preserved-time_tick : (r h : ℕ) (k : Kernel) → IsLinked k → P k → After P Q c (time_tick r h k)
  preserved-time_tick r h k v p =
      let e = signals_tick h k in
      let f = and_then e (round_robin r) in
      let j : Kernel = record k { tick_signals = k.tick_signals + 1 } in
      let w = (task_at k 60).waiting in
      let valid : IsLinked e.kernel = linked-tick_signalled w h k refl v in
      preserved-signals_timer h f.kernel (linked-round_robin r e.kernel valid)
      (preserved-round_robin r e.kernel (preserved-signalled w tick_task h k j (record { tasks = refl; objects = refl; pend = refl; timer_matches = refl; settings = refl }) v (inl refl) p))

  -- the tick task's unit: its kernel after the renewal, with the signals as they were

  preserved-tick_renewed : (k : Kernel) → IsLinked k → P k → P (tick_renewed k)
  preserved-tick_renewed k v p =
      let tick = (k.ticks + 1) % 2 ^ 32 in
      let j : Kernel = record k { ticks = tick } in
      let valid : IsLinked j = linked-scalars k k.timer_matches tick k.timer_count k.tick_signals k.timer_signals k.tick_calls k.processing k.in_callback k.lock k.free (word (k.ticks + 1)) v.clocks.timer_count v.internal.tick_waits v.internal.timer_waits v.lock.few v.lock.locked v.lock.callback v in
      c.renew at_tail (tick_wakes k) (linked-tick_wakes k v)
      (before_renewal-wakes_all P Q c (λ t. timed_out t.waiting t) (prio_of k tick_task) (due tick k.matches) j (λ y _. results-timed (task_at j y)) valid (AllWait-due j valid tick)
      (c.before_renewal j (c.rest k j (record { tasks = refl; objects = refl; pend = refl; timer_matches = refl; settings = refl }) p)))
    where
      word : (n : ℕ) → IsWord (n % 2 ^ 32)
      word n = grind arith

  preserved-ticked : (k : Kernel) → IsLinked k → P k → After P Q c (ticked k)
  preserved-ticked k v p =
      let t = tick_renewed k in
      subst P (sym (kernel-ticked k))
      (c.rest t (signals t (k.tick_signals - 1)) (record { tasks = refl; objects = refl; pend = refl; timer_matches = refl; settings = refl }) (preserved-tick_renewed k v p))

  preserved-last_tick : (k : Kernel) → IsLinked k → P k → After P Q c (waits_for_signal tick_task (ticked k))
  preserved-last_tick k v p =
      let t = tick_renewed k in
      let w = linked-tick_renewed k v in
      let j = signals t (k.tick_signals - 1) in
      subst (λ i. After P Q c (waits_for_signal tick_task (record { kernel = i; outcome = Gone; blocks = [] }))) (sym (kernel-ticked k))
      (c.rest (with_task t 60 (λ u. record u { waiting = Signal })) (waits_for_signal tick_task (record { kernel = j; outcome = Gone; blocks = [] })).kernel
      (record { tasks = refl; objects = refl; pend = refl; timer_matches = refl; settings = refl })
      (c.internal t 60 Signal w (inl refl) (inr refl) (preserved-tick_renewed k v p)))

  pub preserved-tick_unit : (k : Kernel) → IsLinked k → P k → After P Q c (tick_unit k)
  preserved-tick_unit k v p =
      choice (After P Q c) (k.tick_signals == 1) (waits_for_signal tick_task (ticked k)) (ticked k) (preserved-last_tick k v p) (preserved-ticked k v p)
