-- A tick with the handler's compared priority and with the saved one, where it readies no task that has the saved one.
use Rattle.machine_laws.proofs.Common.{◌≡◌, Bool, ℕ, refl, true, List, [], false, ◌∙◌, ◌∷◌, sym, arith, subst, ap, ◌≤◌, inl, inr, ◌≢◌, ◌==◌, if◌then◌else◌, ◌&&◌, nat_lt, not, slice_set, ◌-◌, length-set, Waiting, choice, Effect, fine, Kernel, task_at, prio_of, idle_task, Task, list_at, timer_task, no_task, tick_task, IsLinked}
use Rattle.std.specs.Prelude.{◌+◌, insert}
use Rattle.std.proofs.Common.{length, get_or}
use Rattle.std.proofs.Math.ListN.{get_or-eq_default}
use Rattle.std.proofs.lemmas.Bool.{cases_lt}
use Rattle.std.proofs.lemmas.List.{get_or-set_same}
use Rattle.kern_base.specs.declared.outcomes.Waiting.TheVariants.{No, Signal}
use Rattle.kern_model.specs.State.{update_task, with_task, waits_for_nothing}
use Rattle.kern_model.specs.Effect.{done}
use Rattle.kern_model.specs.RoundRobin.{first_in, full_quantum, rotates, spends, round_robin}
use Rattle.kern_model.specs.Time.{signalled, signals_tick, signals_timer, time_tick}
use Rattle.kern_model.proofs.Lemmas.{update_task_same, update_task_at, task-other}
use Rattle.kern_model.specs.Posts.{PostKeeps}
use Rattle.machine_model.specs.Steps.{some_readied}
use Rattle.method_law.proofs.Posts.Wakes.{waits_not, none-readied, joins-alike, same-place}
use Rattle.method_law.proofs.Posts.Services.{Same}

-- a task waits for a signal no more
abbrev waits_no_more : Task → Task
waits_no_more t = record t { waiting = No }

signalled-waits : (ts : List Task) (x : ℕ) → waits_for_nothing (get_or (update_task ts x waits_no_more) x no_task).waiting ≡ true
signalled-waits ts x =
    let t = waits_no_more (get_or ts x no_task) in
    elim (cases_lt x (length ts)) as (λ _. waits_for_nothing (get_or (update_task ts x waits_no_more) x no_task).waiting ≡ true) [
      | inl l ↦ ap (λ (u : Task). waits_for_nothing u.waiting) (get_or-set_same ts x t no_task l)
      | inr l ↦ ap (λ (u : Task). waits_for_nothing u.waiting) (get_or-eq_default (slice_set ts x t) no_task (subst (λ m. m ≤ x) (sym (length-set ts x t)) l))
    ]

-- one that waits for nothing goes on so
signalled-stays : (w : Waiting) (x h : ℕ) (k : Kernel) (y : ℕ) → waits_not k y ≡ true → waits_not (signalled w x h k).kernel y ≡ true
signalled-stays Signal x h k y e =
    update_task_at (λ m t. m ≡ y → waits_for_nothing t.waiting ≡ true) waits_no_more k.tasks x (λ old m. refl)
    (λ m i. subst (λ z. waits_not k z ≡ true) (sym i) e) y refl
signalled-stays _ x h k y e = e

signals_timer-stays : (h : ℕ) (k : Kernel) (y : ℕ) → waits_not k y ≡ true → waits_not (signals_timer h k).kernel y ≡ true
signals_timer-stays h k y e =
    let i : Kernel = record k { tick_calls = k.tick_calls + 1 } in
    let j : Kernel = record k { tick_calls = 0; timer_signals = k.timer_signals + 1 } in
    let w = (task_at k timer_task).waiting in
    choice (λ (f : Effect). waits_not f.kernel y ≡ true) (nat_lt (k.tick_calls + 1) k.settings.tmr_div) (done i (fine 0)) (signalled w timer_task h j) e (signalled-stays w timer_task h j y e)

-- a signal changes no priority, and no other task's waiting
signalled-prio : (w : Waiting) (x h : ℕ) (k : Kernel) (y : ℕ) → prio_of (signalled w x h k).kernel y ≡ prio_of k y
signalled-prio Signal x h k y = update_task_same (λ t. t.prio) waits_no_more (λ t. refl) k.tasks x y
signalled-prio _ x h k y = refl

signalled-other : (w : Waiting) (x h : ℕ) (k : Kernel) (y : ℕ) → x ≢ y → (task_at (signalled w x h k).kernel y).waiting ≡ (task_at k y).waiting
signalled-other Signal x h k y d = ap (λ (t : Task). t.waiting) (task-other k.tasks x waits_no_more y d)
signalled-other _ x h k y d = refl

-- Round robin changes quanta alone of tasks.
module _ {B : Type 0} (g : Task → B) (same : (t : Task) (n : ℕ) → g (record t { quantum = n }) ≡ g t) where
  abbrev At : Kernel → ℕ → Effect → Type 0
  At k y e = g (task_at e.kernel y) ≡ g (task_at k y)

  rotates-same : (x p : ℕ) (k : Kernel) (y : ℕ) → At k y (rotates x p k)
  rotates-same x p k y = update_task_same g full_quantum (λ t. same t t.full) k.tasks (first_in (list_at (rotates x p k).kernel.ready p)) y

  spends-same : (xs : List ℕ) (p : ℕ) (k : Kernel) (y : ℕ) → At k y (spends xs p k)
  spends-same [] p k y = refl
  spends-same (x ∷ []) p k y = update_task_same g (λ t. record t { quantum = t.quantum - 1 }) (λ t. same t (t.quantum - 1)) k.tasks x y
  spends-same (x ∷ z ∷ zs) p k y =
      let j = with_task k x (λ t. record t { quantum = t.quantum - 1 }) in
      let one : g (task_at j y) ≡ g (task_at k y) = update_task_same g (λ t. record t { quantum = t.quantum - 1 }) (λ t. same t (t.quantum - 1)) k.tasks x y in
      choice (At k y) ((task_at j x).quantum == 0) (rotates x p j) (done j (fine 0)) (rotates-same x p j y ∙ one) one

  round_robin-same : (c : ℕ) (k : Kernel) (y : ℕ) → At k y (round_robin c k)
  round_robin-same c k y =
      choice (At k y) (k.settings.round_robin && ((k.lock == 0) && not (first_in (list_at k.ready c) == idle_task))) (spends (list_at k.ready c) c k) (done k (fine 0))
      (spends-same (list_at k.ready c) c k y) refl

module _ (saved : ℕ) where
  -- a signal by both compared priorities, where a task that waits for one joins alike
  same-signalled : (w : Waiting) (x : ℕ) (k : Kernel) → (w ≡ Signal → (1 ≤ prio_of k x) × (prio_of k x ≡ saved → ⊥)) → (signalled w x 0 k).kernel ≡ (signalled w x saved k).kernel
  same-signalled Signal x k h =
      let p = prio_of k x in
      let e = h refl in
      ap (λ i. record k { tasks = update_task k.tasks x waits_no_more; ready = slice_set k.ready p (insert (list_at k.ready p) i x) }) (same-place saved p (list_at k.ready p) e.0 e.1)
  same-signalled _ x k h = refl

  module _ (k : Kernel) (v : IsLinked k) (c : ℕ) where
    -- with the handler's compared priority: the kernel after the signal to the tick task, that after round robin, and the last
    abbrev first : Kernel
    first = (signals_tick 0 k).kernel

    abbrev second : Kernel
    second = (round_robin c first).kernel

    abbrev after : Kernel
    after = (signals_timer 0 second).kernel

    abbrev before_tick : Kernel
    before_tick = record k { tick_signals = k.tick_signals + 1 }

    abbrev before_timer : Kernel
    before_timer = record second { tick_calls = 0; timer_signals = second.timer_signals + 1 }

    -- what the timer task does where it gets no signal now
    abbrev counted : Effect
    counted = done (record second { tick_calls = second.tick_calls + 1 }) (fine 0)

    abbrev to_come : Bool
    to_come = nat_lt (second.tick_calls + 1) second.settings.tmr_div

    module _ (l : length after.tasks ≡ length k.tasks) (keeps : PostKeeps k after) (none : some_readied saved k.tasks after.tasks ≡ false) where
      -- the tick task
      tick-joins : (task_at k tick_task).waiting ≡ Signal → (1 ≤ prio_of k tick_task) × (prio_of k tick_task ≡ saved → ⊥)
      tick-joins e =
          let now : waits_not first tick_task ≡ true = ap (λ w. waits_not (signalled w tick_task 0 before_tick).kernel tick_task) e ∙ signalled-waits k.tasks tick_task in
          let later : waits_not second tick_task ≡ true = round_robin-same (λ (t : Task). waits_for_nothing t.waiting) (λ t n. refl) c first tick_task ∙ now in
          let j = joins-alike saved k after tick_task v keeps (ap waits_for_nothing e) (signals_timer-stays 0 second tick_task later) (none-readied saved k.tasks after.tasks l none tick_task) in
          (j.0, j.1 v.internal.tick_lives.1)

      -- the timer task, which gets its signal
      timer-joins : to_come ≡ false → (task_at second timer_task).waiting ≡ Signal → (1 ≤ prio_of second timer_task) × (prio_of second timer_task ≡ saved → ⊥)
      timer-joins b e =
          let w = (task_at second timer_task).waiting in
          let old : (task_at second timer_task).waiting ≡ (task_at k timer_task).waiting
          = round_robin-same (λ (t : Task). t.waiting) (λ t n. refl) c first timer_task
          ∙ signalled-other (task_at k tick_task).waiting tick_task 0 before_tick timer_task (λ d. omega (arith, d)) in
          let prio : prio_of second timer_task ≡ prio_of k timer_task
          = round_robin-same (λ (t : Task). t.prio) (λ t n. refl) c first timer_task ∙ signalled-prio (task_at k tick_task).waiting tick_task 0 before_tick timer_task in
          let now : waits_not after timer_task ≡ true
          = ap (λ u. waits_not (if u then counted else signalled w timer_task 0 before_timer).kernel timer_task) b
          ∙ ap (λ u. waits_not (signalled u timer_task 0 before_timer).kernel timer_task) e ∙ signalled-waits second.tasks timer_task in
          let j = joins-alike saved k after timer_task v keeps (ap waits_for_nothing (sym old ∙ e)) now (none-readied saved k.tasks after.tasks l none timer_task) in
          (subst (λ p. 1 ≤ p) (sym prio) j.0, λ p. j.1 v.internal.timer_lives.1 (sym prio ∙ p))

      same-tick : after ≡ (time_tick c saved k).kernel
      same-tick =
          let w = (task_at second timer_task).waiting in
          let by : (b : Bool) → to_come ≡ b → (if b then counted else signalled w timer_task 0 before_timer).kernel ≡ (if b then counted else signalled w timer_task saved before_timer).kernel
          = λ b. elim b as (λ u. to_come ≡ u → (if u then counted else signalled w timer_task 0 before_timer).kernel ≡ (if u then counted else signalled w timer_task saved before_timer).kernel) [
            | true ↦ λ e. refl
            | false ↦ λ e. same-signalled w timer_task before_timer (timer-joins e)
          ] in
          by to_come refl
          ∙ ap (λ i. (signals_timer saved (round_robin c i).kernel).kernel) (same-signalled (task_at k tick_task).waiting tick_task before_tick tick-joins)

    pub same-time_tick : Same saved k v (λ h. (time_tick c h k).kernel)
    same-time_tick l keeps none = same-tick l keeps none
