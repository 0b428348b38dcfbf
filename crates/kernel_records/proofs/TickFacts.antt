-- Ticks in the records: what OSTimeTick and the tick task's unit come to there, whatever the lists are.
use Rattle.std.proofs.Common.{◌≡◌, ◌≢◌, ℕ, zero, suc, ◌+◌, ◌<◌, ◌≤◌, ◌%◌, ◌^◌, List, [], ◌∷◌, length, refl, sym, ap, ◌∙◌, subst, Bool, true, false, not, ◌&&◌, arith}
use Rattle.std.specs.Prelude.{if◌then◌else◌, ◌==◌, insert, nat_le, nat_lt}
use Rattle.std.proofs.lemmas.Bool.{eq-eqb, ne_eqb, false≢true, true≢false}
use Rattle.std.proofs.lemmas.List.{length-set}
use Rattle.kern_base.specs.declared.numbers.TaskId.{TaskId}
use Rattle.kern_base.specs.declared.outcomes.Answer.{Answer}
use Rattle.kern_base.specs.declared.outcomes.Finished.{Finished}
use Rattle.kern_base.specs.declared.outcomes.Waiting.{Waiting}
use Rattle.kern_base.specs.declared.outcomes.Waiting.TheVariants.{No, Delay, Obj, TaskSem, TaskQ, Multi, Signal}
use Rattle.kern_model.specs.State.{Kernel, Task, count_of, idle_task, list_at, prio_of, task_at, tick_task, timer_task, update_list, update_task, without}
use Rattle.kern_model.specs.Micro.{at_tail, join_place}
use Rattle.kern_model.specs.Effect.{Effect, answered_task, done, fine, joined, result_of, unmatched, waited, wakes, wakes_all}
use Rattle.kern_model.specs.RoundRobin.{first_in, full_quantum, round_robin}
use Rattle.kern_model.specs.Time.{due, signalled, signals_tick, signals_timer, time_tick, timed_out, waits_for_signal}
use Rattle.kern_model.proofs.Lemmas.{choice, list-inside}
use Rattle.round_robin.specs.declared.turns.Turn.{Turn}
use Rattle.round_robin.specs.declared.turns.Turn.TheVariants.{Stays, Spends, Rotates}
use Rattle.round_robin.specs.Turns.{front, spent, turn_in, turned, turned_tasks}
use Rattle.round_robin.proofs.TurnFacts.{is-turn}
use Rattle.kernel_records.specs.RecordsRecord.{without_lists}
use Rattle.kernel_records.specs.Concluding.{given}
use Rattle.kernel_records.specs.Ticks.{answer_at_tick, is_signal, counted, plain_tick_unit, plain_ticked, records_after_tick, records_ticked, rests_if, timed_out_all}

-- ---- an internal task that is ready again

pub signalled-none : (w : Waiting) (x : ℕ) (k : Kernel) → is_signal w ≡ false → (signalled w x 0 k).kernel ≡ k
signalled-none Signal x k n = absurd (true≢false n)
signalled-none _ x k n = refl

joined-none : (x p : ℕ) (lists : List (List ℕ)) → lists ≡ [] → joined (join_place p 0) x p lists ≡ lists
joined-none x p [] e = refl
joined-none x p (l ∷ lists) e = absurd cc

pub signalled-some : (w : Waiting) (x : ℕ) (k : Kernel) → is_signal w ≡ true → k.ready ≡ [] → (signalled w x 0 k).kernel ≡ record k { tasks = update_task k.tasks x (λ t. record t { waiting = No }) }
signalled-some Signal x k e r =
    ap (λ (ls : List (List ℕ)). record k { tasks = update_task k.tasks x (λ t. record t { waiting = No }); ready = ls }) (joined-none x (prio_of k x) k.ready r)
signalled-some _ x k e r = absurd (false≢true e)

signalled-bare : (w : Waiting) (x h : ℕ) (k : Kernel) → without_lists (signalled w x h k).kernel ≡ (signalled w x 0 (without_lists k)).kernel
signalled-bare Signal x h k = refl
signalled-bare _ x h k = refl

-- ---- OSTimeTick

tick-bare : (h : ℕ) (k : Kernel) → without_lists (signals_tick h k).kernel ≡ (signals_tick 0 (without_lists k)).kernel
tick-bare h k = signalled-bare (task_at k tick_task).waiting tick_task h (record k { tick_signals = k.tick_signals + 1 })

timer-if : (b : Bool) (h : ℕ) (k : Kernel) →
    without_lists (if b then done (record k { tick_calls = k.tick_calls + 1 }) (fine 0) else signalled (task_at k timer_task).waiting timer_task h (record k { tick_calls = 0; timer_signals = k.timer_signals + 1 })).kernel
    ≡ (let j = without_lists k in if b then done (record j { tick_calls = k.tick_calls + 1 }) (fine 0) else signalled (task_at j timer_task).waiting timer_task 0 (record j { tick_calls = 0; timer_signals = k.timer_signals + 1 })).kernel
timer-if true h k = refl
timer-if false h k = signalled-bare (task_at k timer_task).waiting timer_task h (record k { tick_calls = 0; timer_signals = k.timer_signals + 1 })

timer-bare : (h : ℕ) (k : Kernel) → without_lists (signals_timer h k).kernel ≡ (signals_timer 0 (without_lists k)).kernel
timer-bare h k = timer-if (nat_lt (k.tick_calls + 1) k.settings.tmr_div) h k

inside : (lists : List (List ℕ)) (i y : ℕ) (ys : List ℕ) → list_at lists i ≡ y ∷ ys → i < length lists
inside [] i y ys e = absurd cc
inside (l ∷ lists) zero y ys e = omega arith
inside (l ∷ lists) (suc i) y ys e = omega (arith, inside lists i y ys e)

-- the one behind the head of a list is its new head once the head has gone to the tail
pub new-head : (lists : List (List ℕ)) (i y z : ℕ) (zs : List ℕ) → list_at lists i ≡ y ∷ z ∷ zs → ((x : ℕ) → count_of x (y ∷ z ∷ zs) ≤ 1)
    → first_in (list_at (joined at_tail y i (update_list lists i (without y))) i) ≡ z
new-head lists i y z zs e once =
    let left = update_list lists i (without y) in
    let i-in : i < length lists = inside lists i y (z ∷ zs) e in
    let i-left : i < length left = subst (λ n. i < n) (sym (length-set lists i (without y (list_at lists i)))) i-in in
    let place : List ℕ → List ℕ = λ xs. insert xs (at_tail xs) y in
    let apart : z ≢ y = λ same. once-apart y z zs same (once y) in
    ap first_in (list-inside place left i i-left ∙ ap place (list-inside (without y) lists i i-in ∙ ap (without y) e))
    ∙ (rw (eq-eqb y y refl, ne_eqb z y apart) refl)
  where
    once-apart : (y z : ℕ) (zs : List ℕ) → z ≡ y → count_of y (y ∷ z ∷ zs) ≤ 1 → ⊥
    once-apart y z zs same h =
        let two : count_of y (y ∷ z ∷ zs) ≡ 1 + (1 + count_of y zs) = rw (eq-eqb y y refl, eq-eqb z y same) refl in omega arith

-- and the head of a list stays it where another one has gone to the tail
pub same-head : (lists : List (List ℕ)) (i x y : ℕ) (ys : List ℕ) → list_at lists i ≡ y ∷ ys → (y == x) ≡ false → first_in (list_at (joined at_tail x i (update_list lists i (without x))) i) ≡ y
same-head lists i x y ys e apart =
    let left = update_list lists i (without x) in
    let i-in : i < length lists = inside lists i y ys e in
    let i-left : i < length left = subst (λ n. i < n) (sym (length-set lists i (without x (list_at lists i)))) i-in in
    let place : List ℕ → List ℕ = λ xs. insert xs (at_tail xs) x in
    ap first_in (list-inside place left i i-left ∙ ap place (list-inside (without x) lists i i-in ∙ ap (without x) e)) ∙ (rw apart refl)

module _ (i : ℕ) (k : Kernel) where
  -- what a turn does to the records
  abbrev IsBare : Turn → Type 0
  IsBare t = without_lists (turned t i k).kernel ≡ turned_tasks t (without_lists k)

  bare-at : (xs : List ℕ) → list_at k.ready i ≡ xs → ((x : ℕ) → count_of x xs ≤ 1) → IsBare (turn_in (front xs) k)
  bare-at [] e once = choice IsBare (k.settings.round_robin && (not (not (k.lock == 0)) && true)) Stays Stays refl refl
  bare-at (y ∷ []) e once =
      choice IsBare (k.settings.round_robin && (not (not (k.lock == 0)) && not (y == idle_task))) (Spends (record { 0 = y })) Stays refl refl
  bare-at (y ∷ z ∷ zs) e once =
      let a : TaskId = record { 0 = y } in
      let b : TaskId = record { 0 = z } in
      let q = (task_at k y).quantum in
      let made : IsBare (Rotates a b) =
      ap (λ n. without_lists (record (spent y k) { tasks = update_task (spent y k).tasks n full_quantum })) (new-head k.ready i y z zs e once) in
      choice IsBare (k.settings.round_robin && (not (not (k.lock == 0)) && not (y == idle_task))) (if nat_le q 1 then Rotates a b else Spends a) Stays
      (choice IsBare (nat_le q 1) (Rotates a b) (Spends a) made refl) refl

  turn-bare : (turn : Turn) → turn ≡ turn_in (front (list_at k.ready i)) k → ((x : ℕ) → count_of x (list_at k.ready i) ≤ 1) → without_lists (round_robin i k).kernel ≡ turned_tasks turn (without_lists k)
  turn-bare turn e once =
      ap (λ (f : Effect). without_lists f.kernel) (is-turn i k)
      ∙ bare-at (list_at k.ready i) refl once
      ∙ ap (λ (t : Turn). turned_tasks t (without_lists k)) (sym e)

-- what OSTimeTick does is this in the records
pub ticked-bare : (turn : Turn) (interrupted compared : ℕ) (k : Kernel)
    → turn ≡ turn_in (front (list_at (signals_tick compared k).kernel.ready interrupted)) (signals_tick compared k).kernel
    → ((x : ℕ) → count_of x (list_at (signals_tick compared k).kernel.ready interrupted) ≤ 1)
    → without_lists (time_tick interrupted compared k).kernel ≡ records_ticked turn (without_lists k)
ticked-bare turn interrupted compared k e once =
    let j = (signals_tick compared k).kernel in
    timer-bare compared (round_robin interrupted j).kernel
    ∙ ap (λ (n : Kernel). (signals_timer 0 n).kernel) (turn-bare interrupted j turn e once ∙ ap (turned_tasks turn) (tick-bare compared k))

-- ---- the tick task's unit

timed-out : (w : Waiting) (t : Task) → timed_out w t ≡ waited w t (answer_at_tick w)
timed-out Delay t = refl
timed-out No t = refl
timed-out (Obj s) t = refl
timed-out TaskSem t = refl
timed-out TaskQ t = refl
timed-out Multi t = refl
timed-out Signal t = refl

-- the result of a wait that ends at its tick
pub given-at-tick : (x : ℕ) (k : Kernel) (a : Answer) → a ≡ answer_at_tick (task_at k x).waiting → given x (result_of a) k ≡ given x (λ t. timed_out t.waiting t) k
given-at-tick x k a e =
    let t = task_at k x in
    ap (λ (f : Finished). record k { tasks = update_task k.tasks x (answered_task f); matches = unmatched x k.matches })
    (ap (waited t.waiting t) e ∙ sym (timed-out t.waiting t))

wakes-timed : (h : ℕ) (xs : List ℕ) (k : Kernel) → without_lists (wakes_all (λ t. timed_out t.waiting t) h xs k) ≡ timed_out_all xs (without_lists k)
wakes-timed h [] k = refl
wakes-timed h (x ∷ xs) k = wakes-timed h xs (wakes (timed_out (task_at k x).waiting (task_at k x)) h x k)

rests-bare : (b : Bool) (e : Effect) (k : Kernel) → without_lists e.kernel ≡ k → without_lists (if b then waits_for_signal tick_task e else e).kernel ≡ rests_if b k
rests-bare true e k h = ap (rests_if true) h
rests-bare false e k h = h

-- what the tick task's unit does but for a renewal of priorities is this in the records
pub after-tick-bare : (k : Kernel) → without_lists (plain_tick_unit k).kernel ≡ records_after_tick (due ((k.ticks + 1) % 2 ^ 32) k.matches) (without_lists k)
after-tick-bare k =
    let xs = due ((k.ticks + 1) % 2 ^ 32) k.matches in
    rests-bare (k.tick_signals == 1) (plain_ticked k) (timed_out_all xs (counted (without_lists k))) (wakes-timed (prio_of k tick_task) xs (counted k))

timed-ready : (xs : List ℕ) (k : Kernel) → ((timed_out_all xs k).ready ≡ k.ready) × ((timed_out_all xs k).pend ≡ k.pend)
timed-ready [] k = (refl, refl)
timed-ready (x ∷ xs) k = timed-ready xs (given x (λ t. timed_out t.waiting t) k)

-- and these have no lists
pub after-tick-empty : (xs : List ℕ) (k : Kernel) → ((records_after_tick xs (without_lists k)).ready ≡ []) × ((records_after_tick xs (without_lists k)).pend ≡ [])
after-tick-empty xs k = timed-ready xs (counted (without_lists k))
