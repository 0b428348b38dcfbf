-- The handler of deferred posts stands in no list in the middle of a unit of the tick task or the timer task.
use Rattle.std.specs.Prelude.{filter, map, not, ◌==◌, ◌&&◌, ◌%◌, ◌-◌, ◌^◌, All}
use Rattle.std.proofs.Common.{◌≡◌, ◌≢◌, ◌≤◌, ◌<◌, ℕ, zero, suc, ◌+◌, List, [], ◌∷◌, ◌++◌, Bool, true, false, Option, Some, None, refl, arith, ne_eqb}
use Rattle.std.proofs.lemmas.List.Elements.{All-head, All-tail}
use Rattle.kern_base.specs.declared.outcomes.Outcome.TheVariants.{Quiet}
use Rattle.kern_base.specs.declared.outcomes.UnitEnd.TheVariants.{TmrEnd}
use Rattle.kern_model.specs.State.{Kernel, Task, count_of, is_ready, prio_of, task_at, tick_task, timer_task}
use Rattle.kern_model.specs.Micro.{at_tail}
use Rattle.kern_model.specs.Effect.{Effect, wakes_all, wakes_blocks}
use Rattle.kern_model.specs.Inherit.{inherited, move_blocks, moved, moves_blocks, moves_of, numbers, ready_move_blocks, renew_blocks, renewed_tasks, rewait_blocks, waited_objects}
use Rattle.kern_model.specs.Time.{due, tick_unit, ticked, timed_out, waits_for_signal}
use Rattle.kern_model.specs.Timers.{due_timer, timer_counts, timer_ends, timer_goes_on, timer_unit}
use Rattle.kern_model.specs.Services.{half, unit_effect}
use Rattle.kern_model.specs.Valid.{IsLinked, IsWord}
use Rattle.kern_model.specs.Micro.{unready}
use Rattle.kern_model.proofs.Lemmas.{choice}
use Rattle.machine_core.specs.LookView.{HasNoHandler}
use Rattle.machine_core.proofs.HandlerLaws.{Apart, AreBlocks, apart-wait, blocks-append, blocks-wakes, without-half_of}

-- Moves of other tasks.

blocks-ready_move : (b : Bool) (place : List ℕ → ℕ) (x q p : ℕ) → x ≢ 63 → AreBlocks (ready_move_blocks b place x q p)
blocks-ready_move false place x q p other = tt
blocks-ready_move true place x q p other = (λ l. (tt, (tt, tt)), (λ l. (other, (other, (tt, tt))), tt))

blocks-rewait : (prio : ℕ → ℕ) (x p : ℕ) (os : List ℕ) → x ≢ 63 → AreBlocks (rewait_blocks prio x p os)
blocks-rewait prio x p [] other = tt
blocks-rewait prio x p (o ∷ os) other = (λ l. (tt, (tt, tt)), (apart-wait prio x p o other, blocks-rewait prio x p os other))

blocks-move : (place : List ℕ → ℕ) (x p : ℕ) (k : Kernel) → x ≢ 63 → AreBlocks (move_blocks place x p k)
blocks-move place x p k other =
    let t = task_at k x in
    blocks-append (ready_move_blocks (is_ready t) place x t.prio p) (rewait_blocks (prio_of k) x p (waited_objects t))
    (blocks-ready_move (is_ready t) place x t.prio p other) (blocks-rewait (prio_of k) x p (waited_objects t) other)

abbrev AreMoves : List (ℕ × ℕ) → Type 0
AreMoves [] = Unit {0}
AreMoves (m ∷ ms) = (m.0 ≢ 63) × AreMoves ms

blocks-moves : (place : List ℕ → ℕ) (ms : List (ℕ × ℕ)) (k : Kernel) → AreMoves ms → AreBlocks (moves_blocks place ms k)
blocks-moves place [] k a = tt
blocks-moves place (m ∷ ms) k a =
    blocks-append (move_blocks place m.0 m.1 k) (moves_blocks place ms (moved place m.0 m.1 k)) (blocks-move place m.0 m.1 k a.0)
    (blocks-moves place ms (moved place m.0 m.1 k) a.1)

-- Renewals.

abbrev AreOthers : List ℕ → Type 0
AreOthers [] = Unit {0}
AreOthers (x ∷ xs) = (x ≢ 63) × AreOthers xs

others-numbers : (n a : ℕ) (xs : List ℕ) → a + n ≤ 63 → AreOthers xs → AreOthers (numbers a n ++ xs)
others-numbers zero a xs p o = o
others-numbers (suc n) a xs p o = ((λ (e : a ≡ 63). omega (arith, p, e)), others-numbers n (a + 1) xs (omega (arith, p)) o)

others-renewed : AreOthers renewed_tasks
others-renewed = others-numbers 60 0 (61 ∷ []) (omega arith) ((λ (e : 61 ≡ 63). omega (arith, e)), tt)

moves-others : (xs : List ℕ) (k : Kernel) → AreOthers xs → AreMoves (moves_of xs k)
moves-others [] k o = tt
moves-others (x ∷ xs) k o =
    let rest = moves-others xs k o.1 in
    choice AreMoves ((task_at k x).alive && not (inherited k x == prio_of k x)) ((x, inherited k x) ∷ moves_of xs k) (moves_of xs k) (o.0, rest) rest

blocks-renew : (place : List ℕ → ℕ) (k : Kernel) → AreBlocks (renew_blocks place k)
blocks-renew place k = blocks-moves place (moves_of renewed_tasks k) k (moves-others renewed_tasks k others-renewed)

-- The tick task.

none-due : (tick : ℕ) (ms : List (ℕ × ℕ)) → All (λ m. (m.0 < 60) × IsWord m.1) ms → count_of 63 (due tick ms) ≡ 0
none-due tick [] h = refl
none-due tick (m ∷ ms) h =
    let low = (All-head (λ (n : ℕ × ℕ). (n.0 < 60) × IsWord n.1) m ms h).0 in
    let rest = none-due tick ms (All-tail (λ (n : ℕ × ℕ). (n.0 < 60) × IsWord n.1) m ms h) in
    let no : (m.0 == 63) ≡ false = ne_eqb m.0 63 (λ (e : m.0 ≡ 63). omega (arith, low, e)) in
    choice (λ (ns : List (ℕ × ℕ)). count_of 63 (map (λ (n : ℕ × ℕ). n.0) ns) ≡ 0) (m.1 == tick) (m ∷ filter (λ (n : ℕ × ℕ). n.1 == tick) ms) (filter (λ (n : ℕ × ℕ). n.1 == tick) ms)
    (rw no (omega (arith, rest))) rest

apart-waits : (x : ℕ) (e : Effect) → Apart e → Apart (waits_for_signal x e)
apart-waits x e a = blocks-append e.blocks (unready x (prio_of e.kernel x) ∷ []) a (λ l. (tt, (tt, tt)), tt)

apart-ticked : (k : Kernel) → IsLinked k → Apart (ticked k)
apart-ticked k v =
    let tick = (k.ticks + 1) % 2 ^ 32 in
    let h = prio_of k tick_task in
    let xs = due tick k.matches in
    let j : Kernel = record k { ticks = tick; tick_signals = k.tick_signals - 1 } in
    let woken = wakes_all (λ (t : Task). timed_out t.waiting t) h xs j in
    blocks-append (wakes_blocks j h xs) (renew_blocks at_tail woken) (blocks-wakes j h xs (none-due tick k.matches v.matches.match_words)) (blocks-renew at_tail woken)

apart-tick_unit : (k : Kernel) → IsLinked k → Apart (tick_unit k)
apart-tick_unit k v =
    choice Apart (k.tick_signals == 1) (waits_for_signal tick_task (ticked k)) (ticked k) (apart-waits tick_task (ticked k) (apart-ticked k v)) (apart-ticked k v)

-- The timer task.

apart-ends : (k : Kernel) → Apart (timer_ends k)
apart-ends k =
    let e : Effect = record { kernel = record k { lock = 0; processing = false }; outcome = Quiet TmrEnd; blocks = [] } in
    choice Apart (k.timer_signals == 0) (waits_for_signal timer_task e) e (apart-waits timer_task e tt) tt

apart-goes_on : (o : Option ℕ) (k : Kernel) → Apart (timer_goes_on o k)
apart-goes_on (Some o) k = tt
apart-goes_on None k = apart-ends k

apart-timer_unit : (k : Kernel) → Apart (timer_unit k)
apart-timer_unit k =
    choice Apart k.processing (timer_goes_on (due_timer k.timer_count k.timer_matches) k) (timer_counts k) (apart-goes_on (due_timer k.timer_count k.timer_matches) k) tt

-- in the middle of a unit
pub without-half_unit : (x : ℕ) (k : Kernel) (i : ℕ) → IsLinked k → HasNoHandler (half (unit_effect x k) k i)
without-half_unit x k i v = without-half_of (unit_effect x k) k i v (choice Apart (x == tick_task) (tick_unit k) (timer_unit k) (apart-tick_unit k v) (apart-timer_unit k))
