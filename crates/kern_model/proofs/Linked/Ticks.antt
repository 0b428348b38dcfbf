-- The number of signals of the tick task does not matter to wakes and to a renewal.
use Rattle.kern_model.proofs.Common.{◌≡◌, ℕ, List, [], ◌∷◌, ◌++◌, refl, ap, ◌∙◌, ◌&&◌, not, Option, Some, None, ◌==◌, if◌then◌else◌, Finished, MutexPend, Waiting, Obj, Kernel, Task, Content, Held, task_at, object_at, prio_of, Block, wakes, wakes_all, wake_blocks, wakes_blocks, living, owner_in, owner_for, moved, moved_all, moves_of, renewed_tasks, renewed, inherited, move_blocks, moves_blocks, renew_blocks}
use Rattle.kern_model.proofs.Inherit.Renewed.{inherited-same}

-- the kernel with so many signals of the tick task
abbrev pub signals : Kernel → ℕ → Kernel
signals k n = record k { tick_signals = n }

pub wakes_all-signals : (f : Task → Finished) (h : ℕ) (xs : List ℕ) (k : Kernel) (n : ℕ) → wakes_all f h xs (signals k n) ≡ signals (wakes_all f h xs k) n
wakes_all-signals f h [] k n = refl
wakes_all-signals f h (x ∷ xs) k n = wakes_all-signals f h xs (wakes (f (task_at k x)) h x k) n

living-signals : (k : Kernel) (n : ℕ) (o : Option ℕ) → living o (signals k n) ≡ living o k
living-signals k n None = refl
living-signals k n (Some v) = refl

owner_in-signals : (k : Kernel) (n : ℕ) (c : Content) → owner_in c (signals k n) ≡ owner_in c k
owner_in-signals k n (Held owner nesting) = living-signals k n owner
owner_in-signals k n _ = refl

owner_for-signals : (k : Kernel) (n : ℕ) (w : Waiting) (os : List ℕ) → owner_for w os (signals k n) ≡ owner_for w os k
owner_for-signals k n (Obj MutexPend) (o ∷ os) = owner_in-signals k n (object_at k o).content
owner_for-signals k n _ _ = refl

moves-signals : (xs : List ℕ) (k : Kernel) (n : ℕ) → moves_of xs (signals k n) ≡ moves_of xs k
moves-signals [] k n = refl
moves-signals (x ∷ xs) k n =
    ap (λ p. if (task_at k x).alive && not (p == prio_of k x) then (x, p) ∷ moves_of xs (signals k n) else moves_of xs (signals k n)) (inherited-same k (signals k n) (record { waits = λ u. owner_for-signals k n (task_at k u).waiting (task_at k u).objects; base = λ u. refl }) x)
    ∙ ap (λ (ms : List (ℕ × ℕ)). if (task_at k x).alive && not (inherited k x == prio_of k x) then (x, inherited k x) ∷ ms else ms) (moves-signals xs k n)

moved_all-signals : (place : List ℕ → ℕ) (ms : List (ℕ × ℕ)) (k : Kernel) (n : ℕ) → moved_all place ms (signals k n) ≡ signals (moved_all place ms k) n
moved_all-signals place [] k n = refl
moved_all-signals place (m ∷ ms) k n = moved_all-signals place ms (moved place m.0 m.1 k) n

pub renewed-signals : (place : List ℕ → ℕ) (k : Kernel) (n : ℕ) → renewed place (signals k n) ≡ signals (renewed place k) n
renewed-signals place k n =
    ap (λ ms. moved_all place ms (signals k n)) (moves-signals renewed_tasks k n) ∙ moved_all-signals place (moves_of renewed_tasks k) k n

pub wakes_blocks-signals : (h : ℕ) (xs : List ℕ) (k : Kernel) (n : ℕ) → wakes_blocks (signals k n) h xs ≡ wakes_blocks k h xs
wakes_blocks-signals h [] k n = refl
wakes_blocks-signals h (x ∷ xs) k n = ap (λ (bs : List Block). wake_blocks k h x ++ bs) (wakes_blocks-signals h xs k n)

moves_blocks-signals : (place : List ℕ → ℕ) (ms : List (ℕ × ℕ)) (k : Kernel) (n : ℕ) → moves_blocks place ms (signals k n) ≡ moves_blocks place ms k
moves_blocks-signals place [] k n = refl
moves_blocks-signals place (m ∷ ms) k n = ap (λ (bs : List Block). move_blocks place m.0 m.1 k ++ bs) (moves_blocks-signals place ms (moved place m.0 m.1 k) n)

pub renew_blocks-signals : (place : List ℕ → ℕ) (k : Kernel) (n : ℕ) → renew_blocks place (signals k n) ≡ renew_blocks place k
renew_blocks-signals place k n =
    ap (λ ms. moves_blocks place ms (signals k n)) (moves-signals renewed_tasks k n) ∙ moves_blocks-signals place (moves_of renewed_tasks k) k n

-- and stays as it was
tick_signals-wakes_all : (f : Task → Finished) (h : ℕ) (xs : List ℕ) (k : Kernel) → (wakes_all f h xs k).tick_signals ≡ k.tick_signals
tick_signals-wakes_all f h [] k = refl
tick_signals-wakes_all f h (x ∷ xs) k = tick_signals-wakes_all f h xs (wakes (f (task_at k x)) h x k)

tick_signals-moved_all : (place : List ℕ → ℕ) (ms : List (ℕ × ℕ)) (k : Kernel) → (moved_all place ms k).tick_signals ≡ k.tick_signals
tick_signals-moved_all place [] k = refl
tick_signals-moved_all place (m ∷ ms) k = tick_signals-moved_all place ms (moved place m.0 m.1 k)

pub tick_signals-renewed : (place : List ℕ → ℕ) (f : Task → Finished) (h : ℕ) (xs : List ℕ) (k : Kernel) → (renewed place (wakes_all f h xs k)).tick_signals ≡ k.tick_signals
tick_signals-renewed place f h xs k =
    tick_signals-moved_all place (moves_of renewed_tasks (wakes_all f h xs k)) (wakes_all f h xs k) ∙ tick_signals-wakes_all f h xs k
