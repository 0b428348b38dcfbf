-- Round robin by the front of its list.
use Rattle.std.proofs.Common.{◌≡◌, ℕ, zero, suc, ◌-◌, List, [], ◌∷◌, Bool, true, false, not, ◌&&◌, refl, sym, ap, ◌∙◌, arith, Some}
use Rattle.std.specs.Prelude.{◌==◌, if◌then◌else◌, nat_le}
use Rattle.std.proofs.lemmas.Bool.{lt-leb, ne_eqb}
use Rattle.kern_base.specs.declared.numbers.TaskId.{TaskId}
use Rattle.kern_model.specs.State.{Kernel, Task, list_at, task_at, task_in, update_task, idle_task}
use Rattle.kern_model.specs.Effect.{Effect, done, fine}
use Rattle.kern_model.specs.RoundRobin.{first_in, rotates, spends}
use Rattle.round_robin.specs.declared.turns.Turn.{Turn}
use Rattle.round_robin.specs.declared.turns.Turn.TheVariants.{Stays, Spends, Rotates}
use Rattle.round_robin.specs.Turns.{RoundRobinIsTurn, front, spent, turn_in, turned}

quantum-spent : (ts : List Task) (y : ℕ) → (task_in (update_task ts y (λ t. record t { quantum = t.quantum - 1 })) y).quantum ≡ (task_in ts y).quantum - 1
quantum-spent [] y = refl
quantum-spent (t ∷ ts) zero = refl
quantum-spent (t ∷ ts) (suc y) = quantum-spent ts y

-- a quantum is used up where it was 1 or less
used-up : (n q : ℕ) → n ≡ q - 1 → (n == 0) ≡ nat_le q 1
used-up n zero e = ap (λ m. m == 0) e
used-up n (suc zero) e = ap (λ m. m == 0) e
used-up n (suc (suc q)) e = ne_eqb n 0 (omega arith) ∙ sym (lt-leb (suc (suc q)) 1 (omega arith))

turned-if : (b : Bool) (y z : TaskId) (p : ℕ) (k : Kernel) → (if b then rotates y.0 p (spent y.0 k) else done (spent y.0 k) (fine 0)) ≡ turned (if b then Rotates y z else Spends y) p k
turned-if true y z p k = refl
turned-if false y z p k = refl

-- what is done where it is on, and not else
turned-on : (on unlocked idle : Bool) (t : Turn) (p : ℕ) (k : Kernel) (e : Effect) → e ≡ turned t p k
    → (if on && (unlocked && not idle) then e else done k (fine 0)) ≡ turned (if on && (not (not unlocked) && not idle) then t else Stays) p k
turned-on true true true t p k e is = refl
turned-on true true false t p k e is = is
turned-on true false idle t p k e is = refl
turned-on false unlocked idle t p k e is = refl

turned-off : (on unlocked : Bool) (p : ℕ) (k : Kernel) (e : Effect)
    → (if on && (unlocked && not (idle_task == idle_task)) then e else done k (fine 0)) ≡ turned (if on && (not (not unlocked) && true) then Stays else Stays) p k
turned-off true true p k e = refl
turned-off true false p k e = refl
turned-off false unlocked p k e = refl

at-front : (xs : List ℕ) (p : ℕ) (k : Kernel) →
    (if k.settings.round_robin && ((k.lock == 0) && not (first_in xs == idle_task)) then spends xs p k else done k (fine 0)) ≡ turned (turn_in (front xs) k) p k
at-front [] p k = turned-off k.settings.round_robin (k.lock == 0) p k (spends [] p k)
at-front (y ∷ []) p k =
    turned-on k.settings.round_robin (k.lock == 0) (y == idle_task) (Spends (record { 0 = y })) p k (spends (y ∷ []) p k) refl
at-front (y ∷ z ∷ zs) p k =
    let q = (task_at k y).quantum in
    let a : TaskId = record { 0 = y } in
    let b : TaskId = record { 0 = z } in
    let same : spends (y ∷ z ∷ zs) p k ≡ turned (if nat_le q 1 then Rotates a b else Spends a) p k =
    ap (λ (u : Bool). if u then rotates y p (spent y k) else done (spent y k) (fine 0)) (used-up (task_at (spent y k) y).quantum q (quantum-spent k.tasks y))
    ∙ turned-if (nat_le q 1) a b p k in
    turned-on k.settings.round_robin (k.lock == 0) (y == idle_task) (if nat_le q 1 then Rotates a b else Spends a) p k (spends (y ∷ z ∷ zs) p k) same

-- round robin at a tick is the turn at the front of its list
pub is-turn : RoundRobinIsTurn
is-turn prio k = at-front (list_at k.ready prio) prio k
