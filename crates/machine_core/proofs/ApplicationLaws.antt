-- What a task does that may call: it is not the idle task, and has no units of work, and so it runs an instruction.
use Rattle.std.specs.Prelude.{◌==◌}
use Rattle.std.proofs.Common.{◌≡◌, ◌<◌, inl, inr, ℕ, Bool, false, None, refl, arith, ne_eqb}
use Rattle.kern_base.specs.declared.services.Service.{Service}
use Rattle.kern_model.specs.State.{Kernel, tick_task, timer_task, idle_task}
use Rattle.kern_model.specs.Valid.{MayCall}
use Rattle.rv32_exec.specs.Exec.{exec}
use Rattle.machine_model.specs.Machine.{Machine, registers_at}
use Rattle.machine_model.specs.Acts.{acts, instructs, works_in_units}

-- its number is another than that of a later task
other : (x n : ℕ) → x < n → (x == n) ≡ false
other x n p = ne_eqb x n (λ (e : x ≡ n). omega (arith, e, p))

no-unit : (x : ℕ) (k : Kernel) → (x == tick_task) ≡ false → (x == timer_task) ≡ false → works_in_units x k ≡ false
no-unit x k tick timer = rw (tick, timer) refl

pub works-caller : (x : ℕ) (k : Kernel) → MayCall x k → works_in_units x k ≡ false
works-caller x k (inl h) = let p = h.0 in no-unit x k (other x 60 p) (other x 61 (omega (arith, p)))
works-caller x k (inr h) = rw (h.0, h.1) refl

idle-caller : (x : ℕ) (k : Kernel) → MayCall x k → (x == idle_task) ≡ false
idle-caller x k (inl h) = let p = h.0 in other x 62 (omega (arith, p))
idle-caller x k (inr h) = rw h.0 refl

-- it is not the handler
pub handler-caller : (x : ℕ) (k : Kernel) → MayCall x k → (x == 63) ≡ false
handler-caller x k (inl h) = let p = h.0 in other x 63 (omega (arith, p))
handler-caller x k (inr h) = rw h.0 refl

-- it is one of the 64
pub below-caller : (x : ℕ) (k : Kernel) → MayCall x k → x < 64
below-caller x k (inl h) = let p = h.0 in omega (arith, p)
below-caller x k (inr h) = let e = h.0 in omega (arith, e)

-- it runs one instruction
pub acts-caller : (served : Service → Bool) (x : ℕ) (m : Machine) → MayCall x m.kernel → acts served x None m ≡ (let e = exec m.code (registers_at m x) m.memory in instructs served e.did x e m)
acts-caller served x m may = rw (idle-caller x m.kernel may, works-caller x m.kernel may) refl
