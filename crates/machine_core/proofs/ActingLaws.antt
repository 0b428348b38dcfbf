-- Which task acts how: the tick task, and the timer task outside of a callback, begin a unit; a task of the application, and the
-- timer task in a callback, run an instruction, which may be a call.
use Rattle.std.specs.Prelude.{◌==◌, ◌&&◌, ◌≢◌, not}
use Rattle.std.proofs.Common.{◌≡◌, ◌<◌, inl, inr, ℕ, Bool, true, false, refl, subst, arith}
use Rattle.kern_base.specs.declared.kinds.Method.{Method}
use Rattle.kern_model.specs.State.{Kernel, task_at, tick_task, timer_task}
use Rattle.kern_model.specs.Valid.{IsLinked, MayCall, has_result}
use Rattle.kern_model.proofs.Lemmas.{and_first, and_second, equal, not_false, not_true, or_either, or_first, or_second, unequal}
use Rattle.served.specs.Served.{program_serves}
use Rattle.kernel_calls.specs.Works.{MayRunUnit}
use Rattle.machine_model.specs.Acts.{works_in_units}
use Rattle.machine_model.specs.Machine.{Machine}
use Rattle.machine_model.specs.Rules.{Rule, TaskActs, rule}
use Rattle.machine_laws.specs.RuleTable.{Applies}
use Rattle.machine_laws.specs.Valid.{IsValidMachine}
use Rattle.machine_laws.proofs.Lemmas.{IsActing, act, applies, ready-below}

-- a unit is of the tick task, or of the timer task outside of a callback
runs-unit : (x : ℕ) (k : Kernel) → IsActing x k → works_in_units x k ≡ true → MayRunUnit x k
runs-unit x k a e =
    elim (or_either (x == tick_task) ((x == timer_task) && not k.in_callback) e) [
      | inl t ↦ (let same = equal x 60 t in (inl same, a.ready, λ (other : x ≡ 61). absurd (omega (arith, same, other))))
      | inr t ↦ (
        inr (equal x 61 (and_first (x == timer_task) (not k.in_callback) t)),
        a.ready,
        λ other. not_true k.in_callback (and_second (x == timer_task) (not k.in_callback) t),
      )
    ]

in-callback : (x : ℕ) (k : Kernel) → works_in_units x k ≡ false → x ≡ 61 → k.in_callback ≡ true
in-callback x k e same =
    let second : ((x == timer_task) && not k.in_callback) ≡ false = or_second (x == tick_task) ((x == timer_task) && not k.in_callback) e in
    let here : ((61 == timer_task) && not k.in_callback) ≡ false = rw same at second in
    not_false k.in_callback here

-- a task of the application runs only while the timer task is not processing
not-processing : (x : ℕ) (k : Kernel) → IsActing x k → x < 60 → k.processing ≡ false
not-processing x k a l = elim a.timer [ inl p ↦ p | inr e ↦ absurd (omega (arith, l, e)) ]

calls : (x : ℕ) (k : Kernel) → IsLinked k → IsActing x k → has_result (task_at k x).answered ≡ false → (x == 62) ≡ false → works_in_units x k ≡ false → MayCall x k
calls x k v a none idle e = by (x == 61) refl
  where
    by : (b : Bool) → (x == 61) ≡ b → MayCall x k
    by true t = inr (equal x 61 t, in-callback x k e (equal x 61 t))
    by false t =
        let below = ready-below k v x a.ready in
        let tick : x ≢ 60 = unequal x 60 (or_first (x == tick_task) ((x == timer_task) && not k.in_callback) e) in
        let timer : x ≢ 61 = unequal x 61 t in
        let other : x ≢ 62 = unequal x 62 idle in
        let low : x < 60 = omega (arith, below, tick, timer, other) in
        inl (low, a.ready, none, not-processing x k a low)

-- Of a machine whose current task acts.

pub resting : (d : Method) (m : Machine) → rule d m ≡ TaskActs → Applies d TaskActs m
resting d m e = subst (λ (r : Rule). Applies d r m) e (applies d m)

acting-task : (d : Method) (m : Machine) → IsValidMachine program_serves d m → rule d m ≡ TaskActs → IsActing m.current m.kernel
acting-task d m v e = let a = resting d m e in act program_serves d m v a.0.frames a.0.in_hand a.1

-- where it works in units it may begin one
pub begins-unit : (d : Method) (m : Machine) → IsValidMachine program_serves d m → rule d m ≡ TaskActs → works_in_units m.current m.kernel ≡ true → MayRunUnit m.current m.kernel
begins-unit d m v r e = runs-unit m.current m.kernel (acting-task d m v r) e

-- any other task but the idle task may call a service, once it has read its result
pub acts-as_caller : (d : Method) (m : Machine) → IsValidMachine program_serves d m → rule d m ≡ TaskActs → has_result (task_at m.kernel m.current).answered ≡ false → (m.current == 62) ≡ false → works_in_units m.current m.kernel ≡ false → MayCall m.current m.kernel
acts-as_caller d m v r none idle e = calls m.current m.kernel v.kernel (acting-task d m v r) none idle e
