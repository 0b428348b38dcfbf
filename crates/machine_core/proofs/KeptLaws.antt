-- What is always true of the machine's fields stays true with each event.
use Rattle.std.specs.Prelude.{All, length}
use Rattle.std.proofs.Common.{◌≡◌, ◌<◌, ◌≤◌, ℕ, ◌+◌, sym, ap, ◌∙◌, subst, arith}
use Rattle.kern_base.specs.declared.kinds.Method.{Method}
use Rattle.served.specs.Served.{program_serves}
use Rattle.machine_core.specs.MachineView.{Parts}
use Rattle.machine_model.specs.Machine.{Machine}
use Rattle.machine_model.specs.Bound.{events_left}
use Rattle.machine_model.specs.Rules.{rule, raw}
use Rattle.machine_model.proofs.CountLaws.{Counts, counts-done}
use Rattle.machine_laws.specs.Valid.{IsValidMachine}
use Rattle.machine_laws.proofs.Lemmas.{applies, valid-done, events_left-next}
use Rattle.machine_core.specs.MethodMachine.{MethodMachine, next_machine}
use Rattle.kernel_records.specs.Ticks.{HasRoom}
use Rattle.machine_core.specs.LookView.{IsShown}
use Rattle.machine_core.specs.MachineView.{machine_of, method_machine_of, IsKept, AreParts, IsFitHand, HasVectors}
use Rattle.machine_core.specs.Valid.{most_task_steps, change, changed, HasFewSignals}
use Rattle.machine_core.proofs.NearLaws.{IsNear, near-done}
use Rattle.machine_core.proofs.CurrentLaws.{current-done}
use Rattle.machine_core.proofs.LookLaws.{looks_after, looks-done, to_come-after, to_come-step}

-- with other raw steps it is as valid
valid-steps : (d : Method) (m : Machine) (s : ℕ) → IsValidMachine program_serves d m → IsValidMachine program_serves d (record m { s = s })
valid-steps d m s v = record { kernel = v.kernel; registers = v.registers; frames = v.frames; interrupts = v.interrupts; queue = v.queue; fits = v.fits; stands = v.stands }

-- Beside that, the fields b are of the same kinds of objects as a, and fit them.
pub record AreBeside (a b : Parts) : Type 0 where
  pub kinds : b.kinds ≡ a.kinds
  pub work : IsFitHand b.config b.kernel.hand
  pub size : b.later.size ≡ b.config.defer_size
  pub vectors : HasVectors b.frames
  pub looks : All (λ l. IsShown (length b.kinds.objects) l.what) b.looks

-- The fields b are what the next event makes of the fields a, but for the raw steps.
module _ (a b : Parts) (k : IsKept a) (open_yet : a.t < most_task_steps) (whole : method_machine_of b ≡ changed (method_machine_of a)) where
  abbrev m : Machine
  m = machine_of a

  e : machine_of b ≡ (change a.method m).machine
  e = ap (λ (n : MethodMachine). n.state) whole

  same_method : b.method ≡ a.method
  same_method = ap (λ (n : MethodMachine). n.method) whole

  counts : Counts m (change a.method m).machine
  counts = counts-done program_serves a.method (rule a.method m) m

  valid : IsValidMachine program_serves b.method (machine_of b)
  valid =
      let by_same : IsValidMachine program_serves a.method (machine_of b) = subst (IsValidMachine program_serves a.method) (sym e) (valid-done program_serves a.method (rule a.method m) m (applies a.method m) k.valid) in
      subst (λ (d : Method). IsValidMachine program_serves d (machine_of b)) (sym same_method) by_same

  fewer : events_left most_task_steps (machine_of b) < events_left most_task_steps m
  fewer = subst (λ (n : Machine). events_left most_task_steps n < events_left most_task_steps m) (sym e) (events_left-next program_serves a.method most_task_steps m k.valid open_yet)

  near : IsNear a.kernel.state b.kernel.state
  near = subst (λ (n : Machine). IsNear a.kernel.state n.kernel) (sym e) (near-done a.method (rule a.method m) m)

  same_steps : b.s ≡ a.s
  same_steps = ap (λ (n : Machine). n.s) e ∙ counts.s

  task_steps : b.t ≤ most_task_steps
  task_steps = let t : b.t ≡ (change a.method m).machine.t = ap (λ (n : Machine). n.t) e in let one = counts.t in omega (arith, t, one, open_yet)

  current : b.current.0 < 64
  current =
      let next_one = current-done program_serves a.method (rule a.method m) m k.current (valid-done program_serves a.method (rule a.method m) m (applies a.method m) k.valid).kernel in
      subst (λ (n : Machine). n.current < 64) (sym e) next_one

  looks : b.looks ≡ looks_after (rule a.method m) m
  looks = ap (λ (n : Machine). n.looks) e ∙ looks-done program_serves a.method (rule a.method m) m

  signals : HasFewSignals b.kernel.state (events_left most_task_steps (machine_of b))
  signals =
      let tick = k.signals.tick in
      let timer = k.signals.timer in
      let one = near.few.tick in
      let other = near.few.timer in
      record { tick = omega (arith, tick, one, fewer); timer = omega (arith, timer, other, fewer) }

  -- before the raw step is counted
  pub kept-change : AreBeside a b → IsKept b
  kept-change beside = record {
    valid = valid;
    parts = record { kinds = near.kinds ∙ k.parts.kinds ∙ sym beside.kinds; work = beside.work; size = beside.size; vectors = beside.vectors; looks = beside.looks };
    current = current;
    within = task_steps;
    few = let l = k.few in omega (arith, l, fewer, same_steps);
    signals = signals;
    to_come = rw (same_steps, looks) (to_come-after (rule a.method m) m k.to_come);
  }

  -- with the raw step
  pub kept-step : AreParts b → raw (rule a.method m) ≡ 1 → IsKept (record b { s = b.s + 1 })
  kept-step parts one = record {
    valid = valid-steps b.method (machine_of b) (b.s + 1) valid;
    parts = record { kinds = parts.kinds; work = parts.work; size = parts.size; vectors = parts.vectors; looks = parts.looks };
    current = current;
    within = task_steps;
    few = let l = k.few in omega (arith, l, fewer, same_steps);
    signals = record { tick = signals.tick; timer = signals.timer };
    to_come = rw (same_steps, looks) (to_come-step a.method (rule a.method m) m (applies a.method m) one k.to_come);
  }

-- room for one more signal of the tick task and of the timer task
pub has-room : (a : Parts) → IsKept a → HasRoom a.kernel.state
has-room a k = let tick = k.signals.tick in let timer = k.signals.timer in record { tick = omega (arith, tick); timer = omega (arith, timer) }

-- The raw steps of an event.

-- an event without one
pub next-same : (a b : Parts) → method_machine_of b ≡ changed (method_machine_of a) → raw (rule a.method (machine_of a)) ≡ 0 → method_machine_of b ≡ next_machine (method_machine_of a)
next-same a b e none =
    let m : Machine = machine_of a in
    let n : Machine = (change a.method m).machine in
    let s : n.s ≡ m.s = (counts-done program_serves a.method (rule a.method m) m).s in
    let steps : n.s ≡ m.s + raw (rule a.method m) = omega (arith, s, none) in
    e ∙ ap (λ (x : ℕ). let o : MethodMachine = record { method = a.method; state = record n { s = x } } in o) steps

-- an event with one
pub next-more : (a b : Parts) → method_machine_of b ≡ changed (method_machine_of a) → raw (rule a.method (machine_of a)) ≡ 1 → method_machine_of (record b { s = b.s + 1 }) ≡ next_machine (method_machine_of a)
next-more a b e one =
    let m : Machine = machine_of a in
    let n : Machine = (change a.method m).machine in
    let s : n.s ≡ m.s = (counts-done program_serves a.method (rule a.method m) m).s in
    let steps : n.s + 1 ≡ m.s + raw (rule a.method m) = omega (arith, s, one) in
    ap (λ (x : MethodMachine). let o : MethodMachine = record { method = x.method; state = record x.state { s = x.state.s + 1 } } in o) e
    ∙ ap (λ (x : ℕ). let o : MethodMachine = record { method = a.method; state = record n { s = x } } in o) steps
