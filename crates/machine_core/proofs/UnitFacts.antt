-- The unit in hand, by what came of its micro-step.
use Rattle.std.specs.Prelude.{◌==◌, length}
use Rattle.std.proofs.Common.{◌≡◌, ◌<◌, ◌≤◌, inl, inr, ℕ, ◌+◌, Bool, true, false, List, [], Option, Some, None, refl, sym, ap, ◌∙◌, subst, arith}
use Rattle.std.proofs.lemmas.Bool.Decides.{leb_tells}
use Rattle.std.proofs.lemmas.List.{get_or-set_same, set_past}
use Rattle.kern_base.specs.declared.numbers.ObjId.{ObjId}
use Rattle.kern_base.specs.declared.numbers.TaskId.{TaskId}
use Rattle.kern_base.specs.declared.outcomes.Outcome.{Outcome}
use Rattle.kern_base.specs.declared.outcomes.Outcome.TheVariants.{Answered, Waits, Gone, Quiet}
use Rattle.kern_base.specs.declared.outcomes.UnitEnd.TheVariants.{Tick, TmrTick, Fire, TmrEnd}
use Rattle.app_image.specs.declared.settings.Config.{Config}
use Rattle.kern_model.specs.Effect.{Effect}
use Rattle.kern_model.specs.Services.{cost, unit_effect}
use Rattle.kern_model.specs.State.{Kernel, Content, Count, Messages, Bits, Held, Timed, Running, Completed, Object, no_object, object_at, object_in, tick_task, timer_task, with_content}
use Rattle.kern_model.specs.Time.{tick_unit, ticked, waits_for_signal}
use Rattle.kern_model.specs.Timers.{due_timer, fired, rests, runs, timer_counts, timer_goes_on, timer_unit}
use Rattle.kern_model.proofs.Lemmas.{choice}
use Rattle.kernel_calls.specs.KernelRecord.{KernelRecord, IsOpen, ended}
use Rattle.kernel_calls.specs.Works.{WorkRecord, effect_of, stepped, unit_of}
use Rattle.rv32_exec.specs.Registers.{Registers}
use Rattle.machine_model.specs.Answers.{Change}
use Rattle.machine_model.specs.Machine.{Machine, UnitOf}
use Rattle.machine_model.specs.Settling.{settled_task}
use Rattle.machine_model.specs.Steps.{after_fire, ends, unit_ends}
use Rattle.machine_core.specs.AnswerView.{unit_ended_kernel, unit_ended_line}
use Rattle.machine_core.specs.MachineView.{Parts, IsKept, hand_of, machine_of, method_machine_of, work_of}
use Rattle.machine_core.specs.Valid.{change, changed, most_task_steps}
use Rattle.machine_core.proofs.KeptLaws.{kept-change}
use Rattle.machine_core.proofs.MachineFacts.{GoesOn, is-last, last-change, not-last, outcome-is, unit-held, with_method}

-- A timer that fires keeps its callback.

-- the object with other content, where there is one of that number
content-either : (P : Content → Type 0) (k : Kernel) (o : ℕ) (c : Content) → P c → P (object_at k o).content → P (object_at (with_content k o c) o).content
content-either P k o c new old =
    elim (leb_tells (o + 1) (length k.objects)) [
      | inl l ↦
          (let inside : o < length k.objects = omega (arith, l.1) in
          subst (λ (b : Object). P b.content) (sym (get_or-set_same k.objects o (record (object_at k o) { content = c }) no_object inside)) new)
      | inr g ↦
          (let past : length k.objects ≤ o = omega (arith, g.1) in
          subst (λ (bs : List Object). P (object_in bs o).content) (sym (set_past k.objects o (record (object_at k o) { content = c }) past)) old)
    ]

fired-content : (config : Config) (registers : List Registers) (c : Content) (o : ℕ) (k : Kernel) → c ≡ (object_at k o).content → after_fire config o (object_at (fired o c k) o).content registers ≡ after_fire config o c registers
fired-content config registers (Timed t) o k e =
    let P : Content → Type 0 = λ d. after_fire config o d registers ≡ after_fire config o (Timed t) registers in
    let old : P (object_at k o).content = ap (λ (d : Content). after_fire config o d registers) (sym e) in
    choice (λ (j : Kernel). P (object_at j o).content) t.periodic (runs o t t.period k) (rests o t Completed k)
    (content-either P k o (Timed (record t { state = Running })) refl old) (content-either P k o (Timed (record t { state = Completed })) refl old)
fired-content config registers (Count n) o k e = ap (λ (d : Content). after_fire config o d registers) (sym e)
fired-content config registers (Messages limit ms) o k e = ap (λ (d : Content). after_fire config o d registers) (sym e)
fired-content config registers (Bits bits) o k e = ap (λ (d : Content). after_fire config o d registers) (sym e)
fired-content config registers (Held owner nesting) o k e = ap (λ (d : Content). after_fire config o d registers) (sym e)

-- so the callback of a unit that fires is that of the timer before it
abbrev KeepsCallback : Config → List Registers → Kernel → Effect → Type 0
KeepsCallback config registers k e = (t : ObjId) → e.outcome ≡ Quiet (Fire t) → after_fire config t.0 (object_at e.kernel t.0).content registers ≡ after_fire config t.0 (object_at k t.0).content registers

module _ (config : Config) (registers : List Registers) (k : Kernel) where
  keeps-goes_on : (o : Option ℕ) → KeepsCallback config registers k (timer_goes_on o k)
  keeps-goes_on (Some o) =
      λ t e. let same : o ≡ t.0 = cc in subst (λ x. after_fire config x (object_at (timer_goes_on (Some o) k).kernel x).content registers ≡ after_fire config x (object_at k x).content registers) same
      (fired-content config registers (object_at k o).content o k refl)
  keeps-goes_on None = choice (KeepsCallback config registers k) (k.timer_signals == 0) (waits_for_signal timer_task e) e (λ t f. cc) (λ t f. cc)
    where
      e : Effect
      e = record { kernel = record k { lock = 0; processing = false }; outcome = Quiet TmrEnd; blocks = [] }

  keeps-timer : KeepsCallback config registers k (timer_unit k)
  keeps-timer = choice (KeepsCallback config registers k) k.processing (timer_goes_on (due_timer k.timer_count k.timer_matches) k) (timer_counts k) (keeps-goes_on (due_timer k.timer_count k.timer_matches)) (λ t e. cc)

  keeps-tick : KeepsCallback config registers k (tick_unit k)
  keeps-tick = choice (KeepsCallback config registers k) (k.tick_signals == 1) (waits_for_signal tick_task (ticked k)) (ticked k) (λ t e. cc) (λ t e. cc)

  keeps-unit : (x : ℕ) → KeepsCallback config registers k (unit_effect x k)
  keeps-unit x = choice (KeepsCallback config registers k) (x == tick_task) (tick_unit k) (timer_unit k) keeps-tick keeps-timer

  -- as the kernel has it
  keeps-unit_of : (x : ℕ) → KeepsCallback config registers k (unit_of x k)
  unfolding unit_of
  keeps-unit_of x = keeps-unit x

-- The end of a unit.

unit-told : (o : Outcome) (k : Kernel) (m : Machine) → unit_ended_line o ≡ (unit_ends o k m).what
unit-told (Answered x taken) k m = refl
unit-told Waits k m = refl
unit-told Gone k m = refl
unit-told (Quiet end) k m = refl

unit-ended : (e : Effect) (o : Outcome) (a : Parts) (n : KernelRecord) (current : TaskId) → e.outcome ≡ o → KeepsCallback a.config a.kernel.registers a.kernel.state e
    → n ≡ unit_ended_kernel a.config o (record { state = e.kernel; registers = a.kernel.registers; hand = None }) → current.0 ≡ settled_task n.state a.later.posts a.current.0
    → machine_of (record a { kernel = n; current = current; t = a.t + 1 }) ≡ (unit_ends o e.kernel (machine_of a)).machine
unit-ended e (Answered x taken) a n current is keeps ends settles = rw (settles, ends) refl
unit-ended e Waits a n current is keeps ends settles = rw (settles, ends) refl
unit-ended e Gone a n current is keeps ends settles = rw (settles, ends) refl
unit-ended e (Quiet (Tick count)) a n current is keeps ends settles = rw (settles, ends) refl
unit-ended e (Quiet (TmrTick count)) a n current is keeps ends settles = rw (settles, ends) refl
unit-ended e (Quiet TmrEnd) a n current is keeps ends settles = rw (settles, ends) refl
unit-ended e (Quiet (Fire t)) a n current is keeps ends settles = let same = keeps t is in rw (settles, ends, same) refl

pub unit-hand : (config : Config) (o : Outcome) (k : KernelRecord) → (unit_ended_kernel config o k).hand ≡ k.hand
unit-hand config (Answered x taken) k = refl
unit-hand config Waits k = refl
unit-hand config Gone k = refl
unit-hand config (Quiet (Tick count)) k = refl
unit-hand config (Quiet (TmrTick count)) k = refl
unit-hand config (Quiet TmrEnd) k = refl
unit-hand config (Quiet (Fire t)) k = refl

module _ (a : Parts) (h : WorkRecord) (k : IsKept a) (r : GoesOn a.method (machine_of a)) (e : a.kernel.hand ≡ Some h) (p : h.done + 1 ≡ cost (effect_of h a.kernel.state) a.kernel.state) (is_unit : h.unit ≡ true) where
  abbrev f : Effect
  f = effect_of h a.kernel.state

  unit-change : change a.method (machine_of a) ≡ unit_ends f.outcome f.kernel (machine_of a)
  unit-change = last-change a h k r e p ∙ ap (λ (u : Bool). ends (work_of u (h.caller == 63) h) f.outcome f.kernel (machine_of a)) is_unit

  keeps : KeepsCallback a.config a.kernel.registers a.kernel.state f
  keeps = rw is_unit (keeps-unit_of a.config a.kernel.registers a.kernel.state h.caller)

  pub unit-line : unit_ended_line f.outcome ≡ (change a.method (machine_of a)).what
  unit-line = unit-told f.outcome f.kernel (machine_of a) ∙ ap (λ (c : Change). c.what) (sym unit-change)

  module _ (n : KernelRecord) (current : TaskId) (ended_is : n ≡ unit_ended_kernel a.config f.outcome (ended a.kernel h)) (settles : current.0 ≡ settled_task n.state a.later.posts a.current.0) where
    pub unit-machine : method_machine_of (record a { kernel = n; current = current; t = a.t + 1 }) ≡ changed (method_machine_of a)
    unit-machine = with_method a.method (unit-ended f f.outcome a n current refl keeps ended_is settles ∙ ap (λ (c : Change). c.machine) (sym unit-change))

    pub unit-kept : a.t < most_task_steps → IsKept (record a { kernel = n; current = current; t = a.t + 1 })
    unit-kept open_yet =
        let free : n.hand ≡ None = ap (λ (j : KernelRecord). j.hand) ended_is ∙ unit-hand a.config f.outcome (ended a.kernel h) in
        kept-change a (record a { kernel = n; current = current; t = a.t + 1 }) k open_yet unit-machine
        (record { kinds = refl; work = rw free tt; size = k.parts.size; vectors = k.parts.vectors; looks = k.parts.looks })

-- Its micro-step.

-- the last one was done
pub record LastOfUnit (old new : KernelRecord) (o : Outcome) : Type 0 where
  pub hand : WorkRecord
  pub held : old.hand ≡ Some hand
  pub is_unit : hand.unit ≡ true
  pub last : hand.done + 1 ≡ cost (effect_of hand old.state) old.state
  pub outcome : o ≡ (effect_of hand old.state).outcome
  pub ends : new ≡ ended old hand

-- one was done after which others are left
pub record MoreOfUnit (old new : KernelRecord) : Type 0 where
  pub hand : WorkRecord
  pub held : old.hand ≡ Some hand
  pub left : hand.done + 1 < cost (effect_of hand old.state) old.state
  pub next : new ≡ record old { hand = Some (stepped hand) }

module _ (x : ℕ) (old new : KernelRecord) (last : Bool) (o : Outcome) (i : ℕ) (works : hand_of old.hand ≡ Some (record { work = UnitOf x; done = i })) (open_yet : IsOpen old.hand old.state)
    (more : (w : WorkRecord) → old.hand ≡ Some w → w.done + 1 < cost (effect_of w old.state) old.state → (last ≡ false) × (new ≡ record old { hand = Some (stepped w) }))
    (done : (w : WorkRecord) → old.hand ≡ Some w → w.done + 1 ≡ cost (effect_of w old.state) old.state → (last ≡ true) × (o ≡ (effect_of w old.state).outcome) × (new ≡ ended old w)) where
  pub last-of-unit : last ≡ true → LastOfUnit old new o
  last-of-unit e =
      let got = unit-held old.hand x i works in
      let p = is-last old new got.0 last o got.1 open_yet more done e in
      record {
        hand = got.0;
        held = got.1;
        is_unit = got.2;
        last = p;
        outcome = outcome-is old new got.0 last o got.1 open_yet more done e;
        ends = (done got.0 got.1 p).2;
      }

  pub more-of-unit : last ≡ false → MoreOfUnit old new
  more-of-unit e =
      let got = unit-held old.hand x i works in
      let p = not-last old new got.0 last o got.1 open_yet more done e in
      record { hand = got.0; held = got.1; left = p; next = (more got.0 got.1 p).1 }
