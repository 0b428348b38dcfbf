-- What the current task and the whole step in hand do, in two machines that differ in raw steps and looks alone.
use Rattle.machine_laws.proofs.Common.{◌≡◌, Bool, ℕ, refl, true, List, None, Some, Option, ◌==◌, if◌then◌else◌, Look, Finished, Outcome, Service, cost, Kernel, idle_task, Execution, exec, Stepped, Call, Next, Stored, Trap, acts, works_in_units, idles, instructs, starts_unit, Change, Machine, WholeStep, CallOf, TakeOf, UnitOf, Work, effect_of, registers_at, advances, Quiet}
use Rattle.std.specs.Prelude.{◌+◌}
use Rattle.kern_base.specs.declared.outcomes.Outcome.TheVariants as outcome
use Rattle.kern_base.specs.declared.outcomes.UnitEnd.TheVariants as unit
use Rattle.machine_model.specs.Steps.{ends, call_ends, unit_ends}
use Rattle.machine_model.specs.Acts.{finishes}
use Rattle.method_law.specs.Modes.{at_step, task_level_machine, IsNoTake}
use Rattle.method_law.proofs.Events.Choices.{both}
use Rattle.method_law.proofs.Events.Twins.{Twins, twins}

-- two changes that tell the same and lead to such machines
pub record LikeChanges (served : Service → Bool) (n : ℕ) (c e : Change) : Type 0 where
  pub what : c.what ≡ e.what
  pub machines : Twins served n c.machine e.machine

module _ (served : Service → Bool) (n : ℕ) (d : Machine) (s : ℕ) (looks : List Look) where
  -- with nothing in hand: the current task acts

  abbrev free : Machine
  free = task_level_machine true None d

  abbrev other : Machine
  other = at_step s looks (task_level_machine true None d)

  like-finishes : (x : ℕ) (f : Finished) → LikeChanges served n (finishes x f free) (finishes x f other)
  like-finishes x f = record { what = refl; machines = twins (finishes x f free).machine None s looks tt }

  like-instructs : (did : Stepped) (x : ℕ) (e : Execution) → LikeChanges served n (instructs served did x e free) (instructs served did x e other)
  like-instructs Next x e = record { what = refl; machines = twins (instructs served Next x e free).machine None s looks tt }
  like-instructs (Stored addr width value) x e = record { what = refl; machines = twins (instructs served (Stored addr width value) x e free).machine None s looks tt }
  like-instructs Call x e =
      let c = instructs served Call x e free in record { what = refl; machines = twins c.machine c.machine.in_hand s looks tt }
  like-instructs (Trap kind pc) x e = record { what = refl; machines = twins (instructs served (Trap kind pc) x e free).machine None s looks tt }

  pub like-acts : (x : ℕ) (f : Option Finished) → LikeChanges served n (acts served x f free) (acts served x f other)
  like-acts x (Some f) = like-finishes x f
  like-acts x None =
      let e = exec d.code (registers_at d x) d.memory in
      let run = instructs served e.did x e free in
      let run2 = instructs served e.did x e other in
      let working = works_in_units x d.kernel in
      both (LikeChanges served n) (x == idle_task) (x == idle_task) (idles free) (if working then starts_unit x free else run) (idles other) (if working then starts_unit x other else run2) refl
      (record { what = refl; machines = twins (idles free).machine None s looks tt })
      (both (LikeChanges served n) working working (starts_unit x free) run (starts_unit x other) run2 refl
      (let c = starts_unit x free in record { what = refl; machines = twins c.machine c.machine.in_hand s looks tt })
      (like-instructs e.did x e))

module _ (served : Service → Bool) (n : ℕ) (d : Machine) (s : ℕ) (looks : List Look) (hand : Option WholeStep) where
  -- with a whole step in hand

  abbrev busy : Machine
  busy = task_level_machine true hand d

  abbrev twin : Machine
  twin = at_step s looks (task_level_machine true hand d)

  like-call_ends : (x : ℕ) (v : Service) (o : Outcome) (k : Kernel) → LikeChanges served n (call_ends x v o k busy) (call_ends x v o k twin)
  like-call_ends x v (outcome.Answered a taken) k = record { what = refl; machines = twins (call_ends x v (outcome.Answered a taken) k busy).machine None s looks tt }
  like-call_ends x v outcome.Waits k = record { what = refl; machines = twins (call_ends x v outcome.Waits k busy).machine None s looks tt }
  like-call_ends x v outcome.Gone k = record { what = refl; machines = twins (call_ends x v outcome.Gone k busy).machine None s looks tt }
  like-call_ends x v (outcome.Quiet end) k = record { what = refl; machines = twins (call_ends x v (outcome.Quiet end) k busy).machine None s looks tt }

  like-unit_ends : (o : Outcome) (k : Kernel) → LikeChanges served n (unit_ends o k busy) (unit_ends o k twin)
  like-unit_ends (outcome.Quiet (unit.Tick n)) k = record { what = refl; machines = twins (unit_ends (outcome.Quiet (unit.Tick n)) k busy).machine None s looks tt }
  like-unit_ends (outcome.Quiet (unit.TmrTick n)) k = record { what = refl; machines = twins (unit_ends (outcome.Quiet (unit.TmrTick n)) k busy).machine None s looks tt }
  like-unit_ends (outcome.Quiet (unit.Fire o)) k = record { what = refl; machines = twins (unit_ends (outcome.Quiet (unit.Fire o)) k busy).machine None s looks tt }
  like-unit_ends (outcome.Quiet unit.TmrEnd) k = record { what = refl; machines = twins (unit_ends (outcome.Quiet unit.TmrEnd) k busy).machine None s looks tt }
  like-unit_ends (outcome.Answered a taken) k = record { what = refl; machines = twins (unit_ends (outcome.Answered a taken) k busy).machine None s looks tt }
  like-unit_ends outcome.Waits k = record { what = refl; machines = twins (unit_ends outcome.Waits k busy).machine None s looks tt }
  like-unit_ends outcome.Gone k = record { what = refl; machines = twins (unit_ends outcome.Gone k busy).machine None s looks tt }

  like-ends : (work : Work) (o : Outcome) (k : Kernel) → IsNoTake work → LikeChanges served n (ends work o k busy) (ends work o k twin)
  like-ends (CallOf x r p) o k h = like-call_ends x r.service o k
  like-ends (UnitOf x) o k h = like-unit_ends o k
  like-ends (TakeOf q) o k h = absurd h

  pub like-advances : (w : WholeStep) → IsNoTake w.work → LikeChanges served n (advances served w busy) (advances served w twin)
  like-advances w h =
      let e = effect_of served d.config w.work d.kernel in
      let more : Option WholeStep = Some (record { work = w.work; done = w.done + 1 }) in
      let stays : Change = record { what = Quiet; machine = record busy { in_hand = more } } in
      let stays2 : Change = record { what = Quiet; machine = record twin { in_hand = more } } in
      let last = w.done + 1 == cost e d.kernel in
      both (LikeChanges served n) last last (ends w.work e.outcome e.kernel busy) stays (ends w.work e.outcome e.kernel twin) stays2 refl
      (like-ends w.work e.outcome e.kernel h)
      (record { what = refl; machines = twins stays.machine more s looks h })
