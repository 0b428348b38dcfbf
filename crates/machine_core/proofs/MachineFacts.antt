-- What the machine's fields come to, act by act.
use Rattle.std.specs.Prelude.{◌==◌, ◌&&◌, if◌then◌else◌, is_none, not}
use Rattle.std.proofs.lemmas.Bool.Decides.{leb_tells}
use Rattle.std.proofs.Common.{◌≡◌, ◌⊎◌, inl, inr, ◌<◌, ℕ, ◌+◌, Bool, true, false, List, [], ◌∷◌, Option, Some, None, refl, sym, ap, ◌∙◌, subst, arith, eq-eqb, ne_eqb}
use Rattle.kern_base.specs.declared.numbers.TaskId.{TaskId}
use Rattle.kern_base.specs.declared.kinds.Method.{Method}
use Rattle.kern_base.specs.Services.{argument_count}
use Rattle.app_image.specs.declared.settings.Config.{Config}
use Rattle.kern_model.proofs.Lemmas.{equal}
use Rattle.deferred_queue.specs.QueueRecord.{QueueRecord}
use Rattle.machine_model.specs.Queue.{Queued, front, without_front}
use Rattle.machine_model.specs.Interrupts.{answer_in}
use Rattle.kern_base.specs.declared.services.Service.{Service}
use Rattle.kern_base.specs.declared.outcomes.Finished.{Finished}
use Rattle.kern_base.specs.declared.outcomes.Outcome.{Outcome}
use Rattle.kern_base.specs.declared.outcomes.Outcome.TheVariants.{Answered, Waits, Gone, Quiet}
use Rattle.kern_model.specs.Call.{call_of}
use Rattle.kern_model.specs.State.{Kernel, task_at}
use Rattle.kern_model.specs.Effect.{Effect}
use Rattle.kern_model.specs.Valid.{has_result}
use Rattle.served.specs.Served.{program_serves}
use Rattle.kern_model.specs.Services.{effect, post_request, cost}
use Rattle.kernel_calls.specs.KernelRecord.{KernelRecord, IsOpen, ended}
use Rattle.kernel_calls.specs.Works.{WorkRecord, begun, effect_of, stepped, unit_of}
use Rattle.machine_core.specs.MachineView.{Parts}
use Rattle.machine_model.specs.Machine.{Machine, Work, WholeStep, TakeOf, UnitOf, handler_compares, effect_of as whole_effect}
use Rattle.machine_model.specs.declared.events.What.{What}
use Rattle.machine_model.specs.declared.events.What.TheVariants.{Quiet as NoLine, Take}
use Rattle.machine_model.specs.Answers.{Change, arguments, with_table}
use Rattle.machine_model.specs.Settling.{settled_task, none_waits}
use Rattle.machine_model.specs.Steps.{advances, ends, call_ends, take_ends, some_readied}
use Rattle.machine_model.specs.Acts.{acts}
use Rattle.machine_model.specs.Rules.{Rule, Begins, MicroStep, TakeBegins, TaskActs, rule, raw, done, rule_in_hand, rule_of_post, may_take}
use Rattle.machine_laws.specs.Valid.{IsInHand, IsBegun as InHandBegun}
use Rattle.machine_core.specs.AnswerView.{ended_kernel, ended_line, finished_by, finished_kernel, HasNoTable}
use Rattle.machine_core.specs.MethodMachine.{MethodMachine}
use Rattle.machine_core.specs.MachineView.{machine_of, method_machine_of, queued_in, work_of, step_of, hand_of, IsFit, IsFitHand, IsKept}
use Rattle.machine_core.specs.Valid.{most_task_steps, change, changed}
use Rattle.machine_core.proofs.OutcomeLaws.{plain-effect}
use Rattle.machine_core.proofs.KeptLaws.{kept-change}

-- The rule that applies.

-- no frame stands and nothing comes
abbrev pub GoesOn : Method → Machine → Type 0
GoesOn d m = rule d m ≡ rule_in_hand m.in_hand m

pub by_rule : (d : Method) (m : Machine) (r : Rule) → rule d m ≡ r → change d m ≡ done program_serves d r m
by_rule d m r e = ap (λ q. done program_serves d q m) e

-- the first event names the first task
pub first-change : (d : Method) (m : Machine) → m.begun ≡ false → change d m ≡ done program_serves d Begins m
first-change d m e = by_rule d m Begins (rw e refl)

-- with nothing in hand a post is taken, where one may be
post_rule : (b : Bool) (later : List Queued) → (b && not (none_waits later)) ≡ true → (q : Queued) × (front later ≡ Some q) × (rule_of_post b (front later) ≡ TakeBegins q)
post_rule b [] e = absurd (no b e)
  where
    no : (b : Bool) → (b && false) ≡ true → ⊥
    no true h = cc
    no false h = cc
post_rule true (q ∷ later) e = (q, refl, refl)
post_rule false (q ∷ later) e = cc

task_rule : (b : Bool) (later : List Queued) → (b && not (none_waits later)) ≡ false → rule_of_post b (front later) ≡ TaskActs
task_rule true [] e = refl
task_rule false [] e = refl
task_rule true (q ∷ later) e = cc
task_rule false (q ∷ later) e = refl

-- or else the current task acts
pub acts-next : (d : Method) (m : Machine) → GoesOn d m → m.in_hand ≡ None → may_take m ≡ false → rule d m ≡ TaskActs
acts-next d m e none may = e ∙ ap (λ (o : Option WholeStep). rule_in_hand o m) none ∙ task_rule (m.kernel.lock == 0) m.later may

pub takes-next : (d : Method) (m : Machine) → GoesOn d m → m.in_hand ≡ None → may_take m ≡ true → (q : Queued) × (front m.later ≡ Some q) × (rule d m ≡ TakeBegins q)
takes-next d m e none may =
    let (q, first, told) = post_rule (m.kernel.lock == 0) m.later may in
    (q, first, e ∙ ap (λ (o : Option WholeStep). rule_in_hand o m) none ∙ told)

-- which takes one raw step, as a micro-step does
raw_post : (b : Bool) (o : Option Queued) → raw (rule_of_post b o) ≡ 1
raw_post true (Some q) = refl
raw_post true None = refl
raw_post false o = refl

raw_one : (o : Option WholeStep) (m : Machine) → raw (rule_in_hand o m) ≡ 1
raw_one (Some w) m = refl
raw_one None m = raw_post (m.kernel.lock == 0) (front m.later)

pub raw-goes_on : (d : Method) (m : Machine) → GoesOn d m → raw (rule d m) ≡ 1
raw-goes_on d m e = ap raw e ∙ raw_one m.in_hand m

-- with nothing in hand no work is to fit
pub none_fit : (config : Config) (o : Option WorkRecord) → hand_of o ≡ None → IsFitHand config o
none_fit config None e = tt
none_fit config (Some h) e = cc

-- nothing is in hand
pub hand-none : (o : Option WorkRecord) → hand_of o ≡ None → o ≡ None
hand-none None e = refl
hand-none (Some h) e = cc

-- the machine with its method
abbrev pub by_method : Method → Machine → MethodMachine
by_method d m = record { method = d; state = m }

pub with_method : {m n : Machine} (d : Method) → m ≡ n → by_method d m ≡ by_method d n
with_method d e = ap (by_method d) e

waits-front : (later : List Queued) (q : Queued) → front later ≡ Some q → none_waits later ≡ false
waits-front [] q e = cc
waits-front (p ∷ later) q e = refl

-- a take in hand is that of the first post
first-of : (u b : Bool) (h : WorkRecord) (k : Kernel) (x : ℕ) (later : List Queued) → u ≡ false → b ≡ true → InHandBegun (work_of u b h) k x later → front later ≡ Some (queued_in h)
first-of false true h k x later u e begun = begun.first
first-of false false h k x later u e begun = cc
first-of true b h k x later u e begun = cc

-- The whole step in hand.

-- the work in hand is a unit, a task's call or a take
pub fit_in : (a : Parts) (h : WorkRecord) → IsKept a → a.kernel.hand ≡ Some h → IsFit h.unit (h.caller == 63) a.config h
fit_in a h k e = rw e at k.parts.work

-- by what came of a micro-step it was the last, or not
step-left : (i n : ℕ) → i < n → (i + 1 < n) ⊎ (i + 1 ≡ n)
step-left i n h = elim (leb_tells n (i + 1)) [ inl d ↦ inr (let e = d.1 in omega arith) | inr d ↦ inl d.1 ]

module _ (old new : KernelRecord) (h : WorkRecord) (last : Bool) (o : Outcome) (held : old.hand ≡ Some h) (open_yet : IsOpen old.hand old.state)
    (more : (w : WorkRecord) → old.hand ≡ Some w → w.done + 1 < cost (effect_of w old.state) old.state → (last ≡ false) × (new ≡ record old { hand = Some (stepped w) }))
    (done : (w : WorkRecord) → old.hand ≡ Some w → w.done + 1 ≡ cost (effect_of w old.state) old.state → (last ≡ true) × (o ≡ (effect_of w old.state).outcome) × (new ≡ ended old w)) where
  below : h.done < cost (effect_of h old.state) old.state
  below = subst (λ (o : Option WorkRecord). IsOpen o old.state) held open_yet

  pub not-last : last ≡ false → h.done + 1 < cost (effect_of h old.state) old.state
  not-last e = elim (step-left h.done (cost (effect_of h old.state) old.state) below) [ inl i ↦ i | inr i ↦ (let d = (done h held i).0 in cc) ]

  pub is-last : last ≡ true → h.done + 1 ≡ cost (effect_of h old.state) old.state
  is-last e = elim (step-left h.done (cost (effect_of h old.state) old.state) below) [ inl i ↦ (let d = (more h held i).0 in cc) | inr i ↦ i ]

  pub outcome-is : last ≡ true → o ≡ (effect_of h old.state).outcome
  outcome-is e = (done h held (is-last e)).1

-- what is in hand

work-held : (h : WorkRecord) (w : Work) (i : ℕ) → Some (step_of h) ≡ Some (record { work = w; done = i }) → work_of h.unit (h.caller == 63) h ≡ w
work-held h w i e = by (step_of h) w i e
  where
    by : (s : WholeStep) (w : Work) (i : ℕ) → Some s ≡ Some (record { work = w; done = i }) → s.work ≡ w
    by s w i e = cc

take-work : (u b : Bool) (h : WorkRecord) (q : Queued) → work_of u b h ≡ TakeOf q → (u ≡ false) × (b ≡ true) × (queued_in h ≡ q)
take-work false true h q w = (refl, refl, cc)
take-work false false h q w = absurd cc
take-work true b h q w = absurd cc

pub take-held : (o : Option WorkRecord) (q : Queued) (i : ℕ) → hand_of o ≡ Some (record { work = TakeOf q; done = i }) → (h : WorkRecord) × (o ≡ Some h) × (h.unit ≡ false) × ((h.caller == 63) ≡ true) × (queued_in h ≡ q)
take-held None q i e = cc
take-held (Some h) q i e = let d = take-work h.unit (h.caller == 63) h q (work-held h (TakeOf q) i e) in (h, refl, d.0, d.1, d.2)

unit-work : (u b : Bool) (h : WorkRecord) (x : ℕ) → work_of u b h ≡ UnitOf x → u ≡ true
unit-work true b h x w = refl
unit-work false true h x w = absurd cc
unit-work false false h x w = absurd cc

pub unit-held : (o : Option WorkRecord) (x i : ℕ) → hand_of o ≡ Some (record { work = UnitOf x; done = i }) → (h : WorkRecord) × (o ≡ Some h) × (h.unit ≡ true)
unit-held None x i e = cc
unit-held (Some h) x i e = (h, refl, unit-work h.unit (h.caller == 63) h x (work-held h (UnitOf x) i e))

-- a unit in hand is of its task
unit-step : (b : Bool) (h : WorkRecord) → h.unit ≡ true → work_of h.unit b h ≡ UnitOf h.caller
unit-step b h e = ap (λ (u : Bool). work_of u b h) e

pub unit-of_hand : (o : Option WorkRecord) (h : WorkRecord) → o ≡ Some h → h.unit ≡ true → (x : ℕ) × (i : ℕ) × (hand_of o ≡ Some (record { work = UnitOf x; done = i }))
unit-of_hand o h e u =
    (h.caller, h.done, ap hand_of e ∙ ap (λ (w : Work). let s : WholeStep = record { work = w; done = h.done } in Some s) (unit-step (h.caller == 63) h u))

-- something is in hand
pub some-held : (o : Option WorkRecord) (w : WholeStep) → hand_of o ≡ Some w → (h : WorkRecord) × (o ≡ Some h)
some-held None w e = cc
some-held (Some h) w e = (h, refl)

stands_in : (a : Parts) (h : WorkRecord) → IsKept a → a.kernel.hand ≡ Some h → IsInHand program_serves a.config (step_of h) a.kernel.state a.current.0 a.later.posts
stands_in a h k e = rw e at k.valid.stands

advanced : (a : Parts) (h : WorkRecord) → GoesOn a.method (machine_of a) → a.kernel.hand ≡ Some h → change a.method (machine_of a) ≡ advances program_serves (step_of h) (machine_of a)
advanced a h r e =
    let hand : (machine_of a).in_hand ≡ Some (step_of h) = ap hand_of e in
    let micro : rule a.method (machine_of a) ≡ MicroStep (step_of h) = r ∙ ap (λ o. rule_in_hand o (machine_of a)) hand in
    by_rule a.method (machine_of a) (MicroStep (step_of h)) micro

-- what it does in all, as the machine's definition has it
same-work : (u b : Bool) (config : Config) (w : WorkRecord) (k : Kernel) → IsFit u b config w → (b ≡ true → w.caller ≡ 63)
    → (if u then unit_of w.caller k else effect program_serves (call_of w.request w.caller w.interrupted w.compared) k) ≡ whole_effect program_serves config (work_of u b w) k
unfolding unit_of
same-work true b config w k fit here = refl
same-work false true config w k fit here = rw (fit.0, here refl, fit.1) refl
same-work false false config w k fit here = rw fit refl

pub effect-same : (config : Config) (w : WorkRecord) (k : Kernel) → IsFit w.unit (w.caller == 63) config w → effect_of w k ≡ whole_effect program_serves config (step_of w).work k
effect-same config w k b = same-work w.unit (w.caller == 63) config w k b (λ e. equal w.caller 63 e)

-- micro-steps are left
more_left : (config : Config) (w : WorkRecord) (k : Kernel) → IsFit w.unit (w.caller == 63) config w → w.done + 1 < cost (effect_of w k) k → (w.done + 1 == cost (whole_effect program_serves config (step_of w).work k) k) ≡ false
more_left config w k b p =
    let more : w.done + 1 < cost (whole_effect program_serves config (step_of w).work k) k = rw (effect-same config w k b) at p in
    ne_eqb (w.done + 1) (cost (whole_effect program_serves config (step_of w).work k) k) (λ (e : w.done + 1 ≡ cost (whole_effect program_serves config (step_of w).work k) k). omega (arith, more, e))

none_left : (config : Config) (w : WorkRecord) (k : Kernel) → IsFit w.unit (w.caller == 63) config w → w.done + 1 ≡ cost (effect_of w k) k → (w.done + 1 == cost (whole_effect program_serves config (step_of w).work k) k) ≡ true
none_left config w k b p =
    let last : w.done + 1 ≡ cost (whole_effect program_serves config (step_of w).work k) k = rw (effect-same config w k b) at p in
    eq-eqb (w.done + 1) (cost (whole_effect program_serves config (step_of w).work k) k) last

-- a micro-step that is not the last

work-stepped : (u b : Bool) (w : WorkRecord) → work_of u b (stepped w) ≡ work_of u b w
work-stepped true b w = refl
work-stepped false true w = refl
work-stepped false false w = refl

fit-stepped : (u b : Bool) (config : Config) (w : WorkRecord) → IsFit u b config w → IsFit u b config (stepped w)
fit-stepped true b config w f = tt
fit-stepped false true config w f = f
fit-stepped false false config w f = f

step-stepped : (h : WorkRecord) → step_of (stepped h) ≡ record { work = (step_of h).work; done = h.done + 1 }
step-stepped h = ap (λ (w : Work). let x : WholeStep = record { work = w; done = h.done + 1 } in x) (work-stepped h.unit (h.caller == 63) h)

more-change : (a : Parts) (h : WorkRecord) → IsKept a → GoesOn a.method (machine_of a) → a.kernel.hand ≡ Some h → h.done + 1 < cost (effect_of h a.kernel.state) a.kernel.state → change a.method (machine_of a) ≡ record { what = NoLine; machine = record (machine_of a) { in_hand = Some (record { work = (step_of h).work; done = h.done + 1 }) } }
more-change a h k r e p = advanced a h r e ∙ rw (more_left a.config h a.kernel.state (fit_in a h k e) p) refl

more-state : (a : Parts) (h : WorkRecord) (n : KernelRecord) → IsKept a → GoesOn a.method (machine_of a) → a.kernel.hand ≡ Some h → h.done + 1 < cost (effect_of h a.kernel.state) a.kernel.state → n ≡ record a.kernel { hand = Some (stepped h) } → machine_of (record a { kernel = n }) ≡ (change a.method (machine_of a)).machine
more-state a h n k r e p s =
    ap (λ (j : KernelRecord). machine_of (record a { kernel = j })) s
    ∙ ap (λ (w : WholeStep). let m : Machine = record (machine_of a) { in_hand = Some w } in m) (step-stepped h) ∙ ap (λ (c : Change). c.machine) (sym (more-change a h k r e p))

pub more-machine : (a : Parts) (h : WorkRecord) (n : KernelRecord) → IsKept a → GoesOn a.method (machine_of a) → a.kernel.hand ≡ Some h → h.done + 1 < cost (effect_of h a.kernel.state) a.kernel.state → n ≡ record a.kernel { hand = Some (stepped h) } → method_machine_of (record a { kernel = n }) ≡ changed (method_machine_of a)
more-machine a h n k r e p s = with_method a.method (more-state a h n k r e p s)

pub more-line : (a : Parts) (h : WorkRecord) → IsKept a → GoesOn a.method (machine_of a) → a.kernel.hand ≡ Some h → h.done + 1 < cost (effect_of h a.kernel.state) a.kernel.state → NoLine ≡ (change a.method (machine_of a)).what
more-line a h k r e p = ap (λ (c : Change). c.what) (sym (more-change a h k r e p))

pub more-kept : (a : Parts) (h : WorkRecord) (n : KernelRecord) → IsKept a → GoesOn a.method (machine_of a) → a.kernel.hand ≡ Some h → a.t < most_task_steps → h.done + 1 < cost (effect_of h a.kernel.state) a.kernel.state → n ≡ record a.kernel { hand = Some (stepped h) } → IsKept (record a { kernel = n })
more-kept a h n k r e open_yet p s =
    let fits : IsFit h.unit (h.caller == 63) a.config h = fit_in a h k e in
    kept-change a (record a { kernel = n }) k open_yet (more-machine a h n k r e p s)
    (record {
      kinds = refl;
      work = subst (λ (j : KernelRecord). IsFitHand a.config j.hand) (sym s) (fit-stepped h.unit (h.caller == 63) a.config h fits);
      size = k.parts.size;
      vectors = k.parts.vectors;
      looks = k.parts.looks;
    })

-- the last micro-step of a call, by its outcome

call-ended : (o : Outcome) (k : Kernel) (h : WorkRecord) (a : Parts) (n : KernelRecord) (current : TaskId) → HasNoTable o → h.caller ≡ a.current.0 → n ≡ ended_kernel (record a.kernel { state = k; hand = None }) a.current.0 h.request.service o → current.0 ≡ settled_task n.state a.later.posts a.current.0
    → machine_of (record a { kernel = n; current = current; t = a.t + 1 }) ≡ (call_ends h.caller h.request.service o k (machine_of a)).machine
call-ended (Answered x taken) k h a n current plain caller e settles = rw (settles, e, caller, plain) refl
call-ended Waits k h a n current plain caller e settles = rw (settles, e) refl
call-ended Gone k h a n current plain caller e settles = rw (settles, e) refl
call-ended (Quiet u) k h a n current plain caller e settles = rw (settles, e) refl

pub ended-hand : (k : KernelRecord) (x : ℕ) (s : Service) (o : Outcome) → (ended_kernel k x s o).hand ≡ k.hand
ended-hand k x s (Answered a taken) = refl
ended-hand k x s Waits = refl
ended-hand k x s Gone = refl
ended-hand k x s (Quiet u) = refl

-- what is told of it
ended-told : (o : Outcome) (k : Kernel) (h : WorkRecord) (a : Parts) → HasNoTable o → h.caller ≡ a.current.0 → ended_line a.current.0 h.request.service o ≡ (call_ends h.caller h.request.service o k (machine_of a)).what
ended-told (Answered x taken) k h a plain caller = rw (caller, plain) refl
ended-told Waits k h a plain caller = rw caller refl
ended-told Gone k h a plain caller = rw caller refl
ended-told (Quiet u) k h a plain caller = refl

-- a call in hand is the current task's
caller-of : (u b : Bool) (h : WorkRecord) (k : Kernel) (x : ℕ) (later : List Queued) → u ≡ false → b ≡ false → InHandBegun (work_of u b h) k x later → h.caller ≡ x
caller-of false false h k x later u e begun = begun.caller
caller-of false true h k x later u e begun = cc
caller-of true b h k x later u e begun = cc

module _ (a : Parts) (h : WorkRecord) (k : IsKept a) (r : GoesOn a.method (machine_of a)) (e : a.kernel.hand ≡ Some h) (p : h.done + 1 ≡ cost (effect_of h a.kernel.state) a.kernel.state) where
  abbrev f : Effect
  f = effect_of h a.kernel.state

  b : IsFit h.unit (h.caller == 63) a.config h
  b = fit_in a h k e

  same : f ≡ whole_effect program_serves a.config (step_of h).work a.kernel.state
  same = effect-same a.config h a.kernel.state b

  -- the whole step ends
  pub last-change : change a.method (machine_of a) ≡ ends (work_of h.unit (h.caller == 63) h) f.outcome f.kernel (machine_of a)
  last-change = advanced a h r e ∙ rw (none_left a.config h a.kernel.state b p) (ap (λ (g : Effect). ends (work_of h.unit (h.caller == 63) h) g.outcome g.kernel (machine_of a)) (sym same))

  -- a call
  module _ (no_unit : h.unit ≡ false) (no_take : (h.caller == 63) ≡ false) where
    call-change : change a.method (machine_of a) ≡ call_ends h.caller h.request.service f.outcome f.kernel (machine_of a)
    call-change = last-change ∙ ap (λ (u : Bool). ends (work_of u (h.caller == 63) h) f.outcome f.kernel (machine_of a)) no_unit ∙ ap (λ (c : Bool). ends (work_of false c h) f.outcome f.kernel (machine_of a)) no_take

    caller : h.caller ≡ a.current.0
    caller = caller-of h.unit (h.caller == 63) h a.kernel.state a.current.0 a.later.posts no_unit no_take (stands_in a h k e).begun

    pub plain : HasNoTable f.outcome
    plain = rw no_unit (plain-effect (call_of h.request h.caller h.interrupted h.compared) a.kernel.state)

    pub call-line : ended_line a.current.0 h.request.service f.outcome ≡ (change a.method (machine_of a)).what
    call-line = ended-told f.outcome f.kernel h a plain caller ∙ ap (λ (c : Change). c.what) (sym call-change)

    module _ (n : KernelRecord) (current : TaskId) (ends : n ≡ ended_kernel (ended a.kernel h) a.current.0 h.request.service f.outcome) (settles : current.0 ≡ settled_task n.state a.later.posts a.current.0) where
      pub last-machine : method_machine_of (record a { kernel = n; current = current; t = a.t + 1 }) ≡ changed (method_machine_of a)
      last-machine = with_method a.method (call-ended f.outcome f.kernel h a n current plain caller ends settles ∙ ap (λ (c : Change). c.machine) (sym call-change))

      pub last-kept : a.t < most_task_steps → IsKept (record a { kernel = n; current = current; t = a.t + 1 })
      last-kept open_yet =
          let free : n.hand ≡ None = ap (λ (j : KernelRecord). j.hand) ends ∙ ended-hand (ended a.kernel h) a.current.0 h.request.service f.outcome in
          kept-change a (record a { kernel = n; current = current; t = a.t + 1 }) k open_yet last-machine
          (record { kinds = refl; work = rw free tt; size = k.parts.size; vectors = k.parts.vectors; looks = k.parts.looks })

  -- a take
  module _ (no_unit : h.unit ≡ false) (takes : (h.caller == 63) ≡ true) where
    take-change : change a.method (machine_of a) ≡ take_ends (queued_in h) f.outcome f.kernel (machine_of a)
    take-change = last-change ∙ ap (λ (u : Bool). ends (work_of u (h.caller == 63) h) f.outcome f.kernel (machine_of a)) no_unit ∙ ap (λ (c : Bool). ends (work_of false c h) f.outcome f.kernel (machine_of a)) takes

    pub take-told : (what : What) (again : Bool) → what ≡ (let o = answer_in f.outcome in Take h.request.service (arguments h.request.service h.request.args) (argument_count h.request.service) o.err o.value again)
        → again ≡ ((a.config.insert == 1) && some_readied h.interrupted a.kernel.state.tasks f.kernel.tasks) → what ≡ (change a.method (machine_of a)).what
    take-told what again told s = told ∙ rw s refl ∙ ap (λ (c : Change). c.what) (sym take-change)

    module _ (n : KernelRecord) (later : QueueRecord) (current : TaskId) (ends : n ≡ ended a.kernel h) (leaves : later ≡ record a.later { posts = without_front a.later.posts }) (settles : current.0 ≡ settled_task n.state later.posts a.current.0) where
      pub take-machine : method_machine_of (record a { kernel = n; later = later; current = current }) ≡ changed (method_machine_of a)
      take-machine = with_method a.method (rw (settles, ends, leaves) refl ∙ ap (λ (c : Change). c.machine) (sym take-change))

      pub take-kept : a.t < most_task_steps → IsKept (record a { kernel = n; later = later; current = current })
      take-kept open_yet =
          kept-change a (record a { kernel = n; later = later; current = current }) k open_yet take-machine
          (record { kinds = refl; work = rw ends tt; size = rw leaves k.parts.size; vectors = k.parts.vectors; looks = k.parts.looks })

    -- a post waits
    pub waits-take : none_waits a.later.posts ≡ false
    waits-take = waits-front a.later.posts (queued_in h) (first-of h.unit (h.caller == 63) h a.kernel.state a.current.0 a.later.posts no_unit takes (stands_in a h k e).begun)

-- What the current task does.

-- it has read its result
finish-answered : (a : Parts) (n : KernelRecord) (o : Option Finished) → has_result o ≡ true → n ≡ finished_by o a.kernel a.current.0 → ((memory : List ℕ) → with_table o memory ≡ memory) → machine_of (record a { kernel = n; t = a.t + 1 }) ≡ (acts program_serves a.current.0 o (machine_of a)).machine
finish-answered a n None e kernel no_table = cc
finish-answered a n (Some f) e kernel no_table = rw (kernel, no_table a.ram) refl

finished-hand : (o : Option Finished) (k : KernelRecord) (x : ℕ) → (finished_by o k x).hand ≡ k.hand
finished-hand None k x = refl
finished-hand (Some f) k x = refl

pub finish-fit : (a : Parts) (n : KernelRecord) → hand_of a.kernel.hand ≡ None → n ≡ finished_kernel a.kernel a.current.0 → IsFitHand a.config n.hand
finish-fit a n none e =
    subst (IsFitHand a.config) (sym (ap (λ (k : KernelRecord). k.hand) e ∙ finished-hand (task_at a.kernel.state a.current.0).answered a.kernel a.current.0)) (none_fit a.config a.kernel.hand none)

pub finish-machine : (a : Parts) (n : KernelRecord) → rule a.method (machine_of a) ≡ TaskActs → has_result (task_at a.kernel.state a.current.0).answered ≡ true → n ≡ finished_kernel a.kernel a.current.0
    → ((memory : List ℕ) → with_table (task_at a.kernel.state a.current.0).answered memory ≡ memory) → method_machine_of (record a { kernel = n; t = a.t + 1 }) ≡ changed (method_machine_of a)
finish-machine a n r e kernel no_table =
    with_method a.method (finish-answered a n (task_at a.kernel.state a.current.0).answered e kernel no_table ∙ ap (λ (c : Change). c.machine) (sym (by_rule a.method (machine_of a) TaskActs r)))

-- it has run an instruction
pub instruct-change : (d : Method) (m : Machine) (x : ℕ) → rule d m ≡ TaskActs → m.current ≡ x → (task_at m.kernel x).answered ≡ None → change d m ≡ acts program_serves x None m
instruct-change d m x r current answered = by_rule d m TaskActs r ∙ rw (current, answered) refl

-- nothing is in hand
pub none-hand : (o : Option WorkRecord) → is_none o ≡ true → hand_of o ≡ None
none-hand None e = refl
none-hand (Some h) e = cc

-- the take of the first post begins
module _ (a : Parts) (k : IsKept a) (r : GoesOn a.method (machine_of a)) (free : hand_of a.kernel.hand ≡ None) (may : may_take (machine_of a) ≡ true) (s : Service) (args : List ℕ) (saved compared : ℕ) (first : front a.later.posts ≡ Some (record { service = s; args = args; saved = saved })) where
  taken-rule : rule a.method (machine_of a) ≡ TakeBegins (record { service = s; args = args; saved = saved })
  taken-rule =
      let (p, there, told) = takes-next a.method (machine_of a) r free may in
      let same : p ≡ record { service = s; args = args; saved = saved } = cc in
      told ∙ ap TakeBegins same

  pub begin-line : (change a.method (machine_of a)).what ≡ NoLine
  begin-line = ap (λ (c : Change). c.what) (by_rule a.method (machine_of a) (TakeBegins (record { service = s; args = args; saved = saved })) taken-rule)

  module _ (n : KernelRecord) (work : n ≡ record a.kernel { hand = Some (begun 63 (post_request s args) saved compared) }) where
    pub begin-machine : method_machine_of (record a { kernel = n }) ≡ changed (method_machine_of a)
    begin-machine =
        with_method a.method (rw work refl ∙ ap (λ (c : Change). c.machine) (sym (by_rule a.method (machine_of a) (TakeBegins (record { service = s; args = args; saved = saved })) taken-rule)))

    pub begin-kept : a.t < most_task_steps → compared ≡ handler_compares a.config saved → IsKept (record a { kernel = n })
    begin-kept open_yet c =
        kept-change a (record a { kernel = n }) k open_yet begin-machine
        (record { kinds = refl; work = rw work (refl, c); size = k.parts.size; vectors = k.parts.vectors; looks = k.parts.looks })
