-- The table of the rules: where each of them applies.
use Rattle.std.specs.Prelude.{◌≡◌, ◌<◌, ◌≤◌, true, false, List, [], ◌∷◌, Option, Some, None}
use Rattle.kern_base.specs.declared.kinds.Method.{Method}
use Rattle.inject_list.specs.declared.lists.Look.{Look}
use Rattle.machine_model.specs.Queue.{front}
use Rattle.machine_model.specs.Frames.{FrameRecord}
use Rattle.machine_model.specs.Due.{Place, due}
use Rattle.machine_model.specs.Machine.{Machine, WholeStep}
use Rattle.machine_model.specs.Looks.{look_at}
use Rattle.machine_model.specs.Rules.{Rule, Begins, Looks, Enters, FrameLimit, FrameRuns, MicroStep, TakeBegins, TaskActs, rule, is_masked, is_quiet}

-- a look has this moment
pub record ALookIsHere (l : Look) (m : Machine) : Type 0 where
  pub begun : m.begun ≡ true
  pub look : look_at m.s m.looks ≡ Some l

-- an interrupt is due, and no look has this moment
pub record AnInterruptIsDue (method : Method) (p : Place) (m : Machine) : Type 0 where
  pub begun : m.begun ≡ true
  pub no_look : look_at m.s m.looks ≡ None
  pub due : due (is_masked method m.in_hand) (is_quiet m) m.s m.t m.frames m.interrupts ≡ Some p

-- no look has this moment, and no interrupt is due
pub record NothingComes (method : Method) (m : Machine) : Type 0 where
  pub begun : m.begun ≡ true
  pub no_look : look_at m.s m.looks ≡ None
  pub none_due : due (is_masked method m.in_hand) (is_quiet m) m.s m.t m.frames m.interrupts ≡ None

-- these frames stand, the first on top
pub record FramesStand (method : Method) (f : FrameRecord) (below : List FrameRecord) (m : Machine) : Type 0 where
  pub comes : NothingComes method m
  pub frames : m.frames ≡ f ∷ below

-- no frame stands
pub record NoFrameStands (method : Method) (hand : Option WholeStep) (m : Machine) : Type 0 where
  pub comes : NothingComes method m
  pub frames : m.frames ≡ []
  pub in_hand : m.in_hand ≡ hand

-- where each rule applies
abbrev pub Applies : Method → Rule → Machine → Type 0
Applies method Begins m = m.begun ≡ false
Applies method (Looks l) m = ALookIsHere l m
Applies method (Enters p) m = AnInterruptIsDue method p m
Applies method (FrameLimit f below) m = FramesStand method f below m × m.config.isr_limit ≤ f.used
Applies method (FrameRuns f below) m = FramesStand method f below m × f.used < m.config.isr_limit
Applies method (MicroStep w) m = NoFrameStands method (Some w) m
Applies method (TakeBegins q) m = NoFrameStands method None m × m.kernel.lock ≡ 0 × front m.later ≡ Some q
Applies method TaskActs m = NoFrameStands method None m × (m.kernel.lock ≡ 0 → m.later ≡ [])

-- The rule that is chosen applies.
abbrev pub TheChosenRuleApplies : Type 0
TheChosenRuleApplies = (method : Method) (m : Machine) → Applies method (rule method m) m
