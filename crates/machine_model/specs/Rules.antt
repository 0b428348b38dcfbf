-- What happens next: the first rule that applies.
use Rattle.std.specs.Prelude.{ℕ, ◌+◌, Bool, true, false, not, ◌&&◌, List, [], ◌∷◌, Option, Some, None, if◌then◌else◌, ◌==◌, nat_le}
use Rattle.kern_base.specs.declared.numbers.TaskId.{TaskId}
use Rattle.kern_base.specs.declared.kinds.Method.{Method}
use Rattle.kern_base.specs.declared.kinds.Method.TheVariants.{Direct, Deferred}
use Rattle.kern_base.specs.declared.services.Service.{Service}
use Rattle.kern_model.specs.State.{task_at}
use Rattle.inject_list.specs.declared.lists.Look.{Look}
use Rattle.machine_model.specs.Queue.{Queued, front}
use Rattle.machine_model.specs.Frames.{FrameRecord}
use Rattle.machine_model.specs.Due.{Place, due}
use Rattle.machine_model.specs.Marks.{reads_result}
use Rattle.machine_model.specs.declared.events.Event.{Event}
use Rattle.machine_model.specs.declared.events.How.TheVariants as how
use Rattle.machine_model.specs.declared.events.What.TheVariants.{Quiet, Start}
use Rattle.machine_model.specs.Machine.{Machine, WholeStep, TakeOf}
use Rattle.machine_model.specs.Answers.{Change, task_id}
use Rattle.machine_model.specs.Settling.{is_free, none_waits}
use Rattle.machine_model.specs.Interrupts.{enters, leaves, frame_runs}
use Rattle.machine_model.specs.Steps.{advances, begins}
use Rattle.machine_model.specs.Acts.{acts}
use Rattle.machine_model.specs.Looks.{look_at, looks}

-- the rules in their order: the first that applies gives the next event
pub data Rule : Type 0 where
  -- no event has been
  Begins : Rule
  -- a look has this moment
  Looks : Look → Rule
  -- an interrupt is due
  Enters : Place → Rule
  -- the top frame has run as many instructions as it may; these stand below it
  FrameLimit : FrameRecord → List FrameRecord → Rule
  -- a frame stands: the top one, and those below it
  FrameRuns : FrameRecord → List FrameRecord → Rule
  -- a whole step is in hand
  MicroStep : WholeStep → Rule
  -- a post waits, and the scheduler is not locked
  TakeBegins : Queued → Rule
  -- else
  TaskActs : Rule

-- whether interrupts are held off: under the direct method, while a whole step is in hand
abbrev pub is_masked : Method → Option WholeStep → Bool
is_masked Direct in_hand = not (is_free in_hand)
is_masked Deferred in_hand = false

-- whether the handler may take a post
abbrev pub may_take : Machine → Bool
may_take m = (m.kernel.lock == 0) && not (none_waits m.later)

-- whether an interrupt whose moment is in task steps may enter
abbrev pub is_quiet : Machine → Bool
is_quiet m = is_free m.in_hand && not (may_take m)

-- with nothing in hand: a post that may be taken, or the current task
abbrev pub rule_of_post : Bool → Option Queued → Rule
rule_of_post true (Some q) = TakeBegins q
rule_of_post true None = TaskActs
rule_of_post false post = TaskActs

-- where no frame stands
abbrev pub rule_in_hand : Option WholeStep → Machine → Rule
rule_in_hand (Some w) m = MicroStep w
rule_in_hand None m = rule_of_post (m.kernel.lock == 0) (front m.later)

-- where no interrupt is due
abbrev pub rule_of_frames : List FrameRecord → Machine → Rule
rule_of_frames (f ∷ below) m = if nat_le m.config.isr_limit f.used then FrameLimit f below else FrameRuns f below
rule_of_frames [] m = rule_in_hand m.in_hand m

-- where no look has this moment
abbrev pub rule_of_due : Option Place → Machine → Rule
rule_of_due (Some p) m = Enters p
rule_of_due None m = rule_of_frames m.frames m

-- once the first event has been
abbrev pub rule_of_look : Method → Option Look → Machine → Rule
rule_of_look method (Some l) m = Looks l
rule_of_look method None m = rule_of_due (due (is_masked method m.in_hand) (is_quiet m) m.s m.t m.frames m.interrupts) m

-- the rule that applies
abbrev pub rule : Method → Machine → Rule
rule method m = if m.begun then rule_of_look method (look_at m.s m.looks) m else Begins

-- the raw steps of a rule
abbrev pub raw : Rule → ℕ
raw Begins = 0
raw (Looks l) = 0
raw (Enters p) = 0
raw (FrameLimit f below) = 0
raw (FrameRuns f below) = 1
raw (MicroStep w) = 1
raw (TakeBegins q) = 1
raw TaskActs = 1

-- whether a rule reads a register that has a mark
abbrev pub marks : (Service → Bool) → Rule → Machine → Bool
marks served (FrameRuns f below) m = reads_result served m.code f
marks served r m = false

-- the current task before and after, where it changed
abbrev pub switch_of : ℕ → ℕ → Option (TaskId × TaskId)
switch_of before now = if before == now then None else Some (task_id before, task_id now)

module _ (served : Service → Bool) (method : Method) where
  -- what a rule does, but for its raw steps
  abbrev pub done : Rule → Machine → Change
  done Begins m = record { what = Start (task_id m.current); machine = record m { begun = true } }
  done (Looks l) m = looks served l m
  done (Enters p) m = enters p m
  done (FrameLimit f below) m = leaves how.Limit f below m
  done (FrameRuns f below) m = frame_runs served method f below m
  done (MicroStep w) m = advances served w m
  done (TakeBegins q) m = record { what = Quiet; machine = begins (TakeOf q) m }
  done TaskActs m = acts served m.current (task_at m.kernel m.current).answered m

  -- the next event, and the machine after it
  abbrev pub next : Machine → Event × Machine
  next m =
      let r = rule method m in
      let c = done r m in
      let n = c.machine in
      (record { s = m.s; t = m.t; what = c.what; switch = switch_of m.current n.current; marked = marks served r m }, record n { s = m.s + raw r })
