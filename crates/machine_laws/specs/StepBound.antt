-- How many raw steps a run takes: each task step and each take takes at most a whole step, and each instruction of a frame
-- one more.
use Rattle.std.specs.Prelude.{◌≤◌, ◌<◌, ℕ, ◌+◌, ◌*◌, ◌^◌, Bool, true, false, List, length, map}
use Rattle.std.specs.List.{count_by}
use Rattle.kern_base.specs.declared.kinds.Method.{Method}
use Rattle.kern_base.specs.declared.services.Service.{Service}
use Rattle.app_image.specs.Image.{ImageRecord, IsValidImage}
use Rattle.inject_list.specs.Lists.{ListRecord, IsValidList, last_moment}
use Rattle.machine_model.specs.Machine.{Machine}
use Rattle.machine_model.specs.Bound.{events_left, whole_step_events}
use Rattle.machine_model.specs.Rules.{Rule, Enters, FrameRuns, TakeBegins, rule, next}
use Rattle.machine_model.specs.Run.{machines, run}
use Rattle.app_image.specs.Layout.{HasWords}
use Rattle.machine_laws.specs.Valid.{IsValidMachine}

-- the rules of the events of a run, in order: those of its machines
abbrev pub rules_of : (Service → Bool) → Method → ImageRecord → ListRecord → ℕ → List Rule
rules_of served method image list n = map (rule method) (machines served method image list n)

-- a take begins
abbrev pub is_take : Rule → Bool
is_take (TakeBegins q) = true
is_take r = false

-- a frame runs an instruction
abbrev pub is_instruction : Rule → Bool
is_instruction (FrameRuns f below) = true
is_instruction r = false

-- an interrupt enters
abbrev pub is_entry : Rule → Bool
is_entry (Enters p) = true
is_entry r = false

-- The counts of a run: its raw steps are bounded by its task steps, its takes and the instructions of its frames; each entry
-- lets in at most as many instructions as the settings allow; no more interrupts enter than the list has; and no more posts
-- are taken than instructions were run.
pub record IsBounded (raw n takes instructions entries limit injections : ℕ) : Type 0 where
  pub steps : raw ≤ whole_step_events * (n + takes) + instructions
  pub frames : instructions ≤ entries * limit
  pub list : entries ≤ injections
  pub queue : takes ≤ instructions

-- Every run of a valid image with a valid list is bounded so.
abbrev pub RawStepsAreBounded : Type 0
RawStepsAreBounded = (served : Service → Bool) (method : Method) (image : ImageRecord) (list : ListRecord) (n : ℕ) → IsValidImage image → HasWords image → IsValidList image list → let rules = rules_of served method image list n in IsBounded (run served method image list n).last.s n (count_by is_take rules) (count_by is_instruction rules) (count_by is_entry rules) image.config.isr_limit (length list.injections)

-- The raw steps and the events that are left never rise together.
abbrev pub NothingIsAdded : Type 0
NothingIsAdded = (served : Service → Bool) (method : Method) (n : ℕ) (m : Machine) → IsValidMachine served method m → m.t < n → (next served method m).1.s + events_left n (next served method m).1 ≤ m.s + events_left n m

-- So a run to at most 1,000,000 task steps takes fewer than 2 ^ 41 raw steps.
abbrev pub RawStepsAreFew : Type 0
RawStepsAreFew = (served : Service → Bool) (method : Method) (image : ImageRecord) (list : ListRecord) (n : ℕ) → IsValidImage image → HasWords image → IsValidList image list → n ≤ last_moment → (run served method image list n).last.s < 2 ^ 41
