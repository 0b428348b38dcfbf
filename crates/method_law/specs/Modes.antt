-- The three modes of a machine that runs by the deferred method, and the machine of the direct run in each.
use Rattle.std.specs.Prelude.{◌≡◌, ◌≤◌, ℕ, Bool, true, false, List, [], ◌∷◌, All, Option, Some, None, ◌==◌}
use Rattle.kern_base.specs.Services.{is_post}
use Rattle.kern_base.specs.declared.services.Service.{Service}
use Rattle.kern_model.specs.State.{Kernel, pick}
use Rattle.rv32_exec.specs.Registers.{Registers}
use Rattle.inject_list.specs.declared.lists.Look.{Look}
use Rattle.machine_model.specs.Queue.{Queued}
use Rattle.machine_model.specs.Frames.{FrameRecord}
use Rattle.machine_model.specs.Marks.{post_marks}
use Rattle.machine_model.specs.Machine.{Machine, Work, CallOf, UnitOf, TakeOf, WholeStep}
use Rattle.method_law.specs.Alike.{AgreeBut, has_mark}
use Rattle.method_law.specs.Relation.{all_performed}

-- the same machine at other raw steps, with other looks to come
abbrev pub at_step : ℕ → List Look → Machine → Machine
at_step s looks m = record m { s = s; looks = looks }

-- no frame stands and no post waits; this is in hand
abbrev pub task_level_machine : Bool → Option WholeStep → Machine → Machine
task_level_machine begun hand d = record d { frames = []; later = []; in_hand = hand; begun = begun }

-- one frame stands, nothing is in hand, and these posts wait
abbrev pub frame_machine : FrameRecord → List Queued → Machine → Machine
frame_machine f later d = record d { frames = f ∷ []; later = later; in_hand = None; begun = true }

-- no frame stands, and these posts wait
abbrev pub takes_machine : List Queued → Option WholeStep → Machine → Machine
takes_machine later hand d = record d { frames = []; later = later; in_hand = hand; begun = true }

-- the machine with this kernel, which has settled
abbrev pub settled_machine : Kernel → Machine → Machine
settled_machine k d = record d { kernel = k; frames = []; later = []; in_hand = None; begun = true; current = pick k }

-- a whole step is the call of a task or a unit, and no take
abbrev pub IsNoTake : Work → Type 0
IsNoTake (CallOf x r p) = Unit {0}
IsNoTake (UnitOf x) = Unit {0}
IsNoTake (TakeOf q) = ⊥

-- no take is in hand
abbrev pub HasNoTake : Option WholeStep → Type 0
HasNoTake None = Unit {0}
HasNoTake (Some w) = IsNoTake w.work

-- each of these is one of the posts
abbrev pub ArePosts : List Queued → Type 0
ArePosts later = All (λ q. is_post q.service ≡ true) later

-- A frame and these registers: they agree but for those that the frame has marked, and only a0 and a1 are.
pub record FrameAgrees (f : FrameRecord) (registers : Registers) : Type 0 where
  pub agree : AgreeBut f.marks f.registers registers
  pub marks : (r : ℕ) → has_mark post_marks r ≡ false → has_mark f.marks r ≡ false

-- What holds of a machine with a frame or with posts: the scheduler is not locked, and the run does not end there.
pub record IsOpen (n : ℕ) (later : List Queued) (d : Machine) : Type 0 where
  pub lock : d.kernel.lock ≡ 0
  pub posts : ArePosts later
  pub goes_on : (d.t == n) ≡ false

-- The machines of both runs to n task steps, the deferred one first. The direct one is never ahead in raw steps.
pub data Related (served : Service → Bool) (n : ℕ) : Machine → Machine → Type 0 where
  -- at task level they are the same
  task_level : (d : Machine) (begun : Bool) (hand : Option WholeStep) (s : ℕ) (looks : List Look) → HasNoTake hand → s ≤ d.s
      → Related served n (task_level_machine begun hand d) (at_step s looks (task_level_machine begun hand d))
  -- a frame stands: the direct kernel has the posts that wait, and registers of the frame may differ
  frame : (d : Machine) (f : FrameRecord) (registers : Registers) (later : List Queued) (s : ℕ) (looks : List Look)
      → FrameAgrees f registers → IsOpen n later d → s ≤ d.s
      → Related served n (frame_machine f later d)
      (at_step s looks (record (frame_machine (record f { registers = registers }) [] d) { kernel = all_performed served later d.kernel }))
  -- posts wait, and none is in hand: the direct machine has left the frame
  waits : (d : Machine) (q : Queued) (later : List Queued) (s : ℕ) (looks : List Look) → IsOpen n (q ∷ later) d → s ≤ d.s
      → Related served n (takes_machine (q ∷ later) None d) (at_step s looks (settled_machine (all_performed served (q ∷ later) d.kernel) d))
  -- the first post is in hand
  takes : (d : Machine) (q : Queued) (later : List Queued) (done s : ℕ) (looks : List Look) → IsOpen n (q ∷ later) d → s ≤ d.s
      → Related served n (takes_machine (q ∷ later) (Some (record { work = TakeOf q; done = done })) d)
      (at_step s looks (settled_machine (all_performed served (q ∷ later) d.kernel) d))
