-- What a trap changes, and what interrupt code changes: the statements of the laws.
use Rattle.std.specs.Prelude.{◌≡◌, ◌⊎◌, ℕ, Bool, List, [], ◌∷◌, ◌++◌}
use Rattle.kern_base.specs.declared.kinds.Method.{Method}
use Rattle.kern_base.specs.declared.kinds.Method.TheVariants.{Deferred}
use Rattle.kern_base.specs.declared.numbers.TaskId.{TaskId}
use Rattle.kern_base.specs.declared.services.Service.{Service}
use Rattle.rv32_exec.specs.Registers.{Registers}
use Rattle.rv32_exec.specs.Exec.{exec}
use Rattle.rv32_exec.specs.Changes.{IsUntouched}
use Rattle.rv32_exec.specs.declared.TrapKind.{TrapKind}
use Rattle.rv32_exec.specs.declared.Stepped.TheVariants.{Trap}
use Rattle.machine_model.specs.Queue.{Queued}
use Rattle.machine_model.specs.declared.events.How.{How}
use Rattle.machine_model.specs.declared.events.What.TheVariants.{Trap as TrapLine, Exit}
use Rattle.machine_model.specs.Machine.{Machine}
use Rattle.machine_model.specs.Rules.{Rule, Enters, FrameLimit, FrameRuns, rule, next}

-- An instruction that traps changes nothing, and the trap names its address.
abbrev pub TrapChangesNothing : Type 0
TrapChangesNothing = (code : List ℕ) (regs : Registers) (memory : List ℕ) (kind : TrapKind) (pc : ℕ) → (exec code regs memory).did ≡ Trap kind pc → IsUntouched regs (exec code regs memory).registers memory (exec code regs memory).memory pc

-- the registers of all tasks and the memory are as they were
pub record HasSameWords (m n : Machine) : Type 0 where
  pub registers : n.registers ≡ m.registers
  pub memory : n.memory ≡ m.memory

-- An event that tells of a task's trap, or of a callback's, leaves the registers of all tasks and the memory alone.
abbrev pub TaskTrapKeepsAll : Type 0
TaskTrapKeepsAll = (served : Service → Bool) (method : Method) (m : Machine) (x : TaskId) (kind : TrapKind) (pc : ℕ) → (next served method m).0.what ≡ TrapLine x kind pc → HasSameWords m (next served method m).1

-- The kernel, the tasks' registers, the whole step in hand, the looks, the task steps, the code and the settings are as they
-- were.
pub record IsIsolated (m n : Machine) : Type 0 where
  pub kernel : n.kernel ≡ m.kernel
  pub registers : n.registers ≡ m.registers
  pub in_hand : n.in_hand ≡ m.in_hand
  pub looks : n.looks ≡ m.looks
  pub begun : n.begun ≡ m.begun
  pub t : n.t ≡ m.t
  pub code : n.code ≡ m.code
  pub config : n.config ≡ m.config

-- the queue is as it was, or has one post more, as its last
abbrev pub HasAtMostOneMore : List Queued → List Queued → Type 0
HasAtMostOneMore old new = (new ≡ old) ⊎ (q : Queued) × (new ≡ old ++ q ∷ [])

-- the rules of interrupt code: the entry of an interrupt, an instruction of a frame, its leaving at the limit
abbrev pub IsInterruptCode : Rule → Type 0
IsInterruptCode (Enters p) = Unit {0}
IsInterruptCode (FrameLimit f below) = Unit {0}
IsInterruptCode (FrameRuns f below) = Unit {0}
IsInterruptCode r = ⊥

-- Under the deferred method interrupt code changes nothing of these, and its posts only join the queue.
abbrev pub InterruptCodeIsIsolated : Type 0
InterruptCodeIsIsolated = (served : Service → Bool) (m : Machine) → IsInterruptCode (rule Deferred m) → IsIsolated m (next served Deferred m).1 × HasAtMostOneMore m.later (next served Deferred m).1.later

-- the entry of an interrupt
abbrev pub IsEntry : Rule → Type 0
IsEntry (Enters p) = Unit {0}
IsEntry r = ⊥

-- Under both methods the entry of an interrupt changes nothing of these, and no memory, no queued post and no current task.
pub record IsEntryAlone (m n : Machine) : Type 0 where
  pub isolated : IsIsolated m n
  pub memory : n.memory ≡ m.memory
  pub later : n.later ≡ m.later
  pub current : n.current ≡ m.current

abbrev pub EntryIsIsolated : Type 0
EntryIsIsolated = (served : Service → Bool) (method : Method) (m : Machine) → IsEntry (rule method m) → IsEntryAlone m (next served method m).1

-- A frame that leaves, by its return, at its limit or by a trap, changes nothing of these, and no memory and no queued post.
pub record IsLeavingAlone (m n : Machine) : Type 0 where
  pub isolated : IsIsolated m n
  pub memory : n.memory ≡ m.memory
  pub later : n.later ≡ m.later

abbrev pub FrameExitKeepsAll : Type 0
FrameExitKeepsAll = (served : Service → Bool) (method : Method) (m : Machine) (vector : ℕ) (how : How) → (next served method m).0.what ≡ Exit vector how → IsLeavingAlone m (next served method m).1
