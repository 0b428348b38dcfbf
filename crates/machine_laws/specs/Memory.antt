-- What events change of the memory, and that none changes the code or the settings.
use Rattle.std.specs.Prelude.{◌≡◌, ℕ, Bool, List, take, length}
use Rattle.kern_base.specs.declared.kinds.Method.{Method}
use Rattle.kern_base.specs.declared.services.Service.{Service}
use Rattle.rv32_exec.specs.Memory.{IsMemory}
use Rattle.rv32_exec.specs.Changes.{HasStoredBytes, IsStored}
use Rattle.machine_model.specs.declared.events.What.{What}
use Rattle.machine_model.specs.declared.events.What.TheVariants.{Ret, St}
use Rattle.machine_model.specs.Machine.{Machine}
use Rattle.machine_model.specs.Answers.{with_entries}
use Rattle.machine_model.specs.Rules.{next}

-- the code and the settings are as they were, and the memory is as large
pub record HasSameCode (m n : Machine) : Type 0 where
  pub code : n.code ≡ m.code
  pub config : n.config ≡ m.config
  pub size : length n.memory ≡ length m.memory

-- No event changes the code or the settings.
abbrev pub CodeNeverChanges : Type 0
CodeNeverChanges = (served : Service → Bool) (method : Method) (m : Machine) → HasSameCode m (next served method m).1

-- The memory changed as the event tells: by a store, by the table of a call's answer, whose entries are told, or not at all.
abbrev pub ChangesMemory : What → List ℕ → List ℕ → Type 0
ChangesMemory (St who addr width value) before after = IsStored addr width value before after
ChangesMemory (Ret task service err value size tab n_tab) before after = (table : ℕ) × (after ≡ with_entries (take n_tab tab) table before)
ChangesMemory what before after = after ≡ before

-- The memory changes only as events tell.
abbrev pub MemoryChangesAsTold : Type 0
MemoryChangesAsTold = (served : Service → Bool) (method : Method) (m : Machine) → let e = next served method m in ChangesMemory e.0.what m.memory e.1.memory

-- An event that tells a store changes the bytes of its own width, and no other byte.
abbrev pub StoresChangeTheirOwnBytes : Type 0
StoresChangeTheirOwnBytes = (served : Service → Bool) (method : Method) (m : Machine) (who addr width value : ℕ) → IsMemory m.memory → (next served method m).0.what ≡ St who addr width value → HasStoredBytes addr width value m.memory (next served method m).1.memory
