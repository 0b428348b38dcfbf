-- Records inside a table.
use Rattle.std.proofs.Common.{◌≡◌, ◌<◌, ℕ, List, [], ◌∷◌, get_or, length, refl, sym, ap, ◌∙◌, map, subst}
use Rattle.std.specs.Prelude.{slice_set, slice_index_or}
use Rattle.std.proofs.lemmas.List.{get_or-map, map-set}
use Rattle.std.proofs.Math.Seq.{map-set_same}
use Rattle.rv32_exec.specs.Registers.{Registers, no_registers}
use Rattle.tcb_pool.specs.TaskTable.{TaskTable}
use Rattle.tcb_pool.specs.TaskView.{task_of, without_own}
use Rattle.tcb_pool.specs.declared.records.Tcb.{Tcb}

-- what records mean
abbrev pub table_in : List Tcb → TaskTable
table_in xs = record { tasks = map task_of xs; registers = map (λ t. t.regs) xs }

-- a record that differs in its registers alone
pub table-with_registers : (xs : List Tcb) (i : ℕ) (v d : Tcb) (old : TaskTable) → table_in xs ≡ old → task_of v ≡ task_of (get_or xs i d) → table_in (slice_set xs i v) ≡ record old { registers = slice_set old.registers i v.regs }
table-with_registers xs i v d old view same =
    subst (λ (o : TaskTable). table_in (slice_set xs i v) ≡ record o { registers = slice_set o.registers i v.regs }) view
    (ap (λ ts. let t : TaskTable = record { tasks = ts; registers = map (λ t. t.regs) (slice_set xs i v) } in t) (map-set_same task_of xs i v d same)
    ∙ ap (λ rs. let t : TaskTable = record { tasks = map task_of xs; registers = rs } in t) (map-set (λ (t : Tcb). t.regs) xs i v))

-- a record whose registers, and nothing else of it, are changed where they stand
pub table-registers : (xs : List Tcb) (i : ℕ) (v d : Tcb) (old : TaskTable) (f : Registers → Registers) → table_in xs ≡ old → i < length xs → task_of v ≡ task_of (slice_index_or xs i d) → v.regs ≡ f (slice_index_or xs i d).regs
    → table_in (slice_set xs i v) ≡ record old { registers = slice_set old.registers i (f (slice_index_or old.registers i no_registers)) }
table-registers xs i v d old f view inside same changed =
    let here : (slice_index_or xs i d).regs ≡ slice_index_or old.registers i no_registers =
    sym (get_or-map (λ (t : Tcb). t.regs) xs i d no_registers inside) ∙ ap (λ (t : TaskTable). slice_index_or t.registers i no_registers) view in
    table-with_registers xs i v d old view same
    ∙ ap (λ (r : Registers). record old { registers = slice_set old.registers i r }) (changed ∙ ap f here)

-- no record has a part in its task's own semaphore and queue
pub alone : (xs : List Tcb) → map without_own (map task_of xs) ≡ map task_of xs
alone [] = refl
alone (x ∷ xs) = ap (λ ts. task_of x ∷ ts) (alone xs)
