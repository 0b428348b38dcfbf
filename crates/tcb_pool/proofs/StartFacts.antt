-- The tasks at the start.
use Rattle.std.proofs.Common.{◌≡◌, ℕ, zero, suc, refl, ◌-◌, ◌≤◌, List, [], ◌∷◌, ◌++◌, length, map, sym, ap, ◌∙◌, append_assoc}
use Rattle.std.proofs.lemmas.List.{map-append}
use Rattle.std.proofs.lemmas.Simd.{map-map}
use Rattle.std.specs.Prelude.{replicate}
use Rattle.kern_base.specs.declared.outcomes.Waiting.TheVariants.{No, Signal}
use Rattle.kern_model.specs.State.{Task, no_task}
use Rattle.rv32_exec.specs.Registers.{Registers, no_registers}
use Rattle.app_image.specs.Image.{ImageRecord}
use Rattle.app_image.specs.declared.records.TaskDef.{TaskDef}
use Rattle.app_image.specs.declared.settings.Config.{Config}
use Rattle.kern_model.specs.Start.{start_tasks, living_task, application_task, internal_tasks}
use Rattle.machine_model.specs.Start.{start_registers, entry_registers}
use Rattle.tcb_pool.specs.TaskView.{without_own}
use Rattle.tcb_pool.proofs.PlaceFacts.{replicate-four}

-- numbers without a task have no objects of their own
without-blanks : (n : ℕ) → map without_own (replicate n no_task) ≡ replicate n no_task
without-blanks zero = refl
without-blanks (suc n) = ap (λ l. no_task ∷ l) (without-blanks n)

-- the tasks at the start, without their own semaphores and queues
start-without : (c : Config) (ds : List TaskDef) → map without_own (map (application_task c.quanta) ds ++ replicate (60 - length ds) no_task ++ internal_tasks c)
    ≡ map (λ d. without_own (application_task c.quanta d)) ds ++ replicate (60 - length ds) no_task ++ internal_tasks c
start-without c ds =
    let front = map (application_task c.quanta) ds in
    let blanks = replicate (60 - length ds) no_task in
    map-append without_own (front ++ blanks) (internal_tasks c)
    ∙ ap (λ l. l ++ internal_tasks c)
    (map-append without_own front blanks
    ∙ ap (λ l. l ++ map without_own blanks) (map-map without_own (application_task c.quanta) ds)
    ∙ ap (λ l. map (λ d. without_own (application_task c.quanta d)) ds ++ l) (without-blanks (60 - length ds)))

pub tasks-started : (i : ImageRecord) (c : Config) (ds : List TaskDef) (ts : List Task) (b x y z : Task) → ts ≡ map (λ d. without_own (application_task c.quanta d)) ds ++ replicate (60 - length ds) b ++ (x ∷ y ∷ z ∷ b ∷ []) → ds ≡ i.tasks → c ≡ i.config → b ≡ no_task → x ≡ living_task c.tick_prio c.quanta 0 Signal → y ≡ living_task c.tmr_prio c.quanta 0 Signal → z ≡ living_task 63 c.quanta 0 No → ts ≡ map without_own (start_tasks i)
tasks-started i c ds ts b x y z e d s eb ex ey ez =
    let all : ts ≡ map (λ d. without_own (application_task c.quanta d)) ds ++ replicate (60 - length ds) no_task ++ internal_tasks c = cc in
    all ∙ sym (start-without c ds) ∙ ap (map without_own) (let same : map (application_task c.quanta) ds ++ replicate (60 - length ds) no_task ++ internal_tasks c ≡ start_tasks i = cc in same)

pub registers-started : (i : ImageRecord) (ds : List TaskDef) (ts : List Registers) (b x y z : Registers) → length ds ≤ 60 → ts ≡ map entry_registers ds ++ replicate (60 - length ds) b ++ (x ∷ y ∷ z ∷ b ∷ []) → ds ≡ i.tasks → b ≡ no_registers → x ≡ no_registers → y ≡ no_registers → z ≡ no_registers → ts ≡ start_registers i
registers-started i ds ts b x y z h e d eb ex ey ez =
    let all : ts ≡ map entry_registers ds ++ replicate (60 - length ds) no_registers ++ (no_registers ∷ no_registers ∷ no_registers ∷ no_registers ∷ []) = cc in
    all
    ∙ append_assoc (map entry_registers ds) (replicate (60 - length ds) no_registers) (no_registers ∷ no_registers ∷ no_registers ∷ no_registers ∷ [])
    ∙ ap (λ l. map entry_registers ds ++ l) (replicate-four (length ds) no_registers h)
    ∙ ap (λ l. map entry_registers l ++ replicate (64 - length l) no_registers) d
