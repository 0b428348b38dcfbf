-- Small runs and what they print.
use Rattle.std.specs.Prelude.{ℕ, codes}
use Rattle.std.specs.Fmt.{digits}
use Rattle.std.proofs.Common.{◌≡◌, refl, List, [], ◌∷◌}
use Rattle.kern_base.specs.declared.kinds.Kind.TheVariants.{Sem}
use Rattle.kern_model.specs.Services.{cost, serves_all}
use Rattle.kern_base.specs.declared.kinds.Method.TheVariants.{Direct}
use Rattle.inject_list.specs.Lists.{no_injections}
use Rattle.rv32_isa.specs.Decoded.{decoded}
use Rattle.app_image.specs.declared.records.TaskDef.{TaskDef}
use Rattle.app_image.specs.declared.records.ObjDef.{ObjDef}
use Rattle.app_image.specs.declared.settings.Config.{Config}
use Rattle.app_image.specs.Image.{ImageRecord}
use Rattle.machine_model.specs.Run.{run_text}

-- a task with its name, entry, priority and stack pointer, and a semaphore with its name and count
abbrev task : List ℕ → ℕ → ℕ → ℕ → TaskDef
task name entry prio sp = record { name = name; entry = entry; prio = prio; quanta = 0; qsize = 0; sp = sp; line = 0 }

abbrev semaphore : List ℕ → ℕ → ObjDef
semaphore name count = record { name = name; kind = Sem; f = count ∷ 0 ∷ 0 ∷ 0 ∷ []; line = 0 }

abbrev settings : Config
settings = record { isr_limit = 256; defer_size = 16; pool = 64; tmr_div = 10; round_robin = 1; quanta = 10; tick_prio = 1; tmr_prio = 62; tmr_sp = 0x140000; insert = 0 }

-- tasks, objects, code and RAM, without a vector, and with the default settings
abbrev image_with : List TaskDef → List ObjDef → List ℕ → List ℕ → ImageRecord
image_with tasks objects code ram = record { tasks = tasks; objects = objects; vectors = []; code = code; ram = ram; config = settings }

-- one task posts and pends
abbrev post_and_pend : ImageRecord
post_and_pend = image_with ((task (codes "a") 0 10 0x140000) ∷ []) ((semaphore (codes "s") 0) ∷ []) (0x00000513 ∷ 0x00100893 ∷ 0x00000073 ∷ 0x00000513 ∷ 0x00700893 ∷ 0x00000073 ∷ 0xfe9ff06f ∷ []) []

one_task : run_text serves_all Direct post_and_pend no_injections 8 ≡
    codes "0 0 start a\n2 2 call a OSSemPost 0 0\n4 2 ret a OSSemPost OS_ERR_NONE 1\n7 5 call a OSSemPend 0 1 0\n9 5 ret a OSSemPend OS_ERR_NONE 0\n12 8 end\n"
unfolding digits cost decoded
one_task = refl

-- a task is woken and runs at once, since its priority is higher
abbrev two_tasks : ImageRecord
two_tasks = image_with ((task (codes "high") 0 5 0x140000) ∷ (task (codes "low") 24 20 0x13e000) ∷ []) ((semaphore (codes "s") 1) ∷ []) (0x00000513 ∷ 0x00500593 ∷ 0x00000613 ∷ 0x00700893 ∷ 0x00000073 ∷ 0xfedff06f ∷ 0x00000513 ∷ 0x00000593 ∷ 0x00100893 ∷ 0x00000073 ∷ 0x00000013 ∷ 0xfedff06f ∷ []) []

woken_task_runs : run_text serves_all Direct two_tasks no_injections 30 ≡
    codes "0 0 start high\n4 4 call high OSSemPend 0 5 0\n6 4 ret high OSSemPend OS_ERR_NONE 0\n12 10 call high OSSemPend 0 5 0\n18 10 wait high OSSemPend\n18 10 sw high low\n22 14 call low OSSemPost 0 0\n29 14 ret low OSSemPost OS_ERR_NONE 0\n29 14 sw low high\n30 15 ret high OSSemPend OS_ERR_NONE 0\n36 21 call high OSSemPend 0 5 0\n42 21 wait high OSSemPend\n42 21 sw high low\n48 27 call low OSSemPost 0 0\n55 27 ret low OSSemPost OS_ERR_NONE 0\n55 27 sw low high\n56 28 ret high OSSemPend OS_ERR_NONE 0\n58 30 end\n"
unfolding digits cost decoded
woken_task_runs = refl

-- a post wakes all waiters, and two refusals of an option
abbrev three_tasks : ImageRecord
three_tasks = image_with ((task (codes "a") 0 7 0x140000) ∷ (task (codes "b") 0 7 0x13e000) ∷ (task (codes "c") 24 30 0x13d000) ∷ []) ((semaphore (codes "s") 0) ∷ (semaphore (codes "u") 0) ∷ []) (0x00000513 ∷ 0x00000593 ∷ 0x00000613 ∷ 0x00700893 ∷ 0x00000073 ∷ 0xfedff06f ∷ 0x00000513 ∷ 0x00200593 ∷ 0x00100893 ∷ 0x00000073 ∷ 0x00100513 ∷ 0x00100613 ∷ 0x00700893 ∷ 0x00000073 ∷ 0x00100513 ∷ 0x00300593 ∷ 0x00100893 ∷ 0x00000073 ∷ 0xfd1ff06f ∷ []) []

all_wake : run_text serves_all Direct three_tasks no_injections 30 ≡
    codes "0 0 start a\n4 4 call a OSSemPend 0 0 0\n10 4 wait a OSSemPend\n10 4 sw a b\n15 9 call b OSSemPend 0 0 0\n22 9 wait b OSSemPend\n22 9 sw b c\n26 13 call c OSSemPost 0 2\n38 13 ret c OSSemPost OS_ERR_NONE 0\n38 13 sw c b\n39 14 ret b OSSemPend OS_ERR_NONE 0\n45 20 call b OSSemPend 0 0 0\n51 20 wait b OSSemPend\n51 20 sw b a\n52 21 ret a OSSemPend OS_ERR_NONE 0\n58 27 call a OSSemPend 0 0 0\n65 27 wait a OSSemPend\n65 27 sw a c\n68 30 end\n"
unfolding digits cost decoded
all_wake = refl

-- stores, a table that is refused, and tasks that trap
abbrev faults : ImageRecord
faults = image_with ((task (codes "a") 0 7 0x140000) ∷ (task (codes "b") 12 8 0x13e000) ∷ []) [] (0x00700293 ∷ 0x00532023 ∷ 0xff9ff06f ∷ 0x00100337 ∷ 0x00030313 ∷ 0x1ff00293 ∷ 0x005300a3 ∷ 0x00032403 ∷ 0x00d00893 ∷ 0x00000073 ∷ 0x00900513 ∷ 0x00800893 ∷ 0x00000073 ∷ 0x00040067 ∷ []) (0x01020304 ∷ [])

trap_and_store : run_text serves_all Direct faults no_injections 16 ≡
    codes "0 0 start a\n1 1 trap a store 4\n1 1 sw a b\n5 5 st b 1048577 1 255\n8 8 call b OSPendMulti 0 0 0 0\n10 8 ret b OSPendMulti ERR_TABLE 0\n13 11 call b OSQPend 9 0 0\n15 11 ret b OSQPend OS_ERR_OBJ_TYPE 0 0\n17 13 trap b fetch 16973572\n17 13 sw b idle\n20 16 end\n"
unfolding digits cost decoded
trap_and_store = refl

-- a run to no task step has no event
no_step : run_text serves_all Direct post_and_pend no_injections 0 ≡ codes "0 0 end\n"
unfolding digits cost decoded
no_step = refl
