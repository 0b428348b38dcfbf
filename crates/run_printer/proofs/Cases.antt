-- Lines that a run prints only with services or faults that few cases have.
use Rattle.std.proofs.Common.{◌≡◌, refl, [], ◌∷◌, Some, None, false, true, codes, replicate}
use Rattle.std.specs.Fmt.{digits}
use Rattle.kern_base.specs.declared.numbers.TaskId.{TaskId}
use Rattle.kern_base.specs.declared.numbers.ObjId.{ObjId}
use Rattle.kern_base.specs.declared.services.Service.TheVariants.{SemPost, SemPend, PendMulti, QPend, Unknown}
use Rattle.kern_base.specs.declared.kinds.Kind.TheVariants as kind
use Rattle.kern_base.specs.declared.errors.OsErr.TheVariants as err
use Rattle.rv32_exec.specs.declared.TrapKind.TheVariants.{Store}
use Rattle.app_image.specs.declared.records.TaskDef.{TaskDef}
use Rattle.app_image.specs.declared.records.ObjDef.{ObjDef}
use Rattle.app_image.specs.declared.settings.Config.{Config}
use Rattle.app_image.specs.Image.{ImageRecord}
use Rattle.machine_model.specs.declared.events.Event.{Event}
use Rattle.machine_model.specs.declared.events.What.{What}
use Rattle.machine_model.specs.declared.events.What.TheVariants.{Quiet, Call, Ret, Gone, St, Trap, Tick, Tmr, Fire, Irq, Post, ICall, Exit, Take, Look}
use Rattle.machine_model.specs.declared.events.How.TheVariants as how
use Rattle.inject_list.specs.declared.lists.Seen.TheVariants.{Obj, Ready}
use Rattle.machine_model.specs.Text.{event_text, end_line, event_history, end_history}

task : TaskDef
task = record { name = codes "a"; entry = 0; prio = 10; quanta = 0; qsize = 0; sp = 0x140000; line = 1 }

settings : Config
settings = record { isr_limit = 256; defer_size = 16; pool = 64; tmr_div = 10; round_robin = 1; quanta = 10; tick_prio = 1; tmr_prio = 62; tmr_sp = 0x140000; insert = 0 }

sem : ObjDef
sem = record { name = codes "s"; kind = kind.Sem; f = replicate 4 0; line = 2 }

-- an image with one task `a` and one semaphore `s`
image : ImageRecord
image = record { tasks = task ∷ []; objects = sem ∷ []; vectors = []; code = 0x6f ∷ []; ram = []; config = settings }

a : TaskId
a = record { 0 = 0 }

s : ObjId
s = record { 0 = 0 }

event : What → Event
event what = record { s = 17; t = 10; what = what; switch = None; marked = false }

-- the call of several objects that took something
multi : event_text image (event (Ret a PendMulti err.NoError 2 0 (Some (0, 0) ∷ None ∷ Some (77, 4) ∷ replicate 5 None) 3)) ≡
    codes "17 10 ret a OSPendMulti OS_ERR_NONE 2 tab 1:0:0 0 1:77:4\n"
unfolding digits task sem settings image a event
multi = refl

-- a message with its size
message : event_text image (event (Ret a QPend err.NoError 49 4 (replicate 8 None) 0)) ≡ codes "17 10 ret a OSQPend OS_ERR_NONE 49 4\n"
unfolding digits task sem settings image a event
message = refl

-- a number that no service has, and no arguments
unknown : event_text image (event (Call a (Unknown 77) (1 ∷ 2 ∷ 3 ∷ 4 ∷ []) 0)) ≡ codes "17 10 call a 77\n"
unfolding digits task sem settings image a event
unknown = refl

-- a store of the timer task, and a trap
store : event_text image (event (St 61 1048576 4 55)) ≡ codes "17 10 st tmr 1048576 4 55\n"
unfolding digits task sem settings image a event
store = refl

trap : event_text image (event (Trap a Store 12)) ≡ codes "17 10 trap a store 12\n"
unfolding digits task sem settings image a event
trap = refl

-- a switch behind nothing of its own, and the end
switch : event_text image (record { s = 16; t = 6; what = Quiet; switch = Some (record { 0 = 62 }, a); marked = false }) ≡ codes "16 6 sw idle a\n"
unfolding digits task sem settings image a event
switch = refl

-- a task that deleted itself
gone : event_text image (event (Gone a)) ≡ codes "17 10 gone a\n"
unfolding digits task sem settings image a s event
gone = refl

-- a store of a frame
frame_store : event_text image (event (St 67 1048576 4 7)) ≡ codes "17 10 st isr 3 1048576 4 7\n"
unfolding digits task sem settings image a s event
frame_store = refl

-- the counters of time, and a timer that fired
tick : event_text image (event (Tick 1)) ≡ codes "17 10 tick 1\n"
unfolding digits task sem settings image a s event
tick = refl

tmr : event_text image (event (Tmr 2)) ≡ codes "17 10 tmr 2\n"
unfolding digits task sem settings image a s event
tmr = refl

fire : event_text image (event (Fire s)) ≡ codes "17 10 fire s\n"
unfolding digits task sem settings image a s event
fire = refl

-- an interrupt, and what its frame does
entry : event_text image (event (Irq 3 5 true false)) ≡ codes "17 10 irq 3 5\n"
unfolding digits task sem settings image a s event
entry = refl

post : event_text image (event (Post 3 SemPost (0 ∷ 1 ∷ 0 ∷ 0 ∷ []) 2 err.NoError 1)) ≡ codes "17 10 post 3 OSSemPost 0 1 OS_ERR_NONE 1\n"
unfolding digits task sem settings image a s event
post = refl

refused : event_text image (event (ICall 3 SemPend err.PendIsr)) ≡ codes "17 10 icall 3 OSSemPend OS_ERR_PEND_ISR\n"
unfolding digits task sem settings image a s event
refused = refl

returned : event_text image (event (Exit 3 how.Ret)) ≡ codes "17 10 exit 3 ret\n"
unfolding digits task sem settings image a s event
returned = refl

limited : event_text image (event (Exit 3 how.Limit)) ≡ codes "17 10 exit 3 limit\n"
unfolding digits task sem settings image a s event
limited = refl

trapped : event_text image (event (Exit 3 (how.Trap Store 12))) ≡ codes "17 10 exit 3 trap store 12\n"
unfolding digits task sem settings image a s event
trapped = refl

-- a post that the handler performed
taken : event_text image (event (Take SemPost (0 ∷ 0 ∷ 0 ∷ 0 ∷ []) 2 err.NoError 1 false)) ≡ codes "17 10 take OSSemPost 0 0 OS_ERR_NONE 1\n"
unfolding digits task sem settings image a s event
taken = refl

-- looks at the tasks that wait for an object, and at a ready list with nobody in it
waiters : event_text image (event (Look (Obj s) (1 ∷ 0 ∷ replicate 62 0) 2 (0 ∷ 1 ∷ replicate 62 0) 2)) ≡ codes "17 10 look s fwd 1 0 back 0 1\n"
unfolding digits task sem settings image a s event
waiters = refl

nobody : event_text image (event (Look (Ready (record { 0 = 7 })) (replicate 64 0) 0 (replicate 64 0) 0)) ≡ codes "17 10 look 7 fwd back\n"
unfolding digits task sem settings image a s event
nobody = refl

-- a line of a history has no count of raw steps
history_entry : event_history image (event (Irq 3 5 true false)) ≡ codes "10 irq 3 5\n"
unfolding digits task sem settings image a s event
history_entry = refl

-- what a frame posts has no line there, but the switch has
history_post : event_history image (record { s = 17; t = 10; what = Post 3 SemPost (0 ∷ 0 ∷ 0 ∷ 0 ∷ []) 2 err.NoError 1; switch = Some (record { 0 = 62 }, a); marked = false }) ≡ codes "10 sw idle a\n"
unfolding digits task sem settings image a s event
history_post = refl

-- the last lines
last : end_line 12 8 ≡ codes "12 8 end\n"
unfolding digits
last = refl

last_history : end_history 8 ≡ codes "8 end\n"
unfolding digits
last_history = refl
