-- Small cases of every service and unit, computed. Task 0 calls, at priority 10 with task 1; task 2 has priority 20.
use Rattle.kern_model.proofs.Common.{call_of, ℕ, ◌≡◌, refl, [], ◌∷◌, ◌++◌, None, Some, true, false, replicate, List, Service, QPost, FlagPost, TaskSemPost, TaskQPost, TimeTick, SemPend, QPend, FlagPend, MutexPend, TaskSemPend, TaskQPend, PendMulti, MutexPost, SemPendAbort, QPendAbort, FlagPendAbort, MutexPendAbort, TaskSemPendAbort, TaskQPendAbort, SemDel, QDel, FlagDel, MutexDel, TimeDly, TimeDlyResume, TimeGet, TaskSuspend, TaskResume, TaskDel, RoundRobinYield, SchedLock, SchedUnlock, TmrStart, TmrStop, TmrRemainGet, TmrStateGet, TmrDel, TaskChangePrio, PendAbort, ObjectDeleted, MutexOwner, MutexNesting, Timeout, TaskSuspended, SchedLocked, QueueMax, PoolEmpty, Table, RoundRobinAlone, Answered, Waits, Gone, Quiet, Tick, TmrTick, Fire, TmrEnd, Waiting, No, Delay, Obj, TaskSem, TaskQ, Signal, Kernel, Task, Object, Content, Count, Messages, Bits, Held, Timed, Stopped, Running, TimerState, no_task, pick, task_at, object_at, list_at, prio_of, Effect, answer, answers, fine, message, plain_result, effect, unit_effect, post_request, serves_all}
use Rattle.kern_model.specs.Finish.{finished}
use Rattle.kern_model.proofs.Cases.Small.{a_task}

-- task 2 is ready, or waits in this way for object 0
abbrev ready_two : Task
ready_two = a_task 20

abbrev waits_two : Waiting → Task
waits_two w = record ready_two { waiting = w; objects = 0 ∷ [] }

abbrev holds : Content → List Object
holds c = record { content = c; deleted = false } ∷ []

abbrev world : Task → List ℕ → List Object → List ℕ → Kernel
world t twos objects waiters =
    record {
      tasks = a_task 10 ∷ a_task 10 ∷ t ∷ replicate 57 no_task ++ ((record (a_task 1) { waiting = Signal }) ∷ (record (a_task 62) { waiting = Signal }) ∷ a_task 63 ∷ no_task ∷ []);
      objects = objects;
      ready = replicate 10 [] ++ (0 ∷ 1 ∷ []) ∷ replicate 9 [] ++ twos ∷ replicate 42 [] ++ (62 ∷ []) ∷ [];
      pend = waiters ∷ [];
      matches = [];
      timer_matches = [];
      ticks = 100;
      timer_count = 50;
      tick_signals = 0;
      timer_signals = 0;
      tick_calls = 0;
      processing = false;
      in_callback = false;
      lock = 0;
      free = 2;
      settings = record { tasks = 3; round_robin = true; tmr_div = 1; pool = 3 };
    }

-- task 2 ready beside an object, and task 2 waiting for it
abbrev beside : Content → Kernel
beside c = world ready_two (2 ∷ []) (holds c) []

abbrev waiting_for : Waiting → Content → Kernel
waiting_for w c = world (waits_two w) [] (holds c) (2 ∷ [])

abbrev does : Service → List ℕ → Kernel → Effect
does s args k = effect serves_all (call_of (post_request s args) 0 10 10) k

-- queues
q_post_hands : let e = does QPost (0 ∷ 7 ∷ 4 ∷ 0 ∷ []) (waiting_for (Obj QPend) (Messages 2 [])) in (e.outcome ≡ answers (fine 0)) × ((task_at e.kernel 2).answered ≡ Some (plain_result QPend (message 7 4))) × (list_at e.kernel.ready 20 ≡ 2 ∷ []) × (list_at e.kernel.pend 0 ≡ [])
q_post_hands = (refl, refl, refl, refl)

q_post_stores_first : let e = does QPost (0 ∷ 7 ∷ 4 ∷ 1 ∷ []) (beside (Messages 2 ((1, 1) ∷ []))) in ((object_at e.kernel 0).content ≡ Messages 2 ((7, 4) ∷ (1, 1) ∷ [])) × (e.kernel.free ≡ 1)
q_post_stores_first = (refl, refl)

q_post_at_limit : (does QPost (0 ∷ 7 ∷ 4 ∷ 0 ∷ []) (beside (Messages 1 ((1, 1) ∷ [])))).outcome ≡ answers (answer QueueMax 0)
q_post_at_limit = refl

q_post_without_pool : (does QPost (0 ∷ 7 ∷ 4 ∷ 0 ∷ []) (record (beside (Messages 9 [])) { free = 0 })).outcome ≡ answers (answer PoolEmpty 0)
q_post_without_pool = refl

q_pend_takes : let e = does QPend (0 ∷ 0 ∷ 0 ∷ 0 ∷ []) (beside (Messages 2 ((1, 5) ∷ (2, 6) ∷ []))) in (e.outcome ≡ answers (message 1 5)) × ((object_at e.kernel 0).content ≡ Messages 2 ((2, 6) ∷ [])) × (e.kernel.free ≡ 3)
q_pend_takes = (refl, refl, refl)

-- flags: a wait for any of two bits that consumes is woken with its ready bits, and consumes them when it reads them
abbrev for_flags : Kernel
for_flags = world (record (waits_two (Obj FlagPend)) { mask = 3; opt = 5 }) [] (holds (Bits 8)) (2 ∷ [])

flag_post_wakes : let e = does FlagPost (0 ∷ 2 ∷ 0 ∷ 0 ∷ []) for_flags in (e.outcome ≡ answers (fine 10)) × ((task_at e.kernel 2).answered ≡ Some (plain_result FlagPend (fine 2))) × ((object_at e.kernel 0).content ≡ Bits 10) × ((object_at (finished 2 e.kernel) 0).content ≡ Bits 8)
flag_post_wakes = (refl, refl, refl, refl)

flag_pend_consumes : let e = does FlagPend (0 ∷ 3 ∷ 0 ∷ 4 ∷ []) (beside (Bits 7)) in (e.outcome ≡ answers (fine 3)) × ((object_at e.kernel 0).content ≡ Bits 4)
flag_pend_consumes = (refl, refl)

-- mutexes: a waiter lends its owner its priority, and the next owner is the first waiter
mutex_pend_owns : let e = does MutexPend (0 ∷ 0 ∷ 0 ∷ 0 ∷ []) (beside (Held None 0)) in (e.outcome ≡ answers (fine 1)) × ((object_at e.kernel 0).content ≡ Held (Some 0) 1)
mutex_pend_owns = (refl, refl)

mutex_pend_nests : (does MutexPend (0 ∷ 0 ∷ 0 ∷ 0 ∷ []) (beside (Held (Some 0) 1))).outcome ≡ answers (answer MutexOwner 2)
mutex_pend_nests = refl

mutex_pend_lends : let e = does MutexPend (0 ∷ 0 ∷ 0 ∷ 0 ∷ []) (beside (Held (Some 2) 1)) in (e.outcome ≡ Waits) × (prio_of e.kernel 2 ≡ 10) × (list_at e.kernel.ready 10 ≡ 2 ∷ 1 ∷ []) × (list_at e.kernel.pend 0 ≡ 0 ∷ [])
mutex_pend_lends = (refl, refl, refl, refl)

mutex_post_passes : let e = does MutexPost (0 ∷ 0 ∷ 0 ∷ 0 ∷ []) (waiting_for (Obj MutexPend) (Held (Some 0) 1)) in ((object_at e.kernel 0).content ≡ Held (Some 2) 1) × ((task_at e.kernel 2).answered ≡ Some (plain_result MutexPend (fine 1)))
mutex_post_passes = (refl, refl)

mutex_post_nested : (does MutexPost (0 ∷ 0 ∷ 0 ∷ 0 ∷ []) (beside (Held (Some 0) 3))).outcome ≡ answers (answer MutexNesting 2)
mutex_post_nested = refl

-- aborts and deletions
sem_abort : let e = does SemPendAbort (0 ∷ 0 ∷ 0 ∷ 0 ∷ []) (waiting_for (Obj SemPend) (Count 0)) in (e.outcome ≡ answers (fine 1)) × ((task_at e.kernel 2).answered ≡ Some (plain_result SemPend (answer PendAbort 0)))
sem_abort = (refl, refl)

q_abort : (does QPendAbort (0 ∷ 1 ∷ 0 ∷ 0 ∷ []) (waiting_for (Obj QPend) (Messages 1 []))).outcome ≡ answers (fine 1)
q_abort = refl

flag_abort : (task_at (does FlagPendAbort (0 ∷ 0 ∷ 0 ∷ 0 ∷ []) for_flags).kernel 2).answered ≡ Some (plain_result FlagPend (answer PendAbort 0))
flag_abort = refl

-- an abort takes the lent priority back
mutex_abort : let k = waiting_for (Obj MutexPend) (Held (Some 1) 1) in let e = does MutexPendAbort (0 ∷ 0 ∷ 0 ∷ 0 ∷ []) (record k { tasks = a_task 10 ∷ (record (a_task 10) { base = 30 }) ∷ (record (waits_two (Obj MutexPend)) { base = 10; prio = 10 }) ∷ replicate 57 no_task ++ (a_task 1 ∷ a_task 62 ∷ a_task 63 ∷ no_task ∷ []) }) in (prio_of e.kernel 1 ≡ 30) × (list_at e.kernel.ready 10 ≡ 0 ∷ 2 ∷ []) × (list_at e.kernel.ready 30 ≡ 1 ∷ [])
mutex_abort = (refl, refl, refl)

sem_del : let e = does SemDel (0 ∷ 1 ∷ 0 ∷ 0 ∷ []) (waiting_for (Obj SemPend) (Count 0)) in (e.outcome ≡ answers (fine 1)) × ((object_at e.kernel 0).deleted ≡ true) × ((task_at e.kernel 2).answered ≡ Some (plain_result SemPend (answer ObjectDeleted 0)))
sem_del = (refl, refl, refl)

q_del : let e = does QDel (0 ∷ 0 ∷ 0 ∷ 0 ∷ []) (record (beside (Messages 2 ((1, 1) ∷ []))) { free = 2 }) in (e.kernel.free ≡ 3) × ((object_at e.kernel 0).content ≡ Messages 2 [])
q_del = (refl, refl)

flag_del : (object_at (does FlagDel (0 ∷ 0 ∷ 0 ∷ 0 ∷ []) (beside (Bits 1))).kernel 0).deleted ≡ true
flag_del = refl

mutex_del : (does MutexDel (0 ∷ 1 ∷ 0 ∷ 0 ∷ []) (waiting_for (Obj MutexPend) (Held (Some 1) 1))).outcome ≡ answers (fine 1)
mutex_del = refl

-- a task's own semaphore and queue
abbrev waits_alone : Waiting → Kernel
waits_alone w = world (record ready_two { waiting = w }) [] [] []

task_sem_post_counts : (task_at (does TaskSemPost (2 ∷ 0 ∷ 0 ∷ 0 ∷ []) (world ready_two (2 ∷ []) [] [])).kernel 2).count ≡ 1
task_sem_post_counts = refl

task_sem_post_wakes : (task_at (does TaskSemPost (2 ∷ 0 ∷ 0 ∷ 0 ∷ []) (waits_alone TaskSem)).kernel 2).answered ≡ Some (plain_result TaskSemPend (fine 0))
task_sem_post_wakes = refl

task_q_post_hands : (task_at (does TaskQPost (2 ∷ 7 ∷ 4 ∷ 0 ∷ []) (waits_alone TaskQ)).kernel 2).answered ≡ Some (plain_result TaskQPend (message 7 4))
task_q_post_hands = refl

task_sem_pend_waits : let e = does TaskSemPend (5 ∷ 0 ∷ 0 ∷ 0 ∷ []) (waits_alone No) in (e.outcome ≡ Waits) × ((task_at e.kernel 0).waiting ≡ TaskSem) × (e.kernel.matches ≡ (0, 105) ∷ [])
task_sem_pend_waits = (refl, refl, refl)

task_q_pend_waits : (task_at (does TaskQPend (0 ∷ 0 ∷ 0 ∷ 0 ∷ []) (waits_alone No)).kernel 0).waiting ≡ TaskQ
task_q_pend_waits = refl

task_sem_abort : (does TaskSemPendAbort (2 ∷ 0 ∷ 0 ∷ 0 ∷ []) (waits_alone TaskSem)).outcome ≡ answers (fine 1)
task_sem_abort = refl

task_q_abort : (task_at (does TaskQPendAbort (2 ∷ 0 ∷ 0 ∷ 0 ∷ []) (waits_alone TaskQ)).kernel 2).answered ≡ Some (plain_result TaskQPend (answer PendAbort 0))
task_q_abort = refl

-- several objects: what is there is taken, and the entries that were taken are told by bits
abbrev several : List Object → List ℕ → Effect
several objects ids =
    effect serves_all (call_of (record { service = PendMulti; args = 1048576 ∷ 2 ∷ 0 ∷ 0 ∷ []; ids = ids ++ replicate 6 0; n_ids = 2; table = true }) 0 10 10) (record (world ready_two (2 ∷ []) objects []) { pend = [] ∷ [] ∷ [] })

multi_takes : let e = several (holds (Count 0) ++ holds (Messages 2 ((7, 4) ∷ []))) (0 ∷ 1 ∷ []) in (e.outcome ≡ Answered (fine 1) (Some (record { service = PendMulti; answer = fine 1; ready = 2; msgs = (0, 0) ∷ (7, 4) ∷ replicate 6 (0, 0); table = 1048576; n_ids = 2 }))) × (e.kernel.free ≡ 3)
multi_takes = (refl, refl)

multi_waits : let e = several (holds (Count 0) ++ holds (Messages 2 [])) (1 ∷ 0 ∷ []) in (e.outcome ≡ Waits) × (e.kernel.pend ≡ (0 ∷ []) ∷ (0 ∷ []) ∷ []) × ((task_at e.kernel 0).objects ≡ 1 ∷ 0 ∷ [])
multi_waits = (refl, refl, refl)

multi_twice : (several (holds (Count 1) ++ holds (Count 1)) (1 ∷ 1 ∷ [])).outcome ≡ answers (answer Table 0)
multi_twice = refl

-- time
time_dly : let e = does TimeDly (5 ∷ 0 ∷ 0 ∷ 0 ∷ []) (beside (Count 0)) in (e.outcome ≡ Waits) × (e.kernel.matches ≡ (0, 105) ∷ []) × ((task_at e.kernel 0).waiting ≡ Delay) × (pick e.kernel ≡ 1)
time_dly = (refl, refl, refl, refl)

time_dly_until : (does TimeDly (90 ∷ 1 ∷ 0 ∷ 0 ∷ []) (beside (Count 0))).kernel.matches ≡ (0, 90) ∷ []
time_dly_until = refl

time_dly_resume : (does TimeDlyResume (2 ∷ 0 ∷ 0 ∷ 0 ∷ []) (world (record ready_two { waiting = Delay; suspended = 1 }) [] [] [])).outcome ≡ answers (answer TaskSuspended 0)
time_dly_resume = refl

time_get : (does TimeGet (0 ∷ 0 ∷ 0 ∷ 0 ∷ []) (beside (Count 0))).outcome ≡ answers (fine 100)
time_get = refl

-- a tick signals both internal tasks, and with the last of a quantum the head of the list goes to its tail
time_tick : let k = beside (Count 0) in let e = does TimeTick [] (record k { tasks = (record (a_task 10) { quantum = 1 }) ∷ (record (a_task 10) { quantum = 0 }) ∷ ready_two ∷ replicate 57 no_task ++ ((record (a_task 1) { waiting = Signal }) ∷ (record (a_task 62) { waiting = Signal }) ∷ a_task 63 ∷ no_task ∷ []) }) in (e.kernel.tick_signals ≡ 1) × (e.kernel.timer_signals ≡ 1) × (list_at e.kernel.ready 1 ≡ 60 ∷ []) × (list_at e.kernel.ready 62 ≡ 61 ∷ []) × (list_at e.kernel.ready 10 ≡ 1 ∷ 0 ∷ []) × ((task_at e.kernel 1).quantum ≡ 10)
time_tick = (refl, refl, refl, refl, refl, refl)

-- tasks
suspend_self : let e = does TaskSuspend (4294967295 ∷ 0 ∷ 0 ∷ 0 ∷ []) (beside (Count 0)) in (e.outcome ≡ Waits) × (list_at e.kernel.ready 10 ≡ 1 ∷ []) × ((task_at e.kernel 0).answered ≡ Some (plain_result TaskSuspend (fine 0)))
suspend_self = (refl, refl, refl)

resume_other : let e = does TaskResume (2 ∷ 0 ∷ 0 ∷ 0 ∷ []) (world (record ready_two { suspended = 1 }) [] [] []) in (e.outcome ≡ answers (fine 0)) × (list_at e.kernel.ready 20 ≡ 2 ∷ [])
resume_other = (refl, refl)

delete_other : let e = does TaskDel (2 ∷ 0 ∷ 0 ∷ 0 ∷ []) (world (record (waits_two (Obj SemPend)) { messages = (1, 1) ∷ [] }) [] (holds (Count 0)) (2 ∷ [])) in (e.outcome ≡ answers (fine 0)) × (e.kernel.pend ≡ [] ∷ []) × (e.kernel.free ≡ 3) × ((task_at e.kernel 2).alive ≡ false)
delete_other = (refl, refl, refl, refl)

delete_self : (does TaskDel (4294967295 ∷ 0 ∷ 0 ∷ 0 ∷ []) (beside (Count 0))).outcome ≡ Gone
delete_self = refl

change_prio : let e = does TaskChangePrio (2 ∷ 5 ∷ 0 ∷ 0 ∷ []) (beside (Count 0)) in (pick e.kernel ≡ 2) × (prio_of e.kernel 2 ≡ 5) × (list_at e.kernel.ready 20 ≡ [])
change_prio = (refl, refl, refl)

-- round robin and the lock
yield : let e = does RoundRobinYield [] (beside (Count 0)) in (e.outcome ≡ answers (fine 0)) × (list_at e.kernel.ready 10 ≡ 1 ∷ 0 ∷ [])
yield = (refl, refl)

yield_alone : (effect serves_all (call_of (post_request RoundRobinYield []) 2 20 20) (beside (Count 0))).outcome ≡ answers (answer RoundRobinAlone 0)
yield_alone = refl

sched_lock : (does SchedLock [] (beside (Count 0))).outcome ≡ answers (fine 1)
sched_lock = refl

sched_unlock : (does SchedUnlock [] (record (beside (Count 0)) { lock = 2 })).outcome ≡ answers (answer SchedLocked 1)
sched_unlock = refl

-- timers
abbrev a_timer : TimerState → Content
a_timer s = Timed (record { periodic = true; state = s; delay = 3; period = 4; callback = Some 64; argument = 9 })

abbrev running : Kernel
running = record (beside (a_timer Running)) { timer_matches = (0, 52) ∷ [] }

tmr_start : let e = does TmrStart (0 ∷ []) (beside (a_timer Stopped)) in (e.kernel.timer_matches ≡ (0, 53) ∷ []) × ((object_at e.kernel 0).content ≡ a_timer Running)
tmr_start = (refl, refl)

tmr_stop : let e = does TmrStop (0 ∷ 0 ∷ []) running in (e.kernel.timer_matches ≡ []) × ((object_at e.kernel 0).content ≡ a_timer Stopped)
tmr_stop = (refl, refl)

tmr_remain : (does TmrRemainGet (0 ∷ []) running).outcome ≡ answers (fine 2)
tmr_remain = refl

tmr_state : (does TmrStateGet (0 ∷ []) running).outcome ≡ answers (fine 2)
tmr_state = refl

tmr_del : (object_at (does TmrDel (0 ∷ []) running).kernel 0).deleted ≡ true
tmr_del = refl

-- the units: a tick ends a delay and a wait with a timeout
tick_unit : let k = waiting_for (Obj SemPend) (Count 0) in let e = unit_effect 60 (record k { tasks = a_task 10 ∷ a_task 10 ∷ waits_two (Obj SemPend) ∷ replicate 57 no_task ++ (a_task 1 ∷ (record (a_task 62) { waiting = Signal }) ∷ a_task 63 ∷ no_task ∷ []); ready = replicate 1 [] ++ (60 ∷ []) ∷ replicate 8 [] ++ (0 ∷ 1 ∷ []) ∷ replicate 52 [] ++ (62 ∷ []) ∷ []; matches = (2, 101) ∷ []; tick_signals = 1 }) in (e.outcome ≡ Quiet (Tick 101)) × ((task_at e.kernel 2).answered ≡ Some (plain_result SemPend (answer Timeout 0))) × (e.kernel.matches ≡ []) × ((task_at e.kernel 60).waiting ≡ Signal) × (list_at e.kernel.ready 1 ≡ [])
tick_unit = (refl, refl, refl, refl, refl)

timer_counts : let e = unit_effect 61 (record running { timer_signals = 1 }) in (e.outcome ≡ Quiet (TmrTick 51)) × (e.kernel.lock ≡ 1) × (e.kernel.processing ≡ true)
timer_counts = (refl, refl, refl)

timer_fires : let e = unit_effect 61 (record running { timer_count = 52; lock = 1; processing = true }) in (e.outcome ≡ Quiet (Fire (record { 0 = 0 }))) × (e.kernel.timer_matches ≡ (0, 56) ∷ []) × (e.kernel.in_callback ≡ true)
timer_fires = (refl, refl, refl)

timer_ends : let e = unit_effect 61 (record running { lock = 1; processing = true }) in (e.outcome ≡ Quiet TmrEnd) × (e.kernel.lock ≡ 0) × ((task_at e.kernel 61).waiting ≡ Signal)
timer_ends = (refl, refl, refl)
