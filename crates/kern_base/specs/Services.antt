-- The table of services.
use Rattle.std.specs.Prelude.{ℕ, zero, suc, Bool, true, false, ◌||◌, List, [], ◌∷◌, codes, ◌==◌, nat_lt, slice_index, slice_index_or}
use Rattle.kern_base.specs.declared.services.Service.{Service}
use Rattle.kern_base.specs.declared.services.Service.TheVariants.{SemPost, QPost, FlagPost, TaskSemPost, TaskQPost, TimeTick, SemPend, QPend, FlagPend, MutexPend, TaskSemPend, TaskQPend, PendMulti, MutexPost, SemPendAbort, QPendAbort, FlagPendAbort, MutexPendAbort, TaskSemPendAbort, TaskQPendAbort, SemDel, QDel, FlagDel, MutexDel, TimeDly, TimeDlyResume, TimeGet, TaskSuspend, TaskResume, TaskDel, RoundRobinYield, SchedLock, SchedUnlock, TmrStart, TmrStop, TmrRemainGet, TmrStateGet, TmrDel, TaskChangePrio, Unknown}
use Rattle.kern_base.specs.declared.kinds.Kind.{Kind}
use Rattle.kern_base.specs.declared.kinds.Kind.TheVariants.{Sem, Queue, Flags, Mutex, OneShot, Periodic}
use Rattle.kern_base.specs.declared.errors.OsErr.{OsErr}
use Rattle.kern_base.specs.declared.errors.OsErr.TheVariants.{CallIsr, CallUnknown, DeleteIsr, PendAbortIsr, PendIsr, PostIsr, SchedLockIsr, SchedUnlockIsr, TaskChangePrioIsr, TaskDeleteIsr, TaskResumeIsr, TaskSuspendIsr, TimeDelayIsr, TimeDelayResumeIsr, TimerIsr, YieldIsr}

-- the services in the order of their numbers, from 1
abbrev pub services : List Service
services = SemPost ∷ QPost ∷ FlagPost ∷ TaskSemPost ∷ TaskQPost ∷ TimeTick ∷ SemPend ∷ QPend ∷ FlagPend ∷ MutexPend ∷ TaskSemPend ∷ TaskQPend ∷ PendMulti ∷ MutexPost ∷ SemPendAbort ∷ QPendAbort ∷ FlagPendAbort ∷ MutexPendAbort ∷ TaskSemPendAbort ∷ TaskQPendAbort ∷ SemDel ∷ QDel ∷ FlagDel ∷ MutexDel ∷ TimeDly ∷ TimeDlyResume ∷ TimeGet ∷ TaskSuspend ∷ TaskResume ∷ TaskDel ∷ RoundRobinYield ∷ SchedLock ∷ SchedUnlock ∷ TmrStart ∷ TmrStop ∷ TmrRemainGet ∷ TmrStateGet ∷ TmrDel ∷ TaskChangePrio ∷ []

-- the service of a number
abbrev pub service_of : ℕ → Service
service_of zero = Unknown 0
service_of (suc n) = slice_index_or services n (Unknown (suc n))

-- The options that a service names among its arguments: it has none, or the argument at a place is 0, is below a number, or is 0 or 2.
abbrev pub any_option : List ℕ → Bool
any_option args = true

abbrev pub zero_at : ℕ → List ℕ → Bool
zero_at i args = slice_index args i == 0

abbrev pub below_at : ℕ → ℕ → List ℕ → Bool
below_at i n args = nat_lt (slice_index args i) n

abbrev pub zero_or_two_at : ℕ → List ℕ → Bool
zero_or_two_at i args = (slice_index args i == 0) || (slice_index args i == 2)

-- An entry of the table: the service's number and its name in the book; how many arguments it has, in a0 up; the kinds that the
-- object in the first may have, or whether the first is the number of a task; which arguments have an option that it names; its
-- answer in interrupt code, whether interrupt code may use it after all, and whether it renews priorities.
pub record Entry : Type 0 where
  pub number : ℕ
  pub name : List ℕ
  pub arguments : ℕ
  pub kinds : List Kind
  pub task : Bool
  pub options : List ℕ → Bool
  pub interrupt_error : OsErr
  pub post : Bool
  pub renews : Bool

-- the table; a number that no service has has no name
abbrev pub entry_of : Service → Entry
entry_of SemPost = record { number = 1; name = codes "OSSemPost"; arguments = 2; kinds = Sem ∷ []; task = false; options = zero_or_two_at 1; interrupt_error = CallUnknown; post = true; renews = false }
entry_of QPost = record { number = 2; name = codes "OSQPost"; arguments = 4; kinds = Queue ∷ []; task = false; options = below_at 3 4; interrupt_error = CallUnknown; post = true; renews = false }
entry_of FlagPost = record { number = 3; name = codes "OSFlagPost"; arguments = 3; kinds = Flags ∷ []; task = false; options = below_at 2 2; interrupt_error = CallUnknown; post = true; renews = false }
entry_of TaskSemPost = record { number = 4; name = codes "OSTaskSemPost"; arguments = 2; kinds = []; task = true; options = zero_at 1; interrupt_error = CallUnknown; post = true; renews = false }
entry_of TaskQPost = record { number = 5; name = codes "OSTaskQPost"; arguments = 4; kinds = []; task = true; options = below_at 3 2; interrupt_error = CallUnknown; post = true; renews = false }
entry_of TimeTick = record { number = 6; name = codes "OSTimeTick"; arguments = 0; kinds = []; task = false; options = any_option; interrupt_error = CallUnknown; post = true; renews = false }
entry_of SemPend = record { number = 7; name = codes "OSSemPend"; arguments = 3; kinds = Sem ∷ []; task = false; options = below_at 2 2; interrupt_error = PendIsr; post = false; renews = false }
entry_of QPend = record { number = 8; name = codes "OSQPend"; arguments = 3; kinds = Queue ∷ []; task = false; options = below_at 2 2; interrupt_error = PendIsr; post = false; renews = false }
entry_of FlagPend = record { number = 9; name = codes "OSFlagPend"; arguments = 4; kinds = Flags ∷ []; task = false; options = below_at 3 16; interrupt_error = PendIsr; post = false; renews = false }
entry_of MutexPend = record { number = 10; name = codes "OSMutexPend"; arguments = 3; kinds = Mutex ∷ []; task = false; options = below_at 2 2; interrupt_error = PendIsr; post = false; renews = true }
entry_of TaskSemPend = record { number = 11; name = codes "OSTaskSemPend"; arguments = 2; kinds = []; task = false; options = below_at 1 2; interrupt_error = PendIsr; post = false; renews = false }
entry_of TaskQPend = record { number = 12; name = codes "OSTaskQPend"; arguments = 2; kinds = []; task = false; options = below_at 1 2; interrupt_error = PendIsr; post = false; renews = false }
entry_of PendMulti = record { number = 13; name = codes "OSPendMulti"; arguments = 4; kinds = []; task = false; options = below_at 3 2; interrupt_error = PendIsr; post = false; renews = false }
entry_of MutexPost = record { number = 14; name = codes "OSMutexPost"; arguments = 2; kinds = Mutex ∷ []; task = false; options = zero_at 1; interrupt_error = PostIsr; post = false; renews = true }
entry_of SemPendAbort = record { number = 15; name = codes "OSSemPendAbort"; arguments = 2; kinds = Sem ∷ []; task = false; options = below_at 1 2; interrupt_error = PendAbortIsr; post = false; renews = false }
entry_of QPendAbort = record { number = 16; name = codes "OSQPendAbort"; arguments = 2; kinds = Queue ∷ []; task = false; options = below_at 1 2; interrupt_error = PendAbortIsr; post = false; renews = false }
entry_of FlagPendAbort = record { number = 17; name = codes "OSFlagPendAbort"; arguments = 2; kinds = Flags ∷ []; task = false; options = below_at 1 2; interrupt_error = PendAbortIsr; post = false; renews = false }
entry_of MutexPendAbort = record { number = 18; name = codes "OSMutexPendAbort"; arguments = 2; kinds = Mutex ∷ []; task = false; options = below_at 1 2; interrupt_error = PendAbortIsr; post = false; renews = true }
entry_of TaskSemPendAbort = record { number = 19; name = codes "OSTaskSemPendAbort"; arguments = 2; kinds = []; task = true; options = zero_at 1; interrupt_error = PendAbortIsr; post = false; renews = false }
entry_of TaskQPendAbort = record { number = 20; name = codes "OSTaskQPendAbort"; arguments = 2; kinds = []; task = true; options = zero_at 1; interrupt_error = PendAbortIsr; post = false; renews = false }
entry_of SemDel = record { number = 21; name = codes "OSSemDel"; arguments = 2; kinds = Sem ∷ []; task = false; options = below_at 1 2; interrupt_error = DeleteIsr; post = false; renews = false }
entry_of QDel = record { number = 22; name = codes "OSQDel"; arguments = 2; kinds = Queue ∷ []; task = false; options = below_at 1 2; interrupt_error = DeleteIsr; post = false; renews = false }
entry_of FlagDel = record { number = 23; name = codes "OSFlagDel"; arguments = 2; kinds = Flags ∷ []; task = false; options = below_at 1 2; interrupt_error = DeleteIsr; post = false; renews = false }
entry_of MutexDel = record { number = 24; name = codes "OSMutexDel"; arguments = 2; kinds = Mutex ∷ []; task = false; options = below_at 1 2; interrupt_error = DeleteIsr; post = false; renews = true }
entry_of TimeDly = record { number = 25; name = codes "OSTimeDly"; arguments = 2; kinds = []; task = false; options = below_at 1 2; interrupt_error = TimeDelayIsr; post = false; renews = false }
entry_of TimeDlyResume = record { number = 26; name = codes "OSTimeDlyResume"; arguments = 1; kinds = []; task = true; options = any_option; interrupt_error = TimeDelayResumeIsr; post = false; renews = false }
entry_of TimeGet = record { number = 27; name = codes "OSTimeGet"; arguments = 0; kinds = []; task = false; options = any_option; interrupt_error = CallIsr; post = false; renews = false }
entry_of TaskSuspend = record { number = 28; name = codes "OSTaskSuspend"; arguments = 1; kinds = []; task = true; options = any_option; interrupt_error = TaskSuspendIsr; post = false; renews = false }
entry_of TaskResume = record { number = 29; name = codes "OSTaskResume"; arguments = 1; kinds = []; task = true; options = any_option; interrupt_error = TaskResumeIsr; post = false; renews = false }
entry_of TaskDel = record { number = 30; name = codes "OSTaskDel"; arguments = 1; kinds = []; task = true; options = any_option; interrupt_error = TaskDeleteIsr; post = false; renews = true }
entry_of RoundRobinYield = record { number = 31; name = codes "OSSchedRoundRobinYield"; arguments = 0; kinds = []; task = false; options = any_option; interrupt_error = YieldIsr; post = false; renews = false }
entry_of SchedLock = record { number = 32; name = codes "OSSchedLock"; arguments = 0; kinds = []; task = false; options = any_option; interrupt_error = SchedLockIsr; post = false; renews = false }
entry_of SchedUnlock = record { number = 33; name = codes "OSSchedUnlock"; arguments = 0; kinds = []; task = false; options = any_option; interrupt_error = SchedUnlockIsr; post = false; renews = false }
entry_of TmrStart = record { number = 34; name = codes "OSTmrStart"; arguments = 1; kinds = OneShot ∷ Periodic ∷ []; task = false; options = any_option; interrupt_error = TimerIsr; post = false; renews = false }
entry_of TmrStop = record { number = 35; name = codes "OSTmrStop"; arguments = 2; kinds = OneShot ∷ Periodic ∷ []; task = false; options = zero_at 1; interrupt_error = TimerIsr; post = false; renews = false }
entry_of TmrRemainGet = record { number = 36; name = codes "OSTmrRemainGet"; arguments = 1; kinds = OneShot ∷ Periodic ∷ []; task = false; options = any_option; interrupt_error = TimerIsr; post = false; renews = false }
entry_of TmrStateGet = record { number = 37; name = codes "OSTmrStateGet"; arguments = 1; kinds = OneShot ∷ Periodic ∷ []; task = false; options = any_option; interrupt_error = TimerIsr; post = false; renews = false }
entry_of TmrDel = record { number = 38; name = codes "OSTmrDel"; arguments = 1; kinds = OneShot ∷ Periodic ∷ []; task = false; options = any_option; interrupt_error = TimerIsr; post = false; renews = false }
entry_of TaskChangePrio = record { number = 39; name = codes "OSTaskChangePrio"; arguments = 2; kinds = []; task = true; options = any_option; interrupt_error = TaskChangePrioIsr; post = false; renews = true }
entry_of (Unknown number) = record { number = number; name = []; arguments = 0; kinds = []; task = false; options = any_option; interrupt_error = CallUnknown; post = false; renews = false }

-- its columns

abbrev pub service_number : Service → ℕ
service_number s = (entry_of s).number

abbrev pub service_name : Service → List ℕ
service_name s = (entry_of s).name

abbrev pub argument_count : Service → ℕ
argument_count s = (entry_of s).arguments

abbrev pub kinds_wanted : Service → List Kind
kinds_wanted s = (entry_of s).kinds

abbrev pub names_task : Service → Bool
names_task s = (entry_of s).task

abbrev pub names_option : Service → List ℕ → Bool
names_option s args = (entry_of s).options args

abbrev pub interrupt_error : Service → OsErr
interrupt_error s = (entry_of s).interrupt_error

-- the six services that interrupt code may use
abbrev pub is_post : Service → Bool
is_post s = (entry_of s).post

-- the services that renew priorities
abbrev pub renews : Service → Bool
renews s = (entry_of s).renews
