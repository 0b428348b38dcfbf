-- The table of errors: number and name.
use Rattle.std.specs.Prelude.{ℕ, List, codes}
use Rattle.kern_base.specs.declared.errors.OsErr.{OsErr}
use Rattle.kern_base.specs.declared.errors.OsErr.TheVariants.{NoError, OptionInvalid, ObjectType, TaskInvalid, TaskNotExist, WouldBlock, SchedLocked, Timeout, PendAbort, ObjectDeleted, PendAbortNone, SemOverflow, QueueMax, PoolEmpty, MutexNotOwner, MutexOwner, MutexNesting, TaskWaiting, ZeroDelay, TaskNotDelayed, TaskResumeSelf, TaskNotSuspended, RoundRobinDisabled, RoundRobinAlone, LockOverflow, SchedNotLocked, TimerStopped, InterruptQueueFull, PendIsr, PendAbortIsr, PostIsr, DeleteIsr, TimeDelayIsr, TimeDelayResumeIsr, TaskSuspendIsr, TaskResumeIsr, TaskDeleteIsr, YieldIsr, SchedLockIsr, SchedUnlockIsr, TimerIsr, CallIsr, CallUnknown, Table, Depth, PendAbortSelf, TaskSuspended, TaskChangePrioIsr, PrioInvalid}

-- the number of an error
abbrev pub error_number : OsErr → ℕ
error_number NoError = 0
error_number OptionInvalid = 1
error_number ObjectType = 2
error_number TaskInvalid = 3
error_number TaskNotExist = 4
error_number WouldBlock = 5
error_number SchedLocked = 6
error_number Timeout = 7
error_number PendAbort = 8
error_number ObjectDeleted = 9
error_number PendAbortNone = 10
error_number SemOverflow = 11
error_number QueueMax = 12
error_number PoolEmpty = 13
error_number MutexNotOwner = 14
error_number MutexOwner = 15
error_number MutexNesting = 16
error_number TaskWaiting = 17
error_number ZeroDelay = 18
error_number TaskNotDelayed = 19
error_number TaskResumeSelf = 20
error_number TaskNotSuspended = 21
error_number RoundRobinDisabled = 22
error_number RoundRobinAlone = 23
error_number LockOverflow = 24
error_number SchedNotLocked = 25
error_number TimerStopped = 26
error_number InterruptQueueFull = 27
error_number PendIsr = 28
error_number PendAbortIsr = 29
error_number PostIsr = 30
error_number DeleteIsr = 31
error_number TimeDelayIsr = 32
error_number TimeDelayResumeIsr = 33
error_number TaskSuspendIsr = 34
error_number TaskResumeIsr = 35
error_number TaskDeleteIsr = 36
error_number YieldIsr = 37
error_number SchedLockIsr = 38
error_number SchedUnlockIsr = 39
error_number TimerIsr = 40
error_number CallIsr = 41
error_number CallUnknown = 42
error_number Table = 43
error_number Depth = 44
error_number PendAbortSelf = 45
error_number TaskSuspended = 46
error_number TaskChangePrioIsr = 47
error_number PrioInvalid = 48

-- its name
abbrev pub error_name : OsErr → List ℕ
error_name NoError = codes "OS_ERR_NONE"
error_name OptionInvalid = codes "OS_ERR_OPT_INVALID"
error_name ObjectType = codes "OS_ERR_OBJ_TYPE"
error_name TaskInvalid = codes "OS_ERR_TASK_INVALID"
error_name TaskNotExist = codes "OS_ERR_TASK_NOT_EXIST"
error_name WouldBlock = codes "OS_ERR_PEND_WOULD_BLOCK"
error_name SchedLocked = codes "OS_ERR_SCHED_LOCKED"
error_name Timeout = codes "OS_ERR_TIMEOUT"
error_name PendAbort = codes "OS_ERR_PEND_ABORT"
error_name ObjectDeleted = codes "OS_ERR_OBJ_DEL"
error_name PendAbortNone = codes "OS_ERR_PEND_ABORT_NONE"
error_name SemOverflow = codes "OS_ERR_SEM_OVF"
error_name QueueMax = codes "OS_ERR_Q_MAX"
error_name PoolEmpty = codes "OS_ERR_MSG_POOL_EMPTY"
error_name MutexNotOwner = codes "OS_ERR_MUTEX_NOT_OWNER"
error_name MutexOwner = codes "OS_ERR_MUTEX_OWNER"
error_name MutexNesting = codes "OS_ERR_MUTEX_NESTING"
error_name TaskWaiting = codes "OS_ERR_TASK_WAITING"
error_name ZeroDelay = codes "OS_ERR_TIME_ZERO_DLY"
error_name TaskNotDelayed = codes "OS_ERR_TASK_NOT_DLY"
error_name TaskResumeSelf = codes "OS_ERR_TASK_RESUME_SELF"
error_name TaskNotSuspended = codes "OS_ERR_TASK_NOT_SUSPENDED"
error_name RoundRobinDisabled = codes "OS_ERR_ROUND_ROBIN_DISABLED"
error_name RoundRobinAlone = codes "OS_ERR_ROUND_ROBIN_1"
error_name LockOverflow = codes "OS_ERR_LOCK_NESTING_OVF"
error_name SchedNotLocked = codes "OS_ERR_SCHED_NOT_LOCKED"
error_name TimerStopped = codes "OS_ERR_TMR_STOPPED"
error_name InterruptQueueFull = codes "OS_ERR_INT_Q_FULL"
error_name PendIsr = codes "OS_ERR_PEND_ISR"
error_name PendAbortIsr = codes "OS_ERR_PEND_ABORT_ISR"
error_name PostIsr = codes "OS_ERR_POST_ISR"
error_name DeleteIsr = codes "OS_ERR_DEL_ISR"
error_name TimeDelayIsr = codes "OS_ERR_TIME_DLY_ISR"
error_name TimeDelayResumeIsr = codes "OS_ERR_TIME_DLY_RESUME_ISR"
error_name TaskSuspendIsr = codes "OS_ERR_TASK_SUSPEND_ISR"
error_name TaskResumeIsr = codes "OS_ERR_TASK_RESUME_ISR"
error_name TaskDeleteIsr = codes "OS_ERR_TASK_DEL_ISR"
error_name YieldIsr = codes "OS_ERR_YIELD_ISR"
error_name SchedLockIsr = codes "OS_ERR_SCHED_LOCK_ISR"
error_name SchedUnlockIsr = codes "OS_ERR_SCHED_UNLOCK_ISR"
error_name TimerIsr = codes "OS_ERR_TMR_ISR"
error_name CallIsr = codes "ERR_CALL_ISR"
error_name CallUnknown = codes "ERR_CALL_UNKNOWN"
error_name Table = codes "ERR_TABLE"
error_name Depth = codes "ERR_DEPTH"
error_name PendAbortSelf = codes "OS_ERR_PEND_ABORT_SELF"
error_name TaskSuspended = codes "OS_ERR_TASK_SUSPENDED"
error_name TaskChangePrioIsr = codes "OS_ERR_TASK_CHANGE_PRIO_ISR"
error_name PrioInvalid = codes "OS_ERR_PRIO_INVALID"
