-- The services that this program serves: any other counts as an unknown number.
use Rattle.std.specs.Prelude.{Bool, true, false}
use Rattle.kern_base.specs.declared.services.Service.{Service}
use Rattle.kern_base.specs.declared.services.Service.TheVariants.{SemPost, QPost, FlagPost, TaskSemPost, TaskQPost, SemPend, QPend, FlagPend, TaskSemPend, TaskQPend, SchedLock, SchedUnlock, TimeGet, TimeDly, TimeDlyResume, SemPendAbort, QPendAbort, FlagPendAbort, TaskSemPendAbort, TaskQPendAbort, SemDel, QDel, FlagDel, TaskSuspend, TaskResume, TimeTick, RoundRobinYield, TmrStart, TmrStop, TmrRemainGet, TmrStateGet, TmrDel}

abbrev pub program_serves : Service → Bool
program_serves SemPost = true
program_serves QPost = true
program_serves FlagPost = true
program_serves TaskSemPost = true
program_serves TaskQPost = true
program_serves SemPend = true
program_serves QPend = true
program_serves FlagPend = true
program_serves TaskSemPend = true
program_serves TaskQPend = true
program_serves SchedLock = true
program_serves SchedUnlock = true
program_serves TimeGet = true
program_serves TimeDly = true
program_serves TimeDlyResume = true
program_serves SemPendAbort = true
program_serves QPendAbort = true
program_serves FlagPendAbort = true
program_serves TaskSemPendAbort = true
program_serves TaskQPendAbort = true
program_serves SemDel = true
program_serves QDel = true
program_serves FlagDel = true
program_serves TaskSuspend = true
program_serves TaskResume = true
program_serves TimeTick = true
program_serves RoundRobinYield = true
program_serves TmrStart = true
program_serves TmrStop = true
program_serves TmrRemainGet = true
program_serves TmrStateGet = true
program_serves TmrDel = true
program_serves _ = false
