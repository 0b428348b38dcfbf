-- The words that most proofs of the kernel cite, passed on from one place.
pub use Rattle.std.proofs.Common.{Bool, List, None, Option, Some, [], add-one, ap, append_assoc, arith, bit_and, bit_or, cond, drop, false, get_or, inl, inr, length, length-append, map, mul-le-mul, not, pow-suc, refl, replicate, subst, suc, sym, take, true, zero, ℕ, ◌&&◌, ◌*◌, ◌++◌, ◌+◌, ◌<◌, ◌^◌, ◌||◌, ◌∙◌, ◌∷◌, ◌≡◌, ◌≢◌, ◌≤◌, ◌⊎◌}
pub use Rattle.std.specs.Prelude.{All, filter, if◌then◌else◌, insert, min, nat_le, nat_lt, slice_get, slice_index, slice_index_or, slice_set, take_while, ◌%◌, ◌-◌, ◌==◌}
pub use Rattle.kern_base.specs.Checks.{caller_number, is_one_of, is_post, kind_number, kinds_wanted, names_option, names_task, object_error, static_error, target_error, task_error}
pub use Rattle.kern_base.specs.declared.errors.OsErr.{OsErr}
pub use Rattle.kern_base.specs.declared.errors.OsErr.TheVariants.{CallUnknown, Depth, LockOverflow, MutexNesting, MutexNotOwner, MutexOwner, NoError, ObjectDeleted, ObjectType, OptionInvalid, PendAbort, PendAbortSelf, PoolEmpty, PrioInvalid, QueueMax, RoundRobinAlone, RoundRobinDisabled, SchedLocked, SchedNotLocked, SemOverflow, Table, TaskInvalid, TaskNotExist, TaskResumeSelf, TaskSuspended, Timeout, WouldBlock}
pub use Rattle.kern_base.specs.declared.kinds.Kind.{Kind}
pub use Rattle.kern_base.specs.declared.kinds.Kind.TheVariants.{Flags, Mutex, OneShot, Periodic, Queue, Sem}
pub use Rattle.kern_base.specs.declared.outcomes.Answer.{Answer}
pub use Rattle.kern_base.specs.declared.outcomes.Finished.{Finished}
pub use Rattle.kern_base.specs.declared.outcomes.Outcome.{Outcome}
pub use Rattle.kern_base.specs.declared.outcomes.Outcome.TheVariants.{Answered, Gone, Quiet, Waits}
pub use Rattle.kern_base.specs.declared.outcomes.UnitEnd.TheVariants.{Fire, Tick, TmrEnd, TmrTick}
pub use Rattle.kern_base.specs.declared.outcomes.Waiting.{Waiting}
pub use Rattle.kern_base.specs.declared.outcomes.Waiting.TheVariants.{Delay, Multi, No, Obj, Signal, TaskQ, TaskSem}
pub use Rattle.kern_base.specs.declared.requests.Request.{Request}
pub use Rattle.kern_base.specs.declared.services.Service.{Service}
pub use Rattle.kern_base.specs.declared.services.Service.TheVariants.{FlagDel, FlagPend, FlagPendAbort, FlagPost, MutexDel, MutexPend, MutexPendAbort, MutexPost, PendMulti, QDel, QPend, QPendAbort, QPost, RoundRobinYield, SchedLock, SchedUnlock, SemDel, SemPend, SemPendAbort, SemPost, TaskChangePrio, TaskDel, TaskQPend, TaskQPendAbort, TaskQPost, TaskResume, TaskSemPend, TaskSemPendAbort, TaskSemPost, TaskSuspend, TimeDly, TimeDlyResume, TimeGet, TimeTick, TmrDel, TmrRemainGet, TmrStart, TmrStateGet, TmrStop, Unknown}
pub use Rattle.kern_model.specs.Call.{Call, call_of}
pub use Rattle.kern_model.specs.Checks.{argument, call_error, existence_error, first_error, is_deleted, named_task}
pub use Rattle.kern_model.specs.Effect.{Effect, Wait, and_then, answer, answered_task, answers, block_blocks, blocked, blocks_on, chosen, done, fine, joined, leave_blocks, left_all, message, multi_result, new_match, plain_result, posted_result, posted_to, ready_blocks, refused, result_of, stands_in, waits_unless, unmatched, wait_blocks, waited, waiting_task, waits_for, wake_blocks, wake_cost, wakes, wakes_all, wakes_blocks, wakes_cost, woken, woken_ready}
pub use Rattle.kern_model.specs.Inherit.{inherited, least_of, living, move_blocks, moved, moved_all, moved_ready, moves_blocks, moves_of, numbers, owner_for, owner_in, reaches, reaches_by, ready_move_blocks, renew_blocks, renewed, renewed_tasks, renewing, rewait_blocks, rewaited, waited_objects, waits_on, with_prio}
pub use Rattle.kern_model.specs.Micro.{Block, Halves, JoinBack, JoinForward, LeaveBack, LeaveForward, Lists, Mark, Micro, Pend, Plain, after, at_chain, at_head, at_tail, changed, changed_all, in_order, is_filled, join_place, leave, lists_of, plain, readied, readied_at, unready, wait, wait_place, whole, whole_step}
pub use Rattle.kern_model.specs.Services.{after_checks, blocks, content_for, effect, half, post_request, posted, renews, perform, serves_all, unit_effect}
unfoldable pub use Rattle.kern_model.specs.Services.{cost}
pub use Rattle.kern_model.specs.State.{Bits, Completed, Content, Count, Held, Kernel, Messages, Object, Running, Settings, Stopped, Task, Timed, Timer, TimerState, count_of, idle_task, is_ready, is_zero, kind_of, kinds_of, list_at, no_object, no_task, object_at, pick, place_of, prio_of, task_at, tick_task, timer_task, update_list, update_object, update_task, waits_for_nothing, with_content, with_task, without}
pub use Rattle.kern_model.specs.Valid.{AllWait, AreObjects, AreResults, AreWaits, IsAboveIdle, IsContent, IsInherited, IsLinked, IsRequest, IsTask, IsValid, IsWord, MayCall, MayOwn, has_result, matched, one_if}
pub use Rattle.kern_model.specs.Valid.Lists.{IsOrdered, Rises}
pub use Rattle.kern_model.specs.Valid.Objects.{HasNoMessage, HoldsMutex, IsObject}
pub use Rattle.kern_model.specs.Valid.Results.{HasItsTable, IsResult, ReadsFrom}
pub use Rattle.kern_model.specs.Valid.Timers.{HasTimerMatches, matches_of, timer_matches_of}
pub use Rattle.kern_model.specs.Valid.Waits.{Fits, HasTable, IsTable, WaitsFor, can_wait, waits_for_one}
pub use Rattle.kern_model.specs.Valid.Words.{AnswersWords, AreMessageWords, AreWords, HasResultWords, HasTaskWords, HoldsWords}
