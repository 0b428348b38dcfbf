-- The words that most proofs on machines cite, passed on from one place.
pub use Rattle.std.proofs.Common.{Bool, List, None, Option, Some, [], ap, arith, false, inl, inr, refl, subst, suc, sym, true, zero, ℕ, ◌+◌, ◌<◌, ◌∙◌, ◌∷◌, ◌≡◌, ◌≢◌, ◌≤◌, ◌⊎◌}
pub use Rattle.std.specs.Prelude.{All, if◌then◌else◌, length, nat_le, nat_lt, not, slice_set, ◌%◌, ◌&&◌, ◌++◌, ◌-◌, ◌==◌, ◌^◌}
pub use Rattle.std.proofs.lemmas.Bool.{false≢true, true≢false}
pub use Rattle.std.proofs.lemmas.List.{length-set}
pub use Rattle.std.proofs.lemmas.List.Elements.{All-cons, All-head, All-nil, All-tail}
pub use Rattle.app_image.specs.Image.{ImageRecord, IsValidImage}
pub use Rattle.app_image.specs.Layout.{HasWords}
pub use Rattle.app_image.specs.declared.settings.Config.{Config}
pub use Rattle.inject_list.specs.Lists.{IsValidList, ListRecord}
pub use Rattle.inject_list.specs.declared.lists.Look.{Look}
pub use Rattle.kern_base.specs.Checks.{static_error}
pub use Rattle.kern_base.specs.Numbers.{leave}
pub use Rattle.kern_base.specs.Services.{is_post, service_of}
pub use Rattle.kern_base.specs.declared.errors.OsErr.{OsErr}
pub use Rattle.kern_base.specs.declared.errors.OsErr.TheVariants.{CallUnknown}
pub use Rattle.kern_base.specs.declared.kinds.Method.{Method}
pub use Rattle.kern_base.specs.declared.kinds.Method.TheVariants.{Deferred, Direct}
pub use Rattle.kern_base.specs.declared.outcomes.Finished.{Finished}
pub use Rattle.kern_base.specs.declared.outcomes.Outcome.{Outcome}
pub use Rattle.kern_base.specs.declared.outcomes.Waiting.{Waiting}
pub use Rattle.kern_base.specs.declared.requests.Request.{Request}
pub use Rattle.kern_base.specs.declared.services.Service.{Service}
pub use Rattle.kern_base.specs.declared.services.Service.TheVariants.{FlagPost, QPost, SemPost, TaskQPost, TaskSemPost, TimeTick}
pub use Rattle.kern_model.proofs.Lemmas.{and_first, and_second, choice, choice_by, equal, unequal}
pub use Rattle.kern_model.specs.Call.{call_of}
pub use Rattle.kern_model.specs.Checks.{call_error}
pub use Rattle.kern_model.specs.Effect.{Effect, fine, refused, result_of, wakes_all}
pub use Rattle.kern_model.specs.Services.{after_checks, content_for, perform, post_request, posted}
unfoldable pub use Rattle.kern_model.specs.Services.{cost}
pub use Rattle.kern_model.specs.State.{Bits, Content, Count, Kernel, Task, idle_task, is_ready, kinds_of, list_at, no_task, pick, prio_of, task_at, tick_task, timer_task}
pub use Rattle.kern_model.specs.Valid.{IsLinked}
pub use Rattle.rv32_exec.specs.Exec.{Execution, exec}
pub use Rattle.rv32_exec.specs.Registers.{Registers, read}
pub use Rattle.rv32_exec.specs.declared.Stepped.{Stepped}
pub use Rattle.rv32_exec.specs.declared.Stepped.TheVariants.{Call, Next, Stored, Trap}
pub use Rattle.machine_model.specs.Acts.{acts, idles, instructs, starts_unit, works_in_units}
pub use Rattle.machine_model.specs.Answers.{Change}
pub use Rattle.machine_model.specs.Bound.{events_left}
pub use Rattle.machine_model.specs.Due.{Place, due, is_step}
pub use Rattle.machine_model.specs.Frames.{FrameRecord, Interrupt, none_stands}
pub use Rattle.machine_model.specs.Interrupts.{argument_words, checked_post, frame_runs, queues, without_top}
pub use Rattle.machine_model.specs.Looks.{look_at}
pub use Rattle.machine_model.specs.Machine.{CallOf, Machine, TakeOf, UnitOf, WholeStep, Work, effect_of, registers_at, start}
pub use Rattle.machine_model.specs.Marks.{marks_after, next_instruction}
pub use Rattle.machine_model.specs.Queue.{Queued, front}
pub use Rattle.machine_model.specs.Rules.{Begins, Enters, FrameLimit, FrameRuns, Looks, MicroStep, Rule, TakeBegins, TaskActs, done, next, rule, rule_of_look}
pub use Rattle.machine_model.specs.Run.{Run, run, run_on}
pub use Rattle.machine_model.specs.Settling.{is_free, settled}
pub use Rattle.machine_model.specs.Steps.{advances}
pub use Rattle.machine_model.specs.Text.{event_history}
pub use Rattle.machine_model.specs.declared.events.Event.{Event}
pub use Rattle.machine_model.specs.declared.events.What.TheVariants.{Quiet}
pub use Rattle.machine_laws.specs.RuleTable.{Applies}
pub use Rattle.machine_laws.specs.Valid.{IsBegun}
