-- what is found from here on is what is found in all
use Rattle.std.proofs.Common.{◌≡◌, drop}
use Rattle.app_image.specs.Refusal.{task_line}
use Rattle.app_image.proofs.refusals.task_line.Given as goal

abbrev pub invariant-loop-task : goal.invariant-loop-task
invariant-loop-task l = task_line l.words l.cause (drop l.task-index l.tasks) ≡ task_line l.words l.cause l.tasks
