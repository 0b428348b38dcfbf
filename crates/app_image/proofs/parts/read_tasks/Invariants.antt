-- the tasks of the rows that were passed
use Rattle.std.proofs.Common.{◌≡◌}
use Rattle.app_image.specs.Fields.{rows}
use Rattle.app_image.specs.Reading.{task_at}
use Rattle.app_image.proofs.parts.read_tasks.Given as goal

abbrev pub invariant-loop-k : goal.invariant-loop-k
invariant-loop-k l = l.tasks.items ≡ rows (task_at l.bytes) 36 l.k l.start
