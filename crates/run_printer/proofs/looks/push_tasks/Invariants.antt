use Rattle.std.proofs.Common.{◌≡◌, ◌++◌, ◌+◌, ◌*◌, ◌≤◌, length, map, drop, decimal}
use Rattle.arrayvec.specs.ArrayVec.{array_vec_len}
use Rattle.machine_model.specs.Text.{spaced}
use Rattle.run_printer.proofs.looks.push_tasks.Given as goal

-- what is appended, and what is left, are the numbers of all
abbrev pub invariant-loop-task : goal.invariant-loop-task
invariant-loop-task l =
    (array_vec_len l.line + 3 * length (drop l.task-index l.tasks) ≤ array_vec_len l.initial.line + 3 * length l.tasks)
    × (l.line.items ++ spaced (map decimal (drop l.task-index l.tasks)) ≡ l.initial.line.items ++ spaced (map decimal l.tasks))
