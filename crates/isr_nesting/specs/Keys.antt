-- The key of an interrupt: of several the one that enters next has the least.
use Rattle.std.specs.Prelude.{ℕ, ◌+◌, ◌-◌, ◌*◌, ◌%◌, List, [], ◌∷◌, min, nat_le, nat_lt, Option, Some, None, if◌then◌else◌}
use Rattle.inject_list.specs.declared.lists.Moment.{Moment}
use Rattle.inject_list.specs.declared.lists.Moment.TheVariants.{Task, Step}
use Rattle.machine_model.specs.Frames.{Interrupt}
use Rattle.isr_nesting.specs.Least.{nothing}

-- a higher level first, and at one level a lower number
abbrev pub key : ℕ → ℕ → ℕ
key level number = (7 - level) * 16384 + number

abbrev pub key_of : ℕ × Interrupt → ℕ
key_of w = key w.1.level w.0

-- the key of an interrupt whose moment in raw steps has come
abbrev pub step_key_at : ℕ → Moment → ℕ → ℕ
step_key_at s (Task moment) k = nothing
step_key_at s (Step moment) k = if nat_le moment s then k else nothing

-- the least of those
abbrev pub step_key : ℕ → List (ℕ × Interrupt) → ℕ
step_key s [] = nothing
step_key s (w ∷ ws) = min (step_key_at s w.1.moment (key_of w)) (step_key s ws)

-- the key of the first interrupt whose moment is in task steps, where it has come
abbrev pub task_key_at : ℕ → Moment → ℕ → ℕ → ℕ
task_key_at t (Task moment) k rest = if nat_le moment t then k else nothing
task_key_at t (Step moment) k rest = rest

abbrev pub task_key : ℕ → List (ℕ × Interrupt) → ℕ
task_key t [] = nothing
task_key t (w ∷ ws) = task_key_at t w.1.moment (key_of w) (task_key t ws)

-- what has a level above this one
abbrev pub above : ℕ → ℕ → ℕ
above level k = if nat_lt k ((7 - level) * 16384) then k else nothing

-- the number of a key
abbrev pub number_of : ℕ → Option ℕ
number_of k = if nat_lt k nothing then Some (k % 16384) else None
