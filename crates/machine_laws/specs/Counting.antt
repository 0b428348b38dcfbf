-- How many events have no raw step: at most one, and one for each look, and two for each interrupt.
use Rattle.std.specs.Prelude.{◌≤◌, ℕ, ◌+◌, ◌*◌, Bool, length}
use Rattle.kern_base.specs.declared.kinds.Method.{Method}
use Rattle.kern_base.specs.declared.services.Service.{Service}
use Rattle.app_image.specs.Image.{ImageRecord}
use Rattle.inject_list.specs.Lists.{ListRecord}
use Rattle.machine_model.specs.Machine.{Machine}
use Rattle.machine_model.specs.Bound.{first_event}
use Rattle.machine_model.specs.Rules.{next}
use Rattle.machine_model.specs.Run.{run_on, run}

-- At most so many events without a raw step are still to come: the first one, each look, each entry of an interrupt, and
-- each frame's leaving at its limit.
abbrev pub quiet_left : Machine → ℕ
quiet_left m = first_event m.begun + length m.looks + 2 * length m.interrupts + length m.frames

-- Every event without a raw step leaves fewer of them to come, and one with a raw step no more.
abbrev pub QuietEventsFall : Type 0
QuietEventsFall = (served : Service → Bool) (method : Method) (m : Machine) → 1 + quiet_left (next served method m).1 + m.s ≤ quiet_left m + (next served method m).1.s

-- From every machine on there are at most so many more events than raw steps.
abbrev pub EventsAreCounted : Type 0
EventsAreCounted = (served : Service → Bool) (method : Method) (n more : ℕ) (m : Machine) → length (run_on served method n more m).events + m.s + quiet_left (run_on served method n more m).last ≤ quiet_left m + (run_on served method n more m).last.s

-- A run has at most one more event than raw steps, and one for each look, and two for each interrupt of the list.
abbrev pub EventsOfARunAreCounted : Type 0
EventsOfARunAreCounted = (served : Service → Bool) (method : Method) (image : ImageRecord) (list : ListRecord) (n : ℕ) → length (run served method image list n).events ≤ (run served method image list n).last.s + (1 + length list.looks + 2 * length list.injections)
