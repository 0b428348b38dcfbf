-- What the recorded interrupts of a list mean.
use Rattle.std.specs.Prelude.{ℕ, ◌+◌, Bool, true, List, [], ◌∷◌, slice_index_or, if◌then◌else◌}
use Rattle.inject_list.specs.declared.lists.Moment.TheVariants.{Task}
use Rattle.isr_nesting.specs.declared.records.Recorded.{Recorded}
use Rattle.machine_model.specs.Frames.{Interrupt}
use Rattle.machine_model.specs.Due.{is_step}

abbrev pub interrupt_in : Recorded → Interrupt
interrupt_in r = record { moment = r.moment; vector = r.vector; level = r.level; entry = r.entry; sp = r.sp; words = r.words }

-- what stands at a number past the last
abbrev pub no_record : Recorded
no_record = record { moment = Task 0; vector = 0; level = 0; entry = 0; sp = 0; words = [] }

abbrev pub record_at : List Recorded → ℕ → Recorded
record_at rs i = slice_index_or rs i no_record

-- whether the interrupt of a number has entered
abbrev pub has_entered : List Bool → ℕ → Bool
has_entered es i = slice_index_or es i true

-- those that have not entered, with their numbers, from a number on
abbrev pub waiting_from : List Bool → ℕ → List Recorded → List (ℕ × Interrupt)
waiting_from es n [] = []
waiting_from es n (r ∷ rs) = if has_entered es n then waiting_from es (n + 1) rs else (n, interrupt_in r) ∷ waiting_from es (n + 1) rs

-- the numbers of those whose moment is in task steps, from a number on
abbrev pub task_numbers : ℕ → List Recorded → List ℕ
task_numbers n [] = []
task_numbers n (r ∷ rs) = if is_step r.moment then task_numbers (n + 1) rs else n ∷ task_numbers (n + 1) rs
