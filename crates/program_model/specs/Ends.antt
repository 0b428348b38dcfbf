-- The end of a run's text: its last line tells its number of task steps, and raw steps within the bound.
use Rattle.std.specs.Prelude.{◌≡◌, ◌≤◌, ℕ, ◌+◌, ◌*◌, List, ◌++◌, length}
use Rattle.kern_base.specs.declared.kinds.Method.{Method}
use Rattle.app_image.specs.Image.{ImageRecord, IsValidImage}
use Rattle.app_image.specs.Layout.{HasWords}
use Rattle.inject_list.specs.Lists.{ListRecord, IsValidList}
use Rattle.machine_model.specs.Bound.{whole_step_events}
use Rattle.machine_model.specs.Text.{end_line}
use Rattle.program_model.specs.Answer.{printed}

-- how many instructions the interrupts of a list may run
abbrev pub most_instructions : ImageRecord → ListRecord → ℕ
most_instructions image l = length l.injections * image.config.isr_limit

-- The text of a run ends with the line of n task steps. Its raw steps are at most those of n whole steps, one for each
-- instruction of interrupt code, and those of a whole step for each post that such an instruction may make.
pub record ComesToItsEnd (image : ImageRecord) (l : ListRecord) (n : ℕ) (text : List ℕ) : Type 0 where
  pub front : List ℕ
  pub raw : ℕ
  pub end : text ≡ front ++ end_line raw n
  pub bound : raw ≤ whole_step_events * (n + most_instructions image l) + most_instructions image l

-- Every run of an accepted case comes to its number of task steps.
abbrev pub EveryRunComesToItsEnd : Type 0
EveryRunComesToItsEnd = (method : Method) (image : ImageRecord) (l : ListRecord) (n : ℕ) → IsValidImage image → HasWords image → IsValidList image l → ComesToItsEnd image l n (printed method image l n)
