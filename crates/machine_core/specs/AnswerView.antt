-- What an answer changes in the kernel and the registers.
use Rattle.std.specs.Prelude.{◌≡◌, ℕ, List, Option, Some, None, slice_index_or, slice_set}
use Rattle.kern_base.specs.declared.services.Service.{Service}
use Rattle.kern_base.specs.declared.outcomes.Answer.{Answer}
use Rattle.kern_base.specs.declared.outcomes.Finished.{Finished}
use Rattle.kern_base.specs.declared.outcomes.Outcome.{Outcome}
use Rattle.kern_base.specs.declared.outcomes.Outcome.TheVariants.{Answered, Waits, Gone, Quiet}
use Rattle.kern_base.specs.declared.outcomes.UnitEnd.TheVariants.{Fire}
use Rattle.kern_base.specs.declared.requests.Request.{Request}
use Rattle.app_image.specs.declared.settings.Config.{Config}
use Rattle.kern_model.specs.State.{object_at, task_at, prio_of}
use Rattle.served.specs.Served.{program_serves}
use Rattle.kern_model.specs.Finish.{finished}
use Rattle.rv32_exec.specs.Registers.{no_registers}
use Rattle.kernel_calls.specs.KernelRecord.{KernelRecord, with_state}
use Rattle.kernel_calls.specs.Works.{begun}
use Rattle.machine_model.specs.Acts.{request_of}
use Rattle.machine_model.specs.Steps.{after_fire, unit_line}
use Rattle.machine_model.specs.declared.events.What.{What}
use Rattle.machine_model.specs.declared.events.What.TheVariants.{Quiet as NoLine, Wait, Gone as GoneLine}
use Rattle.machine_model.specs.Answers.{with_answer, returned, task_id, entries}

-- the request of x, as its registers have it
abbrev pub request_in : KernelRecord → ℕ → List ℕ → Request
request_in k x memory = request_of program_serves (slice_index_or k.registers x no_registers) memory

-- the call of x is in hand, at its beginning
abbrev pub calling_kernel : KernelRecord → ℕ → List ℕ → KernelRecord
calling_kernel k x memory =
    record k { hand = Some (begun x (request_in k x memory) (prio_of k.state x) (prio_of k.state x)) }

-- the registers of x have the answer
abbrev pub answered_kernel : KernelRecord → ℕ → Service → Answer → KernelRecord
answered_kernel k x service a =
    record k { registers = slice_set k.registers x (with_answer service a (slice_index_or k.registers x no_registers)) }

-- the result that waits, if one does, is read
abbrev pub finished_by : Option Finished → KernelRecord → ℕ → KernelRecord
finished_by None k x = k
finished_by (Some f) k x = answered_kernel (with_state k (finished x k.state)) x f.service f.answer

-- task x has read the result that waits for it
abbrev pub finished_kernel : KernelRecord → ℕ → KernelRecord
finished_kernel k x = finished_by (task_at k.state x).answered k x

-- what is told of a result
abbrev pub line_of : Option Finished → ℕ → What
line_of None x = NoLine
line_of (Some f) x = returned x f.service f.answer (entries (Some f))

-- what is told of a task that reads its result
abbrev pub finished_line : KernelRecord → ℕ → What
finished_line k x = line_of (task_at k.state x).answered x

-- the end of a whole step of x: an answer goes to its registers
abbrev pub ended_kernel : KernelRecord → ℕ → Service → Outcome → KernelRecord
ended_kernel k x service (Answered a taken) = answered_kernel k x service a
ended_kernel k x service outcome = k

-- what is told of the end
abbrev pub ended_line : ℕ → Service → Outcome → What
ended_line x service (Answered a taken) = returned x service a (entries taken)
ended_line x service Waits = Wait (task_id x) service
ended_line x service Gone = GoneLine (task_id x)
ended_line x service outcome = NoLine

-- no table comes with the outcome
abbrev pub HasNoTable : Outcome → Type 0
HasNoTable (Answered a taken) = taken ≡ None
HasNoTable outcome = Unit {0}

-- the end of a unit: where a timer fired that has a callback, the registers of the timer task are those of its start
abbrev pub unit_ended_kernel : Config → Outcome → KernelRecord → KernelRecord
unit_ended_kernel config (Quiet (Fire o)) k = record k { registers = after_fire config o.0 (object_at k.state o.0).content k.registers }
unit_ended_kernel config outcome k = k

-- what is told of it
abbrev pub unit_ended_line : Outcome → What
unit_ended_line (Quiet end) = unit_line end
unit_ended_line outcome = NoLine
