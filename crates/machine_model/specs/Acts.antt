-- What the current task does.
use Rattle.std.specs.Prelude.{ℕ, zero, suc, ◌+◌, ◌-◌, ◌*◌, ◌%◌, Bool, true, false, not, ◌&&◌, ◌||◌, List, [], ◌∷◌, ◌++◌, replicate, Option, Some, None, if◌then◌else◌, ◌==◌, nat_le, slice_set, slice_index}
use Rattle.kern_base.specs.declared.services.Service.{Service}
use Rattle.kern_base.specs.declared.services.Service.TheVariants.{PendMulti}
use Rattle.kern_base.specs.Services.{service_of, argument_count}
use Rattle.kern_base.specs.declared.requests.Request.{Request}
use Rattle.kern_base.specs.declared.outcomes.Finished.{Finished}
use Rattle.kern_model.specs.State.{Kernel, prio_of, tick_task, timer_task, idle_task}
use Rattle.kern_model.specs.Finish.{finished}
use Rattle.kern_model.specs.Stop.{stopped, callback_ended}
use Rattle.rv32_exec.specs.Registers.{Registers, read}
use Rattle.rv32_exec.specs.Memory.{ram_start, ram_end, word_at}
use Rattle.rv32_exec.specs.Exec.{Execution, exec}
use Rattle.rv32_exec.specs.declared.TrapKind.{TrapKind}
use Rattle.rv32_exec.specs.declared.Stepped.{Stepped}
use Rattle.rv32_exec.specs.declared.Stepped.TheVariants.{Next, Call, Trap, Stored}
use Rattle.kern_base.specs.Numbers.{leave}
use Rattle.machine_model.specs.declared.events.What.{What}
use Rattle.machine_model.specs.declared.events.What.TheVariants.{Quiet, Call as CallLine, St, Trap as TrapLine}
use Rattle.machine_model.specs.Machine.{Machine, CallOf, UnitOf, registers_at, after_step}
use Rattle.machine_model.specs.Answers.{Change, task_id, arguments, with_answer, with_table, entries, returned}
use Rattle.machine_model.specs.Interrupts.{argument_words}
use Rattle.machine_model.specs.Settling.{settled}
use Rattle.machine_model.specs.Steps.{begins}

-- the result of a call in which task x waited, written to its registers, and to the table where it has one
abbrev pub finishes : ℕ → Finished → Machine → Change
finishes x f m =
    record {
      what = returned x f.service f.answer (entries (Some f));
      machine = after_step (record m { memory = with_table (Some f) m.memory }) (finished x m.kernel) x (with_answer f.service f.answer (registers_at m x));
    }

-- The table of OSPendMulti: entries of 16 bytes, whose first words are the numbers of objects.

-- whether there are 1 to 8 entries, and they lie wholly in RAM at a multiple of 4
abbrev pub is_table : ℕ → ℕ → Bool
is_table address count =
    nat_le 1 count && (nat_le count 8 && ((address % 4 == 0) && (nat_le ram_start address && nat_le (address + 16 * count) ram_end)))

-- the first word of n entries from this address on
abbrev pub first_words : List ℕ → ℕ → ℕ → List ℕ
first_words memory address zero = []
first_words memory address (suc n) = word_at memory address ∷ first_words memory (address + 16) n

-- a request without a table
abbrev pub plain_request : Service → List ℕ → Request
plain_request s args = record { service = s; args = args; ids = replicate 8 0; n_ids = 0; table = false }

-- a request with the numbers in the table that it names, if there is one
abbrev pub table_request : Service → List ℕ → List ℕ → Request
table_request s args memory =
    let address = slice_index args 0 in
    let count = slice_index args 1 in
    if is_table address count then record { service = s; args = args; ids = first_words memory address count ++ replicate (8 - count) 0; n_ids = count; table = true }
    else plain_request s args

-- whether a service has a table
abbrev pub has_table : Service → Bool
has_table PendMulti = true
has_table s = false

-- the request of a call: the number of the service in a7, the arguments in a0 to a3
abbrev pub request_of : (Service → Bool) → Registers → List ℕ → Request
request_of served regs memory =
    let s = service_of (read regs 17) in
    let args = argument_words regs in
    if has_table s && served s then table_request s args memory else plain_request s args

-- task x calls with this request
abbrev pub called : ℕ → Request → What
called x r = CallLine (task_id x) r.service (arguments r.service r.args) (argument_count r.service)

-- One instruction of task x, which leaves its registers and the memory as e says.

-- an ECALL: the call becomes the whole step in hand
abbrev pub calls : (Service → Bool) → ℕ → Execution → Machine → Change
calls served x e m =
    let r = request_of served e.registers e.memory in
    record {
      what = called x r;
      machine = begins (CallOf x r (prio_of m.kernel x)) (record m { registers = slice_set m.registers x e.registers; memory = e.memory });
    }

-- a callback of the timer task ends where it returns
abbrev pub after_instruction : ℕ → ℕ → Kernel → Kernel
after_instruction x pc k = if (x == timer_task) && (pc == leave) then callback_ended k else k

-- any other instruction
abbrev pub runs : What → ℕ → Execution → Machine → Change
runs what x e m =
    record { what = what; machine = after_step (record m { memory = e.memory }) (after_instruction x e.registers.pc m.kernel) x e.registers }

-- a trap stops the task for good, and ends a callback
abbrev pub trapped : ℕ → Kernel → Kernel
trapped x k = if x == timer_task then callback_ended k else stopped x k

abbrev pub traps : TrapKind → ℕ → ℕ → Execution → Machine → Change
traps kind pc x e m =
    record {
      what = TrapLine (task_id x) kind pc;
      machine = settled (record m { kernel = trapped x m.kernel; memory = e.memory; t = m.t + 1 });
    }

-- by what came of it
abbrev pub instructs : (Service → Bool) → Stepped → ℕ → Execution → Machine → Change
instructs served Next x e m = runs Quiet x e m
instructs served (Stored addr width value) x e m = runs (St x addr width value) x e m
instructs served Call x e m = calls served x e m
instructs served (Trap kind pc) x e m = traps kind pc x e m

-- the idle task does nothing
abbrev pub idles : Machine → Change
idles m = record { what = Quiet; machine = record m { t = m.t + 1 } }

-- an internal task begins a unit of its work
abbrev pub starts_unit : ℕ → Machine → Change
starts_unit x m = record { what = Quiet; machine = begins (UnitOf x) m }

-- whether a task has a unit of work to do: the tick task, and the timer task outside of a callback
abbrev pub works_in_units : ℕ → Kernel → Bool
works_in_units x k = (x == tick_task) || ((x == timer_task) && not k.in_callback)

-- task x acts: where a result waits for it, it finishes; else an internal task works, and any other runs one instruction
abbrev pub acts : (Service → Bool) → ℕ → Option Finished → Machine → Change
acts served x (Some f) m = finishes x f m
acts served x None m =
    if x == idle_task then idles m
    else (if works_in_units x m.kernel then starts_unit x m
    else (let e = exec m.code (registers_at m x) m.memory in instructs served e.did x e m))
