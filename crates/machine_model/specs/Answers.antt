-- How answers come to registers and memory, and what is told of them.
use Rattle.std.specs.Prelude.{ℕ, zero, suc, ◌+◌, ◌-◌, ◌/◌, ◌%◌, ◌^◌, List, [], ◌∷◌, ◌++◌, replicate, take, length, Option, Some, None, if◌then◌else◌, ◌==◌, slice_index_or}
use Rattle.kern_base.specs.declared.numbers.TaskId.{TaskId}
use Rattle.kern_base.specs.declared.services.Service.{Service}
use Rattle.kern_base.specs.declared.services.Service.TheVariants.{QPend, TaskQPend}
use Rattle.kern_base.specs.Errors.{error_number}
use Rattle.kern_base.specs.Services.{argument_count}
use Rattle.kern_base.specs.declared.outcomes.Answer.{Answer}
use Rattle.kern_base.specs.declared.outcomes.Finished.{Finished}
use Rattle.rv32_exec.specs.Registers.{Registers, written}
use Rattle.rv32_exec.specs.Memory.{with_word}
use Rattle.machine_model.specs.declared.events.What.{What}
use Rattle.machine_model.specs.declared.events.What.TheVariants.{Ret}
use Rattle.machine_model.specs.Machine.{Machine}

-- what happened, and the machine after it
pub record Change : Type 0 where
  pub what : What
  pub machine : Machine

-- a task by its number
abbrev pub task_id : ℕ → TaskId
task_id x = record { 0 = x }

-- the first n of four words, and zeros
abbrev pub padded : ℕ → List ℕ → List ℕ
padded n words = take n words ++ replicate (4 - n) 0

-- the arguments of a call of this service
abbrev pub arguments : Service → List ℕ → List ℕ
arguments service words = padded (argument_count service) words

-- the size of a message, of the calls that take one message
abbrev pub size_of : Service → Answer → Option ℕ
size_of QPend a = Some a.extra
size_of TaskQPend a = Some a.extra
size_of service a = None

-- 0 where there is none
abbrev pub size_or_zero : Option ℕ → ℕ
size_or_zero None = 0
size_or_zero (Some size) = size

-- the size goes to a2
abbrev pub with_size : Option ℕ → List ℕ → List ℕ
with_size None x = x
with_size (Some size) x = written x 12 size

-- the registers with an answer: the number of its error in a0, its value in a1
abbrev pub with_answer : Service → Answer → Registers → Registers
with_answer service a regs =
    record regs { x = with_size (size_of service a) (written (written regs.x 10 (error_number a.err)) 11 a.value) }

-- The table of OSPendMulti: what was taken from each of its objects.

-- what was taken from the object of entry i, if anything was
abbrev pub entry : Finished → ℕ → Option (ℕ × ℕ)
entry f i = if (f.ready / 2 ^ i) % 2 == 1 then Some (slice_index_or f.msgs i (0, 0)) else None

-- n entries from the i-th on
abbrev pub entries_from : Finished → ℕ → ℕ → List (Option (ℕ × ℕ))
entries_from f i zero = []
entries_from f i (suc n) = entry f i ∷ entries_from f (i + 1) n

-- the entries of a result; none where there is no table
abbrev pub entries : Option Finished → List (Option (ℕ × ℕ))
entries None = []
entries (Some f) = entries_from f 0 f.n_ids

-- the second to fourth word of an entry at this address: 1, the message and its size where one was taken, else zeros
abbrev pub with_entry : Option (ℕ × ℕ) → ℕ → List ℕ → List ℕ
with_entry None addr memory = with_word (with_word (with_word memory (addr + 4) 0) (addr + 8) 0) (addr + 12) 0
with_entry (Some taken) addr memory = with_word (with_word (with_word memory (addr + 4) 1) (addr + 8) taken.0) (addr + 12) taken.1

-- entries of 16 bytes from this address on
abbrev pub with_entries : List (Option (ℕ × ℕ)) → ℕ → List ℕ → List ℕ
with_entries [] addr memory = memory
with_entries (e ∷ es) addr memory = with_entries es (addr + 16) (with_entry e addr memory)

-- the memory with the table of a result, where it has one
abbrev pub with_table : Option Finished → List ℕ → List ℕ
with_table None memory = memory
with_table (Some f) memory = with_entries (entries (Some f)) f.table memory

-- task x has the answer of its call, with the entries of the table where there is one
abbrev pub returned : ℕ → Service → Answer → List (Option (ℕ × ℕ)) → What
returned x service a es =
    Ret (task_id x) service a.err a.value (size_or_zero (size_of service a)) (es ++ replicate (8 - length es) None) (length es)
