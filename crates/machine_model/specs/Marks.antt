-- The marks of a frame: the registers that hold what a post answered, until an instruction writes them. Under the deferred
-- method that answer comes before the post is performed, so code that reads it may tell the two methods apart.
use Rattle.std.specs.Prelude.{ℕ, Bool, List, [], ◌∷◌, take, Option, Some, None, if◌then◌else◌, ◌==◌}
use Rattle.std.specs.List.{list_any}
use Rattle.kern_base.specs.declared.services.Service.{Service}
use Rattle.kern_base.specs.Services.{service_of, argument_count}
use Rattle.kern_model.specs.State.{without}
use Rattle.rv32_isa.specs.Decoded.{decoded}
use Rattle.rv32_isa.specs.declared.Instr.{Instr}
use Rattle.rv32_isa.specs.declared.Instr.TheVariants.{Ecall}
use Rattle.rv32_isa.specs.Operands.{reads, writes}
use Rattle.rv32_exec.specs.Registers.{Registers, read}
use Rattle.rv32_exec.specs.Exec.{fetched}
use Rattle.machine_model.specs.Frames.{FrameRecord}

-- the registers that a call reads: a7, and those of the arguments of a service that is served
abbrev pub call_reads : (Service → Bool) → Service → List ℕ
call_reads served s = 17 ∷ (if served s then take (argument_count s) (10 ∷ 11 ∷ 12 ∷ 13 ∷ []) else [])

-- what an instruction reads, also where it traps
abbrev pub instruction_reads : (Service → Bool) → Registers → Instr → List ℕ
instruction_reads served regs Ecall = call_reads served (service_of (read regs 17))
instruction_reads served regs instr = reads instr

-- of a fetched word; a word that is no instruction reads nothing
abbrev pub reads_of : (Service → Bool) → Registers → Option Instr → List ℕ
reads_of served regs None = []
reads_of served regs (Some instr) = instruction_reads served regs instr

-- the instruction of a word that was fetched, if it is one
abbrev pub instruction_of : Option ℕ → Option Instr
instruction_of None = None
instruction_of (Some word) = decoded word

-- the instruction that a frame runs next, if it is one
abbrev pub next_instruction : List ℕ → Registers → Option Instr
next_instruction code regs = instruction_of (fetched code regs.pc)

-- whether some of these registers are marked
abbrev pub is_marked : List ℕ → List ℕ → Bool
is_marked marks regs = list_any (λ r. list_any (λ m. m == r) marks) regs

-- whether the next instruction of a frame reads a marked register
abbrev pub reads_result : (Service → Bool) → List ℕ → FrameRecord → Bool
reads_result served code f = is_marked f.marks (reads_of served f.registers (next_instruction code f.registers))

-- the marks once an instruction other than ECALL has written its register
abbrev pub marks_after : Option Instr → List ℕ → List ℕ
marks_after None marks = marks
marks_after (Some instr) marks = without (writes instr) marks

-- a post leaves its answer in a0 and a1
abbrev pub post_marks : List ℕ
post_marks = 10 ∷ 11 ∷ []
