-- The limits of what is read, asked for and generated.
use Rattle.std.specs.Prelude.{◌≤◌, ℕ}
use Rattle.program_model.specs.declared.commands.Command.{Command}
use Rattle.program_model.specs.declared.commands.Command.TheVariants.{OnCase, Generate, Soak}
use Rattle.program_model.specs.declared.commands.CaseCommand.{CaseCommand}
use Rattle.program_model.specs.declared.commands.CaseCommand.TheVariants.{Run, Both, Listing, Disassembly, Binary, Summary}

-- the longest input that is read, in bytes
abbrev pub longest_input : ℕ
longest_input = 4194304

-- the most task steps that a run may be asked for
abbrev pub most_task_steps : ℕ
most_task_steps = 1000000

-- the most lines of interrupts that a generated case may have
abbrev pub most_lines : ℕ
most_lines = 16384

-- a run, also one of two, has at most 1,000,000 task steps
abbrev pub IsCaseWithinLimit : CaseCommand → Type 0
IsCaseWithinLimit (Run method count) = count ≤ most_task_steps
IsCaseWithinLimit (Both count) = count ≤ most_task_steps
IsCaseWithinLimit Listing = Unit {0}
IsCaseWithinLimit Disassembly = Unit {0}
IsCaseWithinLimit Binary = Unit {0}
IsCaseWithinLimit (Summary seed size) = size ≤ most_lines

-- and a generated case at most 16,384 lines of interrupts
abbrev pub IsWithinLimit : Command → Type 0
IsWithinLimit (OnCase command) = IsCaseWithinLimit command
IsWithinLimit (Generate seed size) = size ≤ most_lines
IsWithinLimit (Soak seed size) = size ≤ most_lines
