-- The defined answer of a command on an input: a status, and the bytes to write.
use Rattle.std.specs.Prelude.{ℕ, List, [], length, nat_lt, Option, None, Some, if◌then◌else◌}
use Rattle.std.specs.Option.{option_map}
use Rattle.program_model.specs.Limits.{longest_input}
use Rattle.program_model.specs.declared.statuses.Status.{Status}
use Rattle.program_model.specs.declared.statuses.Status.TheVariants as status
use Rattle.program_model.specs.declared.commands.Command.{Command}
use Rattle.program_model.specs.declared.commands.Command.TheVariants.{OnCase, Generate, Soak}
use Rattle.program_model.specs.declared.commands.CaseCommand.{CaseCommand}
use Rattle.program_model.specs.declared.commands.CaseCommand.TheVariants.{Run, Both, Listing, Disassembly, Binary, Summary}
use Rattle.kern_base.specs.declared.kinds.Method.{Method}
use Rattle.kern_base.specs.declared.kinds.Method.TheVariants.{Direct, Deferred}
use Rattle.served.specs.Served.{program_serves}
use Rattle.app_image.specs.Image.{ImageRecord}
use Rattle.app_image.specs.Layout.{layout}
use Rattle.inject_list.specs.Lists.{ListRecord}
use Rattle.machine_model.specs.Run.{run_text}
use Rattle.machine_model.specs.Premises.{is_broken}
use Rattle.rv32_listing.specs.Disassembly.{disassembly}
use Rattle.program_model.specs.Both.{run_of, both_text}
use Rattle.program_model.specs.Generated.{generated, steps_for}
use Rattle.program_model.specs.Summary.{summary}
use Rattle.program_model.specs.Case.{Case, Accepts, Refuses, case_of}
use Rattle.program_model.specs.Listing.{listing}
use Rattle.program_model.specs.Refusals.{refusal_line}
use Rattle.program_model.specs.Words.{command_of}

pub record Answer : Type 0 where
  pub status : Status
  pub text : List ℕ

-- the printed run of a case by a method to so many task steps
unfoldable pub printed : Method → ImageRecord → ListRecord → ℕ → List ℕ
printed method image l count = run_text program_serves method image l count

-- what is written of the runs of a case by both methods to so many task steps
unfoldable pub compared : ImageRecord → ListRecord → ℕ → List ℕ
compared image l count = both_text image (record { direct = run_of Direct image l count; deferred = run_of Deferred image l count })

-- the summary of both runs of a case, which was generated for this seed and size
unfoldable pub summed : ℕ → ℕ → ImageRecord → ListRecord → List ℕ
summed seed size image l = summary seed size image (record { direct = run_of Direct image l (steps_for size); deferred = run_of Deferred image l (steps_for size) })

-- how the comparison ends: whether a premise is broken in the run by the deferred method
unfoldable pub compared_status : ImageRecord → ListRecord → ℕ → Status
compared_status image l count = if is_broken (run_of Deferred image l count) then status.Broken else status.Done

-- what a command writes of an image and its injections
abbrev pub accepted_text : CaseCommand → ImageRecord → ListRecord → List ℕ
accepted_text (Run method count) image l = printed method image l count
accepted_text (Both count) image l = compared image l count
accepted_text Listing image l = listing image
accepted_text Disassembly image l = disassembly image
accepted_text Binary image l = layout image
accepted_text (Summary seed size) image l = summed seed size image l

-- how a command ends that has written all this
abbrev pub accepted_status : CaseCommand → ImageRecord → ListRecord → Status
accepted_status (Run method count) image l = status.Done
accepted_status (Both count) image l = compared_status image l count
accepted_status Listing image l = status.Done
accepted_status Disassembly image l = status.Done
accepted_status Binary image l = status.Done
accepted_status (Summary seed size) image l = compared_status image l (steps_for size)

-- of a command on the case that was read
abbrev pub case_answer : CaseCommand → Case → Answer
case_answer command (Refuses line cause) = record { status = status.Refused; text = refusal_line line cause }
case_answer command (Accepts image l) = record { status = accepted_status command image l; text = accepted_text command image l }

-- of a command on an input; a generated case is made of its seed and its size, and nothing is read
abbrev pub command_answer : Option Command → List ℕ → Answer
command_answer None input = record { status = status.Usage; text = [] }
command_answer (Some (OnCase command)) input = if nat_lt longest_input (length input) then record { status = status.TooLong; text = [] } else case_answer command (case_of input)
command_answer (Some (Generate seed size)) input = record { status = status.Done; text = generated seed size }
command_answer (Some (Soak seed size)) input = case_answer (Summary seed size) (case_of (generated seed size))

-- of the words on an input
abbrev pub answer : List (List ℕ) → List ℕ → Answer
answer words input = command_answer (command_of words) input

-- the command reads the source
abbrev pub Reads : Option Command → Type 0
Reads (Some (OnCase command)) = Unit {0}
Reads _ = ⊥

-- the command takes memory
abbrev pub TakesMemory : Option Command → Type 0
TakesMemory (Some (OnCase command)) = Unit {0}
TakesMemory (Some (Soak seed size)) = Unit {0}
TakesMemory _ = ⊥

-- the input that the answer speaks of: what the source tells, or nothing where nothing is read
abbrev pub known_input : Option Command → Option (List ℕ) → Option (List ℕ)
known_input (Some (OnCase command)) left = left
known_input _ left = Some []

-- the defined answer of a command, where its input is known
abbrev pub defined_of : Option Command → Option (List ℕ) → Option Answer
defined_of command left = option_map (command_answer command) (known_input command left)

-- the defined answer of the words, where their input is known
abbrev pub defined : List (List ℕ) → Option (List ℕ) → Option Answer
defined words left = defined_of (command_of words) left
