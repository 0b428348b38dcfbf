-- What a run of the program says where its source and its sink tell their bytes.
use Rattle.std.specs.Prelude.{◌≡◌, ℕ, List, [], ◌++◌, ◌⊎◌, Option, Some, IfSome, codes}
use Rattle.std.specs.Io.KnownBytes.{Appends}
use Rattle.outside.specs.Causes.{Rose}
use Rattle.outside.specs.Written.{AppendsPrefix}
use Rattle.app_image.specs.Image.{ImageRecord}
use Rattle.app_image.specs.RoundTrip.{unlined}
use Rattle.inject_list.specs.Lists.{ListRecord, no_injections}
use Rattle.program_model.specs.declared.statuses.Status.{Status}
use Rattle.program_model.specs.declared.statuses.Status.TheVariants as status
use Rattle.program_model.specs.declared.commands.Command.{Command}
use Rattle.program_model.specs.declared.commands.Command.TheVariants.{OnCase, Soak}
use Rattle.program_model.specs.declared.commands.CaseCommand.{CaseCommand}
use Rattle.program_model.specs.declared.commands.CaseCommand.TheVariants.{Both, Summary, Disassembly}
use Rattle.kern_base.specs.declared.kinds.Method.TheVariants.{Direct, Deferred}
use Rattle.machine_model.specs.Run.{Run, history}
use Rattle.program_model.specs.Both.{run_of}
use Rattle.program_model.specs.Case.{Case, Accepts, Refuses, case_of}
use Rattle.program_model.specs.Generated.{generated, steps_for}
use Rattle.program_model.specs.Summary.{counts_of}

-- where the source told its bytes, all of them are read
abbrev pub ReadWhole : Option (List ℕ) → Option (List ℕ) → Type 0
ReadWhole before now = IfSome before (λ _. now ≡ Some [])

-- the text was appended, or a prefix of it where the count of faults rose
abbrev pub AppendsUnlessRose : Option (List ℕ) → Option (List ℕ) → ℕ → ℕ → List ℕ → Type 0
AppendsUnlessRose old new before now text = Appends old new text ⊎ (Rose before now × AppendsPrefix old new text)

-- the status, or that memory ran out
abbrev pub OrNoMemory : Status → Status → Type 0
OrNoMemory result defined = (result ≡ defined) ⊎ (result ≡ status.NoMemory)

-- the statuses with which the whole defined text is written
abbrev pub IsWhole : Status → Type 0
IsWhole status.Done = Unit {0}
IsWhole status.Broken = Unit {0}
IsWhole status.Usage = Unit {0}
IsWhole status.TooLong = Unit {0}
IsWhole _ = ⊥

-- the statuses with which nothing is written
abbrev pub IsSilent : Status → Type 0
IsSilent status.Usage = Unit {0}
IsSilent status.ReadFault = Unit {0}
IsSilent status.NoMemory = Unit {0}
IsSilent status.TooLong = Unit {0}
IsSilent _ = ⊥

-- the statuses of a run that writes its whole text
abbrev pub IsRun : Status → Type 0
IsRun status.Done = Unit {0}
IsRun status.Broken = Unit {0}
IsRun _ = ⊥

-- the statuses with which a command that reads has read its whole input
abbrev pub IsAfterReading : Status → Type 0
IsAfterReading status.Done = Unit {0}
IsAfterReading status.Broken = Unit {0}
IsAfterReading status.Refused = Unit {0}
IsAfterReading status.WriteFault = Unit {0}
IsAfterReading _ = ⊥

-- the statuses that come before the first write of a run: no fault of the sink hides them
abbrev pub IsEarly : Status → Type 0
IsEarly status.TooLong = Unit {0}
IsEarly status.Refused = Unit {0}
IsEarly _ = ⊥

-- the command runs a case by both methods
abbrev pub IsBoth : Option Command → Type 0
IsBoth (Some (OnCase (Both count))) = Unit {0}
IsBoth _ = ⊥

-- the command lists a case so that the listing assembles back
abbrev pub IsDisassembly : Option Command → Type 0
IsDisassembly (Some (OnCase Disassembly)) = Unit {0}
IsDisassembly _ = ⊥

-- What was written is a case itself: its image is that of the case that was read, but for the numbers of lines, and it has no
-- interrupts and no looks.
pub record WritesItsCase (case : Case) (old new : Option (List ℕ)) : Type 0 where
  pub image : ImageRecord
  pub list : ListRecord
  pub read : case ≡ Accepts image list
  pub text : List ℕ
  pub written : Appends old new text
  pub lined : ImageRecord
  pub back : case_of text ≡ Accepts lined no_injections
  pub same : unlined lined ≡ unlined image

-- One task history is written under both headings, and the lines of premises that are held stand behind it. Each line of a
-- history begins with a digit, and so none is a heading or the line of a premise.
pub record WritesOneHistory (old new : Option (List ℕ)) : Type 0 where
  pub history : List ℕ
  pub rest : List ℕ
  pub written : Appends old new (codes "method direct\n" ++ (history ++ (codes "method deferred\n" ++ (history ++ (codes "P1 held\nP2 held\nP3 held\nP4 held\n" ++ rest)))))

-- two runs of an image have one task history, with as many calls, switches and other lines
pub record AreToldAlike (image : ImageRecord) (a b : Run) : Type 0 where
  pub one_history : history image a ≡ history image b
  pub one_count : counts_of a.events ≡ counts_of b.events

-- of a summary: the two runs that it sums up have one task history, and the numbers that it tells of their histories are equal
abbrev pub SumsOneHistory : CaseCommand → ImageRecord → ListRecord → Type 0
SumsOneHistory (Summary seed size) image l = AreToldAlike image (run_of Deferred image l (steps_for size)) (run_of Direct image l (steps_for size))
SumsOneHistory command image l = Unit {0}

-- the case is accepted, and its two runs have one task history, with equal numbers
abbrev pub HasOneHistory : CaseCommand → Case → Type 0
HasOneHistory command (Accepts image l) = SumsOneHistory command image l
HasOneHistory command (Refuses line cause) = ⊥

-- of the generated case that the command sums up, if it does
abbrev pub SoaksOneHistory : Option Command → Type 0
SoaksOneHistory (Some (Soak seed size)) = HasOneHistory (Summary seed size) (case_of (generated seed size))
SoaksOneHistory _ = Unit {0}
