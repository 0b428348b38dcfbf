-- How an ending is known from its parts.
use Rattle.std.proofs.Common.{◌≡◌, ◌≤◌, ℕ, List, length, Option, Some, None, Result, Ok, Err, IfSome, subst, inl, inr, nat_lt, false}
use Rattle.std.proofs.lemmas.Bool.{le-ltb}
use Rattle.std.specs.Prelude.{MatchResult}
use Rattle.std.specs.Io.KnownBytes.{Appends}
use Rattle.outside.specs.Causes.{HasCause}
use Rattle.outside.specs.Written.{WritesPiece}
use Rattle.program_model.specs.Limits.{longest_input}
use Rattle.program_model.specs.declared.statuses.Status.{Status}
use Rattle.program_model.specs.declared.statuses.Status.TheVariants.{Done, WriteFault}
use Rattle.program_model.specs.declared.commands.Command.{Command}
use Rattle.program_model.specs.declared.commands.Command.TheVariants.{OnCase, Generate, Soak}
use Rattle.program_model.specs.declared.commands.CaseCommand.{CaseCommand}
use Rattle.program_model.specs.Answer.{Answer, case_answer, command_answer, defined_of}
use Rattle.program_model.specs.Case.{case_of}
use Rattle.ucos_top.specs.Told.{AppendsUnlessRose}

-- a line was written, or a prefix of it where the write failed
pub line_written : {T E : Type 0} (r : Result T E) (old new : Option (List ℕ)) (before now : ℕ) (line : List ℕ) → WritesPiece old new r line → HasCause before now r → AppendsUnlessRose old new before now line
line_written (Ok x) old new before now line p cause = inl p
line_written (Err x) old new before now line p cause = inr (cause.failed, p)

-- a command that wrote is done where its whole text was written
pub whole_written : {T E : Type 0} (r : Result T E) (ending : Status) (old new : Option (List ℕ)) (text : List ℕ) → MatchResult r (λ _. ending ≡ Done) (λ _. ending ≡ WriteFault) → WritesPiece old new r text → ending ≡ Done → Appends old new text
whole_written (Ok x) ending old new text ends p done = p
whole_written (Err x) ending old new text ends p done = absurd cc

-- what holds of the answer on the bytes that were read holds of the defined answer
pub told_answer : (words : Option Command) (command : CaseCommand) (input : List ℕ) (left : Option (List ℕ)) (P : Answer → Type 0) → words ≡ Some (OnCase command)
    → length input ≤ longest_input → IfSome left (λ b. input ≡ b) → P (case_answer command (case_of input)) → IfSome (defined_of words left) P
told_answer words command input None P e short same p = rw e tt
told_answer words command input (Some bytes) P e short same p =
    let fits : nat_lt longest_input (length bytes) ≡ false = le-ltb longest_input (length bytes) (subst (λ l. length l ≤ longest_input) same short) in
    rw (e, fits) (subst (λ l. P (case_answer command (case_of l))) same p)

-- the defined answer is the answer on the bytes that the source told
pub answer_told : (command : Option Command) (input : List ℕ) (P : Answer → Type 0) → IfSome (defined_of command (Some input)) P → P (command_answer command input)
answer_told None input P p = p
answer_told (Some (OnCase command)) input P p = p
answer_told (Some (Generate seed size)) input P p = p
answer_told (Some (Soak seed size)) input P p = p
