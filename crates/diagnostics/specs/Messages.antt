-- What is told on the standard error.
use Rattle.std.specs.Prelude.{◌<◌, ℕ, List, [], ◌∷◌, ◌++◌, length, nat_le, codes, decimal, if◌then◌else◌}
use Rattle.std.specs.Str.{bytes_eq}
use Rattle.program_model.specs.declared.statuses.Status.{Status}
use Rattle.program_model.specs.declared.statuses.Status.TheVariants.{Done, Broken, Usage, Refused, ReadFault, WriteFault, NoMemory, TooLong}
use Rattle.program_model.specs.declared.causes.CaseCause.{CaseCause}
use Rattle.program_model.specs.Refusals.{letter, number}
use Rattle.diagnostics.specs.Meanings.{meaning}

-- the bytes up to the first blank or line feed
abbrev pub word : List ℕ → List ℕ
word [] = []
word (byte ∷ bytes) = if nat_le byte 32 then [] else byte ∷ word bytes

-- the name of a cause: the letter of its stage and its number there, as `A5`
abbrev pub cause_name : CaseCause → List ℕ
cause_name cause = letter cause ++ decimal (number cause)

-- the place of a refusal, by the number of its line; nothing at line 0, where no line is at fault
abbrev pub place : List ℕ → List ℕ
place line = if bytes_eq line (codes "0") then [] else codes "line " ++ (line ++ codes ": ")

-- a place, a cause and its meaning
abbrev pub message : List ℕ → List ℕ → List ℕ
message line cause = place line ++ (cause ++ (codes ": " ++ (meaning cause ++ codes "\n")))

-- what is told of a refused case, as `line 5: A1: no mnemonic, pseudo-instruction or directive has this name`
abbrev pub refusal_message : ℕ → CaseCause → List ℕ
refusal_message line cause = message (decimal line) (cause_name cause)

-- the cause has a meaning
abbrev pub HasMeaning : CaseCause → Type 0
HasMeaning cause = 0 < length (meaning (cause_name cause))

-- what is told of every other end; of a refused case its message is told
abbrev pub ending : Status → List ℕ
ending Done = []
ending Broken = []
ending Usage = codes "usage: ucos3 run direct N < CASE     print the run of a case to N task steps, 0 to 1,000,000; interrupt code posts at once\n       ucos3 run deferred N < CASE   the same, where what interrupt code posts waits for the handler\n       ucos3 both N < CASE           print both task histories, and the premises under which they are equal\n       ucos3 list < CASE             print what a case declares, its code and its initial RAM\n       ucos3 dis < CASE              print the case as a listing that assembles back\n       ucos3 image < CASE            write the binary image of a case\n       ucos3 gen SEED SIZE           write a generated case with SIZE lines of interrupts, 1 to 16384\n       ucos3 soak SEED SIZE          print a summary of both runs of that case\n"
ending Refused = []
ending ReadFault = codes "the standard input could not be read; nothing was written\n"
ending WriteFault = codes "the standard output could not be written; what was written is a prefix of the text\n"
ending NoMemory = codes "there was not enough memory; nothing was written\n"
ending TooLong = codes "the input has more than 4,194,304 bytes; nothing was written\n"
