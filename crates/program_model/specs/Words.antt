-- Which command the words are, if any.
use Rattle.std.specs.Prelude.{ℕ, ◌+◌, ◌-◌, ◌*◌, ◌^◌, List, [], ◌∷◌, length, Bool, ◌&&◌, nat_le, Option, None, Some, if◌then◌else◌, codes, map}
use Rattle.std.specs.List.{list_all}
use Rattle.std.specs.Char.{is_ascii_digit}
use Rattle.std.specs.Str.{bytes_eq}
use Rattle.std.specs.String.{string_bytes}
use Rattle.std.specs.declared.string.String.{String}
use Rattle.std.specs.declared.alloc.Global.{Global}
use Rattle.kern_base.specs.declared.kinds.Method.{Method}
use Rattle.kern_base.specs.declared.kinds.Method.TheVariants.{Direct, Deferred}
use Rattle.program_model.specs.Limits.{most_task_steps, most_lines}
use Rattle.program_model.specs.declared.commands.Command.{Command}
use Rattle.program_model.specs.declared.commands.Command.TheVariants.{OnCase, Generate, Soak}
use Rattle.program_model.specs.declared.commands.CaseCommand.TheVariants.{Run, Both, Listing, Disassembly, Binary}

-- the value of decimal digits behind a front of this value
abbrev pub value_of : ℕ → List ℕ → ℕ
value_of front [] = front
value_of front (digit ∷ digits) = value_of (front * 10 + (digit - 48)) digits

-- one to so many decimal digits, of a value from a least to a greatest one; there may be leading zeros
abbrev pub is_number : ℕ → ℕ → ℕ → List ℕ → Bool
is_number most least greatest word =
    nat_le 1 (length word) && (nat_le (length word) most && (list_all is_ascii_digit word && (nat_le least (value_of 0 word) && nat_le (value_of 0 word) greatest)))

-- the number that such a word is
abbrev pub number_word : ℕ → ℕ → ℕ → List ℕ → Option ℕ
number_word most least greatest word = if is_number most least greatest word then Some (value_of 0 word) else None

-- the number of task steps that a word asks for: one to seven digits, at most 1,000,000
abbrev pub count_word : List ℕ → Option ℕ
count_word word = number_word 7 0 most_task_steps word

-- a seed: one to twenty digits, at most 2^64 - 1
abbrev pub seed_word : List ℕ → Option ℕ
seed_word word = number_word 20 0 (2 ^ 64 - 1) word

-- a size: one to five digits, 1 to 16,384
abbrev pub size_word : List ℕ → Option ℕ
size_word word = number_word 5 1 most_lines word

abbrev pub method_word : List ℕ → Option Method
method_word word = if bytes_eq word (codes "direct") then Some Direct else (if bytes_eq word (codes "deferred") then Some Deferred else None)

-- a method and a number of task steps
abbrev pub run_command : Option Method → Option ℕ → Option Command
run_command None count = None
run_command (Some method) None = None
run_command (Some method) (Some count) = Some (OnCase (Run method count))

-- `list`, `dis` and `image`
abbrev pub one_word : List ℕ → Option Command
one_word first =
    if bytes_eq first (codes "list") then Some (OnCase Listing) else
    (if bytes_eq first (codes "dis") then Some (OnCase Disassembly) else
    (if bytes_eq first (codes "image") then Some (OnCase Binary) else None))

-- both methods to a number of task steps
abbrev pub both_command : Option ℕ → Option Command
both_command None = None
both_command (Some count) = Some (OnCase (Both count))

-- `both N`
abbrev pub two_words : List ℕ → List ℕ → Option Command
two_words first count = if bytes_eq first (codes "both") then both_command (count_word count) else None

-- the generated case of a seed and a size
abbrev pub generate_command : Option ℕ → Option ℕ → Option Command
generate_command None size = None
generate_command (Some seed) None = None
generate_command (Some seed) (Some size) = Some (Generate seed size)

-- a summary of its runs
abbrev pub soak_command : Option ℕ → Option ℕ → Option Command
soak_command None size = None
soak_command (Some seed) None = None
soak_command (Some seed) (Some size) = Some (Soak seed size)

-- `run direct N`, `run deferred N`, `gen SEED SIZE` and `soak SEED SIZE`
abbrev pub three_words : List ℕ → List ℕ → List ℕ → Option Command
three_words first second third =
    if bytes_eq first (codes "run") then run_command (method_word second) (count_word third) else
    (if bytes_eq first (codes "gen") then generate_command (seed_word second) (size_word third) else
    (if bytes_eq first (codes "soak") then soak_command (seed_word second) (size_word third) else None))

-- the command that the words are
abbrev pub command_of : List (List ℕ) → Option Command
command_of (first ∷ []) = one_word first
command_of (first ∷ count ∷ []) = two_words first count
command_of (first ∷ second ∷ third ∷ []) = three_words first second third
command_of _ = None

-- the bytes of each word
abbrev pub texts : List (String Global) → List (List ℕ)
texts words = map string_bytes words
