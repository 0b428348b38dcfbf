-- Code that is decoded once.
use Rattle.std.specs.Prelude.{ℕ, ◌≡◌, All, IfSome, List, Option, Some, None, map}
use Rattle.rv32_isa.specs.Decoded.{decoded}
use Rattle.rv32_isa.specs.Listing.{IsInRange}
use Rattle.rv32_isa.specs.declared.Instr.{Instr}

-- the instruction of each word, with registers and immediates in their ranges
pub record IsDecoded (words : List ℕ) (instrs : List (Option Instr)) : Type 0 where
  pub instructions : instrs ≡ map decoded words
  pub ranges : All (λ i. IfSome i IsInRange) instrs

-- the instruction of a word that was fetched, if it is one
abbrev pub instruction_in : Option ℕ → Option Instr
instruction_in None = None
instruction_in (Some word) = decoded word
