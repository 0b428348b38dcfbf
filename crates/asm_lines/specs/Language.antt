-- The words of the language: what stands on the lines of a case text. A name is the bytes that spell it.
use Rattle.std.specs.Prelude.{ℕ, ℤ, List, Option}
use Rattle.kern_base.specs.declared.kinds.Kind.{Kind}
use Rattle.app_image.specs.declared.settings.ConfigKey.{ConfigKey}
use Rattle.rv32_isa.specs.declared.mnemonics.RegisterOp.{RegisterOp}
use Rattle.rv32_isa.specs.declared.mnemonics.ImmediateOp.{ImmediateOp}
use Rattle.rv32_isa.specs.declared.mnemonics.ShiftOp.{ShiftOp}
use Rattle.rv32_isa.specs.declared.mnemonics.StoreOp.{StoreOp}
use Rattle.rv32_isa.specs.declared.mnemonics.BranchOp.{BranchOp}
use Rattle.rv32_isa.specs.declared.mnemonics.UpperOp.{UpperOp}
use Rattle.rv32_isa.specs.declared.mnemonics.AloneOp.{AloneOp}
use Rattle.asm_lines.specs.declared.mnemonics.Section.{Section}

-- a number, or a name that stands for one
pub data Operand : Type 0 where
  Number : ℤ → Operand
  Named : List ℕ → Operand

-- what a token is to the assembler: an operand, a dot with a name, a sign, or the end of a line
pub data Piece : Type 0 where
  Is : Operand → Piece
  Dotted : List ℕ → Piece
  Comma : Piece
  Open : Piece
  Close : Piece
  Colon : Piece
  Ends : Piece

-- what follows the label of a line. A register is its number, or none where a name stands that is no register
pub data Statement : Type 0 where
  -- no statement; one that begins with nothing known; one that is not the form of what it begins with
  Nothing : Statement
  Unknown : Statement
  Malformed : Statement
  -- `.code` or `.ram`; `.inject`
  Sections : Section → Statement
  Inject : Statement
  -- `.word`, `.space`, `.equ`
  Words : (values : List Operand) → Statement
  Space : (size : Operand) → Statement
  Equ : (name : List ℕ) → (value : ℤ) → Statement
  -- a task's name, and its entry, priority, quantum, queue size and stack pointer
  Task : (name : List ℕ) → (values : List Operand) → Statement
  -- an object's name, kind, and the four fields of its record
  Object : (name : List ℕ) → Kind → (values : List Operand) → Statement
  -- a vector's number, level, entry and stack pointer
  Vector : (values : List Operand) → Statement
  -- a setting, or none where the key is none, and its value
  Setting : Option ConfigKey → Operand → Statement
  -- instructions by their forms
  Registers : RegisterOp → (rd rs1 rs2 : Option ℕ) → Statement
  Immediate : ImmediateOp → (rd rs1 : Option ℕ) → (constant : Operand) → Statement
  Shift : ShiftOp → (rd rs1 : Option ℕ) → (constant : Operand) → Statement
  Store : StoreOp → (rs2 rs1 : Option ℕ) → (constant : Operand) → Statement
  Branch : BranchOp → (rs1 rs2 : Option ℕ) → (target : List ℕ) → Statement
  Upper : UpperOp → (rd : Option ℕ) → (constant : Operand) → Statement
  Jump : (rd : Option ℕ) → (target : List ℕ) → Statement
  Alone : AloneOp → Statement
  -- `li`, `la`, and `os` by the number of the service
  LoadConstant : (rd : Option ℕ) → (constant : Operand) → Statement
  LoadValue : (rd : Option ℕ) → (value : Operand) → Statement
  CallService : ℕ → Statement

-- a line that is not empty, with its number in the text, from 1
pub record Line : Type 0 where
  pub number : ℕ
  pub label : Option (List ℕ)
  pub statement : Statement
