-- Where a line begins.
use Rattle.std.specs.Prelude.{ℕ}
use Rattle.asm_lines.specs.declared.mnemonics.Section.{Section}

-- its section, and the bytes of code and of RAM before it
pub record Place : Type 0 where
  pub section : Section
  pub code : ℕ
  pub ram : ℕ
