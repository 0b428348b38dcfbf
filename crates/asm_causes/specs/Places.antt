-- Where lines begin.
use Rattle.std.specs.Prelude.{ℕ, ℤ, pos, ◌*◌, List, length, Option, Some, None, if◌then◌else◌}
use Rattle.asm_lines.specs.Language.{Statement, Words, Space, LoadConstant, LoadValue, CallService, Line}
use Rattle.asm_places.specs.Names.{Names}
use Rattle.asm_places.specs.Operands.{constant_of, fits_low}
use Rattle.asm_causes.specs.Causes.{is_early, is_instruction}
use Rattle.asm_lines.specs.declared.mnemonics.Section.{Section}
use Rattle.asm_places.specs.Counts.{Counts}

-- the bytes of `.space`
abbrev pub space_size : Option ℤ → ℕ
space_size (Some (pos value)) = value
space_size _ = 0

-- the bytes of `li`: one word where 12 bits hold the constant, else two
abbrev pub load_size : Option ℤ → ℕ
load_size (Some value) = if fits_low value then 4 else 8
load_size None = 0

-- the bytes that a statement gives
abbrev pub size_of : Names → Statement → ℕ
size_of names (Words values) = 4 * length values
size_of names (Space c) = space_size (constant_of names c)
size_of names (LoadConstant d c) = load_size (constant_of names c)
size_of names (LoadValue d v) = 8
size_of names (CallService number) = 8
size_of names statement = if is_instruction statement then 4 else 0

-- the bytes that a line gives: none with an early cause
abbrev pub bytes_of : Names → Counts → Section → Line → ℕ
bytes_of names c section l = if is_early names c section l then 0 else size_of names l.statement
