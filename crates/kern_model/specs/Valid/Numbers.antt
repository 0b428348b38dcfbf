-- Words of the machine, and tests as numbers.
use Rattle.std.specs.Prelude.{◌<◌, ℕ, ◌^◌, Bool, if◌then◌else◌}

-- 1 where a test holds, else 0
abbrev pub one_if : Bool → ℕ
one_if b = if b then 1 else 0

-- a word of the machine
abbrev pub IsWord : ℕ → Type 0
IsWord n = n < 2 ^ 32
