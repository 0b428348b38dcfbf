-- A name in a field of 16 bytes.
use Rattle.std.specs.Prelude.{ℕ, ◌-◌, List, ◌++◌, length, replicate}

-- a name, filled with zeros to 16 bytes
abbrev pub name_bytes : List ℕ → List ℕ
name_bytes name = name ++ replicate (16 - length name) 0
