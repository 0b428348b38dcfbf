-- Tables by name.
use Rattle.std.specs.Prelude.{ℕ, List, [], ◌∷◌, Option, Some, None, if◌then◌else◌}
use Rattle.std.specs.Str.{bytes_eq}
use Rattle.std.specs.Borrow.{Bor}

-- the entry of a name in a table
abbrev pub entry : {V : Type 0} → List ℕ → List (List ℕ × V) → Option V
entry name [] = None
entry name (row ∷ rows) = if bytes_eq name row.0 then Some row.1 else entry name rows

-- a row, where a table keeps its name behind a reference
abbrev pub row_of : {V : Type 0} → Bor (List ℕ) × V → List ℕ × V
row_of row = (row.0.now, row.1)
