-- Tables by name, in parts by the first byte of the names.
use Rattle.std.specs.Prelude.{ℕ, ◌==◌, List, [], ◌∷◌, Bool, false}
use Rattle.std.specs.List.{filter}

-- a name begins with a byte
abbrev pub begins_with : ℕ → List ℕ → Bool
begins_with byte [] = false
begins_with byte (first ∷ name) = byte == first

-- the rows whose names begin with a byte
abbrev pub rows_by : {V : Type 0} → ℕ → List (List ℕ × V) → List (List ℕ × V)
rows_by byte rows = filter (λ row. begins_with byte row.0) rows
