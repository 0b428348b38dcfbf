-- What a source and a sink over memory do in a call, by its number.
use Rattle.std.specs.Prelude.{ℕ, ◌+◌, ◌-◌, ◌^◌, ◌≤◌, List, [], ◌∷◌, min, ◌==◌, None, Some, Option, if◌then◌else◌}

-- the number of the call after so many; a number past the type's end is in no list
abbrev pub counted : ℕ → ℕ
counted calls = min (calls + 1) (2 ^ 64 - 1)

-- how many bytes a numbered call may take, by the first entry of its number
abbrev pub limit_at : List (ℕ × ℕ) → ℕ → Option ℕ
limit_at [] number = None
limit_at (entry ∷ entries) number = if entry.0 == number then Some entry.1 else limit_at entries number

-- how many bytes of a piece are taken
abbrev pub taken : Option ℕ → ℕ → ℕ → ℕ
taken None len room = min len room
taken (Some most) len room = min most (min len room)

-- the call appends the whole piece and does not fail
abbrev pub Succeeds : Option ℕ → ℕ → ℕ → Type 0
Succeeds None len room = len ≤ room
Succeeds (Some most) len room = ⊥

-- a source over memory: the bytes left, how many a call gives at most, the calls that fail, and the
-- calls and faults so far
pub record SourceState : Type 0 where
  pub left : List ℕ
  pub piece : ℕ
  pub fails : List ℕ
  pub calls : ℕ
  pub faults : ℕ

-- a sink over memory: the bytes held, its room, the calls that fail after so many bytes, and the
-- calls and faults so far
pub record SinkState : Type 0 where
  pub held : List ℕ
  pub capacity : ℕ
  pub fails : List (ℕ × ℕ)
  pub calls : ℕ
  pub faults : ℕ
