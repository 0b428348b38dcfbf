-- Numbers that every layer shares.
use Rattle.std.specs.Prelude.{ℕ}

-- the address to which a task, an interrupt routine and a callback return; no code lies there
abbrev pub leave : ℕ
leave = 0xFFFFFFF0
