-- What was taken, as a message and its size.
use Rattle.std.specs.Prelude.{ℕ, Option, Some, None}
use Rattle.pend_multi.specs.declared.polls.Taken.{Taken}

abbrev pub message_of : Option Taken → Option (ℕ × ℕ)
message_of None = None
message_of (Some t) = Some (t.msg, t.size)
