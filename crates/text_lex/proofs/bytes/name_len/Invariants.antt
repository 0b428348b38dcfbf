use Rattle.std.proofs.Common.{◌≡◌, ◌+◌, drop}
use Rattle.std.specs.List.{prefix_len}
use Rattle.text_lex.specs.Bytes.{is_name_byte}
use Rattle.text_lex.proofs.bytes.name_len.Given as goal

-- the bytes so far pass, and the rest is counted from here
abbrev pub invariant-loop-i : goal.invariant-loop-i
invariant-loop-i l = l.i + prefix_len is_name_byte (drop l.i l.bytes) ≡ prefix_len is_name_byte l.bytes
