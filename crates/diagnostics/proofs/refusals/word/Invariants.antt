use Rattle.std.proofs.Common.{◌≡◌, ◌++◌, take, drop}
use Rattle.diagnostics.specs.Messages.{word}
use Rattle.diagnostics.proofs.refusals.word.Given as goal

-- the bytes so far are of the word
abbrev pub invariant-loop-k : goal.invariant-loop-k
invariant-loop-k l = word l.bytes ≡ take l.k l.bytes ++ word (drop l.k l.bytes)
