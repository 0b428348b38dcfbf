use Rattle.std.proofs.Common.{◌≡◌, take, map}
use Rattle.asm_lines.specs.Kept.{kept_of}
use Rattle.asm_lines.proofs.lines.refill.Given as goal

abbrev pub invariant-loop-token : goal.invariant-loop-token
invariant-loop-token l = l.pieces.items ≡ map kept_of (take l.token-index l.tokens)
