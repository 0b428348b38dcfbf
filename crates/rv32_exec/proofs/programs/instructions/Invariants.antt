use Rattle.std.proofs.Common.{take}
use Rattle.rv32_exec.specs.Decoding.{IsDecoded}
use Rattle.rv32_exec.proofs.programs.instructions.Given as goal

abbrev pub invariant-loop-word : goal.invariant-loop-word
invariant-loop-word l = IsDecoded (take l.word-index l.words) l.instrs.items
