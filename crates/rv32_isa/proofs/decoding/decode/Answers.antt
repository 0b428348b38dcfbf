use Rattle.std.proofs.Common.{◌∙◌, sym, ap}
use Rattle.rv32_isa.specs.Decoded.{decoded}
use Rattle.rv32_isa.proofs.Law.{decoded-encoded, encoded-decoded}
use Rattle.rv32_isa.proofs.decoding.decode.Goals as goal

pub returns-clause-row : goal.returns-clause-row
returns-clause-row c =
    rw c.by_opcode.ensures (encoded-decoded c.args.word c.ranges.word.fits)

pub returns-clause-only : goal.returns-clause-only
returns-clause-only c instr range word =
    c.by_opcode.ensures ∙ ap decoded (sym word) ∙ decoded-encoded instr range
