use Rattle.std.proofs.Common.{◌∙◌, sym, ap}
use Rattle.rv32_isa.specs.Decoded.{decoded}
use Rattle.rv32_isa.proofs.Law.{decoded-encoded, word_of}
use Rattle.rv32_isa.proofs.encoding.encode.Goals as goal

pub returns-clause-back : goal.returns-clause-back
returns-clause-back c = ap decoded c.listed.ensures ∙ decoded-encoded c.args.instr.now c.requires

pub returns-clause-only : goal.returns-clause-only
returns-clause-only c word fits means = sym (word_of word c.args.instr.now fits means) ∙ sym c.listed.ensures
