use Rattle.std.proofs.Common.{refl, length}
use Rattle.std.specs.Prelude.{codes}
use Rattle.std.proofs.lemmas.Result.{err_from_is_err_and}
use Rattle.outside.proofs.Known.{WritesPiece-after}
use Rattle.rv32_listing.specs.Disassembly.{code_lines}
use Rattle.rv32_listing.proofs.Sent.{AppendsPrefix-front}
use Rattle.rv32_listing.proofs.listing.write_code.Goals as goal

-- a prefix of the first line
pub returns-in_err-write-clause-bytes : goal.returns-in_err-write-clause-bytes
returns-in_err-write-clause-bytes g c =
    let p = err_from_is_err_and c.from_residual.result c.from_residual.ensures.1 in
    rw p.1 (AppendsPrefix-front (g.K.Sink.held c.args.sink.now) (g.K.Sink.held c.write.new.self) (codes ".code\n") (code_lines (length c.args.code.now) 0 c.args.code.now) c.in_err-write.ensures.bytes)

-- the words behind it
pub returns-clause-bytes : goal.returns-clause-bytes
returns-clause-bytes g c =
    WritesPiece-after c.write_code_lines.result (g.K.Sink.held c.args.sink.now) (g.K.Sink.held c.write.new.self) (g.K.Sink.held c.write_code_lines.new.sink)
    (codes ".code\n") (code_lines (length c.args.code.now) 0 c.args.code.now) _ c.in_ok-write.ensures.bytes c.write_code_lines.ensures.bytes refl
