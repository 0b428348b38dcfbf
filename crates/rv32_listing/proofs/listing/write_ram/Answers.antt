use Rattle.std.proofs.Common.{refl}
use Rattle.std.specs.Prelude.{codes}
use Rattle.std.specs.List.{flat_map}
use Rattle.std.proofs.lemmas.Result.{err_from_is_err_and}
use Rattle.outside.proofs.Known.{WritesPiece-after}
use Rattle.rv32_listing.specs.Disassembly.{ram_line}
use Rattle.rv32_listing.proofs.Sent.{AppendsPrefix-front}
use Rattle.rv32_listing.proofs.listing.write_ram.Goals as goal

-- a prefix of the first line
pub returns-in_err-write-clause-bytes : goal.returns-in_err-write-clause-bytes
returns-in_err-write-clause-bytes g c =
    let p = err_from_is_err_and c.from_residual.result c.from_residual.ensures.1 in
    rw p.1 (AppendsPrefix-front (g.K.Sink.held c.args.sink.now) (g.K.Sink.held c.write.new.self) (codes ".ram\n") (flat_map ram_line c.args.ram.now) c.in_err-write.ensures.bytes)

-- the words behind it
pub returns-clause-bytes : goal.returns-clause-bytes
returns-clause-bytes g c =
    WritesPiece-after c.write_rows.result (g.K.Sink.held c.args.sink.now) (g.K.Sink.held c.write.new.self) (g.K.Sink.held c.write_rows.new.sink)
    (codes ".ram\n") (flat_map ram_line c.args.ram.now) _ c.in_ok-write.ensures.bytes c.write_rows.ensures.bytes refl
