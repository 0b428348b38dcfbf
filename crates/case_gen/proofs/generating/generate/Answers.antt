use Rattle.std.specs.Prelude.{codes}
use Rattle.std.proofs.Common.{◌++◌, [], ◌∷◌}
use Rattle.std.proofs.KnownBytes.{Appends-nil}
use Rattle.std.proofs.lemmas.Result.{err_from_is_err_and}
use Rattle.outside.proofs.Known.{AppendsPrefix-after, WritesPiece-after}
use Rattle.program_model.specs.Application.{application}
use Rattle.program_model.specs.Generated.{generated, interrupt_lines, text_of}
use Rattle.case_gen.proofs.GenerateLaws.{in_two_parts}
use Rattle.case_gen.proofs.generating.generate.Goals as goal

-- a prefix of the application is written
pub returns-in_err-write_application-clause-bytes : goal.returns-in_err-write_application-clause-bytes
returns-in_err-write_application-clause-bytes g c =
    let p = err_from_is_err_and c.from_residual.result c.from_residual.ensures.1 in
    let before = g.K.Sink.held c.args.sink.now in
    rw p.1 (AppendsPrefix-after before before (g.K.Sink.held c.write_application.new.sink) []
    (text_of (application ++ codes ".inject" ∷ [])) (text_of (interrupt_lines c.args.size 1 c.args.seed)) (generated c.args.seed c.args.size)
    (Appends-nil before) c.in_err-write_application.ensures.bytes (in_two_parts c.args.seed c.args.size))

-- the interrupts are written behind the application
pub returns-clause-bytes : goal.returns-clause-bytes
returns-clause-bytes g c =
    WritesPiece-after c.write_interrupts.result _ _ _ (text_of (application ++ codes ".inject" ∷ []))
    (text_of (interrupt_lines c.args.size 1 c.args.seed)) (generated c.args.seed c.args.size)
    c.in_ok-write_application.ensures.bytes c.write_interrupts.ensures.bytes (in_two_parts c.args.seed c.args.size)
