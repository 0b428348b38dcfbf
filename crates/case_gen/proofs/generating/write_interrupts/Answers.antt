use Rattle.std.proofs.Common.{◌≡◌, ◌≤◌, ◌++◌, [], arith, ◌∙◌}
use Rattle.std.proofs.KnownBytes.{Appends-trans, Appends-nil}
use Rattle.std.proofs.lemmas.Result.{err_from_is_err_and}
use Rattle.outside.proofs.Known.{AppendsPrefix-after}
use Rattle.program_model.specs.Generated.{interrupt_lines, text_of}
use Rattle.case_gen.proofs.GenerateLaws.{whole_line, written_nothing, written_more}
use Rattle.case_gen.proofs.generating.write_interrupts.Goals as goal

pub lines-init : goal.lines-init
lines-init g c = record {
  written = ([], Appends-nil (g.K.Sink.held c.args.sink.now), written_nothing c.args.seed c.args.size);
  within = omega arith;
  few = c.requires;
  later = omega arith;
}

-- a prefix of the line is written, behind the lines before it
pub returns-in_err-write-clause-bytes : goal.returns-in_err-write-clause-bytes
returns-in_err-write-clause-bytes g c =
    let p = err_from_is_err_and c.from_residual.result c.from_residual.ensures.1 in
    let (front, written, so_far) = c.lines.invariant.written in
    let more : c.lines.number ≤ c.args.size = omega (arith, c.lines-test.true) in
    let next = written_more c.args.seed c.args.size front c.lines.number c.lines.draws.0 so_far more in
    let line : c.as_slice.result.now ≡ whole_line c.lines.number c.lines.draws.0 = c.as_slice.ensures.value ∙ c.interrupt_line-line.ensures.line in
    let said = rw line at c.in_err-write.ensures.bytes in
    rw p.1 (AppendsPrefix-after (g.K.Sink.held c.args.sink.now) (g.K.Sink.held c.lines.sink) (g.K.Sink.held c.write.new.self)
    front (whole_line c.lines.number c.lines.draws.0) next.rest (text_of (interrupt_lines c.args.size 1 c.args.seed)) written said next.follows)

-- the line is written
pub lines-preserved : goal.lines-preserved
lines-preserved g c =
    let (front, written, so_far) = c.lines.invariant.written in
    let more : c.lines.number ≤ c.args.size = omega (arith, c.lines-test.true) in
    let next = written_more c.args.seed c.args.size front c.lines.number c.lines.draws.0 so_far more in
    let line : c.as_slice.result.now ≡ whole_line c.lines.number c.lines.draws.0 = c.as_slice.ensures.value ∙ c.interrupt_line-line.ensures.line in
    let said = rw line at c.in_ok-write.ensures.bytes in
    record {
      written = (
        front ++ whole_line c.lines.number c.lines.draws.0,
        Appends-trans _ _ _ front _ written said,
        rw c.interrupt_line-line.ensures.last next.written,
      );
      within = omega (arith, more);
      few = c.lines.invariant.few;
      later = omega (arith, c.lines.invariant.later, c.in_ok-write.ensures.cause.later);
    }
