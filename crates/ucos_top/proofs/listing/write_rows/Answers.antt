use Rattle.std.proofs.Common.{◌≡◌, ◌++◌, ◌+◌, drop, arith, sym, ap, ◌∙◌, append_assoc}
use Rattle.std.proofs.Math.ListN.{get_or}
use Rattle.std.proofs.KnownBytes.{Appends-trans}
use Rattle.std.proofs.lemmas.Result.{err_from_is_err_and}
use Rattle.outside.proofs.Known.{AppendsPrefix-after}
use Rattle.program_model.specs.Listing.{numbered}
use Rattle.ucos_top.proofs.RowLemmas.{rows_more}
use Rattle.ucos_top.proofs.listing.write_rows.Goals as goal

-- a prefix of the row's line is written, behind the lines before it
pub returns-in_err-write_line-clause-bytes : goal.returns-in_err-write_line-clause-bytes
returns-in_err-write_line-clause-bytes g c =
    let p = err_from_is_err_and c.from_residual.result c.from_residual.ensures.1 in
    let (front, written, rest) = c.loop-row.invariant.written in
    let f = g.R.Rows.text in
    let i = c.loop-row.row-index in
    let row = get_or c.args.rows.now i c.row-item.result in
    let line : c.line.result.items ≡ f i row = cc in
    let said = rw line at c.in_err-write_line.ensures.bytes in
    rw p.1 (AppendsPrefix-after (g.K.Sink.held c.args.sink.now) (g.K.Sink.held c.loop-row.sink) (g.K.Sink.held c.write_line.new.sink)
    front (f i row) (numbered f (i + 1) (drop (i + 1) c.args.rows.now)) (numbered f 0 c.args.rows.now) written said
    (rest ∙ ap (λ l. front ++ l) (rows_more f c.args.rows.now i c.row-item.result c.loop-row-test.true)))

-- the row's line is written
pub loop-row-preserved : goal.loop-row-preserved
loop-row-preserved g c =
    let (front, written, rest) = c.loop-row.invariant.written in
    let f = g.R.Rows.text in
    let i = c.loop-row.row-index in
    let row = get_or c.args.rows.now i c.row-item.result in
    let line : c.line.result.items ≡ f i row = cc in
    let said = rw line at c.in_ok-write_line.ensures.bytes in
    record {
      number = omega (arith, c.loop-row.invariant.number);
      written = (
        front ++ f i row,
        Appends-trans _ _ _ front _ written said,
        rest ∙ ap (λ l. front ++ l) (rows_more f c.args.rows.now i c.row-item.result c.loop-row-test.true) ∙ sym (append_assoc front _ _),
      );
      later = omega (arith, c.in_ok-write_line.ensures.cause.later);
    }
