use Rattle.std.proofs.Common.{◌≡◌, ◌++◌, ◌+◌, drop, arith, sym, ap, ◌∙◌, append_assoc}
use Rattle.std.proofs.Math.ListN.{get_or}
use Rattle.std.proofs.KnownBytes.{Appends-trans}
use Rattle.std.proofs.lemmas.Result.{err_from_is_err_and}
use Rattle.std.specs.List.{flat_map}
use Rattle.outside.proofs.Known.{AppendsPrefix-after}
use Rattle.rv32_listing.proofs.Sent.{lines_more}
use Rattle.rv32_listing.proofs.listing.write_rows.Goals as goal

-- a prefix of the record's line is written, behind the lines before it
pub returns-in_err-write-clause-bytes : goal.returns-in_err-write-clause-bytes
returns-in_err-write-clause-bytes g c =
    let p = err_from_is_err_and c.from_residual.result c.from_residual.ensures.1 in
    let (front, written, rest) = c.loop-row.invariant.written in
    let f = g.R.Rows.text in
    let i = c.loop-row.row-index in
    let row = get_or c.args.rows.now i c.row-item.result in
    let line : c.as_slice.result.now ≡ f row = cc in
    let said = rw line at c.in_err-write.ensures.bytes in
    rw p.1 (AppendsPrefix-after (g.K.Sink.held c.args.sink.now) (g.K.Sink.held c.loop-row.sink) (g.K.Sink.held c.write.new.self)
    front (f row) (flat_map f (drop (i + 1) c.args.rows.now)) (flat_map f c.args.rows.now) written said
    (rest ∙ ap (λ l. front ++ l) (lines_more f c.args.rows.now i c.row-item.result c.loop-row-test.true)))

-- the record's line is written
pub loop-row-preserved : goal.loop-row-preserved
loop-row-preserved g c =
    let (front, written, rest) = c.loop-row.invariant.written in
    let f = g.R.Rows.text in
    let i = c.loop-row.row-index in
    let row = get_or c.args.rows.now i c.row-item.result in
    let line : c.as_slice.result.now ≡ f row = cc in
    let said = rw line at c.in_ok-write.ensures.bytes in
    record {
      written = (
        front ++ f row,
        Appends-trans _ _ _ front _ written said,
        rest ∙ ap (λ l. front ++ l) (lines_more f c.args.rows.now i c.row-item.result c.loop-row-test.true) ∙ sym (append_assoc front _ _),
      );
      later = omega (arith, c.in_ok-write.ensures.cause.later);
    }
