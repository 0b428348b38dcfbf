use Rattle.std.proofs.Common.{◌≡◌, ◌++◌, arith, sym, ap, ◌∙◌, append_assoc}
use Rattle.std.proofs.KnownBytes.{Appends-trans}
use Rattle.std.proofs.lemmas.Result.{err_from_is_err_and}
use Rattle.outside.proofs.Known.{AppendsPrefix-after}
use Rattle.case_gen.proofs.generating.write_lines.Goals as goal

-- a prefix of the line is written, behind the lines before it
pub returns-in_err-write-clause-bytes : goal.returns-in_err-write-clause-bytes
returns-in_err-write-clause-bytes g c =
    let p = err_from_is_err_and c.from_residual.result c.from_residual.ensures.1 in
    let (front, written, rest) = c.lines.invariant.written in
    let line = c.split_at-parts.result.0.now in
    let behind = c.split_at-parts.result.1.now in
    let cut : c.lines.rest.now ≡ line ++ behind = c.split_at-parts.ensures.by_index.0 in
    rw p.1 (AppendsPrefix-after (g.K.Sink.held c.args.sink.now) (g.K.Sink.held c.lines.sink) (g.K.Sink.held c.write.new.self)
    front line behind c.args.text.now written c.in_err-write.ensures.bytes (rest ∙ ap (λ l. front ++ l) cut))

-- the line is written
pub lines-preserved : goal.lines-preserved
lines-preserved g c =
    let (front, written, rest) = c.lines.invariant.written in
    let line = c.split_at-parts.result.0.now in
    let behind = c.split_at-parts.result.1.now in
    let cut : c.lines.rest.now ≡ line ++ behind = c.split_at-parts.ensures.by_index.0 in
    record {
      written = (
        front ++ line,
        Appends-trans _ _ _ front line written c.in_ok-write.ensures.bytes,
        rest ∙ ap (λ l. front ++ l) cut ∙ sym (append_assoc front line behind),
      );
      later = omega (arith, c.lines.invariant.later, c.in_ok-write.ensures.cause.later);
    }
