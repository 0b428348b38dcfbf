use Rattle.std.proofs.Common.{◌≡◌, ◌++◌, ◌+◌, ◌*◌, drop, length, arith, sym, ap, ◌∙◌, append_assoc}
use Rattle.std.proofs.Math.ListN.{get_or}
use Rattle.std.proofs.KnownBytes.{Appends-trans}
use Rattle.std.proofs.lemmas.Result.{err_from_is_err_and}
use Rattle.outside.proofs.Known.{AppendsPrefix-after}
use Rattle.rv32_listing.specs.WordLines.{code_line}
use Rattle.rv32_listing.specs.Disassembly.{code_lines}
use Rattle.rv32_listing.proofs.Sent.{code_more}
use Rattle.rv32_listing.proofs.listing.write_code_lines.Goals as goal

-- a prefix of the word's line is written, behind the lines before it
pub returns-in_err-write-clause-bytes : goal.returns-in_err-write-clause-bytes
returns-in_err-write-clause-bytes g c =
    let p = err_from_is_err_and c.from_residual.result c.from_residual.ensures.1 in
    let (front, written, rest) = c.loop-word.invariant.written in
    let code = c.args.code.now in
    let i = c.loop-word.word-index in
    let text = code_line (length code) (4 * i) (get_or code i 0) in
    let number : c.loop-word.number ≡ i = c.loop-word.invariant.number in
    let line : c.as_slice.result.now ≡ text = c.as_slice.ensures.value ∙ (c.line_of_word.ensures ∙ ap (λ n. code_line (length code) (4 * n) (get_or code i 0)) number) in
    let said = rw line at c.in_err-write.ensures.bytes in
    rw p.1 (AppendsPrefix-after (g.K.Sink.held c.args.sink.now) (g.K.Sink.held c.loop-word.sink) (g.K.Sink.held c.write.new.self)
    front text (code_lines (length code) (i + 1) (drop (i + 1) code)) (code_lines (length code) 0 code) written said
    (rest ∙ ap (λ l. front ++ l) (code_more (length code) code i c.loop-word-test.true)))

-- the word's line is written
pub loop-word-preserved : goal.loop-word-preserved
loop-word-preserved g c =
    let (front, written, rest) = c.loop-word.invariant.written in
    let code = c.args.code.now in
    let i = c.loop-word.word-index in
    let text = code_line (length code) (4 * i) (get_or code i 0) in
    let number : c.loop-word.number ≡ i = c.loop-word.invariant.number in
    let line : c.as_slice.result.now ≡ text = c.as_slice.ensures.value ∙ (c.line_of_word.ensures ∙ ap (λ n. code_line (length code) (4 * n) (get_or code i 0)) number) in
    let said = rw line at c.in_ok-write.ensures.bytes in
    record {
      number = omega (arith, number);
      written = (
        front ++ text,
        Appends-trans _ _ _ front _ written said,
        rest ∙ ap (λ l. front ++ l) (code_more (length code) code i c.loop-word-test.true) ∙ sym (append_assoc front _ _),
      );
      later = omega (arith, c.in_ok-write.ensures.cause.later);
    }
