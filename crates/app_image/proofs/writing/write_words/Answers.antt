use Rattle.std.proofs.Common.{◌-◌, ◌≤◌, take, drop, subst, sym, arith}
use Rattle.std.specs.Io.KnownBytes.{Appends}
use Rattle.std.proofs.KnownBytes.{Appends-trans}
use Rattle.std.proofs.lemmas.Result.{err_from_is_err_and}
use Rattle.outside.proofs.Known.{AppendsPrefix-after}
use Rattle.app_image.specs.Layout.{word_bytes, words_bytes}
use Rattle.app_image.proofs.Pieces.{flat_map-take, flat_map-part}
use Rattle.app_image.proofs.writing.write_words.Goals as goal

-- a prefix of the next words is written, behind those before them
pub returns-in_err-write-clause-bytes : goal.returns-in_err-write-clause-bytes
returns-in_err-write-clause-bytes g c =
    let p = err_from_is_err_and c.from_residual.result c.from_residual.ensures.1 in
    let ws = c.args.words.now in
    let at = c.loop-at.at in
    let end = c.min-end.result in
    let order : at ≤ end = omega (arith, c.min-end.ensures, c.loop-at.invariant.within) in
    let said = rw (c.as_slice.ensures.value, c.words_piece-piece.ensures) at c.in_err-write.ensures.bytes in
    rw p.1 (AppendsPrefix-after (g.K.Sink.held c.args.sink.now) (g.K.Sink.held c.loop-at.sink) (g.K.Sink.held c.write.new.self)
    (words_bytes (take at ws)) (words_bytes (take (end - at) (drop at ws))) (words_bytes (drop end ws)) (words_bytes ws)
    c.loop-at.invariant.written said (flat_map-part word_bytes ws at end order))

-- the next words are written
pub loop-at-preserved : goal.loop-at-preserved
loop-at-preserved g c =
    let ws = c.args.words.now in
    let at = c.loop-at.at in
    let end = c.min-end.result in
    let order : at ≤ end = omega (arith, c.min-end.ensures, c.loop-at.invariant.within) in
    let said = rw (c.as_slice.ensures.value, c.words_piece-piece.ensures) at c.in_ok-write.ensures.bytes in
    record {
      within = omega (arith, c.min-end.ensures);
      written = subst (Appends (g.K.Sink.held c.args.sink.now) (g.K.Sink.held c.write.new.self)) (sym (flat_map-take word_bytes ws at end order))
          (Appends-trans (g.K.Sink.held c.args.sink.now) (g.K.Sink.held c.loop-at.sink) (g.K.Sink.held c.write.new.self) (words_bytes (take at ws)) (words_bytes (take (end - at) (drop at ws))) c.loop-at.invariant.written said);
      later = omega (arith, c.in_ok-write.ensures.cause.later);
    }
