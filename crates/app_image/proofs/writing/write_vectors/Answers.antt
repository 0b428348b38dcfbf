use Rattle.std.proofs.Common.{◌+◌, take, drop, subst, sym, arith, get_or}
use Rattle.std.specs.List.{flat_map}
use Rattle.std.specs.Io.KnownBytes.{Appends}
use Rattle.std.proofs.KnownBytes.{Appends-trans}
use Rattle.std.proofs.lemmas.Result.{err_from_is_err_and}
use Rattle.outside.proofs.Known.{AppendsPrefix-after}
use Rattle.app_image.specs.declared.records.VectorDef.{VectorDef}
use Rattle.app_image.specs.Layout.{vector_bytes}
use Rattle.app_image.proofs.Pieces.{flat_map-at, flat_map-more}
use Rattle.app_image.proofs.writing.write_vectors.Goals as goal

blank : VectorDef
blank = record { number = 0; level = 0; entry = 0; sp = 0; line = 0 }

-- a prefix of the next vector is written, behind those before it
pub returns-in_err-write-clause-bytes : goal.returns-in_err-write-clause-bytes
unfolding blank
returns-in_err-write-clause-bytes g c =
    let p = err_from_is_err_and c.from_residual.result c.from_residual.ensures.1 in
    let xs = c.args.vectors.now in
    let i = c.loop-vector.vector-index in
    let said = rw (c.as_slice.ensures.value, c.vector_piece-piece.ensures) at c.in_err-write.ensures.bytes in
    rw p.1 (AppendsPrefix-after (g.K.Sink.held c.args.sink.now) (g.K.Sink.held c.loop-vector.sink) (g.K.Sink.held c.write.new.self)
    (flat_map vector_bytes (take i xs)) (vector_bytes (get_or xs i blank)) (flat_map vector_bytes (drop (i + 1) xs)) (flat_map vector_bytes xs)
    c.loop-vector.invariant.written said (flat_map-at vector_bytes xs i blank c.loop-vector-test.true))

-- the next vector is written
pub loop-vector-preserved : goal.loop-vector-preserved
unfolding blank
loop-vector-preserved g c =
    let xs = c.args.vectors.now in
    let i = c.loop-vector.vector-index in
    let said = rw (c.as_slice.ensures.value, c.vector_piece-piece.ensures) at c.in_ok-write.ensures.bytes in
    record {
      written = subst (Appends (g.K.Sink.held c.args.sink.now) (g.K.Sink.held c.write.new.self)) (sym (flat_map-more vector_bytes xs i blank c.loop-vector-test.true))
          (Appends-trans (g.K.Sink.held c.args.sink.now) (g.K.Sink.held c.loop-vector.sink) (g.K.Sink.held c.write.new.self) (flat_map vector_bytes (take i xs)) (vector_bytes (get_or xs i blank)) c.loop-vector.invariant.written said);
      later = omega (arith, c.in_ok-write.ensures.cause.later);
    }
