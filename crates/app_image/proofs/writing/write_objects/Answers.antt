use Rattle.std.proofs.Common.{◌+◌, take, drop, subst, sym, arith}
use Rattle.std.specs.List.{flat_map}
use Rattle.std.specs.Io.KnownBytes.{Appends}
use Rattle.std.proofs.KnownBytes.{Appends-trans}
use Rattle.std.proofs.lemmas.Result.{err_from_is_err_and}
use Rattle.outside.proofs.Known.{AppendsPrefix-after}
use Rattle.app_image.specs.Layout.{object_bytes}
use Rattle.app_image.proofs.Pieces.{flat_map-next, flat_map-with}
use Rattle.app_image.proofs.writing.write_objects.Goals as goal

-- a prefix of the next object is written, behind those before it
pub returns-in_err-write-clause-bytes : goal.returns-in_err-write-clause-bytes
returns-in_err-write-clause-bytes g c =
    let p = err_from_is_err_and c.from_residual.result c.from_residual.ensures.1 in
    let xs = c.args.objects.now in
    let i = c.loop-object.object-index in
    let x = c.object-item.result in
    let said = rw (c.as_slice.ensures.value, c.object_piece-piece.ensures) at c.in_err-write.ensures.bytes in
    rw p.1 (AppendsPrefix-after (g.K.Sink.held c.args.sink.now) (g.K.Sink.held c.loop-object.sink) (g.K.Sink.held c.write.new.self)
    (flat_map object_bytes (take i xs)) (object_bytes x) (flat_map object_bytes (drop (i + 1) xs)) (flat_map object_bytes xs)
    c.loop-object.invariant.written said (flat_map-next object_bytes xs i x c.loop-object-test.true c.object-item.is))

-- the next object is written
pub loop-object-preserved : goal.loop-object-preserved
loop-object-preserved g c =
    let xs = c.args.objects.now in
    let i = c.loop-object.object-index in
    let x = c.object-item.result in
    let said = rw (c.as_slice.ensures.value, c.object_piece-piece.ensures) at c.in_ok-write.ensures.bytes in
    record {
      written = subst (Appends (g.K.Sink.held c.args.sink.now) (g.K.Sink.held c.write.new.self)) (sym (flat_map-with object_bytes xs i x c.loop-object-test.true c.object-item.is))
          (Appends-trans (g.K.Sink.held c.args.sink.now) (g.K.Sink.held c.loop-object.sink) (g.K.Sink.held c.write.new.self) (flat_map object_bytes (take i xs)) (object_bytes x) c.loop-object.invariant.written said);
      later = omega (arith, c.in_ok-write.ensures.cause.later);
    }
