use Rattle.std.proofs.KnownBytes.{Appends-nil}
use Rattle.ucos_top.proofs.history.write_kept.Goals as goal

-- nothing is appended where a history keeps nothing
pub returns-then-is_silent-clause-bytes : goal.returns-then-is_silent-clause-bytes
returns-then-is_silent-clause-bytes g c = rw (c.is_silent.ensures.history c.args.image.now c.if-is_silent.true) (Appends-nil (g.K.Sink.held c.args.sink.now))
