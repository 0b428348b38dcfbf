use Rattle.std.proofs.KnownBytes.{Appends-nil}
use Rattle.ucos_top.proofs.text.write_event.Goals as goal

-- nothing is appended where nothing is printed
pub returns-then-is_silent-clause-bytes : goal.returns-then-is_silent-clause-bytes
returns-then-is_silent-clause-bytes g c = rw (c.is_silent.ensures.text c.args.image.now c.if-is_silent.true) (Appends-nil (g.K.Sink.held c.args.sink.now))
