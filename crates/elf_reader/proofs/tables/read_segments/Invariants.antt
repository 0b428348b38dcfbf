use Rattle.std.proofs.Common.{◌≡◌}
use Rattle.app_image.specs.Fields.{rows}
use Rattle.elf_reader.specs.Tables.{segment_at}
use Rattle.elf_reader.proofs.tables.read_segments.Given as goal

abbrev pub invariant-loop-k : goal.invariant-loop-k
invariant-loop-k l = l.segments.items ≡ rows (segment_at l.bytes) 32 l.k l.start
