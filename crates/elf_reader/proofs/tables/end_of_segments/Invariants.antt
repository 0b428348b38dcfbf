use Rattle.std.proofs.Common.{◌≡◌, drop, max}
use Rattle.std.specs.Prelude.{fold}
use Rattle.elf_reader.specs.Tables.{segment_end}
use Rattle.elf_reader.proofs.tables.end_of_segments.Given as goal

abbrev pub invariant-loop-segment : goal.invariant-loop-segment
invariant-loop-segment l = fold (λ e s. max e (segment_end s)) l.end (drop l.segment-index l.segments) ≡ fold (λ e s. max e (segment_end s)) l.start l.segments
