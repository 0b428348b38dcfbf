use Rattle.std.proofs.Common.{◌≡◌, drop}
use Rattle.std.specs.List.{list_all}
use Rattle.elf_reader.specs.Memory.{is_placed}
use Rattle.elf_reader.proofs.segments.are_placed.Given as goal

abbrev pub invariant-loop-segment : goal.invariant-loop-segment
invariant-loop-segment l = list_all is_placed (drop l.segment-index l.segments) ≡ list_all is_placed l.segments
