-- the cells hold what the segments so far give, and these do not overlap
use Rattle.std.proofs.Common.{ℕ, ◌≡◌, ◌<◌, [], take, drop, get_or, true}
use Rattle.std.specs.Prelude.{None}
use Rattle.std.specs.List.{list_all}
use Rattle.elf_reader.specs.Memory.{held, some_overlap, is_placed}
use Rattle.elf_reader.specs.Cells.{address_of}
use Rattle.elf_reader.proofs.loading.load_all.Given as goal

abbrev pub invariant-loop-segment : goal.invariant-loop-segment
invariant-loop-segment l = record {
  held : (i : ℕ) → i < 327680 → get_or l.cells i None ≡ held l.bytes (take l.segment-index l.segments) (address_of i);
  apart : some_overlap (take l.segment-index l.segments) (drop l.segment-index l.segments) ≡ some_overlap [] l.segments;
  placed : list_all is_placed (drop l.segment-index l.segments) ≡ true;
}
