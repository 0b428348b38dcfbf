use Rattle.std.proofs.Common.{ℕ, ◌≡◌, ◌-◌, ◌+◌, get_or}
use Rattle.std.specs.Prelude.{None, is_some}
use Rattle.std.specs.List.{list_any}
use Rattle.app_image.specs.Fields.{rows}
use Rattle.elf_reader.specs.Cells.{filled}
use Rattle.elf_reader.proofs.loading.load_segment.Given as goal

abbrev pub invariant-loop-distance : goal.invariant-loop-distance
invariant-loop-distance l = record {
  filled : (i : ℕ) → get_or l.cells i None ≡ filled l.bytes l.segment l.first l.distance l.fn.cells i;
  empty : list_any (λ i. is_some (get_or l.fn.cells i None)) (rows (λ i. i) 1 (l.segment.memsz - l.distance) (l.first + l.distance)) ≡ list_any (λ i. is_some (get_or l.fn.cells i None)) (rows (λ i. i) 1 l.segment.memsz l.first);
}
