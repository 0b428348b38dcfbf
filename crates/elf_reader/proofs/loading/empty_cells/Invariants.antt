use Rattle.std.proofs.Common.{ℕ, ◌≡◌, length, get_or}
use Rattle.std.specs.Prelude.{None}
use Rattle.elf_reader.proofs.loading.empty_cells.Given as goal

abbrev pub invariant-loop-k : goal.invariant-loop-k
invariant-loop-k l = record {
  count : length l.cells.items ≡ l.k;
  empty : (i : ℕ) → get_or l.cells.items i None ≡ None;
}
