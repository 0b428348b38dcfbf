use Rattle.std.proofs.Common.{arith, length-append}
use Rattle.elf_reader.proofs.CellLaws.{empty_push}
use Rattle.elf_reader.proofs.loading.empty_cells.Goals as goal

pub loop-k-preserved : goal.loop-k-preserved
loop-k-preserved c = record {
  count = rw c.in_ok-push.ensures.items (grind (arith, length-append, c.loop-k.invariant.count));
  empty = λ i. rw c.in_ok-push.ensures.items (empty_push c.loop-k.cells.items i (c.loop-k.invariant.empty i));
}
