use Rattle.std.proofs.Common.{◌≡◌, ◌∙◌, ◌<◌, ◌+◌, get_or, length, false, arith, ap, sym}
use Rattle.std.specs.Prelude.{None, is_some}
use Rattle.elf_reader.proofs.RowLaws.{any_next1}
use Rattle.elf_reader.proofs.CellLaws.{filled_more, not_filled}
use Rattle.elf_reader.proofs.loading.load_segment.Goals as goal

-- one more cell was empty, and has its byte
pub loop-distance-preserved : goal.loop-distance-preserved
loop-distance-preserved c =
    let bytes = c.args.bytes.now in
    let s = c.args.segment.now in
    let first = c.args.first in
    let n = c.loop-distance.distance in
    let old = c.args.cells.now in
    let inside : first + n < length c.loop-distance.cells = omega (arith, c.requires, c.loop-distance-test.true, c.loop-distance.auto.cells) in
    let was : get_or c.loop-distance.cells (first + n) None ≡ get_or old (first + n) None = c.loop-distance.invariant.filled (first + n) ∙ not_filled bytes s first n old in
    let none : is_some (get_or old (first + n) None) ≡ false = ap is_some (sym was) ∙ sym c.is_some.ensures ∙ c.if-is_some.false in
    record {
      filled = λ i. rw c.file_byte.ensures (filled_more bytes s first n i old c.loop-distance.cells inside (c.loop-distance.invariant.filled i));
      empty = any_next1 (λ i. is_some (get_or old i None)) s.memsz n first c.loop-distance-test.true none ∙ c.loop-distance.invariant.empty;
    }
