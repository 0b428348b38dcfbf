use Rattle.std.proofs.Common.{◌≡◌, ◌∙◌, ◌+◌, ◌∷◌, ◌++◌, [], take, drop, get_or, not, true, false, ap, sym, rules}
use Rattle.std.specs.List.{list_any}
use Rattle.std.proofs.lemmas.List.{drop_more, take_more}
use Rattle.elf_reader.specs.Memory.{is_held, addresses, some_overlap}
use Rattle.elf_reader.specs.declared.tables.Segment.{Segment}
use Rattle.elf_reader.proofs.CellLaws.{held_cells, overlap_here, overlap_behind, laid_more, first_placed, denied, granted}
use Rattle.elf_reader.proofs.loading.load_all.Goals as goal

-- this segment holds an address that an earlier one holds
pub returns-then-not-load_one-clause-apart : goal.returns-then-not-load_one-clause-apart
returns-then-not-load_one-clause-apart c =
    let zero : Segment = record { kind = 0; offset = 0; vaddr = 0; filesz = 0; memsz = 0 } in
    let segments = c.args.segments.now in
    let k = c.loop-segment.segment-index in
    let s : Segment = get_or segments k zero in
    let split : drop k segments ≡ s ∷ drop (k + 1) segments = drop_more segments k zero c.loop-segment-test.true in
    let placed = first_placed s (drop (k + 1) segments) (rw split at c.loop-segment.invariant.placed) in
    let met : list_any (is_held (take k segments)) (addresses s) ≡ true = sym (held_cells c.args.bytes.now (take k segments) s c.loop-segment.cells placed.0 c.loop-segment.invariant.held) ∙ denied _ (sym c.if-not-load_one.true ∙ c.load_one.ensures.empty) in
    let whole : some_overlap [] segments ≡ true = sym (rw split at c.loop-segment.invariant.apart) ∙ overlap_here (take k segments) (drop (k + 1) segments) s met in
    ap not (sym whole)

-- this segment overlaps none of the earlier ones
pub loop-segment-preserved : goal.loop-segment-preserved
loop-segment-preserved c =
    let zero : Segment = record { kind = 0; offset = 0; vaddr = 0; filesz = 0; memsz = 0 } in
    let segments = c.args.segments.now in
    let k = c.loop-segment.segment-index in
    let s : Segment = get_or segments k zero in
    let split : drop k segments ≡ s ∷ drop (k + 1) segments = drop_more segments k zero c.loop-segment-test.true in
    let front : take (k + 1) segments ≡ take k segments ++ s ∷ [] = take_more segments k zero c.loop-segment-test.true in
    let placed = first_placed s (drop (k + 1) segments) (rw split at c.loop-segment.invariant.placed) in
    let free : list_any (is_held (take k segments)) (addresses s) ≡ false = sym (held_cells c.args.bytes.now (take k segments) s c.loop-segment.cells placed.0 c.loop-segment.invariant.held) ∙ granted _ (sym c.if-not-load_one.false ∙ c.load_one.ensures.empty) in
    record {
      held = λ i inside. c.load_one.ensures.filled (rw c.if-not-load_one.false (search rules)) i inside ∙ rw front (laid_more c.args.bytes.now (take k segments) s c.loop-segment.cells i (c.loop-segment.invariant.held i inside) free);
      apart = rw front (overlap_behind (take k segments) (drop (k + 1) segments) s free) ∙ (rw split at c.loop-segment.invariant.apart);
      placed = placed.1;
    }
