use Rattle.std.proofs.Common.{◌≡◌, ◌∙◌, not, true, ap, sym}
use Rattle.elf_reader.specs.Memory.{is_loaded}
use Rattle.elf_reader.proofs.CellLaws.{cells_of}
use Rattle.elf_reader.proofs.loading.load_one.Goals as goal

-- the cells are those of the addresses
pub returns-else-not-is_loaded-clause-empty : goal.returns-else-not-is_loaded-clause-empty
returns-else-not-is_loaded-clause-empty c =
    let loaded : is_loaded c.args.segment.now ≡ true = sym c.is_loaded.ensures ∙ c.if-not-is_loaded.false in
    let told = rw c.place_of.ensures at c.load_segment.ensures.empty in
    told ∙ ap not (cells_of c.args.segment.now c.args.cells.now loaded c.requires.placed)
