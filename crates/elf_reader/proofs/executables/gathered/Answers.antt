use Rattle.std.proofs.Common.{◌≡◌, ◌∙◌, inr, refl}
use Rattle.elf_reader.specs.Memory.{code_words, ram_words}
use Rattle.elf_reader.proofs.CellLaws.{code_same, ram_same}
use Rattle.elf_reader.proofs.executables.gathered.Goals as goal

pub returns : goal.returns
returns c =
    let bytes = c.args.bytes.now in
    let ps = c.args.segments.now in
    let few = rw c.code_count.ensures.count at c.code_count.ensures.within in
    let few' = rw c.ram_count.ensures.count at c.ram_count.ensures.within in
    let code : c.in_ok-words_in.field-0.items ≡ code_words bytes ps = (rw c.code_count.ensures.count at c.in_ok-words_in.ensures) ∙ code_same bytes ps c.args.cells.now _ few c.requires.held in
    let ram : c.in_ok-words_in-2.field-0.items ≡ ram_words bytes ps = (rw c.ram_count.ensures.count at c.in_ok-words_in-2.ensures) ∙ ram_same bytes ps c.args.cells.now _ few' c.requires.held in
    inr (rw (code, ram, c.in_ok-symbols.ensures) refl)
