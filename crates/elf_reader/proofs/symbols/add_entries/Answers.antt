use Rattle.std.proofs.Common.{◌∙◌, ◌-◌, ◌+◌, ◌*◌, ◌/◌, length, ap, sym}
use Rattle.std.specs.Prelude.{fold}
use Rattle.app_image.specs.Fields.{rows}
use Rattle.elf_reader.specs.Symbols.{content, entry_at, add_entry}
use Rattle.elf_reader.proofs.RowLaws.{fold_next0}
use Rattle.elf_reader.proofs.symbols.add_entries.Goals as goal

-- one more entry was added
pub loop-k-preserved : goal.loop-k-preserved
loop-k-preserved c =
    let g = add_entry c.args.bytes.now (content c.args.bytes.now c.args.strings.now) c.args.strings.now.offset in
    let n = length c.args.table.now / 16 in
    let added = rw c.entry_at.ensures at c.in_ok-add_entry.ensures.symbols in
    record {
      same = ap (λ xs. fold g xs (rows (entry_at c.args.table.now) 16 (n - (c.loop-k.k + 1)) (16 * (c.loop-k.k + 1)))) added ∙ sym (fold_next0 g c.loop-k.symbols.items (entry_at c.args.table.now) 16 n c.loop-k.k c.loop-k-test.true) ∙ c.loop-k.invariant.same;
      known = c.in_ok-add_entry.ensures.names;
    }
