use Rattle.std.proofs.Common.{◌≡◌, ◌∙◌, ◌*◌, ◌/◌, length, not, true, ap}
use Rattle.std.specs.Prelude.{is_none, is_some}
use Rattle.elf_reader.specs.Symbols.{entry_at, name_end}
use Rattle.elf_reader.proofs.RowLaws.{any_next0}
use Rattle.elf_reader.proofs.NameLaws.{some_end}
use Rattle.elf_reader.proofs.strings.has_endless_name.Goals as goal

-- this name has an end
pub loop-k-preserved : goal.loop-k-preserved
loop-k-preserved c =
    let there : is_some c.name_end.result ≡ true = c.is_none.ensures ∙ ap not c.if-is_none.false in
    let told = rw (c.name_end.ensures.end, c.entry_at.ensures) at there in
    let ends = some_end (name_end c.args.strings.now (entry_at c.args.table.now (16 * c.loop-k.k)).name) told in
    any_next0 (λ e. is_none (name_end c.args.strings.now e.name)) (entry_at c.args.table.now) 16 (length c.args.table.now / 16) c.loop-k.k c.loop-k-test.true ends ∙ c.loop-k.invariant
