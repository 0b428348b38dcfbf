use Rattle.std.proofs.Common.{◌≡◌, ◌-◌, ◌*◌, ◌/◌, length}
use Rattle.std.specs.Prelude.{fold}
use Rattle.app_image.specs.Fields.{rows}
use Rattle.elf_reader.specs.Symbols.{content, entry_at, entries, add_entry}
use Rattle.elf_reader.specs.Known.{Knows}
use Rattle.elf_reader.proofs.symbols.add_entries.Given as goal

abbrev pub invariant-loop-k : goal.invariant-loop-k
invariant-loop-k l = record {
  same : fold (add_entry l.bytes (content l.bytes l.strings) l.strings.offset) l.symbols.items (rows (entry_at l.table) 16 (length l.table / 16 - l.k) (16 * l.k)) ≡ fold (add_entry l.bytes (content l.bytes l.strings) l.strings.offset) l.fn.symbols.items (entries l.table);
  known : Knows l.bytes l.names l.symbols.items;
}
