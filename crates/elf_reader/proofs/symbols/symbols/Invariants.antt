use Rattle.std.proofs.Common.{◌≡◌, drop}
use Rattle.std.specs.Prelude.{fold}
use Rattle.elf_reader.specs.Symbols.{symbols, add_section}
use Rattle.elf_reader.specs.Known.{Knows}
use Rattle.elf_reader.proofs.symbols.symbols.Given as goal

abbrev pub invariant-loop-section : goal.invariant-loop-section
invariant-loop-section l = record {
  same : fold (add_section l.bytes l.sections) l.symbols.items (drop l.section-index l.sections) ≡ symbols l.bytes l.sections;
  known : Knows l.bytes l.names l.symbols.items;
}
