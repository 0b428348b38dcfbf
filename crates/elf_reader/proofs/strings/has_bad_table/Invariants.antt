use Rattle.std.proofs.Common.{◌≡◌, drop, ◌&&◌}
use Rattle.std.specs.List.{list_any}
use Rattle.elf_reader.specs.Symbols.{is_table, is_bad_table, has_bad_table}
use Rattle.elf_reader.proofs.strings.has_bad_table.Given as goal

abbrev pub invariant-loop-section : goal.invariant-loop-section
invariant-loop-section l = list_any (λ s. is_table s && is_bad_table l.bytes l.sections s) (drop l.section-index l.sections) ≡ has_bad_table l.bytes l.sections
