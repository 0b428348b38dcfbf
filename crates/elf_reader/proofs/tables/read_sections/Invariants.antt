use Rattle.std.proofs.Common.{◌≡◌}
use Rattle.app_image.specs.Fields.{rows}
use Rattle.elf_reader.specs.Tables.{section_at}
use Rattle.elf_reader.proofs.tables.read_sections.Given as goal

abbrev pub invariant-loop-k : goal.invariant-loop-k
invariant-loop-k l = l.sections.items ≡ rows (section_at l.bytes) 40 l.k l.start
