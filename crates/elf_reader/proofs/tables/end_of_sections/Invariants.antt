use Rattle.std.proofs.Common.{◌≡◌, drop, max}
use Rattle.std.specs.Prelude.{fold}
use Rattle.elf_reader.specs.Tables.{section_end}
use Rattle.elf_reader.proofs.tables.end_of_sections.Given as goal

abbrev pub invariant-loop-section : goal.invariant-loop-section
invariant-loop-section l = fold (λ e s. max e (section_end s)) l.end (drop l.section-index l.sections) ≡ fold (λ e s. max e (section_end s)) l.start l.sections
