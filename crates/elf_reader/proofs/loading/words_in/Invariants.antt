use Rattle.std.proofs.Common.{◌≡◌}
use Rattle.app_image.specs.Fields.{rows}
use Rattle.elf_reader.specs.Memory.{word_of}
use Rattle.elf_reader.specs.Cells.{cell_byte}
use Rattle.elf_reader.proofs.loading.words_in.Given as goal

abbrev pub invariant-loop-k : goal.invariant-loop-k
invariant-loop-k l = l.words.items ≡ rows (word_of (cell_byte l.cells)) 4 l.k l.first
