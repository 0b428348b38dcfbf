use Rattle.std.proofs.Common.{◌≡◌, ◌-◌, ◌*◌, ◌/◌, length}
use Rattle.std.specs.Prelude.{is_none}
use Rattle.std.specs.List.{list_any}
use Rattle.app_image.specs.Fields.{rows}
use Rattle.elf_reader.specs.Symbols.{entry_at, name_end, has_endless_name}
use Rattle.elf_reader.proofs.strings.has_endless_name.Given as goal

abbrev pub invariant-loop-k : goal.invariant-loop-k
invariant-loop-k l = list_any (λ e. is_none (name_end l.strings e.name)) (rows (entry_at l.table) 16 (length l.table / 16 - l.k) (16 * l.k)) ≡ has_endless_name l.strings l.table
