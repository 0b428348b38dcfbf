use Rattle.std.proofs.Common.{◌≡◌, drop, map}
use Rattle.asm_lines.specs.Tables.{entry, row_of}
use Rattle.asm_lines.proofs.tables.entry.Given as goal

abbrev pub invariant-loop-spelled : goal.invariant-loop-spelled
invariant-loop-spelled g l = entry l.name (map row_of (drop l.spelled-index l.table)) ≡ entry l.name (map row_of l.table)
