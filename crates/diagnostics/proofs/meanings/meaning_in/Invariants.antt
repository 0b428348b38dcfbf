use Rattle.std.proofs.Common.{◌≡◌, drop, map}
use Rattle.diagnostics.specs.Meanings.{meaning_in, row_of}
use Rattle.diagnostics.proofs.meanings.meaning_in.Given as goal

-- no row so far has the name
abbrev pub invariant-loop-spelled : goal.invariant-loop-spelled
invariant-loop-spelled l = meaning_in (map row_of (drop l.spelled-index l.table)) l.name ≡ meaning_in (map row_of l.table) l.name
