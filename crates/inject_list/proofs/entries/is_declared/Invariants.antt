-- whether there is one from here on is whether there is one in all
use Rattle.std.proofs.Common.{◌≡◌, drop}
use Rattle.inject_list.specs.Lists.{is_declared}
use Rattle.inject_list.proofs.entries.is_declared.Given as goal

abbrev pub invariant-loop-vector : goal.invariant-loop-vector
invariant-loop-vector l = is_declared (drop l.vector-index l.vectors) l.number ≡ is_declared l.vectors l.number
