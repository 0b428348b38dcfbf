use Rattle.std.proofs.Common.{◌≤◌}
use Rattle.std.specs.Prelude.{All}
use Rattle.inject_list.specs.declared.lists.Look.{Look}
use Rattle.due_looks.proofs.tests.looks_come_by_moment_and_then_by_line.Given as goal

abbrev pub invariant-loop : goal.invariant-loop
invariant-loop g l = All (λ (k : Look). l.s ≤ k.at) l.looks

abbrev pub invariant-loop-s : goal.invariant-loop-s
invariant-loop-s g l = All (λ (k : Look). l.s ≤ k.at) l.looks
