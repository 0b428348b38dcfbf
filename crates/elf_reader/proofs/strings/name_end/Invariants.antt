use Rattle.std.proofs.Common.{◌≡◌, drop}
use Rattle.std.specs.Prelude.{◌==◌}
use Rattle.std.specs.List.{position_from}
use Rattle.elf_reader.proofs.strings.name_end.Given as goal

abbrev pub invariant-loop-k : goal.invariant-loop-k
invariant-loop-k l = position_from (λ b. b == 0) l.k (drop l.k l.rest) ≡ position_from (λ b. b == 0) 0 l.rest
