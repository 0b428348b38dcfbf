use Rattle.std.proofs.Common.{◌≡◌, drop, map}
use Rattle.std.specs.List.{list_any}
use Rattle.asm_lines.specs.Pieces.{piece_of, operands_among}
use Rattle.asm_places.specs.NamesView.{known_in}
use Rattle.asm_causes.specs.Causes.{stands_for_nothing}
use Rattle.asm_causes.proofs.checks.some_listed_stands_for_nothing.Given as goal

abbrev pub invariant-loop-token : goal.invariant-loop-token
invariant-loop-token l = list_any (stands_for_nothing (known_in l.names)) (operands_among (map (piece_of l.text) (drop l.token-index l.tokens))) ≡ list_any (stands_for_nothing (known_in l.names)) (operands_among (map (piece_of l.text) l.tokens))
