use Rattle.std.proofs.Common.{◌≡◌, ℕ, List}
use Rattle.std.specs.Option.{option_or}
use Rattle.asm_places.specs.Names.{first_of, services_defined}
use Rattle.asm_places.specs.NamesView.{known_in}
use Rattle.asm_places.proofs.names.define_numbered.Given as goal

abbrev pub invariant-loop-number : goal.invariant-loop-number
invariant-loop-number l = (q : List ℕ) → option_or (known_in l.names q) (first_of (services_defined l.number) q) ≡ option_or (known_in l.initial.names q) (first_of (services_defined l.last) q)

abbrev pub decreases-loop-number : goal.decreases-loop-number
decreases-loop-number l = l.number
