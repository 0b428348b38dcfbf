use Rattle.std.proofs.Common.{◌≡◌, ℕ, List, drop}
use Rattle.std.specs.Option.{option_or}
use Rattle.asm_places.specs.Names.{first_of}
use Rattle.asm_places.specs.NamesView.{known_in}
use Rattle.asm_places.specs.Symbols.{symbols_defined}
use Rattle.asm_places.proofs.symbols.define_symbols.Given as goal

abbrev pub invariant-loop-symbol : goal.invariant-loop-symbol
invariant-loop-symbol l = (q : List ℕ) → option_or (known_in l.names q) (first_of (symbols_defined l.bytes (drop l.symbol-index l.symbols)) q) ≡ option_or (known_in l.initial.names q) (first_of (symbols_defined l.bytes l.symbols) q)
