-- The map of names as contracts see it.
use Rattle.std.specs.Prelude.{ℕ, List, Option, Some, None, if◌then◌else◌}
use Rattle.std.specs.Str.{bytes_eq}
use Rattle.std.specs.Borrow.{Bor}
use Rattle.std.specs.HashMap.{HashMap, get_by}
use Rattle.asm_places.specs.Names.{Names}
use Rattle.asm_places.specs.declared.places.Definition.{Definition}

-- the definition that a map of names has for a name
abbrev pub known_in : {S : Type 0} → HashMap (Bor (List ℕ)) Definition S → Names
known_in m name = get_by (λ key. bytes_eq name key.now) m

-- what was known, or else the definition, at this name
abbrev pub first_or : Option Definition → List ℕ → Definition → List ℕ → Option Definition
first_or (Some d) name definition q = Some d
first_or None name definition q = if bytes_eq q name then Some definition else None
