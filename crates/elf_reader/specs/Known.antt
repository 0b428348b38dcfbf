-- The names of the symbols so far, as a map keeps them.
use Rattle.std.specs.Prelude.{ℕ, ◌≡◌, List, Option, is_some}
use Rattle.std.specs.Str.{bytes_eq}
use Rattle.std.specs.Borrow.{Bor}
use Rattle.std.specs.HashMap.{HashMap, get_by}
use Rattle.app_image.specs.declared.records.Symbol.{Symbol}
use Rattle.elf_reader.specs.Symbols.{is_known}

-- the value that a map of names has for a name
abbrev pub value_of : {S : Type 0} → HashMap (Bor (List ℕ)) ℕ S → List ℕ → Option ℕ
value_of m name = get_by (λ key. bytes_eq name key.now) m

-- the map has the names of the symbols
abbrev pub Knows : {S : Type 0} → List ℕ → HashMap (Bor (List ℕ)) ℕ S → List Symbol → Type 0
Knows bytes m xs = (q : List ℕ) → is_some (value_of m q) ≡ is_known bytes xs q
