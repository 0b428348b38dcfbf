-- The symbols of an executable as names of a text.
use Rattle.std.specs.Prelude.{ℕ, pos, List, map, None}
use Rattle.app_image.specs.declared.records.Symbol.{Symbol}
use Rattle.asm_lines.specs.Pieces.{bytes_at}
use Rattle.asm_places.specs.Names.{Defined}
use Rattle.asm_places.specs.declared.places.Meaning.TheVariants.{Constant}
use Rattle.asm_places.specs.declared.places.Definition.{Definition}

-- the name of a symbol, which stands in the bytes of its executable
abbrev pub symbol_name : List ℕ → Symbol → List ℕ
symbol_name bytes x = bytes_at bytes x.start x.len

-- A symbol stands for its value, mostly an address. Of names that stand for the same value, a label differs from a constant
-- only in lines that give bytes.
abbrev pub symbol_defined : List ℕ → Symbol → List ℕ × Definition
symbol_defined bytes x = (symbol_name bytes x, record { line = None; meaning = Constant (pos x.value) })

-- what the symbols define, in order
abbrev pub symbols_defined : List ℕ → List Symbol → Defined
symbols_defined bytes xs = map (symbol_defined bytes) xs
