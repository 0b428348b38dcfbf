-- Words that place something: an instruction, a pseudo-instruction, `.word` and `.space` give bytes, `.code` and `.ram` turn to a
-- section. The other directives declare.
use Rattle.std.specs.Prelude.{ℕ, List, [], ◌∷◌, drop, map, Bool, true, false, Option, Some, None, if◌then◌else◌}
use Rattle.std.specs.List.{filter_map}
use Rattle.text_lex.specs.declared.Token.{Token}
use Rattle.asm_lines.specs.Language.{Named, Piece, Is, Dotted, Colon}
use Rattle.asm_lines.specs.Pieces.{piece_of}
use Rattle.asm_lines.specs.Mnemonics.{head_of}
use Rattle.asm_lines.specs.Lines.{rows}
use Rattle.asm_lines.specs.declared.mnemonics.Head.{Head}
use Rattle.asm_lines.specs.declared.mnemonics.Head.TheVariants.{Equ, Task, Object, Mutex, Timer, Vector, Config, Inject}

-- what begins with this places something
abbrev pub is_placing : Head → Bool
is_placing Equ = false
is_placing Task = false
is_placing (Object kind) = false
is_placing Mutex = false
is_placing Timer = false
is_placing Vector = false
is_placing Config = false
is_placing Inject = false
is_placing _ = true

abbrev pub is_placing_word : Option Head → Bool
is_placing_word None = false
is_placing_word (Some head) = is_placing head

-- pieces that begin with such a word
abbrev pub begins_placing : List Piece → Bool
begins_placing (Is (Named s) ∷ ps) = is_placing_word (head_of s)
begins_placing (Dotted s ∷ ps) = is_placing_word (head_of s)
begins_placing _ = false

-- a label, as which a name and a colon begin a line
abbrev pub has_label : List Piece → Bool
has_label (Is (Named s) ∷ Colon ∷ ps) = true
has_label _ = false

-- the pieces of a line that do so behind its label, if it has one
abbrev pub places_something : List Piece → Bool
places_something ps = begins_placing (if has_label ps then drop 2 ps else ps)

-- whether a row does, if it is not empty
abbrev pub placing_row : List ℕ → List Token → Option Bool
placing_row text [] = None
placing_row text (t ∷ ts) = Some (places_something (map (piece_of text) (t ∷ ts)))

-- for each line of a text that is not empty, whether it places something
abbrev pub placing_lines : List ℕ → List Token → List Bool
placing_lines text tokens = filter_map (placing_row text) (rows tokens)
