-- The forms of a line of injections: an interrupt at a moment, or a look.
use Rattle.std.specs.Prelude.{ℕ, ℤ, pos, ◌%◌, ◌^◌, List, [], ◌∷◌, codes, Option, Some, None, if◌then◌else◌}
use Rattle.std.specs.Int.{cast_unsigned, w64}
use Rattle.std.specs.Option.{option_map}
use Rattle.std.specs.Str.{bytes_eq}
use Rattle.inject_list.specs.declared.lists.Moment.{Moment}
use Rattle.inject_list.specs.declared.lists.Moment.TheVariants.{Task, Step}
use Rattle.inject_list.specs.Pieces.{Piece, Word, Number, Comma}

-- what a look names: an object by its name, or a priority
pub data Target : Type 0 where
  Named : List ℕ → Target
  AtPriority : ℕ → Target

-- what a line of one of the forms says: an interrupt with its moment, its vector and its words, however many, or a look
-- with its moment and what it names
pub data Entry : Type 0 where
  Interrupt : Moment → ℕ → List ℕ → Entry
  Looks : ℕ → Target → Entry

-- a number modulo 2 ^ 32
abbrev pub word_of : ℤ → ℕ
word_of value = cast_unsigned w64 value % 2 ^ 32

-- words, each behind a comma
abbrev pub words_of : List Piece → Option (List ℕ)
words_of [] = Some []
words_of (Comma ∷ Number value ∷ ps) = option_map (λ words. word_of value ∷ words) (words_of ps)
words_of _ = None

-- a vector, and then words
abbrev pub interrupt_form : Moment → List Piece → Option Entry
interrupt_form moment (Number (pos vector) ∷ ps) = option_map (Interrupt moment vector) (words_of ps)
interrupt_form moment _ = None

-- a name or a priority, and nothing else
abbrev pub look_form : ℕ → List Piece → Option Entry
look_form at (Word name ∷ []) = Some (Looks at (Named name))
look_form at (Number (pos prio) ∷ []) = Some (Looks at (AtPriority prio))
look_form at _ = None

-- what follows a first word, a moment and a comma
abbrev pub form : List ℕ → ℕ → List Piece → Option Entry
form word at ps =
    if bytes_eq word (codes "task") then interrupt_form (Task at) ps else
    (if bytes_eq word (codes "step") then interrupt_form (Step at) ps else
    (if bytes_eq word (codes "look") then look_form at ps else None))

-- what the pieces of a line say, if they have one of the forms
abbrev pub entry_of : List Piece → Option Entry
entry_of (Word word ∷ Number (pos at) ∷ Comma ∷ ps) = form word at ps
entry_of _ = None
