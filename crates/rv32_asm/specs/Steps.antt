-- The same as `Assembled`, a line after the other, as the code goes. No public contract of this crate speaks of it.
use Rattle.std.specs.Prelude.{ℕ, List, [], ◌∷◌, ◌++◌, Option, Some, None}
use Rattle.text_lex.specs.declared.Token.{Token}
use Rattle.app_image.specs.Raw.{RawRecord}
use Rattle.app_image.specs.declared.settings.ConfigKey.{ConfigKey}
use Rattle.asm_lines.specs.Lines.{Reading, read}
use Rattle.asm_lines.specs.declared.mnemonics.Section.{Section}
use Rattle.asm_lines.specs.declared.mnemonics.Section.TheVariants.{Nowhere, Code, Ram}
use Rattle.asm_lines.specs.Language.{Statement, Task, Object, Vector, Setting, Line}
use Rattle.asm_places.specs.Names.{Names}
use Rattle.asm_places.specs.NameSteps.{no_counts, counted, names_of}
use Rattle.asm_places.specs.Operands.{value_of, no_place}
use Rattle.asm_places.specs.Counts.{Counts}
use Rattle.asm_places.specs.Place.{Place}
use Rattle.asm_causes.specs.PlaceSteps.{place_after, places_of}
use Rattle.asm_causes.specs.Refusal.{cause_of}
use Rattle.rv32_asm.specs.Instructions.{words}
use Rattle.rv32_asm.specs.Assembly.{Assembly, Gives, Refuses}
use Rattle.rv32_asm.specs.Assembled.{task_of, vector_of, word_values}

-- words more in a section
abbrev pub with_words : Section → List ℕ → RawRecord → RawRecord
with_words Nowhere ws raw = raw
with_words Code ws raw = record raw { code = raw.code ++ ws }
with_words Ram ws raw = record raw { ram = raw.ram ++ ws }

-- what a setting adds
abbrev pub with_setting : ℕ → Option ConfigKey → ℕ → RawRecord → RawRecord
with_setting line None value raw = raw
with_setting line (Some key) value raw = record raw { config = raw.config ++ record { key = key; value = value; line = line } ∷ [] }

module _ (names : Names) (places : List Place) where
  -- the image with what a statement gives, where its line has a number and begins here
  abbrev pub with_statement : ℕ → Place → Statement → RawRecord → RawRecord
  with_statement line p (Task n values) raw = record raw { tasks = raw.tasks ++ task_of n line (word_values names places values) ∷ [] }
  with_statement line p (Object n kind values) raw = record raw { objects = raw.objects ++ record { name = n; kind = kind; f = word_values names places values; line = line } ∷ [] }
  with_statement line p (Vector values) raw = record raw { vectors = raw.vectors ++ vector_of line (word_values names places values) ∷ [] }
  with_statement line p (Setting key v) raw = with_setting line key (value_of names places v) raw
  with_statement line p statement raw = with_words p.section (words names places p statement) raw

  -- the image with what the lines give in order, or the first line with a cause
  abbrev pub assembled_from : Counts → Place → RawRecord → ℕ → List Line → Assembly
  assembled_from c p raw used [] = Gives raw used
  assembled_from c p raw used (l ∷ ls) = elim (cause_of names places c p l) [
    | Some cause ↦ Refuses l.number cause
    | None ↦ assembled_from (counted l.statement c) (place_after names c p l) (with_statement l.number p l.statement raw) used ls
  ]

-- an image of nothing
abbrev pub empty_image : RawRecord
empty_image = record { tasks = []; objects = []; vectors = []; config = []; code = []; ram = [] }

-- what lines are assembled to
abbrev pub assembled_lines : Reading → Assembly
assembled_lines reading =
    let names = names_of reading.lines in
    let places = places_of names reading.lines in
    assembled_from names places no_counts no_place empty_image reading.used reading.lines

-- what a text and its tokens are assembled to
abbrev pub assembled_by_steps : List ℕ → List Token → Assembly
assembled_by_steps text tokens = assembled_lines (read text tokens)
