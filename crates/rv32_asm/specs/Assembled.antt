-- What a text is assembled to: what its lines give, in order, each looked at with all names and all places known; or the
-- refusal of the first line that has a cause.
use Rattle.std.specs.Prelude.{ℕ, List, [], ◌∷◌, ◌++◌, length, map, slice_index, Bool, true, false, Option, Some, if◌then◌else◌}
use Rattle.std.specs.List.{filter_map, flat_map, range_with_len, sum_by}
use Rattle.std.specs.Option.{option_map}
use Rattle.text_lex.specs.declared.Token.{Token}
use Rattle.app_image.specs.Raw.{RawRecord}
use Rattle.app_image.specs.declared.records.TaskDef.{TaskDef}
use Rattle.app_image.specs.declared.records.ObjDef.{ObjDef}
use Rattle.app_image.specs.declared.records.VectorDef.{VectorDef}
use Rattle.app_image.specs.declared.settings.ConfigLine.{ConfigLine}
use Rattle.asm_lines.specs.Lines.{Reading, read}
use Rattle.rv32_asm.specs.Before.{line_at, counts_before, section_before}
use Rattle.asm_places.specs.Names.{Names, defined_at_start, defines, first_of}
use Rattle.asm_places.specs.Operands.{value_of}
use Rattle.asm_causes.specs.Places.{bytes_of}
use Rattle.rv32_asm.specs.Instructions.{words}
use Rattle.asm_causes.specs.Refusal.{cause_of}
use Rattle.rv32_asm.specs.Assembly.{Assembly, Gives, Refuses}
use Rattle.asm_lines.specs.Language.{Operand, Statement, Task, Object, Vector, Setting, Line}
use Rattle.asm_lines.specs.declared.mnemonics.Section.{Section}
use Rattle.asm_lines.specs.declared.mnemonics.Section.TheVariants.{Code, Ram}
use Rattle.asm_places.specs.Place.{Place}
use Rattle.asm_causes.specs.declared.causes.AsmCause.{AsmCause}

-- the record that a statement on a line declares, where its values are these words
abbrev pub task_of : List ℕ → ℕ → List ℕ → TaskDef
task_of name line vs = record { name = name; entry = slice_index vs 0; prio = slice_index vs 1; quanta = slice_index vs 2; qsize = slice_index vs 3; sp = slice_index vs 4; line = line }

abbrev pub vector_of : ℕ → List ℕ → VectorDef
vector_of line vs = record { number = slice_index vs 0; level = slice_index vs 1; entry = slice_index vs 2; sp = slice_index vs 3; line = line }

-- the numbers of some lines
abbrev pub numbers : List Line → List ℕ
numbers lines = range_with_len 0 (length lines)

-- the names of a text: what its lines define, and before them the names of the services; a name keeps its first definition
abbrev pub all_names : List Line → Names
all_names lines = first_of (defined_at_start ++ flat_map (λ k. defines (counts_before lines k) (line_at lines k)) (numbers lines))

-- one of the two sections, and whether a line stands in it
abbrev pub is_in : Section → Section → Bool
is_in Code Code = true
is_in Ram Ram = true
is_in _ _ = false

module _ (names : Names) (lines : List Line) where
  -- the bytes that a line gives
  abbrev pub bytes_at : ℕ → ℕ
  bytes_at k = bytes_of names (counts_before lines k) (section_before lines k) (line_at lines k)

  -- the bytes that it gives to a section
  abbrev pub bytes_to : Section → ℕ → ℕ
  bytes_to section k = if is_in section (section_before lines k) then bytes_at k else 0

  -- where a line begins: behind the bytes that the lines before it give to each section
  abbrev pub place_before : ℕ → Place
  place_before k = record { section = section_before lines k; code = sum_by (bytes_to Code) (range_with_len 0 k); ram = sum_by (bytes_to Ram) (range_with_len 0 k) }

  -- where all lines begin
  abbrev pub all_places : List Place
  all_places = map place_before (numbers lines)

-- what a statement on a line gives, where its operands are these words
module _ (names : Names) (places : List Place) where
  -- the words of some operands
  abbrev pub word_values : List Operand → List ℕ
  word_values os = map (value_of names places) os

  abbrev pub tasks_given : ℕ → Statement → List TaskDef
  tasks_given line (Task n values) = task_of n line (word_values values) ∷ []
  tasks_given line _ = []

  abbrev pub objects_given : ℕ → Statement → List ObjDef
  objects_given line (Object n kind values) = record { name = n; kind = kind; f = word_values values; line = line } ∷ []
  objects_given line _ = []

  abbrev pub vectors_given : ℕ → Statement → List VectorDef
  vectors_given line (Vector values) = vector_of line (word_values values) ∷ []
  vectors_given line _ = []

  abbrev pub settings_given : ℕ → Statement → List ConfigLine
  settings_given line (Setting (Some key) v) = record { key = key; value = value_of names places v; line = line } ∷ []
  settings_given line _ = []

  -- the words that a line gives to a section, where it begins here
  abbrev pub words_given : Section → Place → Statement → List ℕ
  words_given section p statement = if is_in section p.section then words names places p statement else []

module _ (names : Names) (lines : List Line) where
  -- what all lines up to a number give, of a sort
  abbrev pub gathered : {T : Type 0} → (Line → Place → List T) → ℕ → List T
  gathered gives n = flat_map (λ k. gives (line_at lines k) (place_before names lines k)) (range_with_len 0 n)

  -- the image that the first lines give
  abbrev pub image_of_first : ℕ → RawRecord
  image_of_first n =
      let places = all_places names lines in
      record {
        tasks = gathered (λ l p. tasks_given names places l.number l.statement) n;
        objects = gathered (λ l p. objects_given names places l.number l.statement) n;
        vectors = gathered (λ l p. vectors_given names places l.number l.statement) n;
        config = gathered (λ l p. settings_given names places l.number l.statement) n;
        code = gathered (λ l p. words_given names places Code p l.statement) n;
        ram = gathered (λ l p. words_given names places Ram p l.statement) n;
      }

  -- the refusal of a line: its number in the text, and the least cause that it has, if it has one
  abbrev pub refusal_at : ℕ → Option (ℕ × AsmCause)
  refusal_at k =
      option_map (λ cause. ((line_at lines k).number, cause))
      (cause_of names (all_places names lines) (counts_before lines k) (place_before names lines k) (line_at lines k))

-- the image, unless some line is refused; the first one decides
abbrev pub unless_refused : List (ℕ × AsmCause) → RawRecord → ℕ → Assembly
unless_refused [] image used = Gives image used
unless_refused (refusal ∷ refusals) image used = Refuses refusal.0 refusal.1

-- what lines are assembled to, behind which this is the first token that is not used
abbrev pub lines_assembled : Reading → Assembly
lines_assembled reading =
    let lines = reading.lines in
    let names = all_names lines in
    unless_refused (filter_map (refusal_at names lines) (numbers lines)) (image_of_first names lines (length lines)) reading.used

-- what a text and its tokens are assembled to
unfoldable pub assembled : List ℕ → List Token → Assembly
assembled text tokens = lines_assembled (read text tokens)
