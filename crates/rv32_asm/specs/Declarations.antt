-- What a text of declarations behind an executable is assembled to. The code and the RAM are those of the executable, and its
-- symbols are names, unless the text defines these. No line may give bytes or turn to a section, so none has a place.
use Rattle.std.specs.Prelude.{ℕ, List, [], length, slice_index_or, Bool, true, false, Option, Some}
use Rattle.std.specs.List.{filter_map, flat_map, range_with_len}
use Rattle.std.specs.Option.{option_map, option_or}
use Rattle.text_lex.specs.declared.Token.{Token}
use Rattle.app_image.specs.Raw.{RawRecord}
use Rattle.app_image.specs.declared.records.Symbol.{Symbol}
use Rattle.asm_lines.specs.Language.{Line}
use Rattle.asm_lines.specs.Lines.{Reading, read}
use Rattle.asm_lines.specs.Placing.{placing_lines}
use Rattle.asm_places.specs.Names.{Names, first_of}
use Rattle.asm_places.specs.Operands.{no_place}
use Rattle.asm_places.specs.Symbols.{symbols_defined}
use Rattle.asm_causes.specs.Refusal.{cause_of}
use Rattle.asm_causes.specs.declared.causes.AsmCause.{AsmCause}
use Rattle.asm_causes.specs.declared.causes.AsmCause.TheVariants.{UnknownStatement}
use Rattle.asm_places.specs.Counts.{Counts}
use Rattle.rv32_asm.specs.Before.{line_at, counts_before}
use Rattle.rv32_asm.specs.Assembled.{all_names, numbers, tasks_given, objects_given, vectors_given, settings_given, unless_refused}
use Rattle.rv32_asm.specs.Assembly.{Assembly}

-- the names of a text with the symbols of an executable
abbrev pub names_with : List ℕ → List Symbol → List Line → Names
names_with bytes symbols lines name = option_or (all_names lines name) (first_of (symbols_defined bytes symbols) name)

-- the cause of a line: what places something is unknown here
abbrev pub declaration_cause : Bool → Names → Counts → Line → Option AsmCause
declaration_cause true names c l = Some UnknownStatement
declaration_cause false names c l = cause_of names [] c no_place l

module _ (names : Names) (lines : List Line) where
  -- what the first lines declare, of a sort
  abbrev pub declared_of : {T : Type 0} → (Line → List T) → ℕ → List T
  declared_of gives n = flat_map (λ k. gives (line_at lines k)) (range_with_len 0 n)

  -- the image of this code and RAM with what the first lines declare
  abbrev pub image_with : (code ram : List ℕ) → ℕ → RawRecord
  image_with code ram n = record {
    tasks = declared_of (λ l. tasks_given names [] l.number l.statement) n;
    objects = declared_of (λ l. objects_given names [] l.number l.statement) n;
    vectors = declared_of (λ l. vectors_given names [] l.number l.statement) n;
    config = declared_of (λ l. settings_given names [] l.number l.statement) n;
    code = code;
    ram = ram;
  }

  -- the refusal of a line, where it is known which lines place something: its number in the text, and its cause
  abbrev pub declaration_refusal : List Bool → ℕ → Option (ℕ × AsmCause)
  declaration_refusal placing k =
      option_map (λ cause. ((line_at lines k).number, cause))
      (declaration_cause (slice_index_or placing k false) names (counts_before lines k) (line_at lines k))

  -- what all lines declare, unless one of them is refused
  abbrev pub declared_by : List Bool → (code ram : List ℕ) → ℕ → Assembly
  declared_by placing code ram used = unless_refused (filter_map (declaration_refusal placing) (numbers lines)) (image_with code ram (length lines)) used

-- what a text and its tokens declare, behind an executable that has these symbols, with their names in its bytes, and these words
unfoldable pub declared : (text : List ℕ) → List Token → (bytes : List ℕ) → List Symbol → (code ram : List ℕ) → Assembly
declared text tokens bytes symbols code ram =
    let reading = read text tokens in
    declared_by (names_with bytes symbols reading.lines) reading.lines (placing_lines text tokens) code ram reading.used
