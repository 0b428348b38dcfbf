-- How many words of code and of RAM an assembled image has.
use Rattle.std.proofs.Common.{◌≡◌, ℕ, ◌+◌, ◌*◌, ◌≤◌, List, ◌++◌, length, nat_lt, false, ◌&&◌, arith, length-append, refl, sym, ◌∙◌}
use Rattle.std.specs.Prelude.{Option, Some, None}
use Rattle.std.proofs.lemmas.Bool.Decides.{nat_tests}
use Rattle.app_image.specs.Raw.{RawRecord}
use Rattle.app_image.specs.declared.settings.ConfigKey.{ConfigKey}
use Rattle.asm_places.specs.Names.{Names}
use Rattle.asm_causes.specs.Causes.{has_constant_out_of_range, has_undefined, has_wrong_kind, is_early}
use Rattle.asm_causes.specs.Places.{size_of, bytes_of}
use Rattle.asm_causes.specs.PlaceSteps.{filled, turned, place_after}
use Rattle.asm_causes.specs.Refusal.{overfills_code, overfills_ram}
use Rattle.rv32_asm.specs.Instructions.{words}
use Rattle.asm_places.specs.Operands.{value_of}
use Rattle.rv32_asm.specs.Steps.{with_words, with_setting, with_statement}
use Rattle.asm_lines.specs.declared.mnemonics.Section.{Section}
use Rattle.asm_lines.specs.declared.mnemonics.Section.TheVariants.{Nowhere, Code, Ram}
use Rattle.asm_lines.specs.Language.{Statement, Sections, Task, Object, Vector, Setting, Line}
use Rattle.asm_places.specs.Counts.{Counts}
use Rattle.asm_places.specs.Place.{Place}
use Rattle.asm_causes.proofs.CauseLaws.{IsFree}
use Rattle.rv32_asm.proofs.MadeWords.{words_fill}

-- so many bytes of each, and no more than there may be
pub record Fill (code_bytes ram_bytes : ℕ) (code ram : List ℕ) : Type 0 where
  pub code_is : 4 * length code ≡ code_bytes
  pub ram_is : 4 * length ram ≡ ram_bytes
  pub code_fits : code_bytes ≤ 65536
  pub ram_fits : ram_bytes ≤ 262144

-- the words of an image fill the bytes before a place
abbrev pub Fills : Place → RawRecord → Type 0
Fills p raw = Fill p.code p.ram raw.code raw.ram

within : (limit bytes size : ℕ) → bytes ≤ limit → (nat_lt 0 size && nat_lt limit (bytes + size)) ≡ false → bytes + size ≤ limit
within limit bytes size h e = grind (arith, nat_tests)

words_fill_section : (p : Place) (raw : RawRecord) (section : Section) (size : ℕ) (ws : List ℕ) → 4 * length ws ≡ size → overfills_code p section size ≡ false → overfills_ram p section size ≡ false → Fills p raw → Fills (filled section size p) (with_words section ws raw)
words_fill_section p raw Nowhere size ws e over_code over_ram h = h
words_fill_section p raw Code size ws e over_code over_ram h =
    let long : length (raw.code ++ ws) ≡ length raw.code + length ws = length-append raw.code ws in
    record { code_is = omega (arith, long, e, h.code_is); ram_is = h.ram_is; code_fits = within 65536 p.code size h.code_fits over_code; ram_fits = h.ram_fits }
words_fill_section p raw Ram size ws e over_code over_ram h =
    let long : length (raw.ram ++ ws) ≡ length raw.ram + length ws = length-append raw.ram ws in
    record { code_is = h.code_is; ram_is = omega (arith, long, e, h.ram_is); code_fits = h.code_fits; ram_fits = within 262144 p.ram size h.ram_fits over_ram }

none_fill : (p : Place) (raw : RawRecord) (section : Section) (size : ℕ) → size ≡ 0 → Fills p raw → Fills (filled section size p) raw
none_fill p raw Nowhere size e h = h
none_fill p raw Code size e h = record { code_is = omega (arith, e, h.code_is); ram_is = h.ram_is; code_fits = omega (arith, e, h.code_fits); ram_fits = h.ram_fits }
none_fill p raw Ram size e h = record { code_is = h.code_is; ram_is = omega (arith, e, h.ram_is); code_fits = h.code_fits; ram_fits = omega (arith, e, h.ram_fits) }

setting_fills : (p : Place) (raw : RawRecord) (line : ℕ) (key : Option ConfigKey) (value : ℕ) → Fills p raw → Fills p (with_setting line key value raw)
setting_fills p raw line None value h = h
setting_fills p raw line (Some key) value h = h

turned_fills : (s : Statement) (p : Place) (raw : RawRecord) → Fills p raw → Fills (turned s p) raw
turned_fills (Sections section) p raw h = h
turned_fills s p raw h = h

module _ (names : Names) (places : List Place) where
  statement_fills : (s : Statement) (p : Place) (raw : RawRecord) (line size : ℕ) → size ≡ size_of names s → has_constant_out_of_range names s ≡ false → has_undefined names s ≡ false → has_wrong_kind names s ≡ false → overfills_code p p.section size ≡ false → overfills_ram p p.section size ≡ false → Fills p raw → Fills (filled p.section size p) (with_statement names places line p s raw)
  statement_fills (Task n values) p raw line size e range undefined kind over_code over_ram h = none_fill p raw p.section size e h
  statement_fills (Object n k values) p raw line size e range undefined kind over_code over_ram h = none_fill p raw p.section size e h
  statement_fills (Vector values) p raw line size e range undefined kind over_code over_ram h = none_fill p raw p.section size e h
  statement_fills (Setting key v) p raw line size e range undefined kind over_code over_ram h =
      setting_fills (filled p.section size p) raw line key (value_of names places v) (none_fill p raw p.section size e h)
  statement_fills s p raw line size e range undefined kind over_code over_ram h =
      words_fill_section p raw p.section size (words names places p s) (words_fill names places p s range undefined kind ∙ sym e) over_code over_ram h

  -- a line without a cause gives all its bytes
  bytes_of-free : (c : Counts) (p : Place) (l : Line) → is_early names c p.section l ≡ false → bytes_of names c p.section l ≡ size_of names l.statement
  bytes_of-free c p l e = rw (e, bytes_of) refl

  -- a line more
  pub sections_kept : (c : Counts) (p : Place) (raw : RawRecord) (l : Line) → IsFree names places c p l → Fills p raw → Fills (place_after names c p l) (with_statement names places l.number p l.statement raw)
  sections_kept c p raw l free h =
      let size : bytes_of names c p.section l ≡ size_of names l.statement = bytes_of-free c p l free.early in
      turned_fills l.statement (filled p.section (bytes_of names c p.section l) p) (with_statement names places l.number p l.statement raw)
      (statement_fills l.statement p raw l.number (bytes_of names c p.section l) size free.constant free.undefined free.kind free.code free.ram h)
