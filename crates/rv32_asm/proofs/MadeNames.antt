-- The names of an assembled image: each is free, and no two are the same.
use Rattle.std.proofs.Common.{◌≡◌, ◌≢◌, ℕ, ◌+◌, ◌<◌, List, [], ◌∷◌, ◌++◌, map, length, true, false, refl, sym, ap, subst, ◌∙◌, arith, append_assoc, append-nil}
use Rattle.std.specs.Prelude.{Option, Some, None, not, nat_le}
use Rattle.std.specs.List.{All, AllByRecursion}
use Rattle.std.proofs.lemmas.Bool.{and_parts, or_parts, not-false, leb-true, eqb-true}
use Rattle.std.proofs.lemmas.List.Elements.{All-from_recursion}
use Rattle.text_lex.specs.Bytes.{is_name}
use Rattle.text_lex.specs.Tokens.{Tokens, lexed}
use Rattle.text_lex.specs.declared.Token.{Token}
use Rattle.app_image.specs.Raw.{RawRecord}
use Rattle.app_image.specs.Names.{is_service_name, IsFreeName, AreDistinct, names_of as names_in}
use Rattle.app_image.specs.declared.settings.ConfigKey.{ConfigKey}
use Rattle.app_image.specs.declared.records.TaskDef.{TaskDef}
use Rattle.app_image.specs.declared.records.ObjDef.{ObjDef}
use Rattle.asm_lines.specs.Lines.{read}
use Rattle.asm_places.specs.Names.{Names}
use Rattle.asm_places.specs.NameSteps.{names_of, counted, no_counts}
use Rattle.asm_places.specs.Operands.{no_place}
use Rattle.asm_causes.specs.Causes.{is_on, is_constant_on, is_statement_of, label_again, name_again, name_in, is_short, has_long_name}
use Rattle.asm_causes.specs.PlaceSteps.{places_of}
use Rattle.rv32_asm.specs.Steps.{with_words, with_setting, with_statement, empty_image, assembled_by_steps}
use Rattle.rv32_asm.specs.Assembly.{Gives}
use Rattle.asm_lines.specs.Language.{Statement, Task, Object, Vector, Setting}
use Rattle.asm_lines.specs.declared.mnemonics.Section.{Section}
use Rattle.asm_lines.specs.declared.mnemonics.Section.TheVariants.{Nowhere, Code, Ram}
use Rattle.asm_places.specs.Counts.{Counts}
use Rattle.asm_places.specs.Place.{Place}
use Rattle.asm_places.specs.declared.places.Meaning.{Meaning}
use Rattle.asm_places.specs.declared.places.Meaning.TheVariants.{Label, Constant}
use Rattle.asm_places.specs.declared.places.Definition.{Definition}
use Rattle.rv32_asm.proofs.MadeSteps.{Keeps, kept}
use Rattle.rv32_asm.proofs.MadeDistinct.{AreApart, all_with, apart_with, all_weaker, pairs_apart}
use Rattle.rv32_asm.proofs.MadeServices.{first_line, no_service}
use Rattle.rv32_asm.proofs.MadeSpelling.{DeclaresName, declare_names}

-- the names of the tasks and objects of an image
abbrev pub image_names : RawRecord → List (List ℕ)
image_names raw = names_in raw.tasks raw.objects

-- the line of a definition that a statement makes first
on_line : (lines : ℕ) (line : Option ℕ) → is_on lines line ≡ true → line ≡ Some lines
on_line lines None h = absurd cc
on_line lines (Some line) h = ap (λ (n : ℕ). Some n) (eqb-true line lines h)

constant_line : (lines : ℕ) (line : Option ℕ) (m : Meaning) → is_constant_on lines line m ≡ true → line ≡ Some lines
constant_line lines line (Label at) h = absurd cc
constant_line lines line (Constant value) h = on_line lines line h

statement_line : (c : Counts) (o : Option Definition) → is_statement_of c o ≡ true → first_line o ≡ Some c.lines
statement_line c None h = absurd cc
statement_line c (Some d) h = constant_line c.lines d.line d.meaning h

lines_counted : (s : Statement) (c : Counts) → (counted s c).lines ≡ c.lines + 1
lines_counted (Task n values) c = refl
lines_counted (Object n kind values) c = refl
lines_counted (Vector values) c = refl
lines_counted _ c = refl

-- what else a line gives keeps the names
words_keep : (section : Section) (ws : List ℕ) (raw : RawRecord) → image_names (with_words section ws raw) ≡ image_names raw
words_keep Nowhere ws raw = refl
words_keep Code ws raw = refl
words_keep Ram ws raw = refl

setting_keeps : (line : ℕ) (key : Option ConfigKey) (value : ℕ) (raw : RawRecord) → image_names (with_setting line key value raw) ≡ image_names raw
setting_keeps line None value raw = refl
setting_keeps line (Some key) value raw = refl

-- the names with a task or an object more
map_last : {X : Type 0} (f : X → List ℕ) (xs : List X) (x : X) → map f (xs ++ x ∷ []) ≡ map f xs ++ f x ∷ []
map_last f [] x = refl
map_last f (y ∷ xs) x = ap (λ l. f y ∷ l) (map_last f xs x)

task_more : (raw : RawRecord) (t : TaskDef) → names_in (raw.tasks ++ t ∷ []) raw.objects ≡ map (λ u. u.name) raw.tasks ++ t.name ∷ map (λ o. o.name) raw.objects
task_more raw t =
    ap (λ l. l ++ map (λ o. o.name) raw.objects) (map_last (λ u. u.name) raw.tasks t)
    ∙ append_assoc (map (λ u. u.name) raw.tasks) (t.name ∷ []) (map (λ o. o.name) raw.objects)

object_more : (raw : RawRecord) (o : ObjDef) → names_in raw.tasks (raw.objects ++ o ∷ []) ≡ (image_names raw) ++ o.name ∷ []
object_more raw o =
    ap (λ l. map (λ u. u.name) raw.tasks ++ l) (map_last (λ p. p.name) raw.objects o)
    ∙ sym (append_assoc (map (λ u. u.name) raw.tasks) (map (λ p. p.name) raw.objects) (o.name ∷ []))

module _ (names : Names) where
  -- what a line defines first is no name of a service
  abbrev pub DefinesNoService : Type 0
  DefinesNoService = (name : List ℕ) (line : ℕ) → first_line (names name) ≡ Some line → is_service_name name ≡ false

  -- a free name that one of so many lines defines first
  pub record IsDeclared (lines : ℕ) (name : List ℕ) : Type 0 where
    pub free : IsFreeName name
    pub line : ℕ
    pub earlier : line < lines
    pub defined : first_line (names name) ≡ Some line

  -- names that so many lines declare
  pub record AreDeclared (lines : ℕ) (found : List (List ℕ)) : Type 0 where
    pub each : AllByRecursion (IsDeclared lines) found
    pub apart : AreApart found

  -- a name that the line behind these declares
  pub record IsNew (lines : ℕ) (name : List ℕ) : Type 0 where
    pub free : IsFreeName name
    pub defined : first_line (names name) ≡ Some lines

  -- what earlier lines declare is another name
  differs : (lines : ℕ) (name : List ℕ) → IsNew lines name → (m : List ℕ) → IsDeclared lines m → m ≢ name
  differs lines name n m d e =
      let same : Some lines ≡ Some d.line = sym n.defined ∙ (ap (λ k. first_line (names k)) (sym e) ∙ d.defined) in
      let number : lines ≡ d.line = cc in
      omega (arith, number, d.earlier)

  stays : (lines : ℕ) (name : List ℕ) → IsDeclared lines name → IsDeclared (lines + 1) name
  stays lines name d = record { free = d.free; line = d.line; earlier = omega (arith, d.earlier); defined = d.defined }

  line_more : (lines : ℕ) (found : List (List ℕ)) → AreDeclared lines found → AreDeclared (lines + 1) found
  line_more lines found h = record { each = all_weaker (IsDeclared lines) (IsDeclared (lines + 1)) (stays lines) found h.each; apart = h.apart }

  name_more : (lines : ℕ) (xs ys : List (List ℕ)) (name : List ℕ) → IsNew lines name → AreDeclared lines (xs ++ ys) → AreDeclared (lines + 1) (xs ++ name ∷ ys)
  name_more lines xs ys name n h =
      let here : IsDeclared (lines + 1) name = record { free = n.free; line = lines; earlier = omega arith; defined = n.defined } in
      record {
        each = all_with (IsDeclared (lines + 1)) xs ys name here (line_more lines (xs ++ ys) h).each;
        apart = apart_with xs ys name (all_weaker (IsDeclared lines) (λ m. m ≢ name) (differs lines name n) (xs ++ ys) h.each) h.apart;
      }

  -- the name that a statement declares is new on its line
  abbrev pub DeclaresNew : ℕ → Statement → Type 0
  DeclaresNew lines (Task n values) = IsNew lines n
  DeclaresNew lines (Object n kind values) = IsNew lines n
  DeclaresNew lines _ = Unit {0}

  module _ (places : List Place) where
    -- the names with what a statement declares
    statement_kept : (line lines : ℕ) (p : Place) (s : Statement) (raw : RawRecord) → DeclaresNew lines s → AreDeclared lines (image_names raw) → AreDeclared (lines + 1) (image_names (with_statement names places line p s raw))
    statement_kept line lines p (Task n values) raw new h =
        subst (AreDeclared (lines + 1)) (sym (task_more raw _)) (name_more lines (map (λ t. t.name) raw.tasks) (map (λ o. o.name) raw.objects) n new h)
    statement_kept line lines p (Object n kind values) raw new h =
        let nil : image_names raw ++ [] ≡ image_names raw = append-nil (image_names raw) in
        subst (AreDeclared (lines + 1)) (sym (object_more raw _)) (name_more lines (image_names raw) [] n new (subst (AreDeclared lines) (sym nil) h))
    statement_kept line lines p (Vector values) raw new h = line_more lines (image_names raw) h
    statement_kept line lines p (Setting key v) raw new h = subst (AreDeclared (lines + 1)) (sym (setting_keeps line key _ raw)) (line_more lines (image_names raw) h)
    statement_kept line lines p _ raw new h = subst (AreDeclared (lines + 1)) (sym (words_keep p.section _ raw)) (line_more lines (image_names raw) h)

    -- a name that is declared and short, and whose line defines it first
    new_name : (services : DefinesNoService) (c : Counts) (n : List ℕ) → is_name n ≡ true → not (is_short n) ≡ false → name_again names c (Some n) ≡ false → IsNew c.lines n
    new_name services c n form long again =
        let short = and_parts (nat_le 1 (length n)) (nat_le (length n) 16) (not-false (is_short n) long) in
        let line : first_line (names n) ≡ Some c.lines = statement_line c (names n) (not-false (is_statement_of c (names n)) again) in
        record {
          free = record { some = leb-true 1 (length n) short.0; short = leb-true (length n) 16 short.1; form = form; free = services n c.lines line };
          defined = line;
        }

    -- what a statement without a cause declares is new
    new_declared : (services : DefinesNoService) (c : Counts) (s : Statement) → DeclaresName s → has_long_name s ≡ false → name_again names c (name_in s) ≡ false → DeclaresNew c.lines s
    new_declared services c (Task n values) form long again = new_name services c n form long again
    new_declared services c (Object n kind values) form long again = new_name services c n form long again
    new_declared services c _ form long again = tt

    -- the line behind some has names that earlier lines declare
    abbrev pub HasNames : Counts → Place → RawRecord → Type 0
    HasNames c p raw = AreDeclared c.lines (image_names raw)

    -- a line without a cause keeps the names free and distinct
    pub line_kept : DefinesNoService → Keeps names places (λ l. DeclaresName l.statement) HasNames
    line_kept services c p raw l free form h =
        let twice = or_parts (label_again names c l.label) (name_again names c (name_in l.statement)) free.twice in
        let new = new_declared services c l.statement form free.name twice.1 in
        let lines : c.lines + 1 ≡ (counted l.statement c).lines = sym (lines_counted l.statement c) in
        subst (λ k. AreDeclared k (image_names (with_statement names places l.number p l.statement raw))) lines (statement_kept l.number c.lines p l.statement raw new h)

-- what is known of the names of an assembled image
pub record HasFreeNames (raw : RawRecord) : Type 0 where
  pub names : All IsFreeName (names_in raw.tasks raw.objects)
  pub distinct : AreDistinct (names_in raw.tasks raw.objects)

pub has_free_names : (names : Names) (raw : RawRecord) (lines : ℕ) → AreDeclared names lines (image_names raw) → HasFreeNames raw
has_free_names names raw lines h = record {
  names = All-from_recursion IsFreeName (image_names raw) (all_weaker (IsDeclared names lines) IsFreeName (λ name d. d.free) (image_names raw) h.each);
  distinct = pairs_apart (image_names raw) h.apart;
}

-- the names of an assembled image are free and distinct
pub made_names : (text : List ℕ) (tokens : List Token) (raw : RawRecord) (used : ℕ) → lexed text ≡ Tokens tokens → assembled_by_steps text tokens ≡ Gives raw used → HasFreeNames raw
made_names text tokens raw used e h =
    let reading = read text tokens in
    let names = names_of reading.lines in
    let places = places_of names reading.lines in
    let none : AreDeclared names 0 (image_names empty_image) = record { each = tt; apart = tt } in
    let given = kept names places (λ l. DeclaresName l.statement) (HasNames names places) (line_kept names places (no_service reading.lines)) reading.lines no_counts no_place empty_image reading.used raw used (declare_names text tokens e) none h in
    has_free_names names raw given.0.lines given.2
