-- The numbers of a text are small, and the constants of its names.
use Rattle.std.proofs.Common.{◌≡◌, ℕ, zero, suc, ℤ, pos, ◌+◌, ◌≤◌, ◌^◌, List, [], ◌∷◌, ◌++◌, length, Bool, true, false, cond, arith, refl, subst}
use Rattle.std.specs.Prelude.{Option, Some, None, IfSome}
use Rattle.std.specs.Option.{option_map}
use Rattle.std.specs.List.{AllByRecursion}
use Rattle.std.specs.Str.{bytes_eq}
use Rattle.std.proofs.lemmas.Int.{ints}
use Rattle.std.proofs.lemmas.List.Elements.{recursion_from_All}
use Rattle.text_lex.specs.Tokens.{Tokens, lexed}
use Rattle.text_lex.specs.declared.Token.{Token}
use Rattle.text_lex.specs.declared.TokenKind.{TokenKind}
use Rattle.text_lex.specs.declared.TokenKind.TheVariants.{Name, Directive, Number as Figure, Comma as CommaSign, Open as OpenSign, Close as CloseSign, Colon as ColonSign, End}
use Rattle.text_lex.proofs.KindLaws.{AreOfKind}
use Rattle.text_lex.proofs.TokenFacts.{IsTokenOf, all_tokens}
use Rattle.kern_base.specs.declared.kinds.Kind.{Kind}
use Rattle.asm_lines.specs.Language.{Operand, Number, Named, Piece, Is, Comma, Statement, Space, Equ, Task, Object, Vector, Line}
use Rattle.asm_lines.specs.Pieces.{bytes_at, piece_at, piece_of}
use Rattle.asm_lines.specs.Mnemonics.{head_of}
use Rattle.asm_lines.specs.Forms.{task_form, space_form, equ_form, object_form, mutex_form, callback, timer_kind, timer_of, timer_form, form}
use Rattle.asm_lines.specs.Lines.{read}
use Rattle.asm_lines.specs.declared.mnemonics.Head.{Head}
use Rattle.asm_lines.specs.declared.mnemonics.Head.TheVariants as head
use Rattle.asm_lines.proofs.PlainForms.{is_special, begins_special}
use Rattle.asm_lines.proofs.LineLaws.{read_has}
use Rattle.asm_places.specs.Names.{Defined, first_of, services_defined, defined_at_start, label_defines, statement_defines, defines}
use Rattle.asm_places.specs.NameSteps.{counted, no_counts, all_defined, names_of}
use Rattle.asm_places.specs.Counts.{Counts}
use Rattle.asm_places.specs.declared.places.Definition.{Definition}
use Rattle.asm_causes.specs.Sizes.{IsSmall, HasSmallNumber, HasSmallNumbers, HaveSmallNumbers, IsSmallMeaning, AreSmall}

-- The numbers of statements come from tokens.

abbrev IsSmallPiece : Piece → Type 0
IsSmallPiece (Is o) = HasSmallNumber o
IsSmallPiece _ = Unit {0}

plain : (s : Statement) → is_special s ≡ false → HasSmallNumbers s
plain (Space c) e = absurd (cc)
plain (Equ n value) e = absurd (cc)
plain s e = tt

task_small : (ps : List Piece) → IfSome (task_form ps) HasSmallNumbers
task_small (Is (Named n) ∷ Comma ∷ Is entry ∷ Comma ∷ Is prio ∷ Comma ∷ Is quanta ∷ Comma ∷ Is qsize ∷ Comma ∷ Is sp ∷ []) = tt
task_small _ = tt

object_small : (kind : Kind) (ps : List Piece) → IfSome (object_form kind ps) HasSmallNumbers
object_small kind (Is (Named n) ∷ Comma ∷ Is v ∷ []) = tt
object_small kind _ = tt

mutex_small : (ps : List Piece) → IfSome (mutex_form ps) HasSmallNumbers
mutex_small (Is (Named n) ∷ []) = tt
mutex_small _ = tt

kind_small : (n : List ℕ) (kind : Option Kind) (a b c d : Operand) → IfSome (option_map (λ kind. Object n kind (a ∷ b ∷ c ∷ d ∷ [])) kind) HasSmallNumbers
kind_small n None a b c d = tt
kind_small n (Some kind) a b c d = tt

timer_of_small : (n : List ℕ) (kind delay period call argument : Operand) → IfSome (timer_of n kind delay period call argument) HasSmallNumbers
timer_of_small n (Named word) delay period call argument = kind_small n (timer_kind word) delay period (callback call) argument
timer_of_small n (Number value) delay period call argument = tt

timer_small : (ps : List Piece) → IfSome (timer_form ps) HasSmallNumbers
timer_small (Is (Named n) ∷ Comma ∷ Is kind ∷ Comma ∷ Is delay ∷ Comma ∷ Is period ∷ Comma ∷ Is call ∷ Comma ∷ Is argument ∷ []) = timer_of_small n kind delay period call argument
timer_small _ = tt

space_small : (ps : List Piece) → AllByRecursion IsSmallPiece ps → IfSome (space_form ps) HasSmallNumbers
space_small (Is c ∷ []) r = r.0
space_small _ r = tt

equ_small : (ps : List Piece) → AllByRecursion IsSmallPiece ps → IfSome (equ_form ps) HasSmallNumbers
equ_small (Is (Named n) ∷ Comma ∷ Is (Number value) ∷ []) r = r.1.1.0
equ_small _ r = tt

special : (name : List ℕ) (h : Head) (ps : List Piece) → head_of name ≡ Some h → begins_special h ≡ true → AllByRecursion IsSmallPiece ps → IfSome (form h ps) HasSmallNumbers
special name head.Task ps e d r = task_small ps
special name (head.Object kind) ps e d r = object_small kind ps
special name head.Mutex ps e d r = mutex_small ps
special name head.Timer ps e d r = timer_small ps
special name head.Space ps e d r = space_small ps r
special name head.Equ ps e d r = equ_small ps r
special name h ps e d r = absurd (cc)

kind_piece : (kind : TokenKind) (bytes : List ℕ) → AreOfKind kind bytes → IsSmallPiece (piece_at kind bytes)
kind_piece Name bytes h = tt
kind_piece (Figure value) bytes h = h.most
kind_piece Directive bytes h = tt
kind_piece CommaSign bytes h = tt
kind_piece OpenSign bytes h = tt
kind_piece CloseSign bytes h = tt
kind_piece ColonSign bytes h = tt
kind_piece End bytes h = tt

small_piece : (text : List ℕ) (t : Token) → IsTokenOf text t → IsSmallPiece (piece_of text t)
small_piece text t h = kind_piece t.kind (bytes_at text t.start t.len) h.kind

pub lines_small : (text : List ℕ) (tokens : List Token) → lexed text ≡ Tokens tokens → HaveSmallNumbers (read text tokens).lines
lines_small text tokens e = read_has text HasSmallNumbers IsSmallPiece (IsTokenOf text) plain special (small_piece text) tokens (recursion_from_All (IsTokenOf text) tokens (all_tokens text tokens e))

-- The constants of names come from statements, and count services and lines.

abbrev AllSmall : Defined → Type 0
AllSmall ds = AllByRecursion (λ d. IsSmallMeaning d.1.meaning) ds

both_small : (xs ys : Defined) → AllSmall xs → AllSmall ys → AllSmall (xs ++ ys)
both_small [] ys h k = k
both_small (x ∷ xs) ys h k = (h.0, both_small xs ys h.1 k)

found_small : (b : Bool) (d : Definition) (o : Option Definition) → IsSmallMeaning d.meaning → IfSome o (λ d. IsSmallMeaning d.meaning) → IfSome (cond b (Some d) o) (λ d. IsSmallMeaning d.meaning)
found_small true d o h k = h
found_small false d o h k = k

first_small : (ds : Defined) (q : List ℕ) → AllSmall ds → IfSome (first_of ds q) (λ d. IsSmallMeaning d.meaning)
first_small [] q h = tt
first_small (d ∷ ds) q h = found_small (bytes_eq q d.0) d.1 (first_of ds q) h.0 (first_small ds q h.1)

small_number : (n : ℕ) → n ≤ 4294967295 → IsSmall (pos n)
small_number n h = omega (arith, ints, h)

services_small : (n : ℕ) → n ≤ 39 → AllSmall (services_defined n)
services_small zero h = tt
services_small (suc n) h = (small_number (suc n) (omega (arith, h)), services_small n (omega (arith, h)))

start_small : AllSmall defined_at_start
unfolding defined_at_start
start_small = services_small 39 (omega arith)

-- so many lines are behind
pub record Counted (c : Counts) (left : ℕ) : Type 0 where
  pub tasks : c.tasks + left ≤ 2 ^ 24
  pub objects : c.objects + left ≤ 2 ^ 24

counted_more : (s : Statement) (c : Counts) (left : ℕ) → Counted c (left + 1) → Counted (counted s c) left
counted_more (Task n values) c left h = record { tasks = omega (arith, h.tasks); objects = omega (arith, h.objects) }
counted_more (Object n kind values) c left h = record { tasks = omega (arith, h.tasks); objects = omega (arith, h.objects) }
counted_more (Vector values) c left h = record { tasks = omega (arith, h.tasks); objects = omega (arith, h.objects) }
counted_more _ c left h = record { tasks = omega (arith, h.tasks); objects = omega (arith, h.objects) }

label_small : (c : Counts) (label : Option (List ℕ)) → AllSmall (label_defines c label)
label_small c None = tt
label_small c (Some name) = (tt, tt)

statement_small : (c : Counts) (left : ℕ) (s : Statement) → Counted c (left + 1) → HasSmallNumbers s → AllSmall (statement_defines c s)
statement_small c left (Equ n value) k h = (h, tt)
statement_small c left (Task n values) k h = (small_number c.tasks (omega (arith, k.tasks)), tt)
statement_small c left (Object n kind values) k h = (small_number c.objects (omega (arith, k.objects)), tt)
statement_small c left _ k h = tt

lines_defined : (c : Counts) (ls : List Line) → Counted c (length ls) → HaveSmallNumbers ls → AllSmall (all_defined c ls)
lines_defined c [] k h = tt
lines_defined c (l ∷ ls) k h =
    let more : Counted c (length ls + 1) = record { tasks = omega (arith, k.tasks); objects = omega (arith, k.objects) } in
    both_small (defines c l) (all_defined (counted l.statement c) ls)
    (both_small (label_defines c l.label) (statement_defines c l.statement) (label_small c l.label) (statement_small c (length ls) l.statement more h.0))
    (lines_defined (counted l.statement c) ls (counted_more l.statement c (length ls) more) h.1)

pub names_small : (ls : List Line) → length ls ≤ 2 ^ 24 → HaveSmallNumbers ls → AreSmall (names_of ls)
names_small ls few h = λ name.
    first_small (defined_at_start ++ all_defined no_counts ls) name
    (both_small defined_at_start (all_defined no_counts ls) start_small (lines_defined no_counts ls (record { tasks = omega (arith, few); objects = omega (arith, few) }) h))
