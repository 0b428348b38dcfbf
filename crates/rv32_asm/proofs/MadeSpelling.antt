-- The name that a line declares is spelt as a name.
use Rattle.std.proofs.Common.{◌≡◌, ℕ, List, [], ◌∷◌, true, false}
use Rattle.std.specs.Prelude.{Option, Some, None, IfSome}
use Rattle.std.specs.Option.{option_map}
use Rattle.std.specs.List.{AllByRecursion}
use Rattle.std.proofs.lemmas.List.Elements.{recursion_from_All}
use Rattle.kern_base.specs.declared.kinds.Kind.{Kind}
use Rattle.text_lex.specs.Bytes.{is_name}
use Rattle.text_lex.specs.Tokens.{Tokens, lexed}
use Rattle.text_lex.specs.declared.Token.{Token}
use Rattle.text_lex.specs.declared.TokenKind.{TokenKind}
use Rattle.text_lex.specs.declared.TokenKind.TheVariants.{Name, Directive, Number as Figure, Comma as CommaSign, Open as OpenSign, Close as CloseSign, Colon as ColonSign, End}
use Rattle.text_lex.proofs.KindLaws.{AreOfKind}
use Rattle.text_lex.proofs.TokenFacts.{IsTokenOf, all_tokens}
use Rattle.asm_lines.specs.Pieces.{bytes_at, piece_at, piece_of}
use Rattle.asm_lines.specs.Mnemonics.{head_of}
use Rattle.asm_lines.specs.Forms.{task_form, space_form, equ_form, object_form, mutex_form, callback, timer_kind, timer_of, timer_form, form}
use Rattle.asm_lines.specs.Lines.{read}
use Rattle.asm_lines.specs.Language.{Operand, Number, Named, Piece, Is, Comma, Statement, Task, Object, Line}
use Rattle.asm_lines.specs.declared.mnemonics.Head.{Head}
use Rattle.asm_lines.specs.declared.mnemonics.Head.TheVariants as head
use Rattle.asm_lines.proofs.PlainForms.{is_special, begins_special}
use Rattle.asm_lines.proofs.LineLaws.{read_has}

-- a piece that is a name is spelt as one
abbrev pub IsSpelt : Piece → Type 0
IsSpelt (Is (Named s)) = is_name s ≡ true
IsSpelt _ = Unit {0}

-- the name that a statement declares is spelt as one
abbrev pub DeclaresName : Statement → Type 0
DeclaresName (Task n values) = is_name n ≡ true
DeclaresName (Object n kind values) = is_name n ≡ true
DeclaresName _ = Unit {0}

-- only a declaration does
plain : (s : Statement) → is_special s ≡ false → DeclaresName s
plain (Task n values) e = absurd (cc)
plain (Object n kind values) e = absurd (cc)
plain s e = tt

-- the forms that declare a task or an object declare their first piece
task_declares : (ps : List Piece) → AllByRecursion IsSpelt ps → IfSome (task_form ps) DeclaresName
task_declares (Is (Named n) ∷ Comma ∷ Is entry ∷ Comma ∷ Is prio ∷ Comma ∷ Is quanta ∷ Comma ∷ Is qsize ∷ Comma ∷ Is sp ∷ []) h = h.0
task_declares _ h = tt

object_declares : (kind : Kind) (ps : List Piece) → AllByRecursion IsSpelt ps → IfSome (object_form kind ps) DeclaresName
object_declares kind (Is (Named n) ∷ Comma ∷ Is v ∷ []) h = h.0
object_declares kind _ h = tt

mutex_declares : (ps : List Piece) → AllByRecursion IsSpelt ps → IfSome (mutex_form ps) DeclaresName
mutex_declares (Is (Named n) ∷ []) h = h.0
mutex_declares _ h = tt

of_kind_declares : (n : List ℕ) (kind : Option Kind) (values : List Operand) → is_name n ≡ true → IfSome (option_map (λ kind. Object n kind values) kind) DeclaresName
of_kind_declares n (Some kind) values h = h
of_kind_declares n None values h = tt

timer_of_declares : (n : List ℕ) (kind delay period call argument : Operand) → is_name n ≡ true → IfSome (timer_of n kind delay period call argument) DeclaresName
timer_of_declares n (Named word) delay period call argument h = of_kind_declares n (timer_kind word) (delay ∷ period ∷ callback call ∷ argument ∷ []) h
timer_of_declares n (Number value) delay period call argument h = tt

timer_declares : (ps : List Piece) → AllByRecursion IsSpelt ps → IfSome (timer_form ps) DeclaresName
timer_declares (Is (Named n) ∷ Comma ∷ Is kind ∷ Comma ∷ Is delay ∷ Comma ∷ Is period ∷ Comma ∷ Is call ∷ Comma ∷ Is argument ∷ []) h = timer_of_declares n kind delay period call argument h.0
timer_declares _ h = tt

space_declares : (ps : List Piece) → IfSome (space_form ps) DeclaresName
space_declares (Is c ∷ []) = tt
space_declares _ = tt

equ_declares : (ps : List Piece) → IfSome (equ_form ps) DeclaresName
equ_declares (Is (Named n) ∷ Comma ∷ Is (Number value) ∷ []) = tt
equ_declares _ = tt

special : (name : List ℕ) (h : Head) (ps : List Piece) → head_of name ≡ Some h → begins_special h ≡ true → AllByRecursion IsSpelt ps → IfSome (form h ps) DeclaresName
special name head.Task ps e d r = task_declares ps r
special name (head.Object kind) ps e d r = object_declares kind ps r
special name head.Mutex ps e d r = mutex_declares ps r
special name head.Timer ps e d r = timer_declares ps r
special name head.Space ps e d r = space_declares ps
special name head.Equ ps e d r = equ_declares ps
special name h ps e d r = absurd (cc)

-- the pieces of tokens
kind_spelt : (kind : TokenKind) (bytes : List ℕ) → AreOfKind kind bytes → IsSpelt (piece_at kind bytes)
kind_spelt Name bytes h = h
kind_spelt (Figure value) bytes h = tt
kind_spelt Directive bytes h = tt
kind_spelt CommaSign bytes h = tt
kind_spelt OpenSign bytes h = tt
kind_spelt CloseSign bytes h = tt
kind_spelt ColonSign bytes h = tt
kind_spelt End bytes h = tt

piece_spelt : (text : List ℕ) (t : Token) → IsTokenOf text t → IsSpelt (piece_of text t)
piece_spelt text t h = kind_spelt t.kind (bytes_at text t.start t.len) h.kind

-- each line declares a name, if any
abbrev pub DeclareNames : List Line → Type 0
DeclareNames ls = AllByRecursion (λ l. DeclaresName l.statement) ls

-- each name that a line of a text declares is spelt as a name
pub declare_names : (text : List ℕ) (tokens : List Token) → lexed text ≡ Tokens tokens → DeclareNames (read text tokens).lines
declare_names text tokens e = read_has text DeclaresName IsSpelt (IsTokenOf text) plain special (piece_spelt text) tokens (recursion_from_All (IsTokenOf text) tokens (all_tokens text tokens e))
