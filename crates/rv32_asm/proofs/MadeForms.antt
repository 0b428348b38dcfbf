-- The fields that the forms of the declarations leave unused.
use Rattle.std.proofs.Common.{◌≡◌, ℕ, ◌-◌, ◌==◌, List, [], ◌∷◌, drop, replicate, Bool, true, false, cond, refl, subst}
use Rattle.std.specs.Prelude.{Option, Some, None, IfSome}
use Rattle.std.specs.List.{list_all, AllByRecursion}
use Rattle.std.specs.Option.{option_map}
use Rattle.std.specs.Str.{bytes_eq}
use Rattle.std.proofs.lemmas.Bool.{and_parts, eqb-true}
use Rattle.kern_base.specs.declared.kinds.Kind.{Kind}
use Rattle.text_lex.specs.declared.Token.{Token}
use Rattle.app_image.specs.Raw.{fields_used}
use Rattle.asm_lines.specs.Tables.{entry}
use Rattle.asm_lines.specs.Mnemonics.{heads, head_of}
use Rattle.asm_lines.specs.Forms.{task_form, space_form, equ_form, unused, object_form, mutex_form, timer_kinds, timer_kind, callback, timer_of, timer_form, form}
use Rattle.asm_lines.specs.Lines.{read}
use Rattle.asm_lines.specs.Language.{Operand, Number, Named, Piece, Is, Comma, Statement, Task, Object, Line}
use Rattle.asm_lines.specs.declared.mnemonics.Head.{Head}
use Rattle.asm_lines.specs.declared.mnemonics.Head.TheVariants as head
use Rattle.asm_lines.proofs.PlainForms.{is_special, begins_special}
use Rattle.asm_lines.proofs.LineLaws.{read_has}

-- the fields that its kind does not use are 0 as the declaration has them
abbrev pub HasZeros : Statement → Type 0
HasZeros (Object n kind values) = drop (fields_used kind) values ≡ replicate (4 - fields_used kind) unused
HasZeros _ = Unit {0}

plain : (s : Statement) → is_special s ≡ false → HasZeros s
plain (Task n values) e = tt
plain (Object n kind values) e = absurd (cc)
plain s e = tt

-- Rows of tables.

chosen_passes : {V : Type 0} (test : V → Bool) (b : Bool) (v : V) (o : Option V) → test v ≡ true → IfSome o (λ v. test v ≡ true) → IfSome (cond b (Some v) o) (λ v. test v ≡ true)
chosen_passes test true v o e h = e
chosen_passes test false v o e h = h

-- what each row of a table passes, an entry passes
entry_passes : {V : Type 0} (test : V → Bool) (name : List ℕ) (rows : List (List ℕ × V)) → list_all (λ row. test row.1) rows ≡ true → IfSome (entry name rows) (λ v. test v ≡ true)
entry_passes test name [] e = tt
entry_passes test name (row ∷ rows) e =
    let parts = and_parts (test row.1) (list_all (λ r. test r.1) rows) e in
    chosen_passes test (bytes_eq name row.0) row.1 (entry name rows) parts.0 (entry_passes test name rows parts.1)

-- `.sem`, `.queue` and `.flags` have one field
abbrev has_one_field : Head → Bool
has_one_field (head.Object kind) = fields_used kind == 1
has_one_field _ = true

heads_pass : (name : List ℕ) → IfSome (head_of name) (λ h. has_one_field h ≡ true)
heads_pass name = entry_passes has_one_field name heads refl

-- timers have four fields
timers_pass : (word : List ℕ) → IfSome (timer_kind word) (λ kind. (fields_used kind == 4) ≡ true)
timers_pass word = entry_passes (λ kind. fields_used kind == 4) word timer_kinds refl

known_passes : (o : Option Head) (h : Head) → o ≡ Some h → IfSome o (λ k. has_one_field k ≡ true) → has_one_field h ≡ true
known_passes None h e p = absurd (cc)
known_passes (Some k) h e p = let same : k ≡ h = cc in subst (λ x. has_one_field x ≡ true) same p

task_passes : (ps : List Piece) → IfSome (task_form ps) HasZeros
task_passes (Is (Named n) ∷ Comma ∷ Is entry ∷ Comma ∷ Is prio ∷ Comma ∷ Is quanta ∷ Comma ∷ Is qsize ∷ Comma ∷ Is sp ∷ []) = tt
task_passes _ = tt

object_passes : (kind : Kind) (ps : List Piece) → (fields_used kind == 1) ≡ true → IfSome (object_form kind ps) HasZeros
object_passes kind (Is (Named n) ∷ Comma ∷ Is v ∷ []) e =
    let one : fields_used kind ≡ 1 = eqb-true (fields_used kind) 1 e in
    rw one refl
object_passes kind _ e = tt

mutex_passes : (ps : List Piece) → IfSome (mutex_form ps) HasZeros
mutex_passes (Is (Named n) ∷ []) = refl
mutex_passes _ = tt

four : (kind : Kind) (n : List ℕ) (a b c d : Operand) → (fields_used kind == 4) ≡ true → HasZeros (Object n kind (a ∷ b ∷ c ∷ d ∷ []))
four kind n a b c d e =
    let all : fields_used kind ≡ 4 = eqb-true (fields_used kind) 4 e in
    rw all refl

timer_passes_by : (o : Option Kind) (n : List ℕ) (a b c d : Operand) → IfSome o (λ kind. (fields_used kind == 4) ≡ true) → IfSome (option_map (λ kind. Object n kind (a ∷ b ∷ c ∷ d ∷ [])) o) HasZeros
timer_passes_by None n a b c d e = tt
timer_passes_by (Some kind) n a b c d e = four kind n a b c d e

space_passes : (ps : List Piece) → IfSome (space_form ps) HasZeros
space_passes (Is c ∷ []) = tt
space_passes _ = tt

equ_passes : (ps : List Piece) → IfSome (equ_form ps) HasZeros
equ_passes (Is (Named n) ∷ Comma ∷ Is (Number value) ∷ []) = tt
equ_passes _ = tt

timer_of_passes : (n : List ℕ) (word delay period call argument : Operand) → IfSome (timer_of n word delay period call argument) HasZeros
timer_of_passes n (Named word) delay period call argument = timer_passes_by (timer_kind word) n delay period (callback call) argument (timers_pass word)
timer_of_passes n (Number value) delay period call argument = tt

timer_passes : (ps : List Piece) → IfSome (timer_form ps) HasZeros
timer_passes (Is (Named n) ∷ Comma ∷ Is kind ∷ Comma ∷ Is delay ∷ Comma ∷ Is period ∷ Comma ∷ Is call ∷ Comma ∷ Is argument ∷ []) = timer_of_passes n kind delay period call argument
timer_passes _ = tt

-- the forms of special statements
special : (name : List ℕ) (h : Head) (ps : List Piece) → head_of name ≡ Some h → begins_special h ≡ true → IfSome (form h ps) HasZeros
special name head.Task ps e d = task_passes ps
special name (head.Object kind) ps e d = object_passes kind ps (known_passes (head_of name) (head.Object kind) e (heads_pass name))
special name head.Mutex ps e d = mutex_passes ps
special name head.Timer ps e d = timer_passes ps
special name head.Space ps e d = space_passes ps
special name head.Equ ps e d = equ_passes ps
special name h ps e d = absurd (cc)

none_asked : (ts : List Token) → AllByRecursion (λ t. Unit {0}) ts
none_asked [] = tt
none_asked (t ∷ ts) = (tt, none_asked ts)

-- each line that is read
abbrev pub LinesHaveZeros : List Line → Type 0
LinesHaveZeros ls = AllByRecursion (λ l. HasZeros l.statement) ls

pub lines_have_zeros : (text : List ℕ) (tokens : List Token) → LinesHaveZeros (read text tokens).lines
lines_have_zeros text tokens = read_has text HasZeros (λ p. Unit {0}) (λ t. Unit {0}) plain (λ name h ps e d r. special name h ps e d) (λ t u. tt) tokens (none_asked tokens)
