-- The lines of a listing: their parts, and what they are to the assembler.
use Rattle.std.proofs.Common.{◌≡◌, ℕ, ◌<◌, ◌^◌, List, [], ◌∷◌, true, false, refl, ap, ◌∙◌, pos}
use Rattle.std.specs.Prelude.{Option, Some, None, ◌==◌, if◌then◌else◌, slice_index, codes}
use Rattle.std.specs.Option.{option_map}
use Rattle.std.proofs.lemmas.Bool.{cond_both, eqb-true}
use Rattle.kern_base.specs.declared.kinds.Kind.{Kind}
use Rattle.kern_base.specs.declared.kinds.Kind.TheVariants as k
use Rattle.text_lex.specs.Bytes.{is_name}
use Rattle.text_lex.specs.Division.{Part, Lexeme}
use Rattle.text_lex.specs.declared.TokenKind.TheVariants as kind
use Rattle.app_image.specs.Image.{no_callback}
use Rattle.app_image.specs.Held.{HasWordTask, HasWordVector}
use Rattle.app_image.specs.declared.records.TaskDef.{TaskDef}
use Rattle.app_image.specs.declared.records.ObjDef.{ObjDef}
use Rattle.app_image.specs.declared.records.VectorDef.{VectorDef}
use Rattle.app_image.specs.declared.settings.ConfigKey.{ConfigKey}
use Rattle.asm_lines.specs.Mnemonics.{head_of}
use Rattle.asm_lines.specs.Words.{key_of}
use Rattle.asm_lines.specs.Forms.{unused, callback, timer_kind}
use Rattle.asm_lines.specs.Lines.{formed, statement_of, behind_label, line_of, is_inject}
use Rattle.asm_lines.specs.Language.{Operand, Number, Named, Statement, Sections, Task, Object, Vector, Setting, Line}
use Rattle.asm_lines.specs.declared.mnemonics.Section.{Section}
use Rattle.asm_lines.specs.declared.mnemonics.Section.TheVariants as section
use Rattle.asm_lines.specs.declared.mnemonics.Head.TheVariants as head
use Rattle.rv32_listing.specs.Texts.{label}
use Rattle.listing_law.proofs.Tokens.Spelled.{part_pieces}
use Rattle.listing_law.proofs.Statements.Bodies.{Body, OnRegisters, OnImmediate, OnLoad, OnShift, OnStore, OnBranch, OnUpper, OnJump, OnAlone, OnWord, blank, comma, name, directive, number, word, body_parts, IsBody, body_statement, dotted_here, body_read}

pub data Item : Type 0 where
  Turned : Section → Item
  Coded : ℕ → Body → Item
  Stored : ℕ → Item
  Declared : ObjDef → Item
  Tasked : TaskDef → Item
  Vectored : VectorDef → Item
  Set : List ℕ → ConfigKey → ℕ → Item

-- Parts.

-- a number behind a comma
abbrev pub further : ℕ → List Part → List Part
further n rest = comma ∷ blank ∷ number (pos n) ∷ rest

-- a timer's callback
abbrev pub callback_part : ℕ → Part
callback_part address = if address == no_callback then name (codes "none") else number (pos address)

abbrev pub timer_with : Part → (name kind f : List ℕ) → List Part
timer_with call n kind f =
    directive (codes ".timer") ∷ blank ∷ name n ∷ comma ∷ blank ∷ name kind ∷ further (slice_index f 0) (further (slice_index f 1) (comma ∷ blank ∷ call ∷ further (slice_index f 3) []))

abbrev pub timer_parts : (name kind f : List ℕ) → List Part
timer_parts n kind f = timer_with (callback_part (slice_index f 2)) n kind f

abbrev pub object_parts : List ℕ → Kind → List ℕ → List Part
object_parts n k.Sem f = directive (codes ".sem") ∷ blank ∷ name n ∷ further (slice_index f 0) []
object_parts n k.Queue f = directive (codes ".queue") ∷ blank ∷ name n ∷ further (slice_index f 0) []
object_parts n k.Flags f = directive (codes ".flags") ∷ blank ∷ name n ∷ further (slice_index f 0) []
object_parts n k.Mutex f = directive (codes ".mutex") ∷ blank ∷ name n ∷ []
object_parts n k.OneShot f = timer_parts n (codes "oneshot") f
object_parts n k.Periodic f = timer_parts n (codes "periodic") f

abbrev pub section_bytes : Section → List ℕ
section_bytes section.Code = codes ".code"
section_bytes _ = codes ".ram"

abbrev pub item_parts : Item → List Part
item_parts (Turned s) = directive (section_bytes s) ∷ []
item_parts (Coded address body) = name (label address) ∷ Lexeme kind.Colon (58 ∷ []) ∷ blank ∷ body_parts body
item_parts (Stored w) = body_parts (OnWord w)
item_parts (Declared o) = object_parts o.name o.kind o.f
item_parts (Tasked t) = directive (codes ".task") ∷ blank ∷ name t.name ∷ further t.entry (further t.prio (further t.quanta (further t.qsize (further t.sp []))))
item_parts (Vectored v) = directive (codes ".vector") ∷ blank ∷ number (pos v.number) ∷ further v.level (further v.entry (further v.sp []))
item_parts (Set n key value) = directive (codes ".config") ∷ blank ∷ name n ∷ further value []

-- What it is to the assembler.

abbrev pub object_operands : Kind → List ℕ → List Operand
object_operands k.Sem f = Number (pos (slice_index f 0)) ∷ unused ∷ unused ∷ unused ∷ []
object_operands k.Queue f = Number (pos (slice_index f 0)) ∷ unused ∷ unused ∷ unused ∷ []
object_operands k.Flags f = Number (pos (slice_index f 0)) ∷ unused ∷ unused ∷ unused ∷ []
object_operands k.Mutex f = unused ∷ unused ∷ unused ∷ unused ∷ []
object_operands _ f = Number (pos (slice_index f 0)) ∷ Number (pos (slice_index f 1)) ∷ Number (pos (slice_index f 2)) ∷ Number (pos (slice_index f 3)) ∷ []

abbrev pub task_operands : TaskDef → List Operand
task_operands t = Number (pos t.entry) ∷ Number (pos t.prio) ∷ Number (pos t.quanta) ∷ Number (pos t.qsize) ∷ Number (pos t.sp) ∷ []

abbrev pub vector_operands : VectorDef → List Operand
vector_operands v = Number (pos v.number) ∷ Number (pos v.level) ∷ Number (pos v.entry) ∷ Number (pos v.sp) ∷ []

-- the section is one of the two
abbrev pub IsSection : Section → Type 0
IsSection section.Nowhere = ⊥
IsSection _ = Unit {0}

-- what an item needs to be read
abbrev pub IsItem : Item → Type 0
IsItem (Turned s) = IsSection s
IsItem (Coded address body) = (address < 65536) × IsBody body
IsItem (Stored w) = w < 2 ^ 32
IsItem (Declared o) = (is_name o.name ≡ true) × ((i : ℕ) → slice_index o.f i < 2 ^ 32)
IsItem (Tasked t) = (is_name t.name ≡ true) × HasWordTask t
IsItem (Vectored v) = HasWordVector v
IsItem (Set n key value) = (is_name n ≡ true) × (key_of n ≡ Some key) × (value < 2 ^ 32)

abbrev pub item_label : Item → Option (List ℕ)
item_label (Coded address body) = Some (label address)
item_label _ = None

abbrev pub item_statement : Item → Statement
item_statement (Turned section) = Sections section
item_statement (Coded address body) = body_statement body
item_statement (Stored w) = body_statement (OnWord w)
item_statement (Declared o) = Object o.name o.kind (object_operands o.kind o.f)
item_statement (Tasked t) = Task t.name (task_operands t)
item_statement (Vectored v) = Vector (vector_operands v)
item_statement (Set n key value) = Setting (Some key) (Number (pos value))

-- the line of an item, with a number
abbrev pub item_line : ℕ → Item → Line
item_line n item = record { number = n; label = item_label item; statement = item_statement item }

-- behind a label it is the same
behind_same : (body : Body) → behind_label (body_statement body) ≡ body_statement body
behind_same (OnRegisters op rd rs1 rs2) = refl
behind_same (OnImmediate op rd rs1 imm) = refl
behind_same (OnLoad op rd rs1 imm) = refl
behind_same (OnShift op rd rs1 imm) = refl
behind_same (OnStore op rs1 rs2 imm) = refl
behind_same (OnBranch op rs1 rs2 to) = refl
behind_same (OnUpper op rd imm) = refl
behind_same (OnJump rd to) = refl
behind_same (OnAlone op) = refl
behind_same (OnWord w) = refl

-- no item is `.inject`
body_no_inject : (body : Body) → is_inject (body_statement body) ≡ false
body_no_inject (OnRegisters op rd rs1 rs2) = refl
body_no_inject (OnImmediate op rd rs1 imm) = refl
body_no_inject (OnLoad op rd rs1 imm) = refl
body_no_inject (OnShift op rd rs1 imm) = refl
body_no_inject (OnStore op rs1 rs2 imm) = refl
body_no_inject (OnBranch op rs1 rs2 to) = refl
body_no_inject (OnUpper op rd imm) = refl
body_no_inject (OnJump rd to) = refl
body_no_inject (OnAlone op) = refl
body_no_inject (OnWord w) = refl

pub no_inject : (item : Item) → is_inject (item_statement item) ≡ false
no_inject (Turned section) = refl
no_inject (Coded address body) = body_no_inject body
no_inject (Stored w) = refl
no_inject (Declared o) = refl
no_inject (Tasked t) = refl
no_inject (Vectored v) = refl
no_inject (Set n key value) = refl

-- a timer's operands
callback_number : (address : ℕ) → address ≡ no_callback → callback (Named (codes "none")) ≡ Number (pos address)
callback_number address f = rw f refl

section_read : (s : Section) → IsSection s → statement_of (part_pieces (directive (section_bytes s) ∷ [])) ≡ Sections s
section_read section.Nowhere ok = absurd ok
section_read section.Code ok = refl
section_read section.Ram ok = refl

-- an object with one number
one_read : (bytes n : List ℕ) (kind : Kind) (value : ℕ) → head_of bytes ≡ Some (head.Object kind)
    → statement_of (part_pieces (directive bytes ∷ blank ∷ name n ∷ further value [])) ≡ Object n kind (Number (pos value) ∷ unused ∷ unused ∷ unused ∷ [])
one_read bytes n kind value e = dotted_here bytes (head.Object kind) (part_pieces (blank ∷ name n ∷ further value [])) e

abbrev IsTimer : (n : List ℕ) → Kind → List ℕ → List Part → Type 0
IsTimer n kind f parts =
    statement_of (part_pieces parts) ≡ Object n kind (Number (pos (slice_index f 0)) ∷ Number (pos (slice_index f 1)) ∷ Number (pos (slice_index f 2)) ∷ Number (pos (slice_index f 3)) ∷ [])

timer_known : (n : List ℕ) (kind : Kind) (f : List ℕ) (call : Operand) (o : Option Kind) → o ≡ Some kind → call ≡ Number (pos (slice_index f 2))
    → formed (option_map (λ kind. Object n kind (Number (pos (slice_index f 0)) ∷ Number (pos (slice_index f 1)) ∷ call ∷ Number (pos (slice_index f 3)) ∷ [])) o)
    ≡ Object n kind (Number (pos (slice_index f 0)) ∷ Number (pos (slice_index f 1)) ∷ Number (pos (slice_index f 2)) ∷ Number (pos (slice_index f 3)) ∷ [])
timer_known n kind f call o e g = rw (e, g) refl

timer_read : (n word f : List ℕ) (kind : Kind) → timer_kind word ≡ Some kind → IsTimer n kind f (timer_parts n word f)
timer_read n word f kind e =
    cond_both (slice_index f 2 == no_callback) (name (codes "none")) (number (pos (slice_index f 2))) (λ call. IsTimer n kind f (timer_with call n word f))
    (λ t. timer_known n kind f _ _ e (callback_number (slice_index f 2) (eqb-true (slice_index f 2) no_callback t)))
    (λ t. timer_known n kind f _ _ e refl)

object_read : (n : List ℕ) (kind : Kind) (f : List ℕ) → statement_of (part_pieces (object_parts n kind f)) ≡ Object n kind (object_operands kind f)
object_read n k.Sem f = one_read (codes ".sem") n k.Sem (slice_index f 0) refl
object_read n k.Queue f = one_read (codes ".queue") n k.Queue (slice_index f 0) refl
object_read n k.Flags f = one_read (codes ".flags") n k.Flags (slice_index f 0) refl
object_read n k.Mutex f = refl
object_read n k.OneShot f = timer_read n (codes "oneshot") f k.OneShot refl
object_read n k.Periodic f = timer_read n (codes "periodic") f k.Periodic refl

setting_read : (n : List ℕ) (key : ConfigKey) (value : ℕ) → key_of n ≡ Some key → statement_of (part_pieces (item_parts (Set n key value))) ≡ Setting (Some key) (Number (pos value))
setting_read n key value e = ap (λ o. Setting o (Number (pos value))) e

-- a declaration has no label
no_label : (line : ℕ) (n : List ℕ) (kind : Kind) (f : List ℕ)
    → (let plain : Line = record { number = line; label = None; statement = statement_of (part_pieces (object_parts n kind f)) } in line_of line (part_pieces (object_parts n kind f)) ≡ plain)
no_label line n k.Sem f = refl
no_label line n k.Queue f = refl
no_label line n k.Flags f = refl
no_label line n k.Mutex f = refl
no_label line n k.OneShot f = refl
no_label line n k.Periodic f = refl

Numbered : ℕ → Option (List ℕ) → Statement → Line
Numbered n l s = record { number = n; label = l; statement = s }

-- the line of an item
pub item_read : (line : ℕ) (item : Item) → IsItem item → line_of line (part_pieces (item_parts item)) ≡ item_line line item
unfolding Numbered
item_read line (Turned s) ok = ap (Numbered line None) (section_read s ok)
item_read line (Coded address body) ok = ap (λ s. Numbered line (Some (label address)) (behind_label s)) (body_read body ok.1) ∙ ap (Numbered line (Some (label address))) (behind_same body)
item_read line (Stored w) ok = ap (Numbered line None) (body_read (OnWord w) ok)
item_read line (Declared o) ok = no_label line o.name o.kind o.f ∙ ap (Numbered line None) (object_read o.name o.kind o.f)
item_read line (Tasked t) ok = refl
item_read line (Vectored v) ok = refl
item_read line (Set n key value) ok = ap (Numbered line None) (setting_read n key value ok.1)
