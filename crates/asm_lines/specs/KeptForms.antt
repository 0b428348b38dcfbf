-- The forms of the statements, as the code keeps them. No public contract speaks of them: those of the language are in `Forms`.
use Rattle.std.specs.Prelude.{ℕ, pos, negsuc, List, [], ◌∷◌, codes, Bool, true, false, Option, Some, None, if◌then◌else◌}
use Rattle.std.specs.Option.{option_map}
use Rattle.std.specs.Str.{bytes_eq}
use Rattle.kern_base.specs.declared.kinds.Kind.{Kind}
use Rattle.kern_base.specs.declared.kinds.Kind.TheVariants.{Mutex as KindMutex, OneShot, Periodic}
use Rattle.asm_lines.specs.Tables.{entry}
use Rattle.text_lex.specs.declared.Token.{Token}
use Rattle.asm_lines.specs.Kept.{spelling}
use Rattle.asm_lines.specs.Registers.{register_number}
use Rattle.asm_lines.specs.Words.{service_number, key_of}
use Rattle.asm_lines.specs.declared.pieces.Span.{Span}
use Rattle.asm_lines.specs.declared.pieces.Operand.{Operand}
use Rattle.asm_lines.specs.declared.pieces.Operand.TheVariants.{Number, Named}
use Rattle.asm_lines.specs.declared.pieces.Piece.{Piece}
use Rattle.asm_lines.specs.declared.pieces.Piece.TheVariants.{Is, Comma, Open, Close}
use Rattle.rv32_isa.specs.declared.mnemonics.RegisterOp.{RegisterOp}
use Rattle.rv32_isa.specs.declared.mnemonics.RegisterOp.TheVariants.{Sub, Sltu}
use Rattle.rv32_isa.specs.declared.mnemonics.ImmediateOp.{ImmediateOp}
use Rattle.rv32_isa.specs.declared.mnemonics.ImmediateOp.TheVariants.{Addi, Sltiu, Xori, Jalr}
use Rattle.rv32_isa.specs.declared.mnemonics.ShiftOp.{ShiftOp}
use Rattle.rv32_isa.specs.declared.mnemonics.StoreOp.{StoreOp}
use Rattle.rv32_isa.specs.declared.mnemonics.BranchOp.{BranchOp}
use Rattle.rv32_isa.specs.declared.mnemonics.BranchOp.TheVariants.{Beq, Bne}
use Rattle.rv32_isa.specs.declared.mnemonics.UpperOp.{UpperOp}
use Rattle.asm_lines.specs.declared.mnemonics.Pseudo.{Pseudo}
use Rattle.asm_lines.specs.declared.mnemonics.Pseudo.TheVariants.{Nop, Mv, Not, Neg, Seqz, Snez, Beqz, Bnez, J, Call, Jr, Ret, Li, La, Os}
use Rattle.asm_lines.specs.declared.mnemonics.Head.{Head}
use Rattle.asm_lines.specs.declared.mnemonics.Head.TheVariants as head
use Rattle.asm_lines.specs.declared.statements.Statement.{Statement}
use Rattle.asm_lines.specs.declared.statements.Statement.TheVariants.{Section as Sections, Inject, Words, Space, Equ, Task, Object, Vector, Setting, Registers, Immediate, Shift, Store, Branch, Upper, Jump, Alone, LoadConstant, LoadValue, CallService}

-- the register that a name is, or none
abbrev pub register : List ℕ → Span → Option ℕ
register text s = register_number (spelling text s)

-- rd, rs1, rs2
abbrev pub register_form : List ℕ → RegisterOp → List Piece → Option Statement
register_form text op (Is (Named d) ∷ Comma ∷ Is (Named s) ∷ Comma ∷ Is (Named t) ∷ []) = Some (Registers op (register text d) (register text s) (register text t))
register_form text op _ = None

-- rd, rs1, constant
abbrev pub immediate_form : List ℕ → ImmediateOp → List Piece → Option Statement
immediate_form text op (Is (Named d) ∷ Comma ∷ Is (Named s) ∷ Comma ∷ Is c ∷ []) = Some (Immediate op (register text d) (register text s) c)
immediate_form text op _ = None

-- rd, rs1, constant
abbrev pub shift_form : List ℕ → ShiftOp → List Piece → Option Statement
shift_form text op (Is (Named d) ∷ Comma ∷ Is (Named s) ∷ Comma ∷ Is c ∷ []) = Some (Shift op (register text d) (register text s) c)
shift_form text op _ = None

-- rd, constant(rs1), where the constant may be absent and is then 0
abbrev pub load_form : List ℕ → ImmediateOp → List Piece → Option Statement
load_form text op (Is (Named d) ∷ Comma ∷ Is c ∷ Open ∷ Is (Named s) ∷ Close ∷ []) = Some (Immediate op (register text d) (register text s) c)
load_form text op (Is (Named d) ∷ Comma ∷ Open ∷ Is (Named s) ∷ Close ∷ []) = Some (Immediate op (register text d) (register text s) (Number (pos 0)))
load_form text op _ = None

-- rs2, constant(rs1), where the constant may be absent and is then 0
abbrev pub store_form : List ℕ → StoreOp → List Piece → Option Statement
store_form text op (Is (Named t) ∷ Comma ∷ Is c ∷ Open ∷ Is (Named s) ∷ Close ∷ []) = Some (Store op (register text t) (register text s) c)
store_form text op (Is (Named t) ∷ Comma ∷ Open ∷ Is (Named s) ∷ Close ∷ []) = Some (Store op (register text t) (register text s) (Number (pos 0)))
store_form text op _ = None

-- rs1, rs2, label
abbrev pub branch_form : List ℕ → BranchOp → List Piece → Option Statement
branch_form text op (Is (Named s) ∷ Comma ∷ Is (Named t) ∷ Comma ∷ Is (Named target) ∷ []) = Some (Branch op (register text s) (register text t) target)
branch_form text op _ = None

-- rd, constant
abbrev pub upper_form : List ℕ → UpperOp → List Piece → Option Statement
upper_form text op (Is (Named d) ∷ Comma ∷ Is c ∷ []) = Some (Upper op (register text d) c)
upper_form text op _ = None

-- rd, label
abbrev pub jump_form : List ℕ → List Piece → Option Statement
jump_form text (Is (Named d) ∷ Comma ∷ Is (Named target) ∷ []) = Some (Jump (register text d) target)
jump_form text _ = None

-- nothing
abbrev pub alone_form : Statement → List Piece → Option Statement
alone_form statement [] = Some statement
alone_form statement _ = None

-- x0 and ra, which a pseudo-instruction names by itself
abbrev pub zero_register : Option ℕ
zero_register = Some 0

abbrev pub link_register : Option ℕ
link_register = Some 1

-- what stands for a pseudo-instruction on two registers
abbrev pub of_two : Pseudo → Option ℕ → Option ℕ → Option Statement
of_two Mv d s = Some (Immediate Addi d s (Number (pos 0)))
of_two Not d s = Some (Immediate Xori d s (Number (negsuc 0)))
of_two Neg d s = Some (Registers Sub d zero_register s)
of_two Seqz d s = Some (Immediate Sltiu d s (Number (pos 1)))
of_two Snez d s = Some (Registers Sltu d zero_register s)
of_two _ d s = None

-- what stands for a pseudo-instruction on a register and a name that is a label
abbrev pub of_target : Pseudo → Option ℕ → Span → Option Statement
of_target Beqz s target = Some (Branch Beq s zero_register target)
of_target Bnez s target = Some (Branch Bne s zero_register target)
of_target _ s target = None

-- rd, rs
abbrev pub two_form : List ℕ → Pseudo → List Piece → Option Statement
two_form text p (Is (Named d) ∷ Comma ∷ Is (Named s) ∷ []) = of_two p (register text d) (register text s)
two_form text p _ = None

-- rs, label
abbrev pub target_form : List ℕ → Pseudo → List Piece → Option Statement
target_form text p (Is (Named s) ∷ Comma ∷ Is (Named target) ∷ []) = of_target p (register text s) target
target_form text p _ = None

-- label, for a jump that links in a register
abbrev pub go_form : Option ℕ → List Piece → Option Statement
go_form link (Is (Named target) ∷ []) = Some (Jump link target)
go_form link _ = None

-- rs
abbrev pub return_form : List ℕ → List Piece → Option Statement
return_form text (Is (Named s) ∷ []) = Some (Immediate Jalr zero_register (register text s) (Number (pos 0)))
return_form text _ = None

-- rd, constant
abbrev pub load_constant_form : List ℕ → List Piece → Option Statement
load_constant_form text (Is (Named d) ∷ Comma ∷ Is c ∷ []) = Some (LoadConstant (register text d) c)
load_constant_form text _ = None

-- rd, value
abbrev pub load_value_form : List ℕ → List Piece → Option Statement
load_value_form text (Is (Named d) ∷ Comma ∷ Is v ∷ []) = Some (LoadValue (register text d) v)
load_value_form text _ = None

-- the name of a service
abbrev pub service_form : List ℕ → List Piece → Option Statement
service_form text (Is (Named s) ∷ []) = option_map CallService (service_number (spelling text s))
service_form text _ = None

-- the pseudo-instructions, each by what stands for it
abbrev pub pseudo_form : List ℕ → Pseudo → List Piece → Option Statement
pseudo_form text Nop ps = alone_form (Immediate Addi zero_register zero_register (Number (pos 0))) ps
pseudo_form text Mv ps = two_form text Mv ps
pseudo_form text Not ps = two_form text Not ps
pseudo_form text Neg ps = two_form text Neg ps
pseudo_form text Seqz ps = two_form text Seqz ps
pseudo_form text Snez ps = two_form text Snez ps
pseudo_form text Beqz ps = target_form text Beqz ps
pseudo_form text Bnez ps = target_form text Bnez ps
pseudo_form text J ps = go_form zero_register ps
pseudo_form text Call ps = go_form link_register ps
pseudo_form text Jr ps = return_form text ps
pseudo_form text Ret ps = alone_form (Immediate Jalr zero_register link_register (Number (pos 0))) ps
pseudo_form text Li ps = load_constant_form text ps
pseudo_form text La ps = load_value_form text ps
pseudo_form text Os ps = service_form text ps

-- one or more values with commas between them
abbrev pub are_values : List Piece → Bool
are_values (Is v ∷ []) = true
are_values (Is v ∷ Comma ∷ ps) = are_values ps
are_values _ = false

-- values, the pieces of these tokens
abbrev pub word_form : List Token → List Piece → Option Statement
word_form tokens ps = if are_values ps then Some (Words tokens) else None

-- constant
abbrev pub space_form : List Piece → Option Statement
space_form (Is c ∷ []) = Some (Space c)
space_form _ = None

-- name, number
abbrev pub equ_form : List Piece → Option Statement
equ_form (Is (Named n) ∷ Comma ∷ Is (Number value) ∷ []) = Some (Equ n value)
equ_form _ = None

-- name, entry, priority, quantum, queue size, stack pointer
abbrev pub task_form : List Piece → Option Statement
task_form (Is (Named n) ∷ Comma ∷ Is entry ∷ Comma ∷ Is prio ∷ Comma ∷ Is quanta ∷ Comma ∷ Is qsize ∷ Comma ∷ Is sp ∷ []) = Some (Task n (entry ∷ prio ∷ quanta ∷ qsize ∷ sp ∷ []))
task_form _ = None

-- a field that is not used
abbrev pub unused : Operand
unused = Number (pos 0)

-- name, count or size or bits
abbrev pub object_form : Kind → List Piece → Option Statement
object_form kind (Is (Named n) ∷ Comma ∷ Is v ∷ []) = Some (Object n kind (v ∷ unused ∷ unused ∷ unused ∷ []))
object_form kind _ = None

-- name
abbrev pub mutex_form : List Piece → Option Statement
mutex_form (Is (Named n) ∷ []) = Some (Object n KindMutex (unused ∷ unused ∷ unused ∷ unused ∷ []))
mutex_form _ = None

-- the kinds of timers
abbrev pub timer_kinds : List (List ℕ × Kind)
timer_kinds = (codes "oneshot", OneShot) ∷ (codes "periodic", Periodic) ∷ []

abbrev pub timer_kind : List ℕ → Option Kind
timer_kind word = entry word timer_kinds

-- a callback: the word `none` is there never a name, and stands for the greatest word
abbrev pub callback : List ℕ → Operand → Operand
callback text (Named s) = if bytes_eq (spelling text s) (codes "none") then Number (pos 4294967295) else Named s
callback text (Number value) = Number value

-- a timer of a kind that stands in a word
abbrev pub timer_of : List ℕ → Span → Operand → (delay period call argument : Operand) → Option Statement
timer_of text n (Named word) delay period call argument = option_map (λ kind. Object n kind (delay ∷ period ∷ callback text call ∷ argument ∷ [])) (timer_kind (spelling text word))
timer_of text n (Number value) delay period call argument = None

-- name, kind, delay, period, callback, argument
abbrev pub timer_form : List ℕ → List Piece → Option Statement
timer_form text (Is (Named n) ∷ Comma ∷ Is kind ∷ Comma ∷ Is delay ∷ Comma ∷ Is period ∷ Comma ∷ Is call ∷ Comma ∷ Is argument ∷ []) = timer_of text n kind delay period call argument
timer_form text _ = None

-- number, level, entry, stack pointer
abbrev pub vector_form : List Piece → Option Statement
vector_form (Is number ∷ Comma ∷ Is level ∷ Comma ∷ Is entry ∷ Comma ∷ Is sp ∷ []) = Some (Vector (number ∷ level ∷ entry ∷ sp ∷ []))
vector_form _ = None

-- key, value
abbrev pub config_form : List ℕ → List Piece → Option Statement
config_form text (Is (Named k) ∷ Comma ∷ Is v ∷ []) = Some (Setting (key_of (spelling text k)) v)
config_form text _ = None

-- the statement that begins with this head, and goes on with these pieces of these tokens
abbrev pub form : List ℕ → List Token → Head → List Piece → Option Statement
form text tokens (head.Registers op) ps = register_form text op ps
form text tokens (head.Immediate op) ps = immediate_form text op ps
form text tokens (head.Load op) ps = load_form text op ps
form text tokens (head.Shift op) ps = shift_form text op ps
form text tokens (head.Store op) ps = store_form text op ps
form text tokens (head.Branch op) ps = branch_form text op ps
form text tokens (head.Upper op) ps = upper_form text op ps
form text tokens head.Jump ps = jump_form text ps
form text tokens (head.Alone op) ps = alone_form (Alone op) ps
form text tokens (head.Pseudo p) ps = pseudo_form text p ps
form text tokens (head.Section section) ps = alone_form (Sections section) ps
form text tokens head.Word ps = word_form tokens ps
form text tokens head.Space ps = space_form ps
form text tokens head.Equ ps = equ_form ps
form text tokens head.Task ps = task_form ps
form text tokens (head.Object kind) ps = object_form kind ps
form text tokens head.Mutex ps = mutex_form ps
form text tokens head.Timer ps = timer_form text ps
form text tokens head.Vector ps = vector_form ps
form text tokens head.Config ps = config_form text ps
form text tokens head.Inject ps = alone_form Inject ps
