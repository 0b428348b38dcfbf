-- The forms of the statements: what the pieces after the first word of a line have to be.
use Rattle.std.specs.Prelude.{ℕ, pos, negsuc, List, [], ◌∷◌, length, codes, Bool, true, false, Option, Some, None, if◌then◌else◌}
use Rattle.std.specs.Option.{option_map}
use Rattle.std.specs.Str.{bytes_eq}
use Rattle.kern_base.specs.declared.kinds.Kind.{Kind}
use Rattle.kern_base.specs.declared.kinds.Kind.TheVariants.{Mutex as KindMutex, OneShot, Periodic}
use Rattle.asm_lines.specs.Tables.{entry}
use Rattle.asm_lines.specs.Language.{Operand, Number, Named, Piece, Is, Comma, Open, Close, Statement, Sections, Inject, Words, Space, Equ, Task, Object, Vector, Setting, Registers, Immediate, Shift, Store, Branch, Upper, Jump, Alone, LoadConstant, LoadValue, CallService}
use Rattle.asm_lines.specs.Pieces.{operands_among}
use Rattle.asm_lines.specs.Registers.{register_number}
use Rattle.asm_lines.specs.Words.{service_number, key_of}
use Rattle.rv32_isa.specs.declared.mnemonics.RegisterOp.{RegisterOp}
use Rattle.rv32_isa.specs.declared.mnemonics.RegisterOp.TheVariants.{Sub, Sltu}
use Rattle.rv32_isa.specs.declared.mnemonics.ImmediateOp.{ImmediateOp}
use Rattle.rv32_isa.specs.declared.mnemonics.ImmediateOp.TheVariants.{Addi, Sltiu, Xori, Jalr}
use Rattle.rv32_isa.specs.declared.mnemonics.ShiftOp.{ShiftOp}
use Rattle.rv32_isa.specs.declared.mnemonics.StoreOp.{StoreOp}
use Rattle.rv32_isa.specs.declared.mnemonics.BranchOp.{BranchOp}
use Rattle.rv32_isa.specs.declared.mnemonics.BranchOp.TheVariants.{Beq, Bne}
use Rattle.rv32_isa.specs.declared.mnemonics.UpperOp.{UpperOp}
use Rattle.asm_lines.specs.declared.mnemonics.Pseudo.{Pseudo}
use Rattle.asm_lines.specs.declared.mnemonics.Pseudo.TheVariants.{Nop, Mv, Not, Neg, Seqz, Snez, Beqz, Bnez, J, Call, Jr, Ret, Li, La, Os}
use Rattle.asm_lines.specs.declared.mnemonics.Head.{Head}
use Rattle.asm_lines.specs.declared.mnemonics.Head.TheVariants as head

-- rd, rs1, rs2
abbrev pub register_form : RegisterOp → List Piece → Option Statement
register_form op (Is (Named d) ∷ Comma ∷ Is (Named s) ∷ Comma ∷ Is (Named t) ∷ []) = Some (Registers op (register_number d) (register_number s) (register_number t))
register_form op _ = None

-- rd, rs1, constant
abbrev pub immediate_form : ImmediateOp → List Piece → Option Statement
immediate_form op (Is (Named d) ∷ Comma ∷ Is (Named s) ∷ Comma ∷ Is c ∷ []) = Some (Immediate op (register_number d) (register_number s) c)
immediate_form op _ = None

-- rd, rs1, constant
abbrev pub shift_form : ShiftOp → List Piece → Option Statement
shift_form op (Is (Named d) ∷ Comma ∷ Is (Named s) ∷ Comma ∷ Is c ∷ []) = Some (Shift op (register_number d) (register_number s) c)
shift_form op _ = None

-- rd, constant(rs1), where the constant may be absent and is then 0
abbrev pub load_form : ImmediateOp → List Piece → Option Statement
load_form op (Is (Named d) ∷ Comma ∷ Is c ∷ Open ∷ Is (Named s) ∷ Close ∷ []) = Some (Immediate op (register_number d) (register_number s) c)
load_form op (Is (Named d) ∷ Comma ∷ Open ∷ Is (Named s) ∷ Close ∷ []) = Some (Immediate op (register_number d) (register_number s) (Number (pos 0)))
load_form op _ = None

-- rs2, constant(rs1), where the constant may be absent and is then 0
abbrev pub store_form : StoreOp → List Piece → Option Statement
store_form op (Is (Named t) ∷ Comma ∷ Is c ∷ Open ∷ Is (Named s) ∷ Close ∷ []) = Some (Store op (register_number t) (register_number s) c)
store_form op (Is (Named t) ∷ Comma ∷ Open ∷ Is (Named s) ∷ Close ∷ []) = Some (Store op (register_number t) (register_number s) (Number (pos 0)))
store_form op _ = None

-- rs1, rs2, label
abbrev pub branch_form : BranchOp → List Piece → Option Statement
branch_form op (Is (Named s) ∷ Comma ∷ Is (Named t) ∷ Comma ∷ Is (Named target) ∷ []) = Some (Branch op (register_number s) (register_number t) target)
branch_form op _ = None

-- rd, constant
abbrev pub upper_form : UpperOp → List Piece → Option Statement
upper_form op (Is (Named d) ∷ Comma ∷ Is c ∷ []) = Some (Upper op (register_number d) c)
upper_form op _ = None

-- rd, label
abbrev pub jump_form : List Piece → Option Statement
jump_form (Is (Named d) ∷ Comma ∷ Is (Named target) ∷ []) = Some (Jump (register_number d) target)
jump_form _ = None

-- nothing
abbrev pub alone_form : Statement → List Piece → Option Statement
alone_form statement [] = Some statement
alone_form statement _ = None

-- x0 and ra, which a pseudo-instruction names by itself
abbrev pub zero_register : Option ℕ
zero_register = Some 0

abbrev pub link_register : Option ℕ
link_register = Some 1

-- what stands for a pseudo-instruction on two registers
abbrev pub of_two : Pseudo → Option ℕ → Option ℕ → Option Statement
of_two Mv d s = Some (Immediate Addi d s (Number (pos 0)))
of_two Not d s = Some (Immediate Xori d s (Number (negsuc 0)))
of_two Neg d s = Some (Registers Sub d zero_register s)
of_two Seqz d s = Some (Immediate Sltiu d s (Number (pos 1)))
of_two Snez d s = Some (Registers Sltu d zero_register s)
of_two _ d s = None

-- what stands for a pseudo-instruction on a register and a name that is a label
abbrev pub of_target : Pseudo → Option ℕ → List ℕ → Option Statement
of_target Beqz s target = Some (Branch Beq s zero_register target)
of_target Bnez s target = Some (Branch Bne s zero_register target)
of_target _ s target = None

-- rd, rs
abbrev pub two_form : Pseudo → List Piece → Option Statement
two_form p (Is (Named d) ∷ Comma ∷ Is (Named s) ∷ []) = of_two p (register_number d) (register_number s)
two_form p _ = None

-- rs, label
abbrev pub target_form : Pseudo → List Piece → Option Statement
target_form p (Is (Named s) ∷ Comma ∷ Is (Named target) ∷ []) = of_target p (register_number s) target
target_form p _ = None

-- label, for a jump that links in a register
abbrev pub go_form : Option ℕ → List Piece → Option Statement
go_form link (Is (Named target) ∷ []) = Some (Jump link target)
go_form link _ = None

-- rs
abbrev pub return_form : List Piece → Option Statement
return_form (Is (Named s) ∷ []) = Some (Immediate Jalr zero_register (register_number s) (Number (pos 0)))
return_form _ = None

-- rd, constant
abbrev pub load_constant_form : List Piece → Option Statement
load_constant_form (Is (Named d) ∷ Comma ∷ Is c ∷ []) = Some (LoadConstant (register_number d) c)
load_constant_form _ = None

-- rd, value
abbrev pub load_value_form : List Piece → Option Statement
load_value_form (Is (Named d) ∷ Comma ∷ Is v ∷ []) = Some (LoadValue (register_number d) v)
load_value_form _ = None

-- the name of a service
abbrev pub service_form : List Piece → Option Statement
service_form (Is (Named s) ∷ []) = option_map CallService (service_number s)
service_form _ = None

-- the pseudo-instructions, each by what stands for it
abbrev pub pseudo_form : Pseudo → List Piece → Option Statement
pseudo_form Nop ps = alone_form (Immediate Addi zero_register zero_register (Number (pos 0))) ps
pseudo_form Mv ps = two_form Mv ps
pseudo_form Not ps = two_form Not ps
pseudo_form Neg ps = two_form Neg ps
pseudo_form Seqz ps = two_form Seqz ps
pseudo_form Snez ps = two_form Snez ps
pseudo_form Beqz ps = target_form Beqz ps
pseudo_form Bnez ps = target_form Bnez ps
pseudo_form J ps = go_form zero_register ps
pseudo_form Call ps = go_form link_register ps
pseudo_form Jr ps = return_form ps
pseudo_form Ret ps = alone_form (Immediate Jalr zero_register link_register (Number (pos 0))) ps
pseudo_form Li ps = load_constant_form ps
pseudo_form La ps = load_value_form ps
pseudo_form Os ps = service_form ps

-- one or more values with commas between them
abbrev pub are_values : List Piece → Bool
are_values (Is v ∷ []) = true
are_values (Is v ∷ Comma ∷ ps) = are_values ps
are_values _ = false

-- values
abbrev pub word_form : List Piece → Option Statement
word_form ps = if are_values ps then Some (Words (operands_among ps)) else None

-- constant
abbrev pub space_form : List Piece → Option Statement
space_form (Is c ∷ []) = Some (Space c)
space_form _ = None

-- name, number
abbrev pub equ_form : List Piece → Option Statement
equ_form (Is (Named n) ∷ Comma ∷ Is (Number value) ∷ []) = Some (Equ n value)
equ_form _ = None

-- name, entry, priority, quantum, queue size, stack pointer
abbrev pub task_form : List Piece → Option Statement
task_form (Is (Named n) ∷ Comma ∷ Is entry ∷ Comma ∷ Is prio ∷ Comma ∷ Is quanta ∷ Comma ∷ Is qsize ∷ Comma ∷ Is sp ∷ []) = Some (Task n (entry ∷ prio ∷ quanta ∷ qsize ∷ sp ∷ []))
task_form _ = None

-- a field that is not used
abbrev pub unused : Operand
unused = Number (pos 0)

-- name, count or size or bits
abbrev pub object_form : Kind → List Piece → Option Statement
object_form kind (Is (Named n) ∷ Comma ∷ Is v ∷ []) = Some (Object n kind (v ∷ unused ∷ unused ∷ unused ∷ []))
object_form kind _ = None

-- name
abbrev pub mutex_form : List Piece → Option Statement
mutex_form (Is (Named n) ∷ []) = Some (Object n KindMutex (unused ∷ unused ∷ unused ∷ unused ∷ []))
mutex_form _ = None

-- the kinds of timers
abbrev pub timer_kinds : List (List ℕ × Kind)
timer_kinds = (codes "oneshot", OneShot) ∷ (codes "periodic", Periodic) ∷ []

abbrev pub timer_kind : List ℕ → Option Kind
timer_kind word = entry word timer_kinds

-- a callback: the word `none` is there never a name, and stands for the greatest word
abbrev pub callback : Operand → Operand
callback (Named s) = if bytes_eq s (codes "none") then Number (pos 4294967295) else Named s
callback (Number value) = Number value

-- a timer of a kind that stands in a word
abbrev pub timer_of : List ℕ → Operand → (delay period call argument : Operand) → Option Statement
timer_of n (Named word) delay period call argument = option_map (λ kind. Object n kind (delay ∷ period ∷ callback call ∷ argument ∷ [])) (timer_kind word)
timer_of n (Number value) delay period call argument = None

-- name, kind, delay, period, callback, argument
abbrev pub timer_form : List Piece → Option Statement
timer_form (Is (Named n) ∷ Comma ∷ Is kind ∷ Comma ∷ Is delay ∷ Comma ∷ Is period ∷ Comma ∷ Is call ∷ Comma ∷ Is argument ∷ []) = timer_of n kind delay period call argument
timer_form _ = None

-- number, level, entry, stack pointer
abbrev pub vector_form : List Piece → Option Statement
vector_form (Is number ∷ Comma ∷ Is level ∷ Comma ∷ Is entry ∷ Comma ∷ Is sp ∷ []) = Some (Vector (number ∷ level ∷ entry ∷ sp ∷ []))
vector_form _ = None

-- key, value
abbrev pub config_form : List Piece → Option Statement
config_form (Is (Named k) ∷ Comma ∷ Is v ∷ []) = Some (Setting (key_of k) v)
config_form _ = None

-- the statement that begins with this head, and goes on with these pieces
abbrev pub form : Head → List Piece → Option Statement
form (head.Registers op) ps = register_form op ps
form (head.Immediate op) ps = immediate_form op ps
form (head.Load op) ps = load_form op ps
form (head.Shift op) ps = shift_form op ps
form (head.Store op) ps = store_form op ps
form (head.Branch op) ps = branch_form op ps
form (head.Upper op) ps = upper_form op ps
form head.Jump ps = jump_form ps
form (head.Alone op) ps = alone_form (Alone op) ps
form (head.Pseudo p) ps = pseudo_form p ps
form (head.Section section) ps = alone_form (Sections section) ps
form head.Word ps = word_form ps
form head.Space ps = space_form ps
form head.Equ ps = equ_form ps
form head.Task ps = task_form ps
form (head.Object kind) ps = object_form kind ps
form head.Mutex ps = mutex_form ps
form head.Timer ps = timer_form ps
form head.Vector ps = vector_form ps
form head.Config ps = config_form ps
form head.Inject ps = alone_form Inject ps
