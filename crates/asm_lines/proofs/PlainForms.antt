-- What the forms of the statements give: all but six declare neither a task nor an object, and have no number of their own.
use Rattle.std.proofs.Common.{◌≡◌, ℕ, List, [], ◌∷◌, Bool, true, false, refl}
use Rattle.std.specs.Prelude.{Option, Some, None, IfSome, if◌then◌else◌}
use Rattle.std.specs.Option.{option_map}
use Rattle.asm_lines.specs.Language.{Operand, Number, Named, Piece, Is, Comma, Open, Close, Statement, Sections, Inject, Words, Space, Equ, Task, Object, Alone, CallService}
use Rattle.asm_lines.specs.Pieces.{operands_among}
use Rattle.asm_lines.specs.Registers.{register_number}
use Rattle.asm_lines.specs.Words.{service_number}
use Rattle.asm_lines.specs.Forms.{register_form, immediate_form, shift_form, load_form, store_form, branch_form, upper_form, jump_form, alone_form, of_two, of_target, two_form, target_form, go_form, return_form, load_constant_form, load_value_form, service_form, pseudo_form, are_values, vector_form, config_form, form, zero_register, link_register}
use Rattle.rv32_isa.specs.declared.mnemonics.RegisterOp.{RegisterOp}
use Rattle.rv32_isa.specs.declared.mnemonics.ImmediateOp.{ImmediateOp}
use Rattle.rv32_isa.specs.declared.mnemonics.ShiftOp.{ShiftOp}
use Rattle.rv32_isa.specs.declared.mnemonics.StoreOp.{StoreOp}
use Rattle.rv32_isa.specs.declared.mnemonics.BranchOp.{BranchOp}
use Rattle.rv32_isa.specs.declared.mnemonics.UpperOp.{UpperOp}
use Rattle.asm_lines.specs.declared.mnemonics.Pseudo.{Pseudo}
use Rattle.asm_lines.specs.declared.mnemonics.Pseudo.TheVariants.{Nop, Mv, Not, Neg, Seqz, Snez, Beqz, Bnez, J, Call, Jr, Ret, Li, La, Os}
use Rattle.asm_lines.specs.declared.mnemonics.Head.{Head}
use Rattle.asm_lines.specs.declared.mnemonics.Head.TheVariants as head

-- a task, an object, `.space` or `.equ`
abbrev pub is_special : Statement → Bool
is_special (Task n values) = true
is_special (Object n kind values) = true
is_special (Space c) = true
is_special (Equ n value) = true
is_special _ = false

-- what begins such a statement
abbrev pub begins_special : Head → Bool
begins_special head.Task = true
begins_special (head.Object kind) = true
begins_special head.Mutex = true
begins_special head.Timer = true
begins_special head.Space = true
begins_special head.Equ = true
begins_special _ = false

-- where each plain statement has a property, each form has it that begins no other
module _ (P : Statement → Type 0) (plain : (s : Statement) → is_special s ≡ false → P s) where
  alone_passes : (statement : Statement) (ps : List Piece) → P statement → IfSome (alone_form statement ps) P
  alone_passes statement [] h = h
  alone_passes statement (p ∷ ps) h = tt

  registers_pass : (op : RegisterOp) (ps : List Piece) → IfSome (register_form op ps) P
  registers_pass op (Is (Named d) ∷ Comma ∷ Is (Named s) ∷ Comma ∷ Is (Named t) ∷ []) = plain _ refl
  registers_pass op _ = tt

  immediate_passes : (op : ImmediateOp) (ps : List Piece) → IfSome (immediate_form op ps) P
  immediate_passes op (Is (Named d) ∷ Comma ∷ Is (Named s) ∷ Comma ∷ Is c ∷ []) = plain _ refl
  immediate_passes op _ = tt

  shift_passes : (op : ShiftOp) (ps : List Piece) → IfSome (shift_form op ps) P
  shift_passes op (Is (Named d) ∷ Comma ∷ Is (Named s) ∷ Comma ∷ Is c ∷ []) = plain _ refl
  shift_passes op _ = tt

  load_passes : (op : ImmediateOp) (ps : List Piece) → IfSome (load_form op ps) P
  load_passes op (Is (Named d) ∷ Comma ∷ Is c ∷ Open ∷ Is (Named s) ∷ Close ∷ []) = plain _ refl
  load_passes op (Is (Named d) ∷ Comma ∷ Open ∷ Is (Named s) ∷ Close ∷ []) = plain _ refl
  load_passes op _ = tt

  store_passes : (op : StoreOp) (ps : List Piece) → IfSome (store_form op ps) P
  store_passes op (Is (Named t) ∷ Comma ∷ Is c ∷ Open ∷ Is (Named s) ∷ Close ∷ []) = plain _ refl
  store_passes op (Is (Named t) ∷ Comma ∷ Open ∷ Is (Named s) ∷ Close ∷ []) = plain _ refl
  store_passes op _ = tt

  branch_passes : (op : BranchOp) (ps : List Piece) → IfSome (branch_form op ps) P
  branch_passes op (Is (Named s) ∷ Comma ∷ Is (Named t) ∷ Comma ∷ Is (Named target) ∷ []) = plain _ refl
  branch_passes op _ = tt

  upper_passes : (op : UpperOp) (ps : List Piece) → IfSome (upper_form op ps) P
  upper_passes op (Is (Named d) ∷ Comma ∷ Is c ∷ []) = plain _ refl
  upper_passes op _ = tt

  jump_passes : (ps : List Piece) → IfSome (jump_form ps) P
  jump_passes (Is (Named d) ∷ Comma ∷ Is (Named target) ∷ []) = plain _ refl
  jump_passes _ = tt

  two_passes : (p : Pseudo) (d s : Option ℕ) → IfSome (of_two p d s) P
  two_passes Mv d s = plain _ refl
  two_passes Not d s = plain _ refl
  two_passes Neg d s = plain _ refl
  two_passes Seqz d s = plain _ refl
  two_passes Snez d s = plain _ refl
  two_passes _ d s = tt

  two_form_passes : (p : Pseudo) (ps : List Piece) → IfSome (two_form p ps) P
  two_form_passes p (Is (Named d) ∷ Comma ∷ Is (Named s) ∷ []) = two_passes p (register_number d) (register_number s)
  two_form_passes p _ = tt

  target_passes : (p : Pseudo) (s : Option ℕ) (target : List ℕ) → IfSome (of_target p s target) P
  target_passes Beqz s target = plain _ refl
  target_passes Bnez s target = plain _ refl
  target_passes _ s target = tt

  target_form_passes : (p : Pseudo) (ps : List Piece) → IfSome (target_form p ps) P
  target_form_passes p (Is (Named s) ∷ Comma ∷ Is (Named target) ∷ []) = target_passes p (register_number s) target
  target_form_passes p _ = tt

  go_passes : (link : Option ℕ) (ps : List Piece) → IfSome (go_form link ps) P
  go_passes link (Is (Named target) ∷ []) = plain _ refl
  go_passes link _ = tt

  return_passes : (ps : List Piece) → IfSome (return_form ps) P
  return_passes (Is (Named s) ∷ []) = plain _ refl
  return_passes _ = tt

  load_constant_passes : (ps : List Piece) → IfSome (load_constant_form ps) P
  load_constant_passes (Is (Named d) ∷ Comma ∷ Is c ∷ []) = plain _ refl
  load_constant_passes _ = tt

  load_value_passes : (ps : List Piece) → IfSome (load_value_form ps) P
  load_value_passes (Is (Named d) ∷ Comma ∷ Is v ∷ []) = plain _ refl
  load_value_passes _ = tt

  service_passes_by : (o : Option ℕ) → IfSome (option_map CallService o) P
  service_passes_by None = tt
  service_passes_by (Some number) = plain (CallService number) refl

  service_passes : (ps : List Piece) → IfSome (service_form ps) P
  service_passes (Is (Named s) ∷ []) = service_passes_by (service_number s)
  service_passes _ = tt

  pseudo_passes : (p : Pseudo) (ps : List Piece) → IfSome (pseudo_form p ps) P
  pseudo_passes Nop ps = alone_passes _ ps (plain _ refl)
  pseudo_passes Mv ps = two_form_passes Mv ps
  pseudo_passes Not ps = two_form_passes Not ps
  pseudo_passes Neg ps = two_form_passes Neg ps
  pseudo_passes Seqz ps = two_form_passes Seqz ps
  pseudo_passes Snez ps = two_form_passes Snez ps
  pseudo_passes Beqz ps = target_form_passes Beqz ps
  pseudo_passes Bnez ps = target_form_passes Bnez ps
  pseudo_passes J ps = go_passes zero_register ps
  pseudo_passes Call ps = go_passes link_register ps
  pseudo_passes Jr ps = return_passes ps
  pseudo_passes Ret ps = alone_passes _ ps (plain _ refl)
  pseudo_passes Li ps = load_constant_passes ps
  pseudo_passes La ps = load_value_passes ps
  pseudo_passes Os ps = service_passes ps

  words_pass : (values : List Operand) (b : Bool) → IfSome (if b then Some (Words values) else None) P
  words_pass values true = plain (Words values) refl
  words_pass values false = tt

  vector_passes : (ps : List Piece) → IfSome (vector_form ps) P
  vector_passes (Is number ∷ Comma ∷ Is level ∷ Comma ∷ Is entry ∷ Comma ∷ Is sp ∷ []) = plain _ refl
  vector_passes _ = tt

  config_passes : (ps : List Piece) → IfSome (config_form ps) P
  config_passes (Is (Named k) ∷ Comma ∷ Is v ∷ []) = plain _ refl
  config_passes _ = tt

  -- each form has the property, where those of special statements have it
  pub form_passes : (h : Head) (ps : List Piece) → (begins_special h ≡ true → IfSome (form h ps) P) → IfSome (form h ps) P
  form_passes (head.Registers op) ps special = registers_pass op ps
  form_passes (head.Immediate op) ps special = immediate_passes op ps
  form_passes (head.Load op) ps special = load_passes op ps
  form_passes (head.Shift op) ps special = shift_passes op ps
  form_passes (head.Store op) ps special = store_passes op ps
  form_passes (head.Branch op) ps special = branch_passes op ps
  form_passes (head.Upper op) ps special = upper_passes op ps
  form_passes head.Jump ps special = jump_passes ps
  form_passes (head.Alone op) ps special = alone_passes (Alone op) ps (plain (Alone op) refl)
  form_passes (head.Pseudo p) ps special = pseudo_passes p ps
  form_passes (head.Section section) ps special = alone_passes (Sections section) ps (plain (Sections section) refl)
  form_passes head.Word ps special = words_pass (operands_among ps) (are_values ps)
  form_passes head.Vector ps special = vector_passes ps
  form_passes head.Config ps special = config_passes ps
  form_passes head.Inject ps special = alone_passes Inject ps (plain Inject refl)
  form_passes h ps special = special refl
