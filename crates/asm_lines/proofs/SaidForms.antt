-- The forms that the code keeps say the forms of the language.
use Rattle.std.proofs.Common.{◌≡◌, ◌∙◌, ap, sym, refl, ℕ, List, [], ◌∷◌, map, Bool, true, false, cond}
use Rattle.std.specs.Prelude.{pos, Option, Some, None, codes, if◌then◌else◌}
use Rattle.std.specs.Option.{option_map}
use Rattle.std.specs.Str.{bytes_eq}
use Rattle.text_lex.specs.declared.Token.{Token}
use Rattle.kern_base.specs.declared.kinds.Kind.{Kind}
use Rattle.asm_lines.specs.Registers.{register_number}
use Rattle.asm_lines.specs.Words.{service_number}
use Rattle.asm_lines.specs.Pieces.{piece_of, operands_among}
use Rattle.asm_lines.specs.Language as say
use Rattle.asm_lines.specs.Forms as of
use Rattle.asm_lines.specs.Kept.{spelling, operand_said, pieces_said, statement_said}
use Rattle.asm_lines.specs.KeptForms.{register_form, immediate_form, shift_form, load_form, store_form, branch_form, upper_form, jump_form, alone_form, of_two, of_target, two_form, target_form, go_form, return_form, load_constant_form, load_value_form, service_form, pseudo_form, are_values, word_form, space_form, equ_form, task_form, object_form, mutex_form, timer_kind, callback, timer_of, timer_form, vector_form, config_form, form, register, zero_register, link_register}
use Rattle.asm_lines.specs.declared.pieces.Span.{Span}
use Rattle.asm_lines.specs.declared.pieces.Operand.{Operand}
use Rattle.asm_lines.specs.declared.pieces.Operand.TheVariants.{Number, Named}
use Rattle.asm_lines.specs.declared.pieces.Piece.{Piece}
use Rattle.asm_lines.specs.declared.pieces.Piece.TheVariants.{Is, Comma, Open, Close}
use Rattle.rv32_isa.specs.declared.mnemonics.RegisterOp.{RegisterOp}
use Rattle.rv32_isa.specs.declared.mnemonics.ImmediateOp.{ImmediateOp}
use Rattle.rv32_isa.specs.declared.mnemonics.ShiftOp.{ShiftOp}
use Rattle.rv32_isa.specs.declared.mnemonics.StoreOp.{StoreOp}
use Rattle.rv32_isa.specs.declared.mnemonics.BranchOp.{BranchOp}
use Rattle.rv32_isa.specs.declared.mnemonics.UpperOp.{UpperOp}
use Rattle.asm_lines.specs.declared.mnemonics.Pseudo.{Pseudo}
use Rattle.asm_lines.specs.declared.mnemonics.Pseudo.TheVariants.{Nop, Mv, Not, Neg, Seqz, Snez, Beqz, Bnez, J, Call, Jr, Ret, Li, La, Os}
use Rattle.asm_lines.specs.declared.mnemonics.Head.{Head}
use Rattle.asm_lines.specs.declared.mnemonics.Head.TheVariants as head
use Rattle.asm_lines.specs.declared.statements.Statement.{Statement}
use Rattle.asm_lines.specs.declared.statements.Statement.TheVariants as kept

module _ (text : List ℕ) where
  -- what a form says
  abbrev said : Option Statement → Option say.Statement
  said o = option_map (statement_said text) o

  alone_said : (s : Statement) (ps : List Piece) → said (alone_form s ps) ≡ of.alone_form (statement_said text s) (pieces_said text ps)
  alone_said s [] = refl
  alone_said s (p ∷ ps) = refl

  register_form_said : (op : RegisterOp) (ps : List Piece) → said (register_form text op ps) ≡ of.register_form op (pieces_said text ps)
  register_form_said op (Is (Named d) ∷ Comma ∷ Is (Named s) ∷ Comma ∷ Is (Named t) ∷ []) = refl
  register_form_said op _ = refl

  immediate_form_said : (op : ImmediateOp) (ps : List Piece) → said (immediate_form text op ps) ≡ of.immediate_form op (pieces_said text ps)
  immediate_form_said op (Is (Named d) ∷ Comma ∷ Is (Named s) ∷ Comma ∷ Is c ∷ []) = refl
  immediate_form_said op _ = refl

  shift_form_said : (op : ShiftOp) (ps : List Piece) → said (shift_form text op ps) ≡ of.shift_form op (pieces_said text ps)
  shift_form_said op (Is (Named d) ∷ Comma ∷ Is (Named s) ∷ Comma ∷ Is c ∷ []) = refl
  shift_form_said op _ = refl

  load_form_said : (op : ImmediateOp) (ps : List Piece) → said (load_form text op ps) ≡ of.load_form op (pieces_said text ps)
  load_form_said op (Is (Named d) ∷ Comma ∷ Is c ∷ Open ∷ Is (Named s) ∷ Close ∷ []) = refl
  load_form_said op (Is (Named d) ∷ Comma ∷ Open ∷ Is (Named s) ∷ Close ∷ []) = refl
  load_form_said op _ = refl

  store_form_said : (op : StoreOp) (ps : List Piece) → said (store_form text op ps) ≡ of.store_form op (pieces_said text ps)
  store_form_said op (Is (Named t) ∷ Comma ∷ Is c ∷ Open ∷ Is (Named s) ∷ Close ∷ []) = refl
  store_form_said op (Is (Named t) ∷ Comma ∷ Open ∷ Is (Named s) ∷ Close ∷ []) = refl
  store_form_said op _ = refl

  branch_form_said : (op : BranchOp) (ps : List Piece) → said (branch_form text op ps) ≡ of.branch_form op (pieces_said text ps)
  branch_form_said op (Is (Named s) ∷ Comma ∷ Is (Named t) ∷ Comma ∷ Is (Named target) ∷ []) = refl
  branch_form_said op _ = refl

  upper_form_said : (op : UpperOp) (ps : List Piece) → said (upper_form text op ps) ≡ of.upper_form op (pieces_said text ps)
  upper_form_said op (Is (Named d) ∷ Comma ∷ Is c ∷ []) = refl
  upper_form_said op _ = refl

  jump_form_said : (ps : List Piece) → said (jump_form text ps) ≡ of.jump_form (pieces_said text ps)
  jump_form_said (Is (Named d) ∷ Comma ∷ Is (Named target) ∷ []) = refl
  jump_form_said _ = refl

  go_form_said : (link : Option ℕ) (ps : List Piece) → said (go_form link ps) ≡ of.go_form link (pieces_said text ps)
  go_form_said link (Is (Named target) ∷ []) = refl
  go_form_said link _ = refl

  return_form_said : (ps : List Piece) → said (return_form text ps) ≡ of.return_form (pieces_said text ps)
  return_form_said (Is (Named s) ∷ []) = refl
  return_form_said _ = refl

  load_constant_form_said : (ps : List Piece) → said (load_constant_form text ps) ≡ of.load_constant_form (pieces_said text ps)
  load_constant_form_said (Is (Named d) ∷ Comma ∷ Is c ∷ []) = refl
  load_constant_form_said _ = refl

  load_value_form_said : (ps : List Piece) → said (load_value_form text ps) ≡ of.load_value_form (pieces_said text ps)
  load_value_form_said (Is (Named d) ∷ Comma ∷ Is v ∷ []) = refl
  load_value_form_said _ = refl

  object_form_said : (kind : Kind) (ps : List Piece) → said (object_form kind ps) ≡ of.object_form kind (pieces_said text ps)
  object_form_said kind (Is (Named n) ∷ Comma ∷ Is v ∷ []) = refl
  object_form_said kind _ = refl

  config_form_said : (ps : List Piece) → said (config_form text ps) ≡ of.config_form (pieces_said text ps)
  config_form_said (Is (Named k) ∷ Comma ∷ Is v ∷ []) = refl
  config_form_said _ = refl

  space_form_said : (ps : List Piece) → said (space_form ps) ≡ of.space_form (pieces_said text ps)
  space_form_said (Is c ∷ []) = refl
  space_form_said _ = refl

  equ_form_said : (ps : List Piece) → said (equ_form ps) ≡ of.equ_form (pieces_said text ps)
  equ_form_said (Is (Named n) ∷ Comma ∷ Is (Number value) ∷ []) = refl
  equ_form_said _ = refl

  task_form_said : (ps : List Piece) → said (task_form ps) ≡ of.task_form (pieces_said text ps)
  task_form_said (Is (Named n) ∷ Comma ∷ Is entry ∷ Comma ∷ Is prio ∷ Comma ∷ Is quanta ∷ Comma ∷ Is qsize ∷ Comma ∷ Is sp ∷ []) = refl
  task_form_said _ = refl

  mutex_form_said : (ps : List Piece) → said (mutex_form ps) ≡ of.mutex_form (pieces_said text ps)
  mutex_form_said (Is (Named n) ∷ []) = refl
  mutex_form_said _ = refl

  vector_form_said : (ps : List Piece) → said (vector_form ps) ≡ of.vector_form (pieces_said text ps)
  vector_form_said (Is number ∷ Comma ∷ Is level ∷ Comma ∷ Is entry ∷ Comma ∷ Is sp ∷ []) = refl
  vector_form_said _ = refl

  two_said : (p : Pseudo) (d s : Option ℕ) → said (of_two p d s) ≡ of.of_two p d s
  two_said Mv d s = refl
  two_said Not d s = refl
  two_said Neg d s = refl
  two_said Seqz d s = refl
  two_said Snez d s = refl
  two_said _ d s = refl

  two_form_said : (p : Pseudo) (ps : List Piece) → said (two_form text p ps) ≡ of.two_form p (pieces_said text ps)
  two_form_said p (Is (Named d) ∷ Comma ∷ Is (Named s) ∷ []) = two_said p (register text d) (register text s)
  two_form_said p _ = refl

  target_said : (p : Pseudo) (s : Option ℕ) (target : Span) → said (of_target p s target) ≡ of.of_target p s (spelling text target)
  target_said Beqz s target = refl
  target_said Bnez s target = refl
  target_said _ s target = refl

  target_form_said : (p : Pseudo) (ps : List Piece) → said (target_form text p ps) ≡ of.target_form p (pieces_said text ps)
  target_form_said p (Is (Named s) ∷ Comma ∷ Is (Named target) ∷ []) = target_said p (register text s) target
  target_form_said p _ = refl

  service_said : (o : Option ℕ) → said (option_map kept.CallService o) ≡ option_map say.CallService o
  service_said None = refl
  service_said (Some number) = refl

  service_form_said : (ps : List Piece) → said (service_form text ps) ≡ of.service_form (pieces_said text ps)
  service_form_said (Is (Named s) ∷ []) = service_said (service_number (spelling text s))
  service_form_said _ = refl

  pseudo_said : (p : Pseudo) (ps : List Piece) → said (pseudo_form text p ps) ≡ of.pseudo_form p (pieces_said text ps)
  pseudo_said Nop ps = alone_said _ ps
  pseudo_said Mv ps = two_form_said Mv ps
  pseudo_said Not ps = two_form_said Not ps
  pseudo_said Neg ps = two_form_said Neg ps
  pseudo_said Seqz ps = two_form_said Seqz ps
  pseudo_said Snez ps = two_form_said Snez ps
  pseudo_said Beqz ps = target_form_said Beqz ps
  pseudo_said Bnez ps = target_form_said Bnez ps
  pseudo_said J ps = go_form_said zero_register ps
  pseudo_said Call ps = go_form_said link_register ps
  pseudo_said Jr ps = return_form_said ps
  pseudo_said Ret ps = alone_said _ ps
  pseudo_said Li ps = load_constant_form_said ps
  pseudo_said La ps = load_value_form_said ps
  pseudo_said Os ps = service_form_said ps

  values_said : (ps : List Piece) → are_values ps ≡ of.are_values (pieces_said text ps)
  values_said (Is v ∷ []) = refl
  values_said (Is v ∷ Comma ∷ ps) = values_said ps
  values_said _ = refl

  words_said : (tokens : List Token) (ps : List Piece) (b : Bool) → pieces_said text ps ≡ map (piece_of text) tokens
      → said (if b then Some (kept.Words tokens) else None) ≡ (if b then Some (say.Words (operands_among (pieces_said text ps))) else None)
  words_said tokens ps true same = ap (λ qs. Some (say.Words (operands_among qs))) (sym same)
  words_said tokens ps false same = refl

  word_said : (tokens : List Token) (ps : List Piece) → pieces_said text ps ≡ map (piece_of text) tokens → said (word_form tokens ps) ≡ of.word_form (pieces_said text ps)
  word_said tokens ps same = words_said tokens ps (are_values ps) same ∙ ap (λ b. if b then Some (say.Words (operands_among (pieces_said text ps))) else None) (values_said ps)

  callback_by : (s : Span) (b : Bool) → operand_said text (if b then Number (pos 4294967295) else Named s) ≡ (if b then say.Number (pos 4294967295) else say.Named (spelling text s))
  callback_by s true = refl
  callback_by s false = refl

  callback_said : (o : Operand) → operand_said text (callback text o) ≡ of.callback (operand_said text o)
  callback_said (Named s) = callback_by s (bytes_eq (spelling text s) (codes "none"))
  callback_said (Number value) = refl

  timer_by : (n : Span) (o : Option Kind) (delay period call argument : Operand)
      → said (option_map (λ kind. kept.Object n kind (delay ∷ period ∷ callback text call ∷ argument ∷ [])) o)
      ≡ option_map (λ kind. say.Object (spelling text n) kind (operand_said text delay ∷ operand_said text period ∷ of.callback (operand_said text call) ∷ operand_said text argument ∷ [])) o
  timer_by n None delay period call argument = refl
  timer_by n (Some kind) delay period call argument =
      ap (λ c. Some (say.Object (spelling text n) kind (operand_said text delay ∷ operand_said text period ∷ c ∷ operand_said text argument ∷ []))) (callback_said call)

  timer_said : (n : Span) (kind delay period call argument : Operand)
      → said (timer_of text n kind delay period call argument) ≡ of.timer_of (spelling text n) (operand_said text kind) (operand_said text delay) (operand_said text period) (operand_said text call) (operand_said text argument)
  timer_said n (Named word) delay period call argument = timer_by n (timer_kind (spelling text word)) delay period call argument
  timer_said n (Number value) delay period call argument = refl

  timer_form_said : (ps : List Piece) → said (timer_form text ps) ≡ of.timer_form (pieces_said text ps)
  timer_form_said (Is (Named n) ∷ Comma ∷ Is kind ∷ Comma ∷ Is delay ∷ Comma ∷ Is period ∷ Comma ∷ Is call ∷ Comma ∷ Is argument ∷ []) = timer_said n kind delay period call argument
  timer_form_said _ = refl

  -- each form says that of the language
  pub form_said : (tokens : List Token) (h : Head) (ps : List Piece) → pieces_said text ps ≡ map (piece_of text) tokens → said (form text tokens h ps) ≡ of.form h (pieces_said text ps)
  form_said tokens (head.Registers op) ps same = register_form_said op ps
  form_said tokens (head.Immediate op) ps same = immediate_form_said op ps
  form_said tokens (head.Load op) ps same = load_form_said op ps
  form_said tokens (head.Shift op) ps same = shift_form_said op ps
  form_said tokens (head.Store op) ps same = store_form_said op ps
  form_said tokens (head.Branch op) ps same = branch_form_said op ps
  form_said tokens (head.Upper op) ps same = upper_form_said op ps
  form_said tokens head.Jump ps same = jump_form_said ps
  form_said tokens (head.Alone op) ps same = alone_said (kept.Alone op) ps
  form_said tokens (head.Pseudo p) ps same = pseudo_said p ps
  form_said tokens (head.Section section) ps same = alone_said (kept.Section section) ps
  form_said tokens head.Word ps same = word_said tokens ps same
  form_said tokens head.Space ps same = space_form_said ps
  form_said tokens head.Equ ps same = equ_form_said ps
  form_said tokens head.Task ps same = task_form_said ps
  form_said tokens (head.Object kind) ps same = object_form_said kind ps
  form_said tokens head.Mutex ps same = mutex_form_said ps
  form_said tokens head.Timer ps same = timer_form_said ps
  form_said tokens head.Vector ps same = vector_form_said ps
  form_said tokens head.Config ps same = config_form_said ps
  form_said tokens head.Inject ps same = alone_said kept.Inject ps
