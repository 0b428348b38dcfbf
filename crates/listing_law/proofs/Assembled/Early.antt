-- No line of a listing has an early cause of refusal, where its names are known.
use Rattle.std.proofs.Common.{◌≡◌, ℕ, ◌<◌, ◌≤◌, List, [], ◌∷◌, length, Bool, true, false, refl, sym, ap, subst, ◌∙◌, ℤ, pos}
use Rattle.std.specs.Prelude.{Option, Some, None, is_none, not, ◌==◌, ◌||◌, nat_lt, nat_le}
use Rattle.std.specs.List.{list_any}
use Rattle.std.proofs.lemmas.Bool.{or_from, and_from, eq-eqb, lt-ltb, le-leb, lt-leb}
use Rattle.kern_base.specs.declared.kinds.Kind.{Kind}
use Rattle.kern_base.specs.declared.kinds.Kind.TheVariants as k
use Rattle.app_image.specs.declared.records.TaskDef.{TaskDef}
use Rattle.app_image.specs.declared.records.VectorDef.{VectorDef}
use Rattle.app_image.specs.declared.settings.ConfigKey.{ConfigKey}
use Rattle.asm_places.specs.Names.{Names, definition, meaning}
use Rattle.asm_causes.specs.Causes.{is_register, is_label_of, label_again, name_again, is_statement_of, is_undefined, stands_for_nothing, is_constant, is_instruction, is_placed, is_misplaced, is_short, has_early, early_causes, is_early}
use Rattle.asm_lines.specs.Language.{Number, Statement, Sections, Words, Space, Task, Object, Vector, Setting, Line}
use Rattle.asm_lines.specs.declared.mnemonics.Section.{Section}
use Rattle.asm_lines.specs.declared.mnemonics.Section.TheVariants as section
use Rattle.asm_places.specs.Counts.{Counts}
use Rattle.asm_places.specs.declared.places.Meaning.TheVariants.{Label, Constant}
use Rattle.asm_causes.specs.declared.causes.AsmCause.{AsmCause}
use Rattle.asm_causes.proofs.CauseLaws.{NoneOf}
use Rattle.rv32_listing.specs.Texts.{label}
use Rattle.listing_law.proofs.Statements.Words.{within}
use Rattle.listing_law.proofs.Statements.Bodies.{Body, OnRegisters, OnImmediate, OnLoad, OnShift, OnStore, OnBranch, OnUpper, OnJump, OnAlone, OnWord, IsBody, body_statement}
use Rattle.listing_law.proofs.Lines.Items.{Item, Turned, Coded, Stored, Declared, Tasked, Vectored, Set, object_operands, task_operands, vector_operands, item_label, item_statement, item_line}

-- the target of a branch or a jump is a label
abbrev pub HasTarget : Names → Body → Type 0
HasTarget names (OnBranch op rs1 rs2 to) = (line : ℕ) × (meaning names (label to) ≡ Some (Label line))
HasTarget names (OnJump rd to) = (line : ℕ) × (meaning names (label to) ≡ Some (Label line))
HasTarget names _ = Unit {0}

-- what an item's line needs for no early cause, behind these counts and in this section
abbrev pub IsCalm : Names → Counts → Section → Item → Type 0
IsCalm names c s (Turned to) = Unit {0}
IsCalm names c s (Coded address body) = (s ≡ section.Code) × (names (label address) ≡ Some (definition c (Label c.lines))) × HasTarget names body × IsBody body
IsCalm names c s (Stored w) = s ≡ section.Ram
IsCalm names c s (Declared o) = (names o.name ≡ Some (definition c (Constant (pos c.objects)))) × (c.objects < 64) × (1 ≤ length o.name) × (length o.name ≤ 16)
IsCalm names c s (Tasked t) = (names t.name ≡ Some (definition c (Constant (pos c.tasks)))) × (c.tasks < 60) × (1 ≤ length t.name) × (length t.name ≤ 16)
IsCalm names c s (Vectored v) = c.vectors < 32
IsCalm names c s (Set n key value) = Unit {0}

none_any : (q : AsmCause → Bool) (xs : List AsmCause) → NoneOf q xs → list_any q xs ≡ false
none_any q [] h = refl
none_any q (x ∷ xs) h = or_from (q x) (list_any q xs) h.0 (none_any q xs h.1)

not_true : (b : Bool) → b ≡ true → not b ≡ false
not_true b e = ap not e

same_number : (n : ℕ) → (n == n) ≡ true
same_number n = eq-eqb n n refl

registered : (n : ℕ) → n < 32 → not (is_register (Some n)) ≡ false
registered n lt = not_true (nat_lt n 32) (lt-ltb n 32 lt)

or_none : (b : Bool) → b ≡ false → (b || false) ≡ false
or_none b e = or_from b false e refl

module _ (names : Names) (c : Counts) where
  -- a line of a label and a statement
  abbrev AreNone : ℕ → Section → Option (List ℕ) → Statement → Type 0
  AreNone n s l statement = NoneOf (has_early names c s (record { number = n; label = l; statement = statement })) early_causes

  label_first : (address : ℕ) → names (label address) ≡ Some (definition c (Label c.lines)) → label_again names c (Some (label address)) ≡ false
  label_first address e = ap (λ o. not (is_label_of c o)) e ∙ not_true (c.lines == c.lines) (same_number c.lines)

  name_first : (bytes : List ℕ) (value : ℤ) → names bytes ≡ Some (definition c (Constant value)) → name_again names c (Some bytes) ≡ false
  name_first bytes value e = ap (λ o. not (is_statement_of c o)) e ∙ not_true (c.lines == c.lines) (same_number c.lines)

  target_known : (to line : ℕ) → meaning names (label to) ≡ Some (Label line) → is_undefined names (label to) ≡ false
  target_known to line e = ap is_none e

  target_label : (to line : ℕ) → meaning names (label to) ≡ Some (Label line) → is_constant (meaning names (label to)) ≡ false
  target_label to line e = ap is_constant e

  body_none : (n address : ℕ) (body : Body) → HasTarget names body → IsBody body → names (label address) ≡ Some (definition c (Label c.lines))
      → AreNone n section.Code (Some (label address)) (body_statement body)
  body_none n address (OnRegisters op rd rs1 rs2) t ok known =
      (refl, (refl, (or_from _ _ (registered rd ok.0) (or_from _ _ (registered rs1 ok.1) (or_none _ (registered rs2 ok.2))), (refl, (or_none _ (label_first address known), (refl, (refl, (refl, (refl, (refl, (refl, tt)))))))))))
  body_none n address (OnImmediate op rd rs1 imm) t ok known =
      (refl, (refl, (or_from _ _ (registered rd ok.0) (or_none _ (registered rs1 ok.1)), (not_true _ (within _ _ imm ok.2.0 ok.2.1), (or_none _ (label_first address known), (refl, (refl, (refl, (refl, (refl, (refl, tt)))))))))))
  body_none n address (OnLoad op rd rs1 imm) t ok known =
      (refl, (refl, (or_from _ _ (registered rd ok.0) (or_none _ (registered rs1 ok.1)), (not_true _ (within _ _ imm ok.2.0 ok.2.1), (or_none _ (label_first address known), (refl, (refl, (refl, (refl, (refl, (refl, tt)))))))))))
  body_none n address (OnShift op rd rs1 imm) t ok known =
      (refl, (refl, (or_from _ _ (registered rd ok.0) (or_none _ (registered rs1 ok.1)), (not_true _ (within _ _ imm ok.2.0 ok.2.1), (or_none _ (label_first address known), (refl, (refl, (refl, (refl, (refl, (refl, tt)))))))))))
  body_none n address (OnStore op rs1 rs2 imm) t ok known =
      (refl, (refl, (or_from _ _ (registered rs2 ok.1) (or_none _ (registered rs1 ok.0)), (not_true _ (within _ _ imm ok.2.0 ok.2.1), (or_none _ (label_first address known), (refl, (refl, (refl, (refl, (refl, (refl, tt)))))))))))
  body_none n address (OnBranch op rs1 rs2 to) t ok known =
      (refl, (refl, (or_from _ _ (registered rs1 ok.0) (or_none _ (registered rs2 ok.1)), (refl, (or_none _ (label_first address known), (or_none _ (target_known to t.0 t.1), (target_label to t.0 t.1, (refl, (refl, (refl, (refl, tt)))))))))))
  body_none n address (OnUpper op rd imm) t ok known =
      (refl, (refl, (or_none _ (registered rd ok.0), (not_true _ (within _ _ imm ok.1.0 ok.1.1), (or_none _ (label_first address known), (refl, (refl, (refl, (refl, (refl, (refl, tt)))))))))))
  body_none n address (OnJump rd to) t ok known =
      (refl, (refl, (or_none _ (registered rd ok.0), (refl, (or_none _ (label_first address known), (or_none _ (target_known to t.0 t.1), (target_label to t.0 t.1, (refl, (refl, (refl, (refl, tt)))))))))))
  body_none n address (OnAlone op) t ok known =
      (refl, (refl, (refl, (refl, (or_none _ (label_first address known), (refl, (refl, (refl, (refl, (refl, (refl, tt)))))))))))
  body_none n address (OnWord w) t ok known =
      (refl, (refl, (refl, (refl, (or_none _ (label_first address known), (refl, (refl, (refl, (refl, (refl, (refl, tt)))))))))))

  stored_none : (n w : ℕ) → AreNone n section.Ram None (body_statement (OnWord w))
  stored_none n w = (refl, (refl, (refl, (refl, (refl, (refl, (refl, (refl, (refl, (refl, (refl, tt)))))))))))

  turned_none : (n : ℕ) (at to : Section) → AreNone n at None (Sections to)
  turned_none n section.Nowhere to = (refl, (refl, (refl, (refl, (refl, (refl, (refl, (refl, (refl, (refl, (refl, tt)))))))))))
  turned_none n section.Code to = (refl, (refl, (refl, (refl, (refl, (refl, (refl, (refl, (refl, (refl, (refl, tt)))))))))))
  turned_none n section.Ram to = (refl, (refl, (refl, (refl, (refl, (refl, (refl, (refl, (refl, (refl, (refl, tt)))))))))))

  operands_known : (kind : Kind) (f : List ℕ) → list_any (stands_for_nothing names) (object_operands kind f) ≡ false
  operands_known k.Sem f = refl
  operands_known k.Queue f = refl
  operands_known k.Flags f = refl
  operands_known k.Mutex f = refl
  operands_known k.OneShot f = refl
  operands_known k.Periodic f = refl

  short_name : (bytes : List ℕ) → 1 ≤ length bytes → length bytes ≤ 16 → not (is_short bytes) ≡ false
  short_name bytes some short =
      not_true (is_short bytes) (and_from (nat_le 1 (length bytes)) (nat_le (length bytes) 16) (le-leb 1 (length bytes) some) (le-leb (length bytes) 16 short))

  misplaced : (at : Section) (s : Statement) → is_placed s ≡ false → is_misplaced at None s ≡ false
  misplaced section.Nowhere s e = e
  misplaced section.Code s e = refl
  misplaced section.Ram s e = no_instruction s e
    where
      no_instruction : (s : Statement) → is_placed s ≡ false → is_instruction s ≡ false
      no_instruction (Words values) e = refl
      no_instruction (Space o) e = refl
      no_instruction s e = e

  object_none : (n : ℕ) (at : Section) (bytes : List ℕ) (kind : Kind) (f : List ℕ) → names bytes ≡ Some (definition c (Constant (pos c.objects)))
      → c.objects < 64 → 1 ≤ length bytes → length bytes ≤ 16 → AreNone n at None (Object bytes kind (object_operands kind f))
  object_none n at bytes kind f known few some short =
      (refl, (refl, (refl, (refl, (name_first bytes (pos c.objects) known, (operands_known kind f, (refl, (misplaced at (Object bytes kind (object_operands kind f)) refl, (short_name bytes some short, (refl, (lt-leb 64 c.objects few, tt)))))))))))

  task_none : (n : ℕ) (at : Section) (t : TaskDef) → names t.name ≡ Some (definition c (Constant (pos c.tasks)))
      → c.tasks < 60 → 1 ≤ length t.name → length t.name ≤ 16 → AreNone n at None (Task t.name (task_operands t))
  task_none n at t known few some short =
      (refl, (refl, (refl, (refl, (name_first t.name (pos c.tasks) known, (refl, (refl, (misplaced at (Task t.name (task_operands t)) refl, (short_name t.name some short, (refl, (lt-leb 60 c.tasks few, tt)))))))))))

  vector_none : (n : ℕ) (at : Section) (v : VectorDef) → c.vectors < 32 → AreNone n at None (Vector (vector_operands v))
  vector_none n at v few = (refl, (refl, (refl, (refl, (refl, (refl, (refl, (misplaced at (Vector (vector_operands v)) refl, (refl, (refl, (lt-leb 32 c.vectors few, tt)))))))))))

  setting_none : (n : ℕ) (at : Section) (key : ConfigKey) (value : ℕ) → AreNone n at None (Setting (Some key) (Number (pos value)))
  setting_none n at key value = (refl, (refl, (refl, (refl, (refl, (refl, (refl, (misplaced at (Setting (Some key) (Number (pos value))) refl, (refl, (refl, (refl, tt)))))))))))

  -- the line of an item
  item_none : (n : ℕ) (at : Section) (item : Item) → IsCalm names c at item → AreNone n at (item_label item) (item_statement item)
  item_none n at (Turned to) h = turned_none n at to
  item_none n at (Coded address body) h = rw h.0 (body_none n address body h.2 h.3 h.1)
  item_none n at (Stored w) h = rw h (stored_none n w)
  item_none n at (Declared o) h = object_none n at o.name o.kind o.f h.0 h.1 h.2 h.3
  item_none n at (Tasked t) h = task_none n at t h.0 h.1 h.2 h.3
  item_none n at (Vectored v) h = vector_none n at v h
  item_none n at (Set name key value) h = setting_none n at key value

  pub item_early : (n : ℕ) (at : Section) (item : Item) → IsCalm names c at item → is_early names c at (item_line n item) ≡ false
  item_early n at item h = none_any (has_early names c at (item_line n item)) early_causes (item_none n at item h)
