-- The line of an item has no cause of refusal, and what it gives to the image.
use Rattle.std.proofs.Common.{◌≡◌, ℕ, ◌+◌, ◌*◌, ◌^◌, ◌<◌, ◌≤◌, List, [], ◌∷◌, ◌++◌, map, Bool, true, false, arith, refl, sym, ap, subst, ◌∙◌, append-nil, pos}
use Rattle.std.specs.Prelude.{Some, None, not, ◌&&◌, nat_lt, slice_index, ◌-ℤ◌, if◌then◌else◌}
use Rattle.std.proofs.lemmas.Bool.{le-ltb}
use Rattle.std.proofs.lemmas.Int.{ints}
use Rattle.kern_base.specs.declared.kinds.Kind.{Kind}
use Rattle.kern_base.specs.declared.kinds.Kind.TheVariants as k
use Rattle.app_image.specs.Raw.{RawRecord}
use Rattle.app_image.specs.Held.{HasWordTask, HasWordVector}
use Rattle.rv32_isa.specs.Listing.{encoded}
use Rattle.rv32_isa.specs.declared.Instr.TheVariants.{Jal}
use Rattle.asm_places.specs.Names.{Names, meaning}
use Rattle.asm_places.specs.Operands.{word_of, value_of, place_at}
use Rattle.asm_causes.specs.Causes.{branch_reaches, jump_reaches, has_far_target, is_early, is_out_of_reach, target_fails, distance}
use Rattle.asm_causes.specs.Refusal.{overfills_code, overfills_ram, cause_of}
use Rattle.rv32_asm.specs.Assembled.{word_values}
use Rattle.rv32_asm.specs.Instructions.{of_registers, of_immediate, of_shift, of_store, of_branch, of_upper, of_alone, distance_to, words}
use Rattle.rv32_asm.specs.Steps.{with_words, with_statement}
use Rattle.asm_lines.specs.declared.mnemonics.Section.{Section}
use Rattle.asm_lines.specs.declared.mnemonics.Section.TheVariants as section
use Rattle.asm_lines.specs.Language.{Statement, Branch, Jump, Line}
use Rattle.asm_places.specs.Counts.{Counts}
use Rattle.asm_places.specs.Place.{Place}
use Rattle.asm_places.specs.declared.places.Meaning.TheVariants.{Label}
use Rattle.asm_causes.specs.declared.causes.AsmCause.TheVariants.{TargetRange, CodeFull, RamFull}
use Rattle.asm_causes.proofs.CalmLaws.{late_is_cause}
use Rattle.rv32_listing.specs.Texts.{label}
use Rattle.listing_law.proofs.Statements.Bodies.{Body, OnRegisters, OnImmediate, OnLoad, OnShift, OnStore, OnBranch, OnUpper, OnJump, OnAlone, OnWord, IsBody, body_statement}
use Rattle.listing_law.proofs.Lines.Items.{Item, Turned, Coded, Stored, Declared, Tasked, Vectored, Set, object_operands, item_statement, item_line}
use Rattle.listing_law.proofs.Statements.Words.{IsCode}
use Rattle.listing_law.proofs.Assembled.Steps.{item_size, size_item}

-- The word of a code word's statement.

abbrev pub body_word : ℕ → Body → ℕ
body_word address (OnRegisters op rd rs1 rs2) = encoded (of_registers op rd rs1 rs2)
body_word address (OnImmediate op rd rs1 imm) = encoded (of_immediate op rd rs1 imm)
body_word address (OnLoad op rd rs1 imm) = encoded (of_immediate op rd rs1 imm)
body_word address (OnShift op rd rs1 imm) = encoded (of_shift op rd rs1 imm)
body_word address (OnStore op rs1 rs2 imm) = encoded (of_store op rs1 rs2 imm)
body_word address (OnBranch op rs1 rs2 to) = encoded (of_branch op rs1 rs2 (pos to -ℤ pos address))
body_word address (OnUpper op rd imm) = encoded (of_upper op rd imm)
body_word address (OnJump rd to) = encoded (Jal rd (pos to -ℤ pos address))
body_word address (OnAlone op) = encoded (of_alone op)
body_word address (OnWord w) = w

pub word_same : (words address w : ℕ) (body : Body) → IsCode words address w body → body_word address body ≡ w
word_same words address w (OnRegisters op rd rs1 rs2) h = h
word_same words address w (OnImmediate op rd rs1 imm) h = h
word_same words address w (OnLoad op rd rs1 imm) h = h
word_same words address w (OnShift op rd rs1 imm) h = h
word_same words address w (OnStore op rs1 rs2 imm) h = h
word_same words address w (OnBranch op rs1 rs2 to) h = h.3
word_same words address w (OnUpper op rd imm) h = h
word_same words address w (OnJump rd to) h = h.3
word_same words address w (OnAlone op) h = h
word_same words address w (OnWord v) h = h

-- Where lines begin.

-- a place in the code, before any RAM
abbrev pub code_place : ℕ → Place
code_place at = record { section = section.Code; code = at; ram = 0 }

-- the label of a target stands at its address, within reach
abbrev pub Reaches : Names → List Place → ℕ → Body → Type 0
Reaches names places address (OnBranch op rs1 rs2 to) = (line : ℕ) × (meaning names (label to) ≡ Some (Label line)) × (place_at places line ≡ code_place to) × (branch_reaches (pos to -ℤ pos address) ≡ true)
Reaches names places address (OnJump rd to) = (line : ℕ) × (meaning names (label to) ≡ Some (Label line)) × (place_at places line ≡ code_place to) × (jump_reaches (pos to -ℤ pos address) ≡ true)
Reaches names places address _ = Unit {0}

-- the fields of an object that are written, and 0 for the others
abbrev pub object_words : Kind → List ℕ → List ℕ
object_words k.Sem f = slice_index f 0 ∷ 0 ∷ 0 ∷ 0 ∷ []
object_words k.Queue f = slice_index f 0 ∷ 0 ∷ 0 ∷ 0 ∷ []
object_words k.Flags f = slice_index f 0 ∷ 0 ∷ 0 ∷ 0 ∷ []
object_words k.Mutex f = 0 ∷ 0 ∷ 0 ∷ 0 ∷ []
object_words _ f = slice_index f 0 ∷ slice_index f 1 ∷ slice_index f 2 ∷ slice_index f 3 ∷ []

-- what an item's line needs to be accepted where it begins
abbrev pub IsAccepted : Names → List Place → Place → Item → Type 0
IsAccepted names places p (Coded address body) = (p ≡ code_place address) × (address + 4 ≤ 65536) × Reaches names places address body × IsBody body
IsAccepted names places p (Stored w) = (p.section ≡ section.Ram) × (p.ram + 4 ≤ 262144) × (w < 2 ^ 32)
IsAccepted names places p (Declared o) = (object_words o.kind o.f ≡ o.f) × ((i : ℕ) → slice_index o.f i < 2 ^ 32)
IsAccepted names places p (Tasked t) = HasWordTask t
IsAccepted names places p (Vectored v) = HasWordVector v
IsAccepted names places p (Set n key value) = value < 2 ^ 32
IsAccepted names places p _ = Unit {0}

-- the image with what an item gives on a line with a number
abbrev pub item_added : ℕ → Item → RawRecord → RawRecord
item_added n (Turned to) raw = raw
item_added n (Coded address body) raw = record raw { code = raw.code ++ body_word address body ∷ [] }
item_added n (Stored w) raw = record raw { ram = raw.ram ++ w ∷ [] }
item_added n (Declared o) raw = record raw { objects = raw.objects ++ record o { line = n } ∷ [] }
item_added n (Tasked t) raw = record raw { tasks = raw.tasks ++ record t { line = n } ∷ [] }
item_added n (Vectored v) raw = record raw { vectors = raw.vectors ++ record v { line = n } ∷ [] }
item_added n (Set name key value) raw = record raw { config = raw.config ++ record { key = key; value = value; line = n } ∷ [] }

pub word_number : (n : ℕ) → n < 2 ^ 32 → word_of (pos n) ≡ n
word_number n lt = omega (arith, ints)

word_fits : (body : Body) → IsBody body → (w : ℕ) → body ≡ OnWord w → w < 2 ^ 32
word_fits body ok w e = subst IsBody e ok

four_same : (a b c d : ℕ) → a < 2 ^ 32 → b < 2 ^ 32 → c < 2 ^ 32 → d < 2 ^ 32 → word_of (pos a) ∷ word_of (pos b) ∷ word_of (pos c) ∷ word_of (pos d) ∷ [] ≡ a ∷ b ∷ c ∷ d ∷ []
four_same a b c d p q r s = rw (word_number a p, word_number b q, word_number c r, word_number d s) refl

no_words : (s : Section) (raw : RawRecord) → with_words s [] raw ≡ raw
no_words section.Nowhere raw = refl
no_words section.Code raw = rw append-nil refl
no_words section.Ram raw = rw append-nil refl

module _ (names : Names) (places : List Place) where
  target_distance : (address to line : ℕ) → meaning names (label to) ≡ Some (Label line) → place_at places line ≡ code_place to
      → distance_to places (code_place address) (meaning names (label to)) ≡ pos to -ℤ pos address
  target_distance address to line e f = ap (distance_to places (code_place address)) e ∙ ap (distance (code_place address)) f

  far_branch : (address to line : ℕ) (s : Statement) → meaning names (label to) ≡ Some (Label line) → place_at places line ≡ code_place to
      → is_out_of_reach s (code_place address) (code_place to) ≡ false → target_fails places s (code_place address) (meaning names (label to)) ≡ false
  far_branch address to line s e f far = ap (target_fails places s (code_place address)) e ∙ (ap (is_out_of_reach s (code_place address)) f ∙ far)

  body_gives : (address : ℕ) (body : Body) → Reaches names places address body → ((w : ℕ) → body ≡ OnWord w → w < 2 ^ 32)
      → words names places (code_place address) (body_statement body) ≡ body_word address body ∷ []
  body_gives address (OnBranch op rs1 rs2 to) r fits = ap (λ d. encoded (of_branch op rs1 rs2 d) ∷ []) (target_distance address to r.0 r.1 r.2)
  body_gives address (OnJump rd to) r fits = ap (λ d. encoded (Jal rd d) ∷ []) (target_distance address to r.0 r.1 r.2)
  body_gives address (OnWord w) r fits = ap (λ n. n ∷ []) (word_number w (fits w refl))
  body_gives address (OnRegisters op rd rs1 rs2) r fits = refl
  body_gives address (OnImmediate op rd rs1 imm) r fits = refl
  body_gives address (OnLoad op rd rs1 imm) r fits = refl
  body_gives address (OnShift op rd rs1 imm) r fits = refl
  body_gives address (OnStore op rs1 rs2 imm) r fits = refl
  body_gives address (OnUpper op rd imm) r fits = refl
  body_gives address (OnAlone op) r fits = refl

  body_near : (address : ℕ) (body : Body) → Reaches names places address body → has_far_target names places (code_place address) (body_statement body) ≡ false
  body_near address (OnBranch op rs1 rs2 to) r = far_branch address to r.0 (Branch op (Some rs1) (Some rs2) (label to)) r.1 r.2 (ap not r.3)
  body_near address (OnJump rd to) r = far_branch address to r.0 (Jump (Some rd) (label to)) r.1 r.2 (ap not r.3)
  body_near address (OnRegisters op rd rs1 rs2) r = refl
  body_near address (OnImmediate op rd rs1 imm) r = refl
  body_near address (OnLoad op rd rs1 imm) r = refl
  body_near address (OnShift op rd rs1 imm) r = refl
  body_near address (OnStore op rs1 rs2 imm) r = refl
  body_near address (OnUpper op rd imm) r = refl
  body_near address (OnAlone op) r = refl
  body_near address (OnWord w) r = refl

  -- a code word's statement gives its words to the section
  body_words : (n : ℕ) (p : Place) (raw : RawRecord) (body : Body) → with_statement names places n p (body_statement body) raw ≡ with_words p.section (words names places p (body_statement body)) raw
  body_words n p raw (OnRegisters op rd rs1 rs2) = refl
  body_words n p raw (OnImmediate op rd rs1 imm) = refl
  body_words n p raw (OnLoad op rd rs1 imm) = refl
  body_words n p raw (OnShift op rd rs1 imm) = refl
  body_words n p raw (OnStore op rs1 rs2 imm) = refl
  body_words n p raw (OnBranch op rs1 rs2 to) = refl
  body_words n p raw (OnUpper op rd imm) = refl
  body_words n p raw (OnJump rd to) = refl
  body_words n p raw (OnAlone op) = refl
  body_words n p raw (OnWord w) = refl

  -- Causes.

  item_near : (p : Place) (item : Item) → IsAccepted names places p item → has_far_target names places p (item_statement item) ≡ false
  item_near p (Turned to) a = refl
  item_near p (Coded address body) a = rw a.0 (body_near address body a.2)
  item_near p (Stored w) a = refl
  item_near p (Declared o) a = refl
  item_near p (Tasked t) a = refl
  item_near p (Vectored v) a = refl
  item_near p (Set n key value) a = refl

  fits_code : (p : Place) (size : ℕ) → p.code + size ≤ 65536 → (s : Section) → overfills_code p s size ≡ false
  fits_code p size h section.Code = ap (λ b. nat_lt 0 size && b) (le-ltb (4 * 16384) (p.code + size) (omega (arith, h))) ∙ and_false (nat_lt 0 size)
    where
      and_false : (b : Bool) → (b && false) ≡ false
      and_false true = refl
      and_false false = refl
  fits_code p size h section.Nowhere = refl
  fits_code p size h section.Ram = refl

  fits_ram : (p : Place) (size : ℕ) → p.ram + size ≤ 262144 → (s : Section) → overfills_ram p s size ≡ false
  fits_ram p size h section.Ram = ap (λ b. nat_lt 0 size && b) (le-ltb 262144 (p.ram + size) h) ∙ and_false (nat_lt 0 size)
    where
      and_false : (b : Bool) → (b && false) ≡ false
      and_false true = refl
      and_false false = refl
  fits_ram p size h section.Nowhere = refl
  fits_ram p size h section.Code = refl

  none_code : (p : Place) (s : Section) → overfills_code p s 0 ≡ false
  none_code p section.Code = refl
  none_code p section.Nowhere = refl
  none_code p section.Ram = refl

  none_ram : (p : Place) (s : Section) → overfills_ram p s 0 ≡ false
  none_ram p section.Code = refl
  none_ram p section.Nowhere = refl
  none_ram p section.Ram = refl

  item_code : (p : Place) (item : Item) → IsAccepted names places p item → overfills_code p p.section (item_size item) ≡ false
  item_code p (Turned to) a = none_code p p.section
  item_code p (Coded address body) a = rw a.0 (fits_code (code_place address) 4 a.1 section.Code)
  item_code p (Stored w) a = rw a.0 refl
  item_code p (Declared o) a = none_code p p.section
  item_code p (Tasked t) a = none_code p p.section
  item_code p (Vectored v) a = none_code p p.section
  item_code p (Set n key value) a = none_code p p.section

  item_ram : (p : Place) (item : Item) → IsAccepted names places p item → overfills_ram p p.section (item_size item) ≡ false
  item_ram p (Turned to) a = none_ram p p.section
  item_ram p (Coded address body) a = rw a.0 refl
  item_ram p (Stored w) a = fits_ram p 4 a.1 p.section
  item_ram p (Declared o) a = none_ram p p.section
  item_ram p (Tasked t) a = none_ram p p.section
  item_ram p (Vectored v) a = none_ram p p.section
  item_ram p (Set n key value) a = none_ram p p.section

  no_late : (far : Bool) (code ram : Bool) → far ≡ false → code ≡ false → ram ≡ false
      → (if far then Some TargetRange else if code then Some CodeFull else if ram then Some RamFull else None) ≡ None
  no_late far code ram e f g = rw (e, f, g) refl

  pub item_accepted : (n : ℕ) (item : Item) (c : Counts) (p : Place) → is_early names c p.section (item_line n item) ≡ false → IsAccepted names places p item → cause_of names places c p (item_line n item) ≡ None
  item_accepted n item c p e a =
      late_is_cause names c p (item_line n item) places e
      ∙ (ap (λ size. if has_far_target names places p (item_statement item) then Some TargetRange else if overfills_code p p.section size then Some CodeFull else if overfills_ram p p.section size then Some RamFull else None) (size_item names item)
      ∙ no_late (has_far_target names places p (item_statement item)) (overfills_code p p.section (item_size item)) (overfills_ram p p.section (item_size item)) (item_near p item a) (item_code p item a) (item_ram p item a))

  -- What it gives.

  object_values : (kind : Kind) (f : List ℕ) → ((i : ℕ) → slice_index f i < 2 ^ 32) → word_values names places (object_operands kind f) ≡ object_words kind f
  object_values k.Sem f h = ap (λ x. x ∷ 0 ∷ 0 ∷ 0 ∷ []) (word_number (slice_index f 0) (h 0))
  object_values k.Queue f h = ap (λ x. x ∷ 0 ∷ 0 ∷ 0 ∷ []) (word_number (slice_index f 0) (h 0))
  object_values k.Flags f h = ap (λ x. x ∷ 0 ∷ 0 ∷ 0 ∷ []) (word_number (slice_index f 0) (h 0))
  object_values k.Mutex f h = refl
  object_values k.OneShot f h = four_same (slice_index f 0) (slice_index f 1) (slice_index f 2) (slice_index f 3) (h 0) (h 1) (h 2) (h 3)
  object_values k.Periodic f h = four_same (slice_index f 0) (slice_index f 1) (slice_index f 2) (slice_index f 3) (h 0) (h 1) (h 2) (h 3)

  pub item_gives : (n : ℕ) (item : Item) (p : Place) (raw : RawRecord) → IsAccepted names places p item → with_statement names places n p (item_statement item) raw ≡ item_added n item raw
  item_gives n (Turned to) p raw a = no_words p.section raw
  item_gives n (Coded address body) p raw a =
      rw a.0 (body_words n (code_place address) raw body ∙ ap (λ ws. with_words section.Code ws raw) (body_gives address body a.2 (word_fits body a.3)))
  item_gives n (Stored w) p raw a =
      ap (λ s. with_words s (words names places p (body_statement (OnWord w))) raw) a.0
      ∙ ap (λ ws. with_words section.Ram ws raw) (ap (λ x. x ∷ []) (word_number w a.2))
  item_gives n (Declared o) p raw a = rw (object_values o.kind o.f a.1, a.0) refl
  item_gives n (Tasked t) p raw a =
      rw (word_number t.entry a.entry, word_number t.prio a.prio, word_number t.quanta a.quanta, word_number t.qsize a.qsize, word_number t.sp a.sp) refl
  item_gives n (Vectored v) p raw a = rw (word_number v.number a.number, word_number v.level a.level, word_number v.entry a.entry, word_number v.sp a.sp) refl
  item_gives n (Set name key value) p raw a = rw (word_number value a) refl
