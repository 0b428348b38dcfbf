-- The statement of a code word, by its instruction, and what it is assembled to.
use Rattle.std.proofs.Common.{◌≡◌, ℕ, suc, ◌*◌, ◌%◌, ◌^◌, ◌<◌, ◌≤◌, true, arith, refl, sym, ap, ◌∙◌, append-nil, append_assoc, ℤ, pos, negsuc}
use Rattle.std.specs.Prelude.{Option, Some, None, IfSome, unwrap_or, ◌==◌, nat_lt, int_le, ◌+ℤ◌, ◌-ℤ◌, ◌≤ℤ◌}
use Rattle.std.specs.Option.{option_and_then}
use Rattle.std.proofs.lemmas.Bool.{and_parts, and_from, cond_both, eqb-true, eq-eqb, ltb-true, le-leb}
use Rattle.std.proofs.lemmas.Int.{ints}
use Rattle.app_image.specs.Addresses.{is_code_address}
use Rattle.rv32_isa.specs.Formats.{unsigned}
use Rattle.rv32_isa.specs.Listing.{encoded, IsInRange, IsBranchOffset, IsJumpOffset}
use Rattle.rv32_isa.specs.Decoded.{decoded}
use Rattle.rv32_isa.specs.declared.Instr.{Instr}
use Rattle.rv32_isa.specs.declared.Instr.TheVariants.{Lui, Auipc, Jal, Jalr, Beq, Bne, Blt, Bge, Bltu, Bgeu, Lb, Lh, Lw, Lbu, Lhu, Sb, Sh, Sw, Addi, Slti, Sltiu, Xori, Ori, Andi, Slli, Srli, Srai, Add, Sub, Sll, Slt, Sltu, Xor, Srl, Sra, Or, And, Fence, Ecall, Ebreak, Mul, Mulh, Mulhsu, Mulhu, Div, Divu, Rem, Remu}
use Rattle.rv32_isa.proofs.Law.{encoded-decoded}
use Rattle.asm_places.specs.Operands.{is_within}
use Rattle.asm_causes.specs.Causes.{is_even, branch_reaches, jump_reaches}
use Rattle.rv32_asm.specs.Instructions.{of_registers, of_immediate, of_shift, of_store, of_branch, of_upper, of_alone}
use Rattle.rv32_isa.specs.declared.mnemonics.BranchOp.{BranchOp}
use Rattle.rv32_isa.specs.declared.mnemonics.BranchOp.TheVariants as branch
use Rattle.rv32_isa.specs.declared.mnemonics.AloneOp.TheVariants as alone
use Rattle.rv32_listing.specs.Texts.{word_statement}
use Rattle.rv32_listing.specs.Forms.{form_of, fence_form}
use Rattle.rv32_listing.specs.WordLines.{code_address, target, branch_to, jump_to, form_statement, code_statement}
use Rattle.rv32_listing.specs.declared.forms.Form.{Form}
use Rattle.rv32_listing.specs.declared.forms.Form.TheVariants.{Registers, Immediate, Load, Shift, Store, Branch, Upper, Jump, Alone, Unwritten}
use Rattle.listing_law.proofs.Tokens.Parts.{flat}
use Rattle.listing_law.proofs.Statements.Bodies.{Body, OnRegisters, OnImmediate, OnLoad, OnShift, OnStore, OnBranch, OnUpper, OnJump, OnAlone, OnWord, body_parts, IsBody}

-- The statement of a code word, of so many, at an address.

abbrev pub branch_body : BranchOp → (rs1 rs2 w : ℕ) → Option ℕ → Body
branch_body op rs1 rs2 w (Some to) = OnBranch op rs1 rs2 to
branch_body op rs1 rs2 w None = OnWord w

abbrev pub jump_body : (rd w : ℕ) → Option ℕ → Body
jump_body rd w (Some to) = OnJump rd to
jump_body rd w None = OnWord w

abbrev pub form_body : (words address w : ℕ) → Form → Body
form_body words address w (Registers op rd rs1 rs2) = OnRegisters op rd rs1 rs2
form_body words address w (Immediate op rd rs1 imm) = OnImmediate op rd rs1 imm
form_body words address w (Load op rd rs1 imm) = OnLoad op rd rs1 imm
form_body words address w (Shift op rd rs1 imm) = OnShift op rd rs1 imm
form_body words address w (Store op rs1 rs2 imm) = OnStore op rs1 rs2 imm
form_body words address w (Branch op rs1 rs2 distance) = branch_body op rs1 rs2 w (target words address distance)
form_body words address w (Upper op rd imm) = OnUpper op rd imm
form_body words address w (Jump rd distance) = jump_body rd w (target words address distance)
form_body words address w (Alone op) = OnAlone op
form_body words address w Unwritten = OnWord w

abbrev pub instr_body : (words address w : ℕ) → Option Instr → Body
instr_body words address w (Some instr) = form_body words address w (form_of w instr)
instr_body words address w None = OnWord w

abbrev pub body_of : (words address w : ℕ) → Body
body_of words address w = instr_body words address w (decoded w)

-- Its text.

branch_text : (op : BranchOp) (rs1 rs2 w : ℕ) (o : Option ℕ) → unwrap_or (branch_to op rs1 rs2 o) (word_statement w) ≡ flat (body_parts (branch_body op rs1 rs2 w o))
branch_text op rs1 rs2 w (Some to) = refl
branch_text op rs1 rs2 w None = refl

jump_text : (rd w : ℕ) (o : Option ℕ) → unwrap_or (jump_to rd o) (word_statement w) ≡ flat (body_parts (jump_body rd w o))
jump_text rd w (Some to) = refl
jump_text rd w None = refl

form_text : (words address w : ℕ) (form : Form) → unwrap_or (form_statement words address form) (word_statement w) ≡ flat (body_parts (form_body words address w form))
form_text words address w (Registers op rd rs1 rs2) = refl
form_text words address w (Immediate op rd rs1 imm) = refl
form_text words address w (Load op rd rs1 imm) = simp append_assoc
form_text words address w (Shift op rd rs1 imm) = refl
form_text words address w (Store op rs1 rs2 imm) = simp append_assoc
form_text words address w (Branch op rs1 rs2 distance) = branch_text op rs1 rs2 w (target words address distance)
form_text words address w (Upper op rd imm) = refl
form_text words address w (Jump rd distance) = jump_text rd w (target words address distance)
form_text words address w (Alone op) = sym (append-nil _)
form_text words address w Unwritten = refl

instr_text : (words address w : ℕ) (o : Option Instr)
    → unwrap_or (option_and_then (λ instr. form_statement words address (form_of w instr)) o) (word_statement w) ≡ flat (body_parts (instr_body words address w o))
instr_text words address w (Some instr) = form_text words address w (form_of w instr)
instr_text words address w None = refl

pub body_text : (words address w : ℕ) → code_statement words address w ≡ flat (body_parts (body_of words address w))
body_text words address w = instr_text words address w (decoded w)

-- What it is assembled to.

-- the word of a code word's statement at an address, and where its branch or jump goes
abbrev pub IsCode : (words address w : ℕ) → Body → Type 0
IsCode words address w (OnRegisters op rd rs1 rs2) = encoded (of_registers op rd rs1 rs2) ≡ w
IsCode words address w (OnImmediate op rd rs1 imm) = encoded (of_immediate op rd rs1 imm) ≡ w
IsCode words address w (OnLoad op rd rs1 imm) = encoded (of_immediate op rd rs1 imm) ≡ w
IsCode words address w (OnShift op rd rs1 imm) = encoded (of_shift op rd rs1 imm) ≡ w
IsCode words address w (OnStore op rs1 rs2 imm) = encoded (of_store op rs1 rs2 imm) ≡ w
IsCode words address w (OnBranch op rs1 rs2 to) =
    (to % 4 ≡ 0) × (to < 4 * words) × (branch_reaches (pos to -ℤ pos address) ≡ true) × (encoded (of_branch op rs1 rs2 (pos to -ℤ pos address)) ≡ w)
IsCode words address w (OnUpper op rd imm) = encoded (of_upper op rd imm) ≡ w
IsCode words address w (OnJump rd to) = (to % 4 ≡ 0) × (to < 4 * words) × (jump_reaches (pos to -ℤ pos address) ≡ true) × (encoded (Jal rd (pos to -ℤ pos address)) ≡ w)
IsCode words address w (OnAlone op) = encoded (of_alone op) ≡ w
IsCode words address w (OnWord v) = v ≡ w

pub record IsCodeWord (words address w : ℕ) (body : Body) : Type 0 where
  pub fits : IsBody body
  pub gives : IsCode words address w body

-- an even distance
pub even_distance : (imm : ℤ) → negsuc 1048575 ≤ℤ imm → imm ≤ℤ pos 1048574 → unsigned imm % 2 ≡ 0 → is_even imm ≡ true
even_distance (pos n) l h e =
    let small : n < 2 ^ 32 = omega (arith, ints, h) in
    let same : n % 2 ≡ 0 = omega (arith, ints, e, h) in
    eq-eqb (n % 2) 0 same
even_distance (negsuc n) l h e =
    let small : n < 1048576 = omega (arith, ints, l) in
    let same : suc n % 2 ≡ 0 = omega (arith, ints, e, l) in
    eq-eqb (suc n % 2) 0 same

le_int : (a b : ℤ) → a ≤ℤ b → int_le a b ≡ true
le_int (pos a) (pos b) h = le-leb a b (omega (arith, ints, h))
le_int (pos a) (negsuc b) h = absurd (omega (arith, ints, h))
le_int (negsuc a) (pos b) h = refl
le_int (negsuc a) (negsuc b) h = le-leb b a (omega (arith, ints, h))

pub within : (least greatest imm : ℤ) → least ≤ℤ imm → imm ≤ℤ greatest → is_within least greatest imm ≡ true
within least greatest imm l h = and_from (int_le least imm) (int_le imm greatest) (le_int least imm l) (le_int imm greatest h)

branch_far : (imm : ℤ) → IsBranchOffset imm → branch_reaches imm ≡ true
branch_far imm h = and_from (is_within (negsuc 4095) (pos 4094) imm) (is_even imm) (within (negsuc 4095) (pos 4094) imm h.0 h.1) (even_distance imm (omega (arith, ints, h.0)) (omega (arith, ints, h.1)) h.2)

jump_far : (imm : ℤ) → IsJumpOffset imm → jump_reaches imm ≡ true
jump_far imm h = and_from (is_within (negsuc 1048575) (pos 1048574) imm) (is_even imm) (within (negsuc 1048575) (pos 1048574) imm h.0 h.1) (even_distance imm h.0 h.1 h.2)

-- a target is the address of a code word at that distance
abbrev pub IsTarget : (words address : ℕ) → ℤ → Option ℕ → Type 0
IsTarget words address imm None = Unit {0}
IsTarget words address imm (Some to) = (to % 4 ≡ 0) × (to < 4 * words) × (pos to -ℤ pos address ≡ imm)

address_is : (words address : ℕ) (imm at : ℤ) → pos address +ℤ imm ≡ at → IsTarget words address imm (code_address words at)
address_is words address imm (negsuc n) e = tt
address_is words address imm (pos n) e =
    cond_both (is_code_address words n) (Some n) None (IsTarget words address imm) (λ t.
    let parts = and_parts (n % 4 == 0) (nat_lt n (4 * words)) t in
    let whole = eqb-true (n % 4) 0 parts.0 in
    let inside = ltb-true n (4 * words) parts.1 in
    let back : pos n -ℤ pos address ≡ imm = omega (arith, ints, e) in
    (whole, inside, back)) (λ t. tt)

target_is : (words address : ℕ) (imm : ℤ) → IsTarget words address imm (target words address imm)
target_is words address imm = address_is words address imm (pos address +ℤ imm) refl

-- at most 16,384 code words: each address is below 65,536
module _ (words address w : ℕ) (few : words ≤ 16384) (fits : w < 2 ^ 32) where
  branch_code : (op : BranchOp) (rs1 rs2 : ℕ) (imm : ℤ) (o : Option ℕ) → rs1 < 32 → rs2 < 32 → IsBranchOffset imm → encoded (of_branch op rs1 rs2 imm) ≡ w
      → IsTarget words address imm o → IsCodeWord words address w (branch_body op rs1 rs2 w o)
  branch_code op rs1 rs2 imm None p q r e t = record { fits = fits; gives = refl }
  branch_code op rs1 rs2 imm (Some to) p q r e t =
      let near : to < 65536 = omega (arith, few, t.1) in
      record {
        fits = (p, q, near);
        gives = (t.0, t.1, ap branch_reaches t.2 ∙ branch_far imm r, ap (λ d. encoded (of_branch op rs1 rs2 d)) t.2 ∙ e);
      }

  jump_code : (rd : ℕ) (imm : ℤ) (o : Option ℕ) → rd < 32 → IsJumpOffset imm → encoded (Jal rd imm) ≡ w → IsTarget words address imm o → IsCodeWord words address w (jump_body rd w o)
  jump_code rd imm None p r e t = record { fits = fits; gives = refl }
  jump_code rd imm (Some to) p r e t =
      let near : to < 65536 = omega (arith, few, t.1) in
      record { fits = (p, near); gives = (t.0, t.1, ap jump_reaches t.2 ∙ jump_far imm r, ap (λ d. encoded (Jal rd d)) t.2 ∙ e) }

  fence_code : IsCodeWord words address w (form_body words address w (fence_form w))
  fence_code =
      cond_both (w == 0x0ff0000f) (Alone alone.Fence) Unwritten (λ form. IsCodeWord words address w (form_body words address w form))
      (λ t. record { fits = tt; gives = sym (eqb-true w 0x0ff0000f t) }) (λ t. record { fits = fits; gives = refl })

  instr_code : (instr : Instr) → IsInRange instr → encoded instr ≡ w → IsCodeWord words address w (form_body words address w (form_of w instr))
  instr_code (Lui rd imm) r e = record { fits = r; gives = e }
  instr_code (Auipc rd imm) r e = record { fits = r; gives = e }
  instr_code (Jal rd imm) r e = jump_code rd imm (target words address imm) r.0 r.1 e (target_is words address imm)
  instr_code (Jalr rd rs1 imm) r e = record { fits = (r.0, r.1, r.2, refl); gives = e }
  instr_code (Beq rs1 rs2 imm) r e = branch_code branch.Beq rs1 rs2 imm (target words address imm) r.0 r.1 r.2 e (target_is words address imm)
  instr_code (Bne rs1 rs2 imm) r e = branch_code branch.Bne rs1 rs2 imm (target words address imm) r.0 r.1 r.2 e (target_is words address imm)
  instr_code (Blt rs1 rs2 imm) r e = branch_code branch.Blt rs1 rs2 imm (target words address imm) r.0 r.1 r.2 e (target_is words address imm)
  instr_code (Bge rs1 rs2 imm) r e = branch_code branch.Bge rs1 rs2 imm (target words address imm) r.0 r.1 r.2 e (target_is words address imm)
  instr_code (Bltu rs1 rs2 imm) r e = branch_code branch.Bltu rs1 rs2 imm (target words address imm) r.0 r.1 r.2 e (target_is words address imm)
  instr_code (Bgeu rs1 rs2 imm) r e = branch_code branch.Bgeu rs1 rs2 imm (target words address imm) r.0 r.1 r.2 e (target_is words address imm)
  instr_code (Lb rd rs1 imm) r e = record { fits = (r.0, r.1, r.2, refl); gives = e }
  instr_code (Lh rd rs1 imm) r e = record { fits = (r.0, r.1, r.2, refl); gives = e }
  instr_code (Lw rd rs1 imm) r e = record { fits = (r.0, r.1, r.2, refl); gives = e }
  instr_code (Lbu rd rs1 imm) r e = record { fits = (r.0, r.1, r.2, refl); gives = e }
  instr_code (Lhu rd rs1 imm) r e = record { fits = (r.0, r.1, r.2, refl); gives = e }
  instr_code (Sb rs1 rs2 imm) r e = record { fits = r; gives = e }
  instr_code (Sh rs1 rs2 imm) r e = record { fits = r; gives = e }
  instr_code (Sw rs1 rs2 imm) r e = record { fits = r; gives = e }
  instr_code (Addi rd rs1 imm) r e = record { fits = (r.0, r.1, r.2, refl); gives = e }
  instr_code (Slti rd rs1 imm) r e = record { fits = (r.0, r.1, r.2, refl); gives = e }
  instr_code (Sltiu rd rs1 imm) r e = record { fits = (r.0, r.1, r.2, refl); gives = e }
  instr_code (Xori rd rs1 imm) r e = record { fits = (r.0, r.1, r.2, refl); gives = e }
  instr_code (Ori rd rs1 imm) r e = record { fits = (r.0, r.1, r.2, refl); gives = e }
  instr_code (Andi rd rs1 imm) r e = record { fits = (r.0, r.1, r.2, refl); gives = e }
  instr_code (Slli rd rs1 imm) r e = record { fits = r; gives = e }
  instr_code (Srli rd rs1 imm) r e = record { fits = r; gives = e }
  instr_code (Srai rd rs1 imm) r e = record { fits = r; gives = e }
  instr_code (Add rd rs1 rs2) r e = record { fits = r; gives = e }
  instr_code (Sub rd rs1 rs2) r e = record { fits = r; gives = e }
  instr_code (Sll rd rs1 rs2) r e = record { fits = r; gives = e }
  instr_code (Slt rd rs1 rs2) r e = record { fits = r; gives = e }
  instr_code (Sltu rd rs1 rs2) r e = record { fits = r; gives = e }
  instr_code (Xor rd rs1 rs2) r e = record { fits = r; gives = e }
  instr_code (Srl rd rs1 rs2) r e = record { fits = r; gives = e }
  instr_code (Sra rd rs1 rs2) r e = record { fits = r; gives = e }
  instr_code (Or rd rs1 rs2) r e = record { fits = r; gives = e }
  instr_code (And rd rs1 rs2) r e = record { fits = r; gives = e }
  instr_code (Fence rd rs1 imm) r e = fence_code
  instr_code Ecall r e = record { fits = tt; gives = e }
  instr_code Ebreak r e = record { fits = tt; gives = e }
  instr_code (Mul rd rs1 rs2) r e = record { fits = r; gives = e }
  instr_code (Mulh rd rs1 rs2) r e = record { fits = r; gives = e }
  instr_code (Mulhsu rd rs1 rs2) r e = record { fits = r; gives = e }
  instr_code (Mulhu rd rs1 rs2) r e = record { fits = r; gives = e }
  instr_code (Div rd rs1 rs2) r e = record { fits = r; gives = e }
  instr_code (Divu rd rs1 rs2) r e = record { fits = r; gives = e }
  instr_code (Rem rd rs1 rs2) r e = record { fits = r; gives = e }
  instr_code (Remu rd rs1 rs2) r e = record { fits = r; gives = e }

  option_code : (o : Option Instr) → IfSome o (λ instr. IsInRange instr × (encoded instr ≡ w)) → IsCodeWord words address w (instr_body words address w o)
  option_code None h = record { fits = fits; gives = refl }
  option_code (Some instr) h = instr_code instr h.0 h.1

  pub code_word : IsCodeWord words address w (body_of words address w)
  code_word = option_code (decoded w) (encoded-decoded w fits)
