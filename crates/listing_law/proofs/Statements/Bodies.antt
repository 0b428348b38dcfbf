-- The statements of code words: their parts, and what they are to the assembler.
use Rattle.std.proofs.Common.{◌≡◌, ℕ, ◌<◌, ◌^◌, List, [], ◌∷◌, true, false, refl, ap, ◌∙◌, ℤ, pos}
use Rattle.std.specs.Prelude.{Option, Some}
use Rattle.std.specs.Fmt.{signed_decimal}
use Rattle.text_lex.specs.Division.{Part, Blank, Lexeme}
use Rattle.text_lex.specs.declared.TokenKind.TheVariants as kind
use Rattle.rv32_isa.specs.Listing.{IsImmediate12, IsUpper, IsShift}
use Rattle.asm_lines.specs.Mnemonics.{head_of}
use Rattle.rv32_isa.specs.Mnemonics.{register_mnemonic, immediate_mnemonic, shift_mnemonic, store_mnemonic, branch_mnemonic, upper_mnemonic, alone_mnemonic, jump_mnemonic}
use Rattle.asm_lines.specs.Forms.{form}
use Rattle.asm_lines.specs.Lines.{formed, headed, statement_of}
use Rattle.asm_lines.specs.Language.{Piece, Is, Dotted, Number, Named, Statement, Registers, Immediate, Shift, Store, Branch, Upper, Jump, Alone, Words}
use Rattle.rv32_isa.specs.declared.mnemonics.RegisterOp.{RegisterOp}
use Rattle.rv32_isa.specs.declared.mnemonics.ImmediateOp.{ImmediateOp}
use Rattle.rv32_isa.specs.declared.mnemonics.ShiftOp.{ShiftOp}
use Rattle.rv32_isa.specs.declared.mnemonics.StoreOp.{StoreOp}
use Rattle.rv32_isa.specs.declared.mnemonics.BranchOp.{BranchOp}
use Rattle.rv32_isa.specs.declared.mnemonics.UpperOp.{UpperOp}
use Rattle.rv32_isa.specs.declared.mnemonics.AloneOp.{AloneOp}
use Rattle.asm_lines.specs.declared.mnemonics.Head.{Head}
use Rattle.asm_lines.specs.declared.mnemonics.Head.TheVariants as head
use Rattle.rv32_listing.specs.Texts.{label, register, hexadecimal}
use Rattle.listing_law.proofs.Tokens.Spelled.{part_pieces}
use Rattle.listing_law.proofs.Statements.Heads.{register_head, is_based, immediate_head, load_head, shift_head, store_head, branch_head, upper_head, jump_head, alone_head, register_is}

-- what stands behind the label of a code word; a branch and a jump go to an address
pub data Body : Type 0 where
  OnRegisters : RegisterOp → (rd rs1 rs2 : ℕ) → Body
  OnImmediate : ImmediateOp → (rd rs1 : ℕ) → ℤ → Body
  OnLoad : ImmediateOp → (rd rs1 : ℕ) → ℤ → Body
  OnShift : ShiftOp → (rd rs1 : ℕ) → ℤ → Body
  OnStore : StoreOp → (rs1 rs2 : ℕ) → ℤ → Body
  OnBranch : BranchOp → (rs1 rs2 to : ℕ) → Body
  OnUpper : UpperOp → ℕ → ℤ → Body
  OnJump : (rd to : ℕ) → Body
  OnAlone : AloneOp → Body
  OnWord : ℕ → Body

-- Parts.

abbrev pub blank : Part
blank = Blank 32

abbrev pub comma : Part
comma = Lexeme kind.Comma (44 ∷ [])

abbrev pub name : List ℕ → Part
name bytes = Lexeme kind.Name bytes

abbrev pub directive : List ℕ → Part
directive bytes = Lexeme kind.Directive bytes

abbrev pub number : ℤ → Part
number value = Lexeme (kind.Number value) (signed_decimal value)

abbrev pub word : ℕ → Part
word w = Lexeme (kind.Number (pos w)) (hexadecimal w)

abbrev pub reg : ℕ → Part
reg n = name (register n)

-- `.word`
abbrev pub word_bytes : List ℕ
word_bytes = 46 ∷ 119 ∷ 111 ∷ 114 ∷ 100 ∷ []

abbrev pub first_part : Body → Part
first_part (OnRegisters op rd rs1 rs2) = name (register_mnemonic op)
first_part (OnImmediate op rd rs1 imm) = name (immediate_mnemonic op)
first_part (OnLoad op rd rs1 imm) = name (immediate_mnemonic op)
first_part (OnShift op rd rs1 imm) = name (shift_mnemonic op)
first_part (OnStore op rs1 rs2 imm) = name (store_mnemonic op)
first_part (OnBranch op rs1 rs2 to) = name (branch_mnemonic op)
first_part (OnUpper op rd imm) = name (upper_mnemonic op)
first_part (OnJump rd to) = name jump_mnemonic
first_part (OnAlone op) = name (alone_mnemonic op)
first_part (OnWord w) = directive word_bytes

abbrev pub operand_parts : Body → List Part
operand_parts (OnRegisters op rd rs1 rs2) = blank ∷ reg rd ∷ comma ∷ blank ∷ reg rs1 ∷ comma ∷ blank ∷ reg rs2 ∷ []
operand_parts (OnImmediate op rd rs1 imm) = blank ∷ reg rd ∷ comma ∷ blank ∷ reg rs1 ∷ comma ∷ blank ∷ number imm ∷ []
operand_parts (OnLoad op rd rs1 imm) = blank ∷ reg rd ∷ comma ∷ blank ∷ number imm ∷ Lexeme kind.Open (40 ∷ []) ∷ reg rs1 ∷ Lexeme kind.Close (41 ∷ []) ∷ []
operand_parts (OnShift op rd rs1 imm) = blank ∷ reg rd ∷ comma ∷ blank ∷ reg rs1 ∷ comma ∷ blank ∷ number imm ∷ []
operand_parts (OnStore op rs1 rs2 imm) = blank ∷ reg rs2 ∷ comma ∷ blank ∷ number imm ∷ Lexeme kind.Open (40 ∷ []) ∷ reg rs1 ∷ Lexeme kind.Close (41 ∷ []) ∷ []
operand_parts (OnBranch op rs1 rs2 to) = blank ∷ reg rs1 ∷ comma ∷ blank ∷ reg rs2 ∷ comma ∷ blank ∷ name (label to) ∷ []
operand_parts (OnUpper op rd imm) = blank ∷ reg rd ∷ comma ∷ blank ∷ number imm ∷ []
operand_parts (OnJump rd to) = blank ∷ reg rd ∷ comma ∷ blank ∷ name (label to) ∷ []
operand_parts (OnAlone op) = []
operand_parts (OnWord w) = blank ∷ word w ∷ []

abbrev pub body_parts : Body → List Part
body_parts body = first_part body ∷ operand_parts body

-- its operands are in range
abbrev pub IsBody : Body → Type 0
IsBody (OnRegisters op rd rs1 rs2) = (rd < 32) × (rs1 < 32) × (rs2 < 32)
IsBody (OnImmediate op rd rs1 imm) = (rd < 32) × (rs1 < 32) × IsImmediate12 imm × (is_based op ≡ false)
IsBody (OnLoad op rd rs1 imm) = (rd < 32) × (rs1 < 32) × IsImmediate12 imm × (is_based op ≡ true)
IsBody (OnShift op rd rs1 imm) = (rd < 32) × (rs1 < 32) × IsShift imm
IsBody (OnStore op rs1 rs2 imm) = (rs1 < 32) × (rs2 < 32) × IsImmediate12 imm
IsBody (OnBranch op rs1 rs2 to) = (rs1 < 32) × (rs2 < 32) × (to < 65536)
IsBody (OnUpper op rd imm) = (rd < 32) × IsUpper imm
IsBody (OnJump rd to) = (rd < 32) × (to < 65536)
IsBody (OnAlone op) = Unit {0}
IsBody (OnWord w) = w < 2 ^ 32

-- What it is to the assembler.

abbrev pub body_statement : Body → Statement
body_statement (OnRegisters op rd rs1 rs2) = Registers op (Some rd) (Some rs1) (Some rs2)
body_statement (OnImmediate op rd rs1 imm) = Immediate op (Some rd) (Some rs1) (Number imm)
body_statement (OnLoad op rd rs1 imm) = Immediate op (Some rd) (Some rs1) (Number imm)
body_statement (OnShift op rd rs1 imm) = Shift op (Some rd) (Some rs1) (Number imm)
body_statement (OnStore op rs1 rs2 imm) = Store op (Some rs2) (Some rs1) (Number imm)
body_statement (OnBranch op rs1 rs2 to) = Branch op (Some rs1) (Some rs2) (label to)
body_statement (OnUpper op rd imm) = Upper op (Some rd) (Number imm)
body_statement (OnJump rd to) = Jump (Some rd) (label to)
body_statement (OnAlone op) = Alone op
body_statement (OnWord w) = Words (Number (pos w) ∷ [])

pub headed_here : (bytes : List ℕ) (h : Head) (ps : List Piece) → head_of bytes ≡ Some h → statement_of (Is (Named bytes) ∷ ps) ≡ formed (form h ps)
headed_here bytes h ps e = ap (λ o. headed o ps) e

pub dotted_here : (bytes : List ℕ) (h : Head) (ps : List Piece) → head_of bytes ≡ Some h → statement_of (Dotted bytes ∷ ps) ≡ formed (form h ps)
dotted_here bytes h ps e = ap (λ o. headed o ps) e

three : {X : Type 0} (f : Option ℕ → Option ℕ → Option ℕ → X) (a b c a' b' c' : Option ℕ) → a ≡ a' → b ≡ b' → c ≡ c' → f a b c ≡ f a' b' c'
three f a b c a' b' c' p q r = rw (p, q, r) refl

two : {X : Type 0} (f : Option ℕ → Option ℕ → X) (a b a' b' : Option ℕ) → a ≡ a' → b ≡ b' → f a b ≡ f a' b'
two f a b a' b' p q = rw (p, q) refl

-- what its pieces are read as
pub body_read : (body : Body) → IsBody body → statement_of (part_pieces (body_parts body)) ≡ body_statement body
body_read (OnRegisters op rd rs1 rs2) ok =
    headed_here (register_mnemonic op) (head.Registers op) (part_pieces (operand_parts (OnRegisters op rd rs1 rs2))) (register_head op)
    ∙ three (Registers op) _ _ _ (Some rd) (Some rs1) (Some rs2) (register_is rd ok.0) (register_is rs1 ok.1) (register_is rs2 ok.2)
body_read (OnImmediate op rd rs1 imm) ok =
    headed_here (immediate_mnemonic op) (head.Immediate op) (part_pieces (operand_parts (OnImmediate op rd rs1 imm))) (immediate_head op ok.3)
    ∙ two (λ d s. Immediate op d s (Number imm)) _ _ (Some rd) (Some rs1) (register_is rd ok.0) (register_is rs1 ok.1)
body_read (OnLoad op rd rs1 imm) ok =
    headed_here (immediate_mnemonic op) (head.Load op) (part_pieces (operand_parts (OnLoad op rd rs1 imm))) (load_head op ok.3)
    ∙ two (λ d s. Immediate op d s (Number imm)) _ _ (Some rd) (Some rs1) (register_is rd ok.0) (register_is rs1 ok.1)
body_read (OnShift op rd rs1 imm) ok =
    headed_here (shift_mnemonic op) (head.Shift op) (part_pieces (operand_parts (OnShift op rd rs1 imm))) (shift_head op)
    ∙ two (λ d s. Shift op d s (Number imm)) _ _ (Some rd) (Some rs1) (register_is rd ok.0) (register_is rs1 ok.1)
body_read (OnStore op rs1 rs2 imm) ok =
    headed_here (store_mnemonic op) (head.Store op) (part_pieces (operand_parts (OnStore op rs1 rs2 imm))) (store_head op)
    ∙ two (λ d s. Store op d s (Number imm)) _ _ (Some rs2) (Some rs1) (register_is rs2 ok.1) (register_is rs1 ok.0)
body_read (OnBranch op rs1 rs2 to) ok =
    headed_here (branch_mnemonic op) (head.Branch op) (part_pieces (operand_parts (OnBranch op rs1 rs2 to))) (branch_head op)
    ∙ two (λ s t. Branch op s t (label to)) _ _ (Some rs1) (Some rs2) (register_is rs1 ok.0) (register_is rs2 ok.1)
body_read (OnUpper op rd imm) ok =
    headed_here (upper_mnemonic op) (head.Upper op) (part_pieces (operand_parts (OnUpper op rd imm))) (upper_head op)
    ∙ ap (λ d. Upper op d (Number imm)) (register_is rd ok.0)
body_read (OnJump rd to) ok =
    headed_here jump_mnemonic head.Jump (part_pieces (operand_parts (OnJump rd to))) jump_head
    ∙ ap (λ d. Jump d (label to)) (register_is rd ok.0)
body_read (OnAlone op) ok = headed_here (alone_mnemonic op) (head.Alone op) [] (alone_head op)
body_read (OnWord w) ok = dotted_here word_bytes head.Word (part_pieces (operand_parts (OnWord w))) refl
