-- The line of a code word: its label, and the instruction that it is, or `.word`.
use Rattle.std.specs.Prelude.{ℕ, ℤ, pos, negsuc, ◌+ℤ◌, if◌then◌else◌, List, [], ◌∷◌, ◌++◌, Option, Some, None, unwrap_or, codes}
use Rattle.std.specs.Fmt.{signed_decimal}
use Rattle.std.specs.Option.{option_map, option_and_then}
use Rattle.app_image.specs.Addresses.{is_code_address}
use Rattle.rv32_isa.specs.Decoded.{decoded}
use Rattle.rv32_isa.specs.declared.mnemonics.BranchOp.{BranchOp}
use Rattle.rv32_isa.specs.Mnemonics.{register_mnemonic, immediate_mnemonic, shift_mnemonic, store_mnemonic, branch_mnemonic, upper_mnemonic, jump_mnemonic, alone_mnemonic}
use Rattle.rv32_listing.specs.Texts.{label, register, based, statement, word_statement}
use Rattle.rv32_listing.specs.Forms.{form_of}
use Rattle.rv32_listing.specs.declared.forms.Form.{Form}
use Rattle.rv32_listing.specs.declared.forms.Form.TheVariants.{Registers, Immediate, Load, Shift, Store, Branch, Upper, Jump, Alone, Unwritten}

-- an address, if it is that of a code word, of so many
abbrev pub code_address : ℕ → ℤ → Option ℕ
code_address words (pos address) = if is_code_address words address then Some address else None
code_address words (negsuc address) = None

-- where a branch or a jump goes from an address, if that is a code word
abbrev pub target : (words address : ℕ) → ℤ → Option ℕ
target words address distance = code_address words (pos address +ℤ distance)

-- a branch to a target, and a jump; none where there is no target
abbrev pub branch_to : BranchOp → (rs1 rs2 : ℕ) → Option ℕ → Option (List ℕ)
branch_to op rs1 rs2 to = option_map (λ address. statement (branch_mnemonic op) (register rs1 ∷ register rs2 ∷ label address ∷ [])) to

abbrev pub jump_to : ℕ → Option ℕ → Option (List ℕ)
jump_to rd to = option_map (λ address. statement jump_mnemonic (register rd ∷ label address ∷ [])) to

-- an instruction of a form as a statement, at an address among so many code words
abbrev pub form_statement : (words address : ℕ) → Form → Option (List ℕ)
form_statement words address (Registers op rd rs1 rs2) = Some (statement (register_mnemonic op) (register rd ∷ register rs1 ∷ register rs2 ∷ []))
form_statement words address (Immediate op rd rs1 imm) = Some (statement (immediate_mnemonic op) (register rd ∷ register rs1 ∷ signed_decimal imm ∷ []))
form_statement words address (Load op rd rs1 imm) = Some (statement (immediate_mnemonic op) (register rd ∷ based imm rs1 ∷ []))
form_statement words address (Shift op rd rs1 imm) = Some (statement (shift_mnemonic op) (register rd ∷ register rs1 ∷ signed_decimal imm ∷ []))
form_statement words address (Store op rs1 rs2 imm) = Some (statement (store_mnemonic op) (register rs2 ∷ based imm rs1 ∷ []))
form_statement words address (Branch op rs1 rs2 distance) = branch_to op rs1 rs2 (target words address distance)
form_statement words address (Upper op rd imm) = Some (statement (upper_mnemonic op) (register rd ∷ signed_decimal imm ∷ []))
form_statement words address (Jump rd distance) = jump_to rd (target words address distance)
form_statement words address (Alone op) = Some (statement (alone_mnemonic op) [])
form_statement words address Unwritten = None

-- a code word as the statement of its instruction, if it has one
abbrev pub instruction_statement : (words address word : ℕ) → Option (List ℕ)
instruction_statement words address word = option_and_then (λ instr. form_statement words address (form_of word instr)) (decoded word)

-- a code word as a statement
abbrev pub code_statement : (words address word : ℕ) → List ℕ
code_statement words address word = unwrap_or (instruction_statement words address word) (word_statement word)

-- the line of a code word at an address, of so many
abbrev pub code_line : (words address word : ℕ) → List ℕ
code_line words address word = label address ++ (codes ": " ++ (code_statement words address word ++ codes "\n"))
