-- The parts of the statements of code words are read as pieces.
use Rattle.std.proofs.Common.{ℕ, ◌<◌, List, [], ◌∷◌, ◌++◌, arith, refl, ℤ}
use Rattle.std.proofs.lemmas.Int.{ints}
use Rattle.text_lex.specs.Division.{Part, BeginsNoName}
use Rattle.rv32_isa.specs.Listing.{IsImmediate12, IsUpper, IsShift}
use Rattle.rv32_isa.specs.Mnemonics.{register_mnemonic, immediate_mnemonic, shift_mnemonic, store_mnemonic, branch_mnemonic, upper_mnemonic, alone_mnemonic, jump_mnemonic}
use Rattle.rv32_listing.specs.Texts.{label, register}
use Rattle.listing_law.proofs.Tokens.Parts.{flat, IsPiece, ArePieces}
use Rattle.listing_law.proofs.Tokens.Read.{name_read, directive_read, signed_read}
use Rattle.listing_law.proofs.Tokens.Hexadecimals.{hexadecimal_read}
use Rattle.listing_law.proofs.Tokens.Names.{register_named, immediate_named, shift_named, store_named, branch_named, upper_named, alone_named, number_named, label_named}
use Rattle.listing_law.proofs.Statements.Bodies.{Body, OnRegisters, OnImmediate, OnLoad, OnShift, OnStore, OnBranch, OnUpper, OnJump, OnAlone, OnWord, name, number, reg, operand_parts, body_parts, IsBody}

module _ (rest : List ℕ) (b : BeginsNoName rest) where
  pub reg_piece : (n : ℕ) → n < 32 → IsPiece (reg n) rest
  reg_piece n lt = name_read (register n) rest (number_named n (omega arith)) b

  pub label_piece : (n : ℕ) → n < 65536 → IsPiece (name (label n)) rest
  label_piece n lt = name_read (label n) rest (label_named n (omega arith)) b

  pub immediate_piece : (imm : ℤ) → IsImmediate12 imm → IsPiece (number imm) rest
  immediate_piece imm h = signed_read imm rest (λ n e. omega (arith, ints, h.1, e)) (λ n e. omega (arith, ints, h.0, e)) b

  pub shift_piece : (imm : ℤ) → IsShift imm → IsPiece (number imm) rest
  shift_piece imm h = signed_read imm rest (λ n e. omega (arith, ints, h.1, e)) (λ n e. omega (arith, ints, h.0, e)) b

  pub upper_piece : (imm : ℤ) → IsUpper imm → IsPiece (number imm) rest
  upper_piece imm h = signed_read imm rest (λ n e. omega (arith, ints, h.1, e)) (λ n e. omega (arith, ints, h.0, e)) b

module _ (rest : List Part) (b : BeginsNoName (flat rest)) (more : ArePieces rest) where
  pub body_pieces : (body : Body) → IsBody body → ArePieces (body_parts body ++ rest)
  body_pieces (OnRegisters op rd rs1 rs2) ok =
      (name_read (register_mnemonic op) _ (register_named op) refl, (refl, (reg_piece _ refl rd ok.0, (refl, (refl, (reg_piece _ refl rs1 ok.1, (refl, (refl, (reg_piece (flat rest) b rs2 ok.2, more)))))))))
  body_pieces (OnImmediate op rd rs1 imm) ok =
      (name_read (immediate_mnemonic op) _ (immediate_named op) refl, (refl, (reg_piece _ refl rd ok.0, (refl, (refl, (reg_piece _ refl rs1 ok.1, (refl, (refl, (immediate_piece (flat rest) b imm ok.2, more)))))))))
  body_pieces (OnLoad op rd rs1 imm) ok =
      (name_read (immediate_mnemonic op) _ (immediate_named op) refl, (refl, (reg_piece _ refl rd ok.0, (refl, (refl, (immediate_piece _ refl imm ok.2, (refl, (reg_piece _ refl rs1 ok.1, (refl, more)))))))))
  body_pieces (OnShift op rd rs1 imm) ok =
      (name_read (shift_mnemonic op) _ (shift_named op) refl, (refl, (reg_piece _ refl rd ok.0, (refl, (refl, (reg_piece _ refl rs1 ok.1, (refl, (refl, (shift_piece (flat rest) b imm ok.2, more)))))))))
  body_pieces (OnStore op rs1 rs2 imm) ok =
      (name_read (store_mnemonic op) _ (store_named op) refl, (refl, (reg_piece _ refl rs2 ok.1, (refl, (refl, (immediate_piece _ refl imm ok.2, (refl, (reg_piece _ refl rs1 ok.0, (refl, more)))))))))
  body_pieces (OnBranch op rs1 rs2 to) ok =
      (name_read (branch_mnemonic op) _ (branch_named op) refl, (refl, (reg_piece _ refl rs1 ok.0, (refl, (refl, (reg_piece _ refl rs2 ok.1, (refl, (refl, (label_piece (flat rest) b to ok.2, more)))))))))
  body_pieces (OnUpper op rd imm) ok =
      (name_read (upper_mnemonic op) _ (upper_named op) refl, (refl, (reg_piece _ refl rd ok.0, (refl, (refl, (upper_piece (flat rest) b imm ok.1, more))))))
  body_pieces (OnJump rd to) ok =
      (name_read jump_mnemonic (flat (operand_parts (OnJump rd to) ++ rest)) refl refl, (refl, (reg_piece _ refl rd ok.0, (refl, (refl, (label_piece (flat rest) b to ok.1, more))))))
  body_pieces (OnAlone op) ok = (name_read (alone_mnemonic op) (flat rest) (alone_named op) b, more)
  body_pieces (OnWord w) ok = (directive_read (119 ∷ 111 ∷ 114 ∷ 100 ∷ []) (flat (operand_parts (OnWord w) ++ rest)) refl refl, (refl, (hexadecimal_read w ok (flat rest) b, more)))
