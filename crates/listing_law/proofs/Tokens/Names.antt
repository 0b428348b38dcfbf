-- Mnemonics, registers and labels are names.
use Rattle.std.proofs.Common.{◌≡◌, ℕ, ◌<◌, ◌^◌, List, [], ◌∷◌, true, decimal, arith, refl}
use Rattle.std.specs.List.{list_all}
use Rattle.std.proofs.lemmas.Bool.{and_parts, and_from}
use Rattle.std.proofs.lemmas.Bool.Decides.{nat_tests}
use Rattle.text_lex.specs.Bytes.{is_digit, is_name, is_name_byte}
use Rattle.rv32_isa.specs.Mnemonics.{register_mnemonic, immediate_mnemonic, shift_mnemonic, store_mnemonic, branch_mnemonic, upper_mnemonic, alone_mnemonic}
use Rattle.rv32_isa.specs.declared.mnemonics.RegisterOp.{RegisterOp}
use Rattle.rv32_isa.specs.declared.mnemonics.RegisterOp.TheVariants as r
use Rattle.rv32_isa.specs.declared.mnemonics.ImmediateOp.{ImmediateOp}
use Rattle.rv32_isa.specs.declared.mnemonics.ImmediateOp.TheVariants as i
use Rattle.rv32_isa.specs.declared.mnemonics.ShiftOp.{ShiftOp}
use Rattle.rv32_isa.specs.declared.mnemonics.ShiftOp.TheVariants as sh
use Rattle.rv32_isa.specs.declared.mnemonics.StoreOp.{StoreOp}
use Rattle.rv32_isa.specs.declared.mnemonics.StoreOp.TheVariants as st
use Rattle.rv32_isa.specs.declared.mnemonics.BranchOp.{BranchOp}
use Rattle.rv32_isa.specs.declared.mnemonics.BranchOp.TheVariants as b
use Rattle.rv32_isa.specs.declared.mnemonics.UpperOp.{UpperOp}
use Rattle.rv32_isa.specs.declared.mnemonics.UpperOp.TheVariants as u
use Rattle.rv32_isa.specs.declared.mnemonics.AloneOp.{AloneOp}
use Rattle.rv32_isa.specs.declared.mnemonics.AloneOp.TheVariants as a
use Rattle.rv32_listing.specs.Texts.{label, register}
use Rattle.listing_law.proofs.Tokens.Numerals.{decimal_is}

pub register_named : (op : RegisterOp) → is_name (register_mnemonic op) ≡ true
register_named r.Add = refl
register_named r.Sub = refl
register_named r.Sll = refl
register_named r.Slt = refl
register_named r.Sltu = refl
register_named r.Xor = refl
register_named r.Srl = refl
register_named r.Sra = refl
register_named r.Or = refl
register_named r.And = refl
register_named r.Mul = refl
register_named r.Mulh = refl
register_named r.Mulhsu = refl
register_named r.Mulhu = refl
register_named r.Div = refl
register_named r.Divu = refl
register_named r.Rem = refl
register_named r.Remu = refl

pub immediate_named : (op : ImmediateOp) → is_name (immediate_mnemonic op) ≡ true
immediate_named i.Addi = refl
immediate_named i.Slti = refl
immediate_named i.Sltiu = refl
immediate_named i.Xori = refl
immediate_named i.Ori = refl
immediate_named i.Andi = refl
immediate_named i.Jalr = refl
immediate_named i.Lb = refl
immediate_named i.Lh = refl
immediate_named i.Lw = refl
immediate_named i.Lbu = refl
immediate_named i.Lhu = refl

pub shift_named : (op : ShiftOp) → is_name (shift_mnemonic op) ≡ true
shift_named sh.Slli = refl
shift_named sh.Srli = refl
shift_named sh.Srai = refl

pub store_named : (op : StoreOp) → is_name (store_mnemonic op) ≡ true
store_named st.Sb = refl
store_named st.Sh = refl
store_named st.Sw = refl

pub branch_named : (op : BranchOp) → is_name (branch_mnemonic op) ≡ true
branch_named b.Beq = refl
branch_named b.Bne = refl
branch_named b.Blt = refl
branch_named b.Bge = refl
branch_named b.Bltu = refl
branch_named b.Bgeu = refl

pub upper_named : (op : UpperOp) → is_name (upper_mnemonic op) ≡ true
upper_named u.Lui = refl
upper_named u.Auipc = refl

pub alone_named : (op : AloneOp) → is_name (alone_mnemonic op) ≡ true
alone_named a.Fence = refl
alone_named a.Ecall = refl
alone_named a.Ebreak = refl

digit_named : (byte : ℕ) → is_digit byte ≡ true → is_name_byte byte ≡ true
digit_named byte h = grind (arith, nat_tests)

digits_named : (ds : List ℕ) → list_all is_digit ds ≡ true → list_all is_name_byte ds ≡ true
digits_named [] h = refl
digits_named (d ∷ ds) h =
    let parts = and_parts (is_digit d) (list_all is_digit ds) h in
    and_from (is_name_byte d) (list_all is_name_byte ds) (digit_named d parts.0) (digits_named ds parts.1)

decimal_named : (n : ℕ) → n < 2 ^ 64 → list_all is_name_byte (decimal n) ≡ true
decimal_named n lt = digits_named (decimal n) (decimal_is n lt).digits

pub number_named : (n : ℕ) → n < 2 ^ 64 → is_name (register n) ≡ true
number_named n lt = decimal_named n lt

pub label_named : (n : ℕ) → n < 2 ^ 64 → is_name (label n) ≡ true
label_named n lt = decimal_named n lt
