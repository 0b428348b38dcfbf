-- What the assembler's tables have for the words of a listing.
use Rattle.std.proofs.Common.{◌≡◌, ℕ, ◌<◌, Bool, true, false, refl, ap}
use Rattle.std.specs.Prelude.{Option, Some, None, ◌==◌}
use Rattle.std.specs.Fmt.{digits}
use Rattle.std.proofs.lemmas.Bool.{eqb-true}
use Rattle.asm_lines.specs.Mnemonics.{head_of}
use Rattle.rv32_isa.specs.Mnemonics.{register_mnemonic, immediate_mnemonic, shift_mnemonic, store_mnemonic, branch_mnemonic, upper_mnemonic, alone_mnemonic, jump_mnemonic}
use Rattle.asm_lines.specs.Registers.{register_number}
use Rattle.rv32_isa.specs.declared.mnemonics.RegisterOp.{RegisterOp}
use Rattle.rv32_isa.specs.declared.mnemonics.RegisterOp.TheVariants as r
use Rattle.rv32_isa.specs.declared.mnemonics.ImmediateOp.{ImmediateOp}
use Rattle.rv32_isa.specs.declared.mnemonics.ImmediateOp.TheVariants as i
use Rattle.rv32_isa.specs.declared.mnemonics.ShiftOp.{ShiftOp}
use Rattle.rv32_isa.specs.declared.mnemonics.ShiftOp.TheVariants as sh
use Rattle.rv32_isa.specs.declared.mnemonics.StoreOp.{StoreOp}
use Rattle.rv32_isa.specs.declared.mnemonics.StoreOp.TheVariants as st
use Rattle.rv32_isa.specs.declared.mnemonics.BranchOp.{BranchOp}
use Rattle.rv32_isa.specs.declared.mnemonics.BranchOp.TheVariants as b
use Rattle.rv32_isa.specs.declared.mnemonics.UpperOp.{UpperOp}
use Rattle.rv32_isa.specs.declared.mnemonics.UpperOp.TheVariants as u
use Rattle.rv32_isa.specs.declared.mnemonics.AloneOp.{AloneOp}
use Rattle.rv32_isa.specs.declared.mnemonics.AloneOp.TheVariants as a
use Rattle.asm_lines.specs.declared.mnemonics.Head.TheVariants.{Registers, Immediate, Load, Shift, Store, Branch, Upper, Jump, Alone}
use Rattle.rv32_listing.specs.Texts.{register}
use Rattle.listing_law.proofs.Tokens.Numerals.{below_at}

pub register_head : (op : RegisterOp) → head_of (register_mnemonic op) ≡ Some (Registers op)
register_head r.Add = refl
register_head r.Sub = refl
register_head r.Sll = refl
register_head r.Slt = refl
register_head r.Sltu = refl
register_head r.Xor = refl
register_head r.Srl = refl
register_head r.Sra = refl
register_head r.Or = refl
register_head r.And = refl
register_head r.Mul = refl
register_head r.Mulh = refl
register_head r.Mulhsu = refl
register_head r.Mulhu = refl
register_head r.Div = refl
register_head r.Divu = refl
register_head r.Rem = refl
register_head r.Remu = refl

-- an operation whose constant stands behind the registers, or before a register in parentheses
abbrev pub is_based : ImmediateOp → Bool
is_based i.Addi = false
is_based i.Slti = false
is_based i.Sltiu = false
is_based i.Xori = false
is_based i.Ori = false
is_based i.Andi = false
is_based _ = true

pub immediate_head : (op : ImmediateOp) → is_based op ≡ false → head_of (immediate_mnemonic op) ≡ Some (Immediate op)
immediate_head i.Addi e = refl
immediate_head i.Slti e = refl
immediate_head i.Sltiu e = refl
immediate_head i.Xori e = refl
immediate_head i.Ori e = refl
immediate_head i.Andi e = refl
immediate_head _ e = absurd cc

pub load_head : (op : ImmediateOp) → is_based op ≡ true → head_of (immediate_mnemonic op) ≡ Some (Load op)
load_head i.Jalr e = refl
load_head i.Lb e = refl
load_head i.Lh e = refl
load_head i.Lw e = refl
load_head i.Lbu e = refl
load_head i.Lhu e = refl
load_head _ e = absurd cc

pub shift_head : (op : ShiftOp) → head_of (shift_mnemonic op) ≡ Some (Shift op)
shift_head sh.Slli = refl
shift_head sh.Srli = refl
shift_head sh.Srai = refl

pub store_head : (op : StoreOp) → head_of (store_mnemonic op) ≡ Some (Store op)
store_head st.Sb = refl
store_head st.Sh = refl
store_head st.Sw = refl

pub branch_head : (op : BranchOp) → head_of (branch_mnemonic op) ≡ Some (Branch op)
branch_head b.Beq = refl
branch_head b.Bne = refl
branch_head b.Blt = refl
branch_head b.Bge = refl
branch_head b.Bltu = refl
branch_head b.Bgeu = refl

pub upper_head : (op : UpperOp) → head_of (upper_mnemonic op) ≡ Some (Upper op)
upper_head u.Lui = refl
upper_head u.Auipc = refl

pub jump_head : head_of jump_mnemonic ≡ Some Jump
jump_head = refl

pub alone_head : (op : AloneOp) → head_of (alone_mnemonic op) ≡ Some (Alone op)
alone_head a.Fence = refl
alone_head a.Ecall = refl
alone_head a.Ebreak = refl

-- the number of a register by its name
abbrev is_number : ℕ → Option ℕ → Bool
is_number n None = false
is_number n (Some m) = m == n

number_is : (n : ℕ) (o : Option ℕ) → is_number n o ≡ true → o ≡ Some n
number_is n None e = absurd cc
number_is n (Some m) e = ap (λ k. Some k) (eqb-true m n e)

pub register_is : (n : ℕ) → n < 32 → register_number (register n) ≡ Some n
unfolding digits
register_is n lt = number_is n (register_number (register n)) (below_at 32 (λ k. is_number k (register_number (register k))) n refl lt)
