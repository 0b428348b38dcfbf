-- Small cases of one instruction, computed from the definition.
use Rattle.std.proofs.Common.{◌≡◌, refl, ℕ, List, [], ◌∷◌}
use Rattle.rv32_isa.specs.Decoded.{decoded}
use Rattle.rv32_exec.specs.declared.Stepped.TheVariants.{Next, Call, Trap, Stored}
use Rattle.rv32_exec.specs.declared.TrapKind.TheVariants.{Illegal, Break, Fetch, Load}
use Rattle.rv32_exec.specs.Registers.{Registers}
use Rattle.rv32_exec.specs.Exec.{exec}

-- x1 = 0x100001, x2 = 0xfffffffe, x3 = 0
abbrev at : ℕ → Registers
at pc = record { pc = pc; x = 0 ∷ 0x100001 ∷ 0xfffffffe ∷ 0 ∷ [] }

abbrev with : (pc x3 : ℕ) → Registers
with pc x3 = record { pc = pc; x = 0 ∷ 0x100001 ∷ 0xfffffffe ∷ x3 ∷ [] }

abbrev memory : List ℕ
memory = 0x80ff7f01 ∷ []

-- addi x3, x2, -1
adds : exec (0xfff10193 ∷ []) (at 0) memory ≡ record { registers = with 4 0xfffffffd; memory = memory; did = Next }
unfolding decoded
adds = refl

-- lb x3, 2(x1) and lbu x3, 2(x1)
loads : exec (0x00208183 ∷ []) (at 0) memory ≡ record { registers = with 4 0xffffff80; memory = memory; did = Next }
unfolding decoded
loads = refl

loads_unsigned : exec (0x0020c183 ∷ []) (at 0) memory ≡ record { registers = with 4 0x80; memory = memory; did = Next }
unfolding decoded
loads_unsigned = refl

-- sb x2, 0(x1) changes the second byte alone
stores : exec (0x00208023 ∷ []) (at 0) memory ≡ record { registers = at 4; memory = 0x80fffe01 ∷ []; did = Stored 0x100001 1 0xfe }
unfolding decoded
stores = refl

-- lh x3, 0(x1) from an odd address
misaligned : exec (0x00009183 ∷ []) (at 0) memory ≡ record { registers = at 0; memory = memory; did = Trap Load 0 }
unfolding decoded
misaligned = refl

-- jalr x3, 4(x1) clears bit 0 of 0x100005
jumps : exec (0 ∷ 0x004081e7 ∷ []) (at 4) memory ≡ record { registers = with 0x100004 8; memory = memory; did = Next }
unfolding decoded
jumps = refl

-- mulhsu x3, x2, x1: -2 times 0x100001
multiplies : exec (0x021121b3 ∷ []) (at 0) memory ≡ record { registers = with 4 0xffffffff; memory = memory; did = Next }
unfolding decoded
multiplies = refl

-- div x3, x2, x0 and rem x3, x2, x1
divides_by_zero : exec (0x020141b3 ∷ []) (at 0) memory ≡ record { registers = with 4 0xffffffff; memory = memory; did = Next }
unfolding decoded
divides_by_zero = refl

remains : exec (0x021161b3 ∷ []) (at 0) memory ≡ record { registers = with 4 0xfffffffe; memory = memory; did = Next }
unfolding decoded
remains = refl

-- ecall, ebreak, a word without a row, and no word
calls : exec (0x00000073 ∷ []) (at 0) memory ≡ record { registers = at 4; memory = memory; did = Call }
unfolding decoded
calls = refl

breaks : exec (0x00100073 ∷ []) (at 0) memory ≡ record { registers = at 0; memory = memory; did = Trap Break 0 }
unfolding decoded
breaks = refl

no_row : exec (0 ∷ []) (at 0) memory ≡ record { registers = at 0; memory = memory; did = Trap Illegal 0 }
unfolding decoded
no_row = refl

no_word : exec (0x00000073 ∷ []) (at 4) memory ≡ record { registers = at 4; memory = memory; did = Trap Fetch 4 }
no_word = refl
