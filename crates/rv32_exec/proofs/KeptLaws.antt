-- An instruction keeps registers and a memory of words.
use Rattle.std.specs.Prelude.{◌==◌, not, slice_index, slice_set}
use Rattle.std.proofs.Common.{◌≡◌, ℕ, zero, suc, ◌+◌, ◌-◌, ◌*◌, ◌/◌, ◌%◌, ◌^◌, ◌<◌, ◌≤◌, Bool, true, false, List, length, ℤ, Option, Some, None, IfSome, bit_and, bit_or, bit_xor, inl, inr, refl, sym, subst, arith}
use Rattle.std.proofs.lemmas.List.{get_or-set_same, get_or-set_other, get_or_past, length-set}
use Rattle.std.proofs.lemmas.Nat.{and_le_l, or_lt, xor_lt}
use Rattle.std.proofs.lemmas.Bool.{cases_lt}
use Rattle.std.proofs.lemmas.Bool.Decides.{eqb_tells}
use Rattle.rv32_isa.specs.Formats.{field, unsigned}
use Rattle.rv32_isa.specs.Listing.{IsInRange}
use Rattle.rv32_isa.specs.Decoded.{decoded}
use Rattle.rv32_isa.specs.declared.Instr.{Instr}
use Rattle.rv32_isa.specs.declared.Instr.TheVariants.{Lui, Auipc, Jal, Jalr, Beq, Bne, Blt, Bge, Bltu, Bgeu, Lb, Lh, Lw, Lbu, Lhu, Sb, Sh, Sw, Addi, Slti, Sltiu, Xori, Ori, Andi, Slli, Srli, Srai, Add, Sub, Sll, Slt, Sltu, Xor, Srl, Sra, Or, And, Fence, Ecall, Ebreak, Mul, Mulh, Mulhsu, Mulhu, Div, Divu, Rem, Remu}
use Rattle.rv32_isa.proofs.Law.{Holds, encoded-decoded}
use Rattle.rv32_exec.specs.Registers.{Registers, read, written}
use Rattle.rv32_exec.specs.Memory.{IsWidth, allowed, loaded, replaced, stored, with_word, word_at, ram_start}
use Rattle.rv32_exec.specs.Words.{sum, difference, flag, less, less_signed, extended, long, shifted_left, shifted_right, shifted_right_signed, low_product, high_product, quotient, remainder, quotient_signed, remainder_signed}
use Rattle.rv32_exec.specs.Exec.{Outcome, keeps, traps, goes_on, computes, jumps, links, branches, loads, loads_signed, stores, acts, obeys, fetched, runs, exec}
use Rattle.rv32_exec.specs.Kept.{AreWords, IsKept}
use Rattle.rv32_exec.specs.declared.Stepped.{Stepped}
use Rattle.rv32_exec.specs.declared.Stepped.TheVariants.{Next, Call, Stored}
use Rattle.rv32_exec.specs.declared.TrapKind.{TrapKind}
use Rattle.rv32_exec.specs.declared.TrapKind.TheVariants.{Illegal, Break, Jump, Fetch, Load, Store}
use Rattle.rv32_exec.proofs.Places.{replaces}
use Rattle.rv32_exec.proofs.StoreLaws.{Lies, lies-of}
use Rattle.rv32_exec.proofs.ChangeLaws.{choice}
use Rattle.rv32_exec.proofs.WordLaws.{IsWord, word-low, word-up_to, word-flag, word-extended_byte, word-extended_half, word-shifted_right, word-high_product, word-quotient, word-remainder, word-quotient_signed, word-remainder_signed, word-immediate, word-upper}

-- ---- lists of words

pub words-set : (xs : List ℕ) (i value : ℕ) → AreWords xs → value < 2 ^ 32 → AreWords (slice_set xs i value)
words-set xs i value w v j =
    elim (eqb_tells j i) [
      | inl same ↦ subst (λ k. slice_index (slice_set xs i value) k < 2 ^ 32) (sym same.1) here
      | inr other ↦ subst IsWord (sym (get_or-set_other xs i j value 0 other.1)) (w j)
    ]
  where
    here : slice_index (slice_set xs i value) i < 2 ^ 32
    here =
        elim (cases_lt i (length xs)) [
          | inl l ↦ subst IsWord (sym (get_or-set_same xs i value 0 l)) v
          | inr l ↦ subst IsWord (sym (get_or_past (slice_set xs i value) i 0 (let n = length-set xs i value in omega (arith, n, l)))) (omega arith)
        ]

pub words-written : (x : List ℕ) (rd value : ℕ) → AreWords x → value < 2 ^ 32 → AreWords (written x rd value)
words-written x zero value w v = w
words-written x (suc r) value w v = words-set x (suc r) value w v

pub count-written : (x : List ℕ) (rd value : ℕ) → length (written x rd value) ≡ length x
count-written x zero value = refl
count-written x (suc r) value = length-set x (suc r) value

pub word-read : (regs : Registers) → AreWords regs.x → (r : ℕ) → read regs r < 2 ^ 32
word-read regs w zero = omega arith
word-read regs w (suc r) = w (suc r)

pub words-with_word : (memory : List ℕ) (addr word : ℕ) → AreWords memory → word < 2 ^ 32 → AreWords (with_word memory addr word)
words-with_word memory addr word m v = words-set memory ((addr - ram_start) / 4) word m v

pub lies : (addr width : ℕ) → IsWidth width → allowed addr width ≡ true → Lies addr width
lies addr width is place =
    elim is [
      | inl four ↦ at 4 (omega arith) four (λ e. omega (arith, e))
      | inr part ↦ elim part [
        | inl one ↦ at 1 (omega arith) one (λ e. omega arith)
        | inr two ↦ at 2 (omega arith) two (λ e. omega (arith, e))
      ]
    ]
  where
    at : (n : ℕ) → 0 < n → width ≡ n → (addr % n ≡ 0 → addr % 4 + n ≤ 4) → Lies addr width
    at n some e inside = subst (Lies addr) (sym e) (lies-of addr n some inside (subst (λ k. allowed addr k ≡ true) e place))

pub word-replaced : (word addr width value : ℕ) → IsWidth width → allowed addr width ≡ true → value < 2 ^ (8 * width) → word < 2 ^ 32 → replaced word (8 * (addr % 4)) (8 * width) value < 2 ^ 32
word-replaced word addr width value is place v w =
    let r = replaces word (addr % 4) width value w is (lies addr width is place).inside v in
    subst IsWord r.same r.fits

pub words-stored : (memory : List ℕ) (addr width value : ℕ) → IsWidth width → allowed addr width ≡ true → value < 2 ^ (8 * width) → AreWords memory → AreWords (stored memory addr width value)
words-stored memory addr width value is place v m =
    words-with_word memory addr (replaced (word_at memory addr) (8 * (addr % 4)) (8 * width) value) m
    (word-replaced (word_at memory addr) addr width value is place v (m ((addr - ram_start) / 4)))

pub count-stored : (memory : List ℕ) (addr width value : ℕ) → length (stored memory addr width value) ≡ length memory
count-stored memory addr width value = length-set memory ((addr - ram_start) / 4) (replaced (word_at memory addr) (8 * (addr % 4)) (8 * width) value)

-- ---- an instruction

module _ (regs : Registers) (memory : List ℕ) (x : AreWords regs.x) (m : AreWords memory) where
  abbrev Of : Outcome → Type 0
  Of o = IsKept regs memory (keeps memory o)

  reg : (r : ℕ) → IsWord (read regs r)
  reg r = word-read regs x r

  of-traps : (kind : TrapKind) → Of (traps kind regs)
  of-traps kind = record { pc = λ h. h; words = x; memory_words = m; count = refl; memory_count = refl }

  of-computes : (rd value : ℕ) → IsWord value → Of (computes rd value regs)
  of-computes rd value v = record { pc = λ _. word-low (regs.pc + 4); words = words-written regs.x rd value x v; memory_words = m; count = count-written regs.x rd value; memory_count = refl }

  of-goes_on : (did : Stepped) → Of (goes_on did regs.x regs)
  of-goes_on did = record { pc = λ _. word-low (regs.pc + 4); words = x; memory_words = m; count = refl; memory_count = refl }

  of-jumps : (target : ℕ) (xs : List ℕ) → IsWord target → AreWords xs → length xs ≡ length regs.x → Of (jumps target xs regs)
  of-jumps target xs t w n =
      choice Of (target % 4 == 0) (record { registers = record { pc = target; x = xs }; did = Next }) (traps Jump regs)
      (λ _. record { pc = λ _. t; words = w; memory_words = m; count = n; memory_count = refl }) (λ _. of-traps Jump)

  of-links : (rd target : ℕ) → IsWord target → Of (links rd target regs)
  of-links rd target t =
      of-jumps target (written regs.x rd (sum regs.pc 4)) t (words-written regs.x rd (sum regs.pc 4) x (word-low (regs.pc + 4))) (count-written regs.x rd (sum regs.pc 4))

  of-branches : (taken : Bool) (imm : ℤ) → Of (branches taken imm regs)
  of-branches true imm = of-jumps (sum regs.pc (unsigned imm)) regs.x (word-low (regs.pc + unsigned imm)) x refl
  of-branches false imm = of-goes_on Next

  of-loads : (width rd addr : ℕ) → IsWord (loaded memory addr width) → Of (loads width rd addr regs memory)
  of-loads width rd addr w =
      choice Of (allowed addr width) (computes rd (loaded memory addr width) regs) (traps Load regs)
      (λ _. of-computes rd (loaded memory addr width) w) (λ _. of-traps Load)

  of-loads_signed : (width rd addr : ℕ) → IsWord (extended (8 * width) (loaded memory addr width)) → Of (loads_signed width rd addr regs memory)
  of-loads_signed width rd addr w =
      choice Of (allowed addr width) (computes rd (extended (8 * width) (loaded memory addr width)) regs) (traps Load regs)
      (λ _. of-computes rd (extended (8 * width) (loaded memory addr width)) w) (λ _. of-traps Load)

  of-stores : (width addr word : ℕ) → IsWidth width → word % 2 ^ (8 * width) < 2 ^ (8 * width) → IsKept regs memory (stores width addr word regs memory)
  of-stores width addr word is low =
      let value = word % 2 ^ (8 * width) in
      choice (IsKept regs memory) (allowed addr width) (keeps (stored memory addr width value) (goes_on (Stored addr width value) regs.x regs)) (keeps memory (traps Store regs))
      (λ place. record { pc = λ _. word-low (regs.pc + 4); words = x; memory_words = words-stored memory addr width value is place low m; count = refl; memory_count = count-stored memory addr width value })
      (λ _. of-traps Store)

  of-acts : (i : Instr) → IsInRange i → IsKept regs memory (acts i regs memory)
  of-acts (Lui rd imm) r = of-computes rd (unsigned imm * 2 ^ 12) (word-upper imm r.1)
  of-acts (Auipc rd imm) r = of-computes rd (sum regs.pc (unsigned imm * 2 ^ 12)) (word-low (regs.pc + unsigned imm * 2 ^ 12))
  of-acts (Jal rd imm) r = of-links rd (sum regs.pc (unsigned imm)) (word-low (regs.pc + unsigned imm))
  of-acts (Jalr rd rs1 imm) r =
      let target = sum (read regs rs1) (unsigned imm) in
      of-links rd (target - target % 2) (word-up_to (target - target % 2) target (omega arith) (word-low (read regs rs1 + unsigned imm)))
  of-acts (Beq rs1 rs2 imm) r = of-branches (read regs rs1 == read regs rs2) imm
  of-acts (Bne rs1 rs2 imm) r = of-branches (not (read regs rs1 == read regs rs2)) imm
  of-acts (Blt rs1 rs2 imm) r = of-branches (less_signed (read regs rs1) (read regs rs2)) imm
  of-acts (Bge rs1 rs2 imm) r = of-branches (not (less_signed (read regs rs1) (read regs rs2))) imm
  of-acts (Bltu rs1 rs2 imm) r = of-branches (less (read regs rs1) (read regs rs2)) imm
  of-acts (Bgeu rs1 rs2 imm) r = of-branches (not (less (read regs rs1) (read regs rs2))) imm
  of-acts (Lb rd rs1 imm) r =
      let addr = sum (read regs rs1) (unsigned imm) in of-loads_signed 1 rd addr (word-extended_byte (loaded memory addr 1) (omega arith))
  of-acts (Lh rd rs1 imm) r =
      let addr = sum (read regs rs1) (unsigned imm) in of-loads_signed 2 rd addr (word-extended_half (loaded memory addr 2) (omega arith))
  of-acts (Lw rd rs1 imm) r = of-loads 4 rd (sum (read regs rs1) (unsigned imm)) (omega arith)
  of-acts (Lbu rd rs1 imm) r = of-loads 1 rd (sum (read regs rs1) (unsigned imm)) (omega arith)
  of-acts (Lhu rd rs1 imm) r = of-loads 2 rd (sum (read regs rs1) (unsigned imm)) (omega arith)
  of-acts (Sb rs1 rs2 imm) r = of-stores 1 (sum (read regs rs1) (unsigned imm)) (read regs rs2) (inr (inl refl)) (omega arith)
  of-acts (Sh rs1 rs2 imm) r = of-stores 2 (sum (read regs rs1) (unsigned imm)) (read regs rs2) (inr (inr refl)) (omega arith)
  of-acts (Sw rs1 rs2 imm) r = of-stores 4 (sum (read regs rs1) (unsigned imm)) (read regs rs2) (inl refl) (omega arith)
  of-acts (Addi rd rs1 imm) r = of-computes rd (sum (read regs rs1) (unsigned imm)) (word-low (read regs rs1 + unsigned imm))
  of-acts (Slti rd rs1 imm) r = let b = less_signed (read regs rs1) (unsigned imm) in of-computes rd (flag b) (word-flag b)
  of-acts (Sltiu rd rs1 imm) r = let b = less (read regs rs1) (unsigned imm) in of-computes rd (flag b) (word-flag b)
  of-acts (Xori rd rs1 imm) r =
      of-computes rd (bit_xor (read regs rs1) (unsigned imm)) (xor_lt 32 (read regs rs1) (unsigned imm) (reg rs1) (word-immediate imm r.2))
  of-acts (Ori rd rs1 imm) r =
      of-computes rd (bit_or (read regs rs1) (unsigned imm)) (or_lt 32 (read regs rs1) (unsigned imm) (reg rs1) (word-immediate imm r.2))
  of-acts (Andi rd rs1 imm) r =
      let value = bit_and (read regs rs1) (unsigned imm) in
      of-computes rd value (word-up_to value (read regs rs1) (and_le_l (read regs rs1) (unsigned imm)) (reg rs1))
  of-acts (Slli rd rs1 imm) r =
      of-computes rd (shifted_left (read regs rs1) (unsigned imm)) (word-low (read regs rs1 * 2 ^ (unsigned imm % 32)))
  of-acts (Srli rd rs1 imm) r =
      of-computes rd (shifted_right (read regs rs1) (unsigned imm)) (word-shifted_right (read regs rs1) (unsigned imm) (reg rs1))
  of-acts (Srai rd rs1 imm) r =
      of-computes rd (shifted_right_signed (read regs rs1) (unsigned imm)) (word-low (long (read regs rs1) / 2 ^ (unsigned imm % 32)))
  of-acts (Add rd rs1 rs2) r = of-computes rd (sum (read regs rs1) (read regs rs2)) (word-low (read regs rs1 + read regs rs2))
  of-acts (Sub rd rs1 rs2) r =
      of-computes rd (difference (read regs rs1) (read regs rs2)) (word-low (read regs rs1 + (2 ^ 32 - read regs rs2)))
  of-acts (Sll rd rs1 rs2) r =
      of-computes rd (shifted_left (read regs rs1) (read regs rs2)) (word-low (read regs rs1 * 2 ^ (read regs rs2 % 32)))
  of-acts (Slt rd rs1 rs2) r = let b = less_signed (read regs rs1) (read regs rs2) in of-computes rd (flag b) (word-flag b)
  of-acts (Sltu rd rs1 rs2) r = let b = less (read regs rs1) (read regs rs2) in of-computes rd (flag b) (word-flag b)
  of-acts (Xor rd rs1 rs2) r =
      of-computes rd (bit_xor (read regs rs1) (read regs rs2)) (xor_lt 32 (read regs rs1) (read regs rs2) (reg rs1) (reg rs2))
  of-acts (Srl rd rs1 rs2) r =
      of-computes rd (shifted_right (read regs rs1) (read regs rs2)) (word-shifted_right (read regs rs1) (read regs rs2) (reg rs1))
  of-acts (Sra rd rs1 rs2) r =
      of-computes rd (shifted_right_signed (read regs rs1) (read regs rs2)) (word-low (long (read regs rs1) / 2 ^ (read regs rs2 % 32)))
  of-acts (Or rd rs1 rs2) r =
      of-computes rd (bit_or (read regs rs1) (read regs rs2)) (or_lt 32 (read regs rs1) (read regs rs2) (reg rs1) (reg rs2))
  of-acts (And rd rs1 rs2) r =
      let value = bit_and (read regs rs1) (read regs rs2) in
      of-computes rd value (word-up_to value (read regs rs1) (and_le_l (read regs rs1) (read regs rs2)) (reg rs1))
  of-acts (Fence rd rs1 imm) r = of-goes_on Next
  of-acts Ecall r = of-goes_on Call
  of-acts Ebreak r = of-traps Break
  of-acts (Mul rd rs1 rs2) r = of-computes rd (low_product (read regs rs1) (read regs rs2)) (word-low (read regs rs1 * read regs rs2))
  of-acts (Mulh rd rs1 rs2) r =
      of-computes rd (high_product (long (read regs rs1)) (long (read regs rs2))) (word-high_product (long (read regs rs1)) (long (read regs rs2)))
  of-acts (Mulhsu rd rs1 rs2) r =
      of-computes rd (high_product (long (read regs rs1)) (read regs rs2)) (word-high_product (long (read regs rs1)) (read regs rs2))
  of-acts (Mulhu rd rs1 rs2) r =
      of-computes rd (high_product (read regs rs1) (read regs rs2)) (word-high_product (read regs rs1) (read regs rs2))
  of-acts (Div rd rs1 rs2) r =
      of-computes rd (quotient_signed (read regs rs1) (read regs rs2)) (word-quotient_signed (read regs rs1) (read regs rs2) (reg rs1))
  of-acts (Divu rd rs1 rs2) r =
      of-computes rd (quotient (read regs rs1) (read regs rs2)) (word-quotient (read regs rs1) (read regs rs2) (reg rs1))
  of-acts (Rem rd rs1 rs2) r =
      of-computes rd (remainder_signed (read regs rs1) (read regs rs2)) (word-remainder_signed (read regs rs1) (read regs rs2) (reg rs1))
  of-acts (Remu rd rs1 rs2) r =
      of-computes rd (remainder (read regs rs1) (read regs rs2)) (word-remainder (read regs rs1) (read regs rs2) (reg rs1))

  of-obeys : (o : Option Instr) → IfSome o IsInRange → IsKept regs memory (obeys o regs memory)
  of-obeys None r = of-traps Illegal
  of-obeys (Some i) r = of-acts i r

-- only the low 32 bits of a number tell its instruction, which is in range
same_low : (word : ℕ) → decoded (word % 2 ^ 32) ≡ decoded word
unfolding decoded
same_low word =
    let low : ℕ = word % 2 ^ 32 in
    let a : field low 25 7 ≡ field word 25 7 = omega arith in
    let b : field low 20 5 ≡ field word 20 5 = omega arith in
    let c : field low 15 5 ≡ field word 15 5 = omega arith in
    let d : field low 12 3 ≡ field word 12 3 = omega arith in
    let e : field low 7 5 ≡ field word 7 5 = omega arith in
    let f : low % 2 ^ 7 ≡ word % 2 ^ 7 = omega arith in
    rw (a, b, c, d, e, f)

in_range : (word : ℕ) → IfSome (decoded word) IsInRange
in_range word = subst (λ o. IfSome o IsInRange) (same_low word) (of (decoded (word % 2 ^ 32)) (encoded-decoded (word % 2 ^ 32) (omega arith)))
  where
    of : (o : Option Instr) → Holds (word % 2 ^ 32) o → IfSome o IsInRange
    of None h = tt
    of (Some i) h = h.0

of-runs : (o : Option ℕ) (regs : Registers) (memory : List ℕ) → AreWords regs.x → AreWords memory → IsKept regs memory (runs o regs memory)
of-runs None regs memory x m = of-traps regs memory x m Fetch
of-runs (Some word) regs memory x m = of-obeys regs memory x m (decoded word) (in_range word)

pub kept-exec : (code : List ℕ) (regs : Registers) (memory : List ℕ) → AreWords regs.x → AreWords memory → IsKept regs memory (exec code regs memory)
kept-exec code regs memory x m = of-runs (fetched code regs.pc) regs memory x m
