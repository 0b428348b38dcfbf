-- An instruction that is no store keeps the memory.
use Rattle.std.specs.Prelude.{◌-◌, ◌*◌, ◌%◌, ◌^◌, ◌==◌, not, ℤ}
use Rattle.std.proofs.Common.{◌≡◌, ℕ, Bool, true, false, List, Option, Some, None, refl, subst}
use Rattle.rv32_isa.specs.Formats.{unsigned}
use Rattle.rv32_isa.specs.Decoded.{decoded}
use Rattle.rv32_isa.specs.declared.Instr.{Instr}
use Rattle.rv32_isa.specs.declared.Instr.TheVariants.{Jal, Jalr, Beq, Bne, Blt, Bge, Bltu, Bgeu, Lb, Lh, Lw, Lbu, Lhu, Sb, Sh, Sw}
use Rattle.rv32_exec.specs.Registers.{Registers, read, written}
use Rattle.rv32_exec.specs.Memory.{allowed, loaded, stored}
use Rattle.rv32_exec.specs.Words.{sum, extended, less, less_signed}
use Rattle.rv32_exec.specs.Exec.{Execution, Outcome, keeps, traps, goes_on, computes, jumps, branches, loads, loads_signed, stores, acts, obeys, fetched, runs, exec}
use Rattle.rv32_exec.specs.declared.Stepped.{Stepped}
use Rattle.rv32_exec.specs.declared.Stepped.TheVariants.{Next, Call, Trap, Stored}
use Rattle.rv32_exec.specs.declared.TrapKind.{TrapKind}
use Rattle.rv32_exec.specs.declared.TrapKind.TheVariants.{Jump, Load, Store}
use Rattle.kern_model.proofs.Lemmas.{choice}

-- where it has not stored, the memory is the same
abbrev pub KeepsIf : Stepped → List ℕ → List ℕ → Type 0
KeepsIf (Stored addr width value) before after = Unit {0}
KeepsIf did before after = after ≡ before

abbrev Keeps : List ℕ → Execution → Type 0
Keeps memory e = KeepsIf e.did memory e.memory

keeps-jumps : (target : ℕ) (x : List ℕ) (regs : Registers) (memory : List ℕ) → Keeps memory (keeps memory (jumps target x regs))
keeps-jumps target x regs memory =
    choice (λ (o : Outcome). Keeps memory (keeps memory o)) (target % 4 == 0) (record { registers = record { pc = target; x = x }; did = Next }) (traps Jump regs) refl refl

keeps-branches : (taken : Bool) (imm : ℤ) (regs : Registers) (memory : List ℕ) → Keeps memory (keeps memory (branches taken imm regs))
keeps-branches true imm regs memory = keeps-jumps (sum regs.pc (unsigned imm)) regs.x regs memory
keeps-branches false imm regs memory = refl

keeps-loads : (width rd addr : ℕ) (regs : Registers) (memory : List ℕ) → Keeps memory (keeps memory (loads width rd addr regs memory))
keeps-loads width rd addr regs memory =
    choice (λ (o : Outcome). Keeps memory (keeps memory o)) (allowed addr width) (computes rd (loaded memory addr width) regs) (traps Load regs) refl refl

keeps-loads_signed : (width rd addr : ℕ) (regs : Registers) (memory : List ℕ) → Keeps memory (keeps memory (loads_signed width rd addr regs memory))
keeps-loads_signed width rd addr regs memory =
    choice (λ (o : Outcome). Keeps memory (keeps memory o)) (allowed addr width) (computes rd (extended (8 * width) (loaded memory addr width)) regs) (traps Load regs) refl refl

keeps-stores : (width addr word : ℕ) (regs : Registers) (memory : List ℕ) → Keeps memory (stores width addr word regs memory)
keeps-stores width addr word regs memory =
    let value = word % 2 ^ (8 * width) in
    choice (Keeps memory) (allowed addr width) (keeps (stored memory addr width value) (goes_on (Stored addr width value) regs.x regs)) (keeps memory (traps Store regs)) tt refl

keeps-acts : (i : Instr) (regs : Registers) (memory : List ℕ) → Keeps memory (acts i regs memory)
keeps-acts (Jal rd imm) regs memory = keeps-jumps (sum regs.pc (unsigned imm)) (written regs.x rd (sum regs.pc 4)) regs memory
keeps-acts (Jalr rd rs1 imm) regs memory =
    let target = sum (read regs rs1) (unsigned imm) in
    keeps-jumps (target - target % 2) (written regs.x rd (sum regs.pc 4)) regs memory
keeps-acts (Beq rs1 rs2 imm) regs memory = keeps-branches (read regs rs1 == read regs rs2) imm regs memory
keeps-acts (Bne rs1 rs2 imm) regs memory = keeps-branches (not (read regs rs1 == read regs rs2)) imm regs memory
keeps-acts (Blt rs1 rs2 imm) regs memory = keeps-branches (less_signed (read regs rs1) (read regs rs2)) imm regs memory
keeps-acts (Bge rs1 rs2 imm) regs memory = keeps-branches (not (less_signed (read regs rs1) (read regs rs2))) imm regs memory
keeps-acts (Bltu rs1 rs2 imm) regs memory = keeps-branches (less (read regs rs1) (read regs rs2)) imm regs memory
keeps-acts (Bgeu rs1 rs2 imm) regs memory = keeps-branches (not (less (read regs rs1) (read regs rs2))) imm regs memory
keeps-acts (Lb rd rs1 imm) regs memory = keeps-loads_signed 1 rd (sum (read regs rs1) (unsigned imm)) regs memory
keeps-acts (Lh rd rs1 imm) regs memory = keeps-loads_signed 2 rd (sum (read regs rs1) (unsigned imm)) regs memory
keeps-acts (Lw rd rs1 imm) regs memory = keeps-loads 4 rd (sum (read regs rs1) (unsigned imm)) regs memory
keeps-acts (Lbu rd rs1 imm) regs memory = keeps-loads 1 rd (sum (read regs rs1) (unsigned imm)) regs memory
keeps-acts (Lhu rd rs1 imm) regs memory = keeps-loads 2 rd (sum (read regs rs1) (unsigned imm)) regs memory
keeps-acts (Sb rs1 rs2 imm) regs memory = keeps-stores 1 (sum (read regs rs1) (unsigned imm)) (read regs rs2) regs memory
keeps-acts (Sh rs1 rs2 imm) regs memory = keeps-stores 2 (sum (read regs rs1) (unsigned imm)) (read regs rs2) regs memory
keeps-acts (Sw rs1 rs2 imm) regs memory = keeps-stores 4 (sum (read regs rs1) (unsigned imm)) (read regs rs2) regs memory
keeps-acts _ regs memory = refl

keeps-obeys : (o : Option Instr) (regs : Registers) (memory : List ℕ) → Keeps memory (obeys o regs memory)
keeps-obeys None regs memory = refl
keeps-obeys (Some i) regs memory = keeps-acts i regs memory

keeps-runs : (o : Option ℕ) (regs : Registers) (memory : List ℕ) → Keeps memory (runs o regs memory)
keeps-runs None regs memory = refl
keeps-runs (Some word) regs memory = keeps-obeys (decoded word) regs memory

pub keeps-exec : (code : List ℕ) (regs : Registers) (memory : List ℕ) → KeepsIf (exec code regs memory).did memory (exec code regs memory).memory
keeps-exec code regs memory = keeps-runs (fetched code regs.pc) regs memory

-- by what came of it
quiet : (code : List ℕ) (regs : Registers) (memory : List ℕ) (did : Stepped) → (exec code regs memory).did ≡ did → KeepsIf did memory (exec code regs memory).memory
quiet code regs memory did same = subst (λ (d : Stepped). KeepsIf d memory (exec code regs memory).memory) same (keeps-exec code regs memory)

pub quiet-next : (code : List ℕ) (regs : Registers) (memory : List ℕ) → (exec code regs memory).did ≡ Next → (exec code regs memory).memory ≡ memory
quiet-next code regs memory did = quiet code regs memory Next did

pub quiet-call : (code : List ℕ) (regs : Registers) (memory : List ℕ) → (exec code regs memory).did ≡ Call → (exec code regs memory).memory ≡ memory
quiet-call code regs memory did = quiet code regs memory Call did

pub quiet-trap : (code : List ℕ) (regs : Registers) (memory : List ℕ) (kind : TrapKind) (pc : ℕ) → (exec code regs memory).did ≡ Trap kind pc → (exec code regs memory).memory ≡ memory
quiet-trap code regs memory kind pc did = quiet code regs memory (Trap kind pc) did
