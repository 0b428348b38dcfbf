-- An instruction changes what its outcome says.
use Rattle.std.specs.Prelude.{◌-◌, ◌*◌, ◌%◌, ◌^◌, ◌==◌, not, ℤ}
use Rattle.std.proofs.Common.{◌≡◌, ℕ, ◌<◌, Bool, true, false, List, Option, Some, None, if◌then◌else◌, inl, inr, refl, arith}
use Rattle.rv32_isa.specs.Formats.{unsigned}
use Rattle.rv32_isa.specs.Decoded.{decoded}
use Rattle.rv32_isa.specs.declared.Instr.{Instr}
use Rattle.rv32_isa.specs.declared.Instr.TheVariants.{Jal, Jalr, Beq, Bne, Blt, Bge, Bltu, Bgeu, Lb, Lh, Lw, Lbu, Lhu, Sb, Sh, Sw, Ebreak}
use Rattle.rv32_exec.specs.Registers.{Registers, read, written}
use Rattle.rv32_exec.specs.Memory.{IsWidth, allowed, loaded, stored}
use Rattle.rv32_exec.specs.Words.{sum, extended, less, less_signed}
use Rattle.rv32_exec.specs.Exec.{Execution, Outcome, keeps, traps, goes_on, computes, jumps, branches, loads, loads_signed, stores, acts, obeys, fetched, runs, exec}
use Rattle.rv32_exec.specs.Changes.{Changes}
use Rattle.rv32_exec.specs.declared.Stepped.TheVariants.{Next, Stored}
use Rattle.rv32_exec.specs.declared.TrapKind.{TrapKind}
use Rattle.rv32_exec.specs.declared.TrapKind.TheVariants.{Illegal, Break, Jump, Fetch, Load, Store}

-- of a choice, what holds of each side where it is taken
pub choice : {A : Type 0} (P : A → Type 0) (b : Bool) (x y : A) → (b ≡ true → P x) → (b ≡ false → P y) → P (if b then x else y)
choice P true x y p q = p refl
choice P false x y p q = q refl

abbrev From : Registers → List ℕ → Execution → Type 0
From regs memory e = Changes e.did regs e.registers memory e.memory

from-traps : (kind : TrapKind) (regs : Registers) (memory : List ℕ) → From regs memory (keeps memory (traps kind regs))
from-traps kind regs memory = record { registers = refl; memory = refl; at = refl }

from-jumps : (target : ℕ) (x : List ℕ) (regs : Registers) (memory : List ℕ) → From regs memory (keeps memory (jumps target x regs))
from-jumps target x regs memory =
    choice (λ (o : Outcome). From regs memory (keeps memory o)) (target % 4 == 0) (record { registers = record { pc = target; x = x }; did = Next }) (traps Jump regs)
    (λ _. refl) (λ _. from-traps Jump regs memory)

from-branches : (taken : Bool) (imm : ℤ) (regs : Registers) (memory : List ℕ) → From regs memory (keeps memory (branches taken imm regs))
from-branches true imm regs memory = from-jumps (sum regs.pc (unsigned imm)) regs.x regs memory
from-branches false imm regs memory = refl

from-loads : (width rd addr : ℕ) (regs : Registers) (memory : List ℕ) → From regs memory (keeps memory (loads width rd addr regs memory))
from-loads width rd addr regs memory =
    choice (λ (o : Outcome). From regs memory (keeps memory o)) (allowed addr width) (computes rd (loaded memory addr width) regs) (traps Load regs)
    (λ _. refl) (λ _. from-traps Load regs memory)

from-loads_signed : (width rd addr : ℕ) (regs : Registers) (memory : List ℕ) → From regs memory (keeps memory (loads_signed width rd addr regs memory))
from-loads_signed width rd addr regs memory =
    choice (λ (o : Outcome). From regs memory (keeps memory o)) (allowed addr width) (computes rd (extended (8 * width) (loaded memory addr width)) regs) (traps Load regs)
    (λ _. refl) (λ _. from-traps Load regs memory)

from-stores : (width addr word : ℕ) (regs : Registers) (memory : List ℕ) → IsWidth width → word % 2 ^ (8 * width) < 2 ^ (8 * width) → From regs memory (stores width addr word regs memory)
from-stores width addr word regs memory is low =
    let value = word % 2 ^ (8 * width) in
    choice (From regs memory) (allowed addr width) (keeps (stored memory addr width value) (goes_on (Stored addr width value) regs.x regs)) (keeps memory (traps Store regs))
    (λ place. record { size = is; place = place; fits = low; memory = refl }) (λ _. from-traps Store regs memory)

from-acts : (i : Instr) (regs : Registers) (memory : List ℕ) → From regs memory (acts i regs memory)
from-acts (Jal rd imm) regs memory = from-jumps (sum regs.pc (unsigned imm)) (written regs.x rd (sum regs.pc 4)) regs memory
from-acts (Jalr rd rs1 imm) regs memory =
    let target = sum (read regs rs1) (unsigned imm) in
    from-jumps (target - target % 2) (written regs.x rd (sum regs.pc 4)) regs memory
from-acts (Beq rs1 rs2 imm) regs memory = from-branches (read regs rs1 == read regs rs2) imm regs memory
from-acts (Bne rs1 rs2 imm) regs memory = from-branches (not (read regs rs1 == read regs rs2)) imm regs memory
from-acts (Blt rs1 rs2 imm) regs memory = from-branches (less_signed (read regs rs1) (read regs rs2)) imm regs memory
from-acts (Bge rs1 rs2 imm) regs memory = from-branches (not (less_signed (read regs rs1) (read regs rs2))) imm regs memory
from-acts (Bltu rs1 rs2 imm) regs memory = from-branches (less (read regs rs1) (read regs rs2)) imm regs memory
from-acts (Bgeu rs1 rs2 imm) regs memory = from-branches (not (less (read regs rs1) (read regs rs2))) imm regs memory
from-acts (Lb rd rs1 imm) regs memory = from-loads_signed 1 rd (sum (read regs rs1) (unsigned imm)) regs memory
from-acts (Lh rd rs1 imm) regs memory = from-loads_signed 2 rd (sum (read regs rs1) (unsigned imm)) regs memory
from-acts (Lw rd rs1 imm) regs memory = from-loads 4 rd (sum (read regs rs1) (unsigned imm)) regs memory
from-acts (Lbu rd rs1 imm) regs memory = from-loads 1 rd (sum (read regs rs1) (unsigned imm)) regs memory
from-acts (Lhu rd rs1 imm) regs memory = from-loads 2 rd (sum (read regs rs1) (unsigned imm)) regs memory
from-acts (Sb rs1 rs2 imm) regs memory = from-stores 1 (sum (read regs rs1) (unsigned imm)) (read regs rs2) regs memory (inr (inl refl)) (omega arith)
from-acts (Sh rs1 rs2 imm) regs memory = from-stores 2 (sum (read regs rs1) (unsigned imm)) (read regs rs2) regs memory (inr (inr refl)) (omega arith)
from-acts (Sw rs1 rs2 imm) regs memory = from-stores 4 (sum (read regs rs1) (unsigned imm)) (read regs rs2) regs memory (inl refl) (omega arith)
from-acts Ebreak regs memory = from-traps Break regs memory
from-acts _ regs memory = refl

from-obeys : (o : Option Instr) (regs : Registers) (memory : List ℕ) → From regs memory (obeys o regs memory)
from-obeys None regs memory = from-traps Illegal regs memory
from-obeys (Some i) regs memory = from-acts i regs memory

from-runs : (o : Option ℕ) (regs : Registers) (memory : List ℕ) → From regs memory (runs o regs memory)
from-runs None regs memory = from-traps Fetch regs memory
from-runs (Some word) regs memory = from-obeys (decoded word) regs memory

pub changes-exec : (code : List ℕ) (regs : Registers) (memory : List ℕ) → Changes (exec code regs memory).did regs (exec code regs memory).registers memory (exec code regs memory).memory
changes-exec code regs memory = from-runs (fetched code regs.pc) regs memory
