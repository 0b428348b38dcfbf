-- One instruction on registers that agree but for marked ones.
use Rattle.machine_laws.proofs.Common.{◌≡◌, Bool, ℕ, refl, true, List, [], false, ◌∙◌, ◌∷◌, None, Some, sym, Option, subst, ap, ◌==◌, not, ◌^◌, ◌%◌, ◌-◌, false≢true, Service, Execution, exec, Registers, read, Stepped, Call, Next, Stored, Trap, marks_after, next_instruction}
use Rattle.std.specs.Prelude.{◌*◌, ℤ, bit_and, bit_or, bit_xor}
use Rattle.rv32_isa.specs.Formats.{unsigned}
use Rattle.rv32_isa.specs.Decoded.{decoded}
use Rattle.rv32_isa.specs.declared.Instr.{Instr}
use Rattle.rv32_isa.specs.declared.Instr.TheVariants.{Lui, Auipc, Jal, Jalr, Beq, Bne, Blt, Bge, Bltu, Bgeu, Lb, Lh, Lw, Lbu, Lhu, Sb, Sh, Sw, Addi, Slti, Sltiu, Xori, Ori, Andi, Slli, Srli, Srai, Add, Sub, Sll, Slt, Sltu, Xor, Srl, Sra, Or, And, Fence, Ecall, Ebreak, Mul, Mulh, Mulhsu, Mulhu, Div, Divu, Rem, Remu}
use Rattle.rv32_exec.specs.Registers.{written}
use Rattle.rv32_exec.specs.Memory.{allowed, loaded, stored}
use Rattle.rv32_exec.specs.Words.{sum, difference, flag, less, less_signed, extended, long, shifted_left, shifted_right, shifted_right_signed, low_product, high_product, quotient, remainder, quotient_signed, remainder_signed}
use Rattle.rv32_exec.specs.Exec.{Outcome, acts, obeys, runs, fetched, keeps, traps, goes_on, computes, jumps, links, branches, loads, loads_signed, stores}
use Rattle.rv32_exec.specs.declared.TrapKind.{TrapKind}
use Rattle.rv32_exec.specs.declared.TrapKind.TheVariants.{Illegal, Break, Jump, Fetch, Load, Store}
use Rattle.kern_model.specs.State.{without}
use Rattle.machine_model.specs.Marks.{is_marked, reads_of, instruction_reads, instruction_of}
use Rattle.rv32_isa.specs.Operands.{writes}
use Rattle.method_law.specs.Alike.{AgreeBut, SameCall, RunsAlike, is_call}
use Rattle.method_law.proofs.Registers.Calls.{same-call}
use Rattle.method_law.proofs.Events.Choices.{both}
use Rattle.method_law.proofs.Registers.Marks.{first-unmarked, rest-unmarked, agree-written}

module _ (served : Service → Bool) (memory marks : List ℕ) (a b : Registers) (same : AgreeBut marks a b) where
  -- by shape

  -- a trap
  like-trap : (kind : TrapKind) (left : List ℕ) → RunsAlike served left (keeps memory (traps kind a)) (keeps memory (traps kind b))
  like-trap kind left =
      record { did = ap (λ pc. Trap kind pc) same.pc; memory = refl; registers = λ h. absurd (false≢true (sym h)); call = λ h. absurd (false≢true h) }

  -- on to the next word, with nothing written
  like-next : (did : Stepped) → (is_call did ≡ true → SameCall served a b) → RunsAlike served (without 0 marks) (keeps memory (goes_on did a.x a)) (keeps memory (goes_on did b.x b))
  like-next did call =
      record {
        did = refl;
        memory = refl;
        registers = λ h. agree-written marks 0 0 (sum a.pc 4) (sum b.pc 4) a b (ap (λ pc. sum pc 4) same.pc) same;
        call = λ h. let c = call h in record { service = c.service; arguments = c.arguments };
      }

  -- a value into a register
  like-computes : (rd v w : ℕ) → v ≡ w → RunsAlike served (without rd marks) (keeps memory (computes rd v a)) (keeps memory (computes rd w b))
  like-computes rd v w e =
      subst (λ u. RunsAlike served (without rd marks) (keeps memory (computes rd v a)) (keeps memory (computes rd u b))) e
      (record {
        did = refl;
        memory = refl;
        registers = λ h. agree-written marks rd v (sum a.pc 4) (sum b.pc 4) a b (ap (λ pc. sum pc 4) same.pc) same;
        call = λ h. absurd (false≢true h);
      })

  -- a jump, with this written
  like-jumps : (rd v target : ℕ) → RunsAlike served (without rd marks) (keeps memory (jumps target (written a.x rd v) a)) (keeps memory (jumps target (written b.x rd v) b))
  like-jumps rd v target =
      let go : Outcome = record { registers = record { pc = target; x = written a.x rd v }; did = Next } in
      let other : Outcome = record { registers = record { pc = target; x = written b.x rd v }; did = Next } in
      both (λ (o p : Outcome). RunsAlike served (without rd marks) (keeps memory o) (keeps memory p)) (target % 4 == 0) (target % 4 == 0) go (traps Jump a) other (traps Jump b) refl
      (record { did = refl; memory = refl; registers = λ h. agree-written marks rd v target target a b refl same; call = λ h. absurd (false≢true h) })
      (like-trap Jump (without rd marks))

  like-links : (rd target aim : ℕ) → target ≡ aim → RunsAlike served (without rd marks) (keeps memory (links rd target a)) (keeps memory (links rd aim b))
  like-links rd target aim e =
      subst (λ t. RunsAlike served (without rd marks) (keeps memory (links rd target a)) (keeps memory (links rd t b))) e
      (subst (λ pc. RunsAlike served (without rd marks) (keeps memory (links rd target a)) (keeps memory (jumps target (written b.x rd (sum pc 4)) b))) same.pc
      (like-jumps rd (sum a.pc 4) target))

  like-branches : (taken chosen : Bool) (imm : ℤ) → taken ≡ chosen → RunsAlike served (without 0 marks) (keeps memory (branches taken imm a)) (keeps memory (branches chosen imm b))
  like-branches taken chosen imm e =
      both (λ (o p : Outcome). RunsAlike served (without 0 marks) (keeps memory o) (keeps memory p)) taken chosen
      (jumps (sum a.pc (unsigned imm)) a.x a) (goes_on Next a.x a) (jumps (sum b.pc (unsigned imm)) b.x b) (goes_on Next b.x b) e
      (subst (λ pc. RunsAlike served (without 0 marks) (keeps memory (jumps (sum a.pc (unsigned imm)) a.x a)) (keeps memory (jumps (sum pc (unsigned imm)) b.x b))) same.pc
      (like-jumps 0 0 (sum a.pc (unsigned imm))))
      (like-next Next (λ h. absurd (false≢true h)))

  like-loads : (width rd at place : ℕ) → at ≡ place → RunsAlike served (without rd marks) (keeps memory (loads width rd at a memory)) (keeps memory (loads width rd place b memory))
  like-loads width rd at place e =
      subst (λ p. RunsAlike served (without rd marks) (keeps memory (loads width rd at a memory)) (keeps memory (loads width rd p b memory))) e
      (both (λ (o p : Outcome). RunsAlike served (without rd marks) (keeps memory o) (keeps memory p)) (allowed at width) (allowed at width)
      (computes rd (loaded memory at width) a) (traps Load a) (computes rd (loaded memory at width) b) (traps Load b) refl
      (like-computes rd (loaded memory at width) (loaded memory at width) refl) (like-trap Load (without rd marks)))

  like-loads_signed : (width rd at place : ℕ) → at ≡ place → RunsAlike served (without rd marks) (keeps memory (loads_signed width rd at a memory)) (keeps memory (loads_signed width rd place b memory))
  like-loads_signed width rd at place e =
      let v = extended (8 * width) (loaded memory at width) in
      subst (λ p. RunsAlike served (without rd marks) (keeps memory (loads_signed width rd at a memory)) (keeps memory (loads_signed width rd p b memory))) e
      (both (λ (o p : Outcome). RunsAlike served (without rd marks) (keeps memory o) (keeps memory p)) (allowed at width) (allowed at width)
      (computes rd v a) (traps Load a) (computes rd v b) (traps Load b) refl
      (like-computes rd v v refl) (like-trap Load (without rd marks)))

  -- the same bytes to the same place
  like-stored : (width at word : ℕ) → RunsAlike served (without 0 marks) (stores width at word a memory) (stores width at word b memory)
  like-stored width at word =
      let value = word % 2 ^ (8 * width) in
      let after = stored memory at width value in
      both (λ (o p : Execution). RunsAlike served (without 0 marks) o p) (allowed at width) (allowed at width)
      (keeps after (goes_on (Stored at width value) a.x a)) (keeps memory (traps Store a)) (keeps after (goes_on (Stored at width value) b.x b)) (keeps memory (traps Store b)) refl
      (record {
        did = refl;
        memory = refl;
        registers = λ h. agree-written marks 0 0 (sum a.pc 4) (sum b.pc 4) a b (ap (λ pc. sum pc 4) same.pc) same;
        call = λ h. absurd (false≢true h);
      })
      (like-trap Store (without 0 marks))

  like-stores : (width at place word value : ℕ) → at ≡ place → word ≡ value → RunsAlike served (without 0 marks) (stores width at word a memory) (stores width place value b memory)
  like-stores width at place word value e f =
      subst (λ p. RunsAlike served (without 0 marks) (stores width at word a memory) (stores width p value b memory)) e
      (subst (λ v. RunsAlike served (without 0 marks) (stores width at word a memory) (stores width at v b memory)) f (like-stored width at word))

  -- the registers that an instruction reads

  one-read : (r : ℕ) → is_marked marks (r ∷ []) ≡ false → read a r ≡ read b r
  one-read r h = same.unmarked r (first-unmarked marks r [] h)

  first-read : (r q : ℕ) → is_marked marks (r ∷ q ∷ []) ≡ false → read a r ≡ read b r
  first-read r q h = same.unmarked r (first-unmarked marks r (q ∷ []) h)

  second-read : (r q : ℕ) → is_marked marks (r ∷ q ∷ []) ≡ false → read a q ≡ read b q
  second-read r q h = same.unmarked q (first-unmarked marks q [] (rest-unmarked marks r (q ∷ []) h))

  -- what a function makes of them

  by-one : {X : Type 0} (f : ℕ → X) (r : ℕ) → is_marked marks (r ∷ []) ≡ false → f (read a r) ≡ f (read b r)
  by-one f r h = ap f (one-read r h)

  by-first : {X : Type 0} (f : ℕ → X) (r q : ℕ) → is_marked marks (r ∷ q ∷ []) ≡ false → f (read a r) ≡ f (read b r)
  by-first f r q h = ap f (first-read r q h)

  by-two : {X : Type 0} (f : ℕ → ℕ → X) (r q : ℕ) → is_marked marks (r ∷ q ∷ []) ≡ false → f (read a r) (read a q) ≡ f (read b r) (read b q)
  by-two f r q h = ap (λ v. f v (read a q)) (first-read r q h) ∙ ap (λ v. f (read b r) v) (second-read r q h)

  -- each instruction
  like-acts : (instr : Instr) → is_marked marks (instruction_reads served a instr) ≡ false → RunsAlike served (without (writes instr) marks) (acts instr a memory) (acts instr b memory)
  like-acts (Lui rd imm) h = like-computes rd (unsigned imm * 2 ^ 12) (unsigned imm * 2 ^ 12) refl
  like-acts (Auipc rd imm) h = like-computes rd (sum a.pc (unsigned imm * 2 ^ 12)) (sum b.pc (unsigned imm * 2 ^ 12)) (ap (λ pc. sum pc (unsigned imm * 2 ^ 12)) same.pc)
  like-acts (Jal rd imm) h = like-links rd (sum a.pc (unsigned imm)) (sum b.pc (unsigned imm)) (ap (λ pc. sum pc (unsigned imm)) same.pc)
  like-acts (Jalr rd rs1 imm) h = let aim : ℕ → ℕ = λ v. sum v (unsigned imm) - sum v (unsigned imm) % 2 in like-links rd (aim (read a rs1)) (aim (read b rs1)) (by-one aim rs1 h)
  like-acts (Beq rs1 rs2 imm) h = let test : ℕ → ℕ → Bool = λ v w. v == w in like-branches (test (read a rs1) (read a rs2)) (test (read b rs1) (read b rs2)) imm (by-two test rs1 rs2 h)
  like-acts (Bne rs1 rs2 imm) h = let test : ℕ → ℕ → Bool = λ v w. not (v == w) in like-branches (test (read a rs1) (read a rs2)) (test (read b rs1) (read b rs2)) imm (by-two test rs1 rs2 h)
  like-acts (Blt rs1 rs2 imm) h = let test : ℕ → ℕ → Bool = λ v w. less_signed v w in like-branches (test (read a rs1) (read a rs2)) (test (read b rs1) (read b rs2)) imm (by-two test rs1 rs2 h)
  like-acts (Bge rs1 rs2 imm) h = let test : ℕ → ℕ → Bool = λ v w. not (less_signed v w) in like-branches (test (read a rs1) (read a rs2)) (test (read b rs1) (read b rs2)) imm (by-two test rs1 rs2 h)
  like-acts (Bltu rs1 rs2 imm) h = let test : ℕ → ℕ → Bool = λ v w. less v w in like-branches (test (read a rs1) (read a rs2)) (test (read b rs1) (read b rs2)) imm (by-two test rs1 rs2 h)
  like-acts (Bgeu rs1 rs2 imm) h = let test : ℕ → ℕ → Bool = λ v w. not (less v w) in like-branches (test (read a rs1) (read a rs2)) (test (read b rs1) (read b rs2)) imm (by-two test rs1 rs2 h)
  like-acts (Lb rd rs1 imm) h = like-loads_signed 1 rd (sum (read a rs1) (unsigned imm)) (sum (read b rs1) (unsigned imm)) (by-one (λ v. sum v (unsigned imm)) rs1 h)
  like-acts (Lh rd rs1 imm) h = like-loads_signed 2 rd (sum (read a rs1) (unsigned imm)) (sum (read b rs1) (unsigned imm)) (by-one (λ v. sum v (unsigned imm)) rs1 h)
  like-acts (Lw rd rs1 imm) h = like-loads 4 rd (sum (read a rs1) (unsigned imm)) (sum (read b rs1) (unsigned imm)) (by-one (λ v. sum v (unsigned imm)) rs1 h)
  like-acts (Lbu rd rs1 imm) h = like-loads 1 rd (sum (read a rs1) (unsigned imm)) (sum (read b rs1) (unsigned imm)) (by-one (λ v. sum v (unsigned imm)) rs1 h)
  like-acts (Lhu rd rs1 imm) h = like-loads 2 rd (sum (read a rs1) (unsigned imm)) (sum (read b rs1) (unsigned imm)) (by-one (λ v. sum v (unsigned imm)) rs1 h)
  like-acts (Sb rs1 rs2 imm) h = like-stores 1 (sum (read a rs1) (unsigned imm)) (sum (read b rs1) (unsigned imm)) (read a rs2) (read b rs2) (by-first (λ v. sum v (unsigned imm)) rs1 rs2 h) (second-read rs1 rs2 h)
  like-acts (Sh rs1 rs2 imm) h = like-stores 2 (sum (read a rs1) (unsigned imm)) (sum (read b rs1) (unsigned imm)) (read a rs2) (read b rs2) (by-first (λ v. sum v (unsigned imm)) rs1 rs2 h) (second-read rs1 rs2 h)
  like-acts (Sw rs1 rs2 imm) h = like-stores 4 (sum (read a rs1) (unsigned imm)) (sum (read b rs1) (unsigned imm)) (read a rs2) (read b rs2) (by-first (λ v. sum v (unsigned imm)) rs1 rs2 h) (second-read rs1 rs2 h)
  like-acts (Addi rd rs1 imm) h = let f : ℕ → ℕ = λ v. sum v (unsigned imm) in like-computes rd (f (read a rs1)) (f (read b rs1)) (by-one f rs1 h)
  like-acts (Slti rd rs1 imm) h = let f : ℕ → ℕ = λ v. flag (less_signed v (unsigned imm)) in like-computes rd (f (read a rs1)) (f (read b rs1)) (by-one f rs1 h)
  like-acts (Sltiu rd rs1 imm) h = let f : ℕ → ℕ = λ v. flag (less v (unsigned imm)) in like-computes rd (f (read a rs1)) (f (read b rs1)) (by-one f rs1 h)
  like-acts (Xori rd rs1 imm) h = let f : ℕ → ℕ = λ v. bit_xor v (unsigned imm) in like-computes rd (f (read a rs1)) (f (read b rs1)) (by-one f rs1 h)
  like-acts (Ori rd rs1 imm) h = let f : ℕ → ℕ = λ v. bit_or v (unsigned imm) in like-computes rd (f (read a rs1)) (f (read b rs1)) (by-one f rs1 h)
  like-acts (Andi rd rs1 imm) h = let f : ℕ → ℕ = λ v. bit_and v (unsigned imm) in like-computes rd (f (read a rs1)) (f (read b rs1)) (by-one f rs1 h)
  like-acts (Slli rd rs1 imm) h = let f : ℕ → ℕ = λ v. shifted_left v (unsigned imm) in like-computes rd (f (read a rs1)) (f (read b rs1)) (by-one f rs1 h)
  like-acts (Srli rd rs1 imm) h = let f : ℕ → ℕ = λ v. shifted_right v (unsigned imm) in like-computes rd (f (read a rs1)) (f (read b rs1)) (by-one f rs1 h)
  like-acts (Srai rd rs1 imm) h = let f : ℕ → ℕ = λ v. shifted_right_signed v (unsigned imm) in like-computes rd (f (read a rs1)) (f (read b rs1)) (by-one f rs1 h)
  like-acts (Add rd rs1 rs2) h = let f : ℕ → ℕ → ℕ = λ v w. sum v w in like-computes rd (f (read a rs1) (read a rs2)) (f (read b rs1) (read b rs2)) (by-two f rs1 rs2 h)
  like-acts (Sub rd rs1 rs2) h = let f : ℕ → ℕ → ℕ = λ v w. difference v w in like-computes rd (f (read a rs1) (read a rs2)) (f (read b rs1) (read b rs2)) (by-two f rs1 rs2 h)
  like-acts (Sll rd rs1 rs2) h = let f : ℕ → ℕ → ℕ = λ v w. shifted_left v w in like-computes rd (f (read a rs1) (read a rs2)) (f (read b rs1) (read b rs2)) (by-two f rs1 rs2 h)
  like-acts (Slt rd rs1 rs2) h = let f : ℕ → ℕ → ℕ = λ v w. flag (less_signed v w) in like-computes rd (f (read a rs1) (read a rs2)) (f (read b rs1) (read b rs2)) (by-two f rs1 rs2 h)
  like-acts (Sltu rd rs1 rs2) h = let f : ℕ → ℕ → ℕ = λ v w. flag (less v w) in like-computes rd (f (read a rs1) (read a rs2)) (f (read b rs1) (read b rs2)) (by-two f rs1 rs2 h)
  like-acts (Xor rd rs1 rs2) h = let f : ℕ → ℕ → ℕ = λ v w. bit_xor v w in like-computes rd (f (read a rs1) (read a rs2)) (f (read b rs1) (read b rs2)) (by-two f rs1 rs2 h)
  like-acts (Srl rd rs1 rs2) h = let f : ℕ → ℕ → ℕ = λ v w. shifted_right v w in like-computes rd (f (read a rs1) (read a rs2)) (f (read b rs1) (read b rs2)) (by-two f rs1 rs2 h)
  like-acts (Sra rd rs1 rs2) h = let f : ℕ → ℕ → ℕ = λ v w. shifted_right_signed v w in like-computes rd (f (read a rs1) (read a rs2)) (f (read b rs1) (read b rs2)) (by-two f rs1 rs2 h)
  like-acts (Or rd rs1 rs2) h = let f : ℕ → ℕ → ℕ = λ v w. bit_or v w in like-computes rd (f (read a rs1) (read a rs2)) (f (read b rs1) (read b rs2)) (by-two f rs1 rs2 h)
  like-acts (And rd rs1 rs2) h = let f : ℕ → ℕ → ℕ = λ v w. bit_and v w in like-computes rd (f (read a rs1) (read a rs2)) (f (read b rs1) (read b rs2)) (by-two f rs1 rs2 h)
  like-acts (Fence rd rs1 imm) h = like-next Next (λ h. absurd (false≢true h))
  like-acts Ecall h = like-next Call (λ e. same-call marks a b same served h)
  like-acts Ebreak h = like-trap Break (without 0 marks)
  like-acts (Mul rd rs1 rs2) h = let f : ℕ → ℕ → ℕ = λ v w. low_product v w in like-computes rd (f (read a rs1) (read a rs2)) (f (read b rs1) (read b rs2)) (by-two f rs1 rs2 h)
  like-acts (Mulh rd rs1 rs2) h = let f : ℕ → ℕ → ℕ = λ v w. high_product (long v) (long w) in like-computes rd (f (read a rs1) (read a rs2)) (f (read b rs1) (read b rs2)) (by-two f rs1 rs2 h)
  like-acts (Mulhsu rd rs1 rs2) h = let f : ℕ → ℕ → ℕ = λ v w. high_product (long v) w in like-computes rd (f (read a rs1) (read a rs2)) (f (read b rs1) (read b rs2)) (by-two f rs1 rs2 h)
  like-acts (Mulhu rd rs1 rs2) h = let f : ℕ → ℕ → ℕ = λ v w. high_product v w in like-computes rd (f (read a rs1) (read a rs2)) (f (read b rs1) (read b rs2)) (by-two f rs1 rs2 h)
  like-acts (Div rd rs1 rs2) h = let f : ℕ → ℕ → ℕ = λ v w. quotient_signed v w in like-computes rd (f (read a rs1) (read a rs2)) (f (read b rs1) (read b rs2)) (by-two f rs1 rs2 h)
  like-acts (Divu rd rs1 rs2) h = let f : ℕ → ℕ → ℕ = λ v w. quotient v w in like-computes rd (f (read a rs1) (read a rs2)) (f (read b rs1) (read b rs2)) (by-two f rs1 rs2 h)
  like-acts (Rem rd rs1 rs2) h = let f : ℕ → ℕ → ℕ = λ v w. remainder_signed v w in like-computes rd (f (read a rs1) (read a rs2)) (f (read b rs1) (read b rs2)) (by-two f rs1 rs2 h)
  like-acts (Remu rd rs1 rs2) h = let f : ℕ → ℕ → ℕ = λ v w. remainder v w in like-computes rd (f (read a rs1) (read a rs2)) (f (read b rs1) (read b rs2)) (by-two f rs1 rs2 h)

  like-obeys : (o : Option Instr) → is_marked marks (reads_of served a o) ≡ false → RunsAlike served (marks_after o marks) (obeys o a memory) (obeys o b memory)
  like-obeys None h = like-trap Illegal marks
  like-obeys (Some instr) h = like-acts instr h

  like-runs : (o : Option ℕ) → is_marked marks (reads_of served a (instruction_of o)) ≡ false → RunsAlike served (marks_after (instruction_of o) marks) (runs o a memory) (runs o b memory)
  like-runs None h = like-trap Fetch marks
  like-runs (Some word) h = like-obeys (decoded word) h

  pub like-exec : (code : List ℕ) → is_marked marks (reads_of served a (next_instruction code a)) ≡ false → RunsAlike served (marks_after (next_instruction code a) marks) (exec code a memory) (exec code b memory)
  like-exec code h =
      subst (λ pc. RunsAlike served (marks_after (next_instruction code a) marks) (exec code a memory) (runs (fetched code pc) b memory)) same.pc (like-runs (fetched code a.pc) h)
