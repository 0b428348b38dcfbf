-- Registers that agree but for marked ones, and what one instruction makes of them.
use Rattle.std.specs.Prelude.{◌≡◌, ℕ, Bool, true, false, List, length, ◌==◌}
use Rattle.std.specs.List.{list_any}
use Rattle.kern_base.specs.declared.services.Service.{Service}
use Rattle.kern_base.specs.Services.{service_of}
use Rattle.rv32_exec.specs.Registers.{Registers, read}
use Rattle.rv32_exec.specs.Exec.{Execution, exec}
use Rattle.rv32_exec.specs.declared.Stepped.{Stepped}
use Rattle.rv32_exec.specs.declared.Stepped.TheVariants.{Next, Call, Trap, Stored}
use Rattle.machine_model.specs.Marks.{is_marked, reads_of, marks_after, next_instruction}
use Rattle.machine_model.specs.Answers.{arguments}
use Rattle.machine_model.specs.Interrupts.{argument_words}

-- whether a register has a mark
abbrev pub has_mark : List ℕ → ℕ → Bool
has_mark marks r = list_any (λ m. m == r) marks

-- registers with the same pc, that agree but for marked ones
pub record AgreeBut (marks : List ℕ) (a b : Registers) : Type 0 where
  pub pc : a.pc ≡ b.pc
  pub count : length a.x ≡ length b.x
  pub unmarked : (r : ℕ) → has_mark marks r ≡ false → read a r ≡ read b r

-- whether an instruction trapped
abbrev pub is_trap : Stepped → Bool
is_trap Next = false
is_trap Call = false
is_trap (Stored addr width value) = false
is_trap (Trap kind pc) = true

-- whether an instruction was a call
abbrev pub is_call : Stepped → Bool
is_call Next = false
is_call Call = true
is_call (Stored addr width value) = false
is_call (Trap kind pc) = false

-- Calls of one service, and where it is served with the same arguments.
pub record SameCall (served : Service → Bool) (a b : Registers) : Type 0 where
  pub service : service_of (read a 17) ≡ service_of (read b 17)
  pub arguments : served (service_of (read a 17)) ≡ true → arguments (service_of (read a 17)) (argument_words a) ≡ arguments (service_of (read a 17)) (argument_words b)

-- Two executions that come to the same outcome and memory. Unless they trap, their registers agree but for marked ones; and
-- where they call, it is the same call.
pub record RunsAlike (served : Service → Bool) (marks : List ℕ) (e f : Execution) : Type 0 where
  pub did : e.did ≡ f.did
  pub memory : e.memory ≡ f.memory
  pub registers : is_trap e.did ≡ false → AgreeBut marks e.registers f.registers
  pub call : is_call e.did ≡ true → SameCall served e.registers f.registers

-- An instruction that reads no marked register does the same from registers that agree but for marked ones; after it they
-- agree but for those that are still marked.
abbrev pub InstructionsRunAlike : Type 0
InstructionsRunAlike =
    (served : Service → Bool) (code memory marks : List ℕ) (a b : Registers) → AgreeBut marks a b
    → is_marked marks (reads_of served a (next_instruction code a)) ≡ false
    → RunsAlike served (marks_after (next_instruction code a) marks) (exec code a memory) (exec code b memory)
