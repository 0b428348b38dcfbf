-- What the machine's fields come to, where the current task runs an instruction or begins a unit of work.
use Rattle.std.specs.Prelude.{◌==◌, length, slice_index_or, slice_set}
use Rattle.std.proofs.Common.{◌≡◌, ◌<◌, ℕ, ◌+◌, true, false, List, Some, None, refl, sym, ap, ◌∙◌, subst, arith}
use Rattle.std.proofs.lemmas.List.{get_or-set_same, set-get_or}
use Rattle.kern_base.specs.declared.numbers.TaskId.{TaskId}
use Rattle.kern_base.specs.declared.requests.Request.{Request}
use Rattle.kern_model.specs.State.{idle_task, prio_of, task_at}
use Rattle.kern_model.specs.Valid.{MayCall}
use Rattle.served.specs.Served.{program_serves}
use Rattle.kernel_calls.specs.KernelRecord.{KernelRecord, with_state}
use Rattle.kernel_calls.specs.Works.{unit_begun}
use Rattle.rv32_exec.specs.Changes.{Changes}
use Rattle.rv32_exec.specs.Exec.{Execution, exec}
use Rattle.rv32_exec.specs.Registers.{Registers, no_registers}
use Rattle.rv32_exec.specs.declared.Stepped.{Stepped}
use Rattle.rv32_exec.specs.declared.Stepped.TheVariants.{Call, Trap}
use Rattle.rv32_exec.specs.declared.TrapKind.{TrapKind}
use Rattle.rv32_exec.proofs.ChangeLaws.{changes-exec}
use Rattle.machine_model.specs.Acts.{acts, after_instruction, called, instructs, request_of, runs, starts_unit, trapped, works_in_units}
use Rattle.machine_model.specs.Answers.{Change}
use Rattle.machine_model.specs.Machine.{CallOf, registers_at}
use Rattle.machine_model.specs.Rules.{TaskActs, rule}
use Rattle.machine_model.specs.Settling.{settled_task}
use Rattle.machine_model.specs.declared.events.What.{What}
use Rattle.machine_model.specs.declared.events.What.TheVariants.{Quiet as NoLine}
use Rattle.machine_core.specs.AnswerView.{request_in}
use Rattle.machine_core.specs.MachineView.{Parts, IsKept, machine_of, method_machine_of}
use Rattle.machine_core.specs.Valid.{change, changed, most_task_steps}
use Rattle.machine_core.proofs.ApplicationLaws.{acts-caller, below-caller}
use Rattle.machine_core.proofs.KeptLaws.{kept-change}
use Rattle.machine_core.proofs.MachineFacts.{by_rule, with_method}

-- A task that may call runs one instruction.
module _ (a : Parts) (x : ℕ) (may : MayCall x a.kernel.state) where
  abbrev pub e : Execution
  e = exec a.program (registers_at (machine_of a) x) a.ram

  -- the kernel after it
  abbrev pub ran_kernel : KernelRecord
  ran_kernel = record a.kernel { registers = slice_set a.kernel.registers x e.registers }

  acts-by : (d : Stepped) → e.did ≡ d → acts program_serves x None (machine_of a) ≡ instructs program_serves d x e (machine_of a)
  acts-by d did = acts-caller program_serves x (machine_of a) may ∙ ap (λ (s : Stepped). instructs program_serves s x e (machine_of a)) did

  ran-registers : (k : KernelRecord) → length a.kernel.registers ≡ 64 → k ≡ ran_kernel → slice_index_or k.registers x no_registers ≡ e.registers
  ran-registers k long ran =
      let low = below-caller x a.kernel.state may in
      ap (λ (j : KernelRecord). slice_index_or j.registers x no_registers) ran ∙ get_or-set_same a.kernel.registers x e.registers no_registers (omega (arith, long, low))

  -- it has called

  pub called-request : (k : KernelRecord) → length a.kernel.registers ≡ 64 → k ≡ ran_kernel → request_in k x e.memory ≡ request_of program_serves e.registers e.memory
  called-request k long ran = ap (λ (r : Registers). request_of program_serves r e.memory) (ran-registers k long ran)

  pub calls-line : (what : What) (r : Request) → e.did ≡ Call → what ≡ called x r → r ≡ request_of program_serves e.registers e.memory → what ≡ (acts program_serves x None (machine_of a)).what
  calls-line what r did told same = told ∙ rw same refl ∙ ap (λ (c : Change). c.what) (sym (acts-by Call did))

  pub call-machine : (kernel : KernelRecord) (ram : List ℕ) (r : Request) (prio : ℕ) → e.did ≡ Call → ram ≡ e.memory → kernel ≡ ran_kernel → r ≡ request_of program_serves e.registers e.memory → prio ≡ prio_of a.kernel.state x
      → record (machine_of a) { kernel = kernel.state; registers = kernel.registers; memory = ram; in_hand = Some (record { work = CallOf x r prio; done = 0 }) } ≡ (acts program_serves x None (machine_of a)).machine
  call-machine kernel ram r prio did memory state request level = rw (state, memory, request, level) refl ∙ ap (λ (c : Change). c.machine) (sym (acts-by Call did))

  -- it has run another instruction, after which a callback may end
  module _ (kernel ran : KernelRecord) (ram : List ℕ) (long : length a.kernel.registers ≡ 64) (memory : ram ≡ e.memory) (was : ran ≡ ran_kernel) (after : kernel ≡ with_state ran (after_instruction x (slice_index_or ran.registers x no_registers).pc ran.state)) where
    after-kernel : kernel ≡ with_state ran_kernel (after_instruction x e.registers.pc a.kernel.state)
    after-kernel =
        after ∙ ap (λ (r : Registers). with_state ran (after_instruction x r.pc ran.state)) (ran-registers ran long was)
        ∙ ap (λ (k : KernelRecord). with_state k (after_instruction x e.registers.pc k.state)) was

    pub after-hand : kernel.hand ≡ a.kernel.hand
    after-hand = ap (λ (k : KernelRecord). k.hand) after-kernel

    pub runs-state : (d : Stepped) (what : What) → e.did ≡ d → instructs program_serves d x e (machine_of a) ≡ runs what x e (machine_of a)
        → machine_of (record a { kernel = kernel; ram = ram; t = a.t + 1 }) ≡ (acts program_serves x None (machine_of a)).machine
    runs-state d what did same = rw (after-kernel, memory) refl ∙ ap (λ (c : Change). c.machine) (sym (acts-by d did ∙ same))

  pub runs-line : (d : Stepped) (what : What) → e.did ≡ d → instructs program_serves d x e (machine_of a) ≡ runs what x e (machine_of a) → what ≡ (acts program_serves x None (machine_of a)).what
  runs-line d what did same = ap (λ (c : Change). c.what) (sym (acts-by d did ∙ same))

  -- it has trapped, which keeps its registers
  module _ (kernel ran : KernelRecord) (kind : TrapKind) (pc : ℕ) (did : e.did ≡ Trap kind pc) (was : ran ≡ ran_kernel) (ends : kernel ≡ with_state ran (trapped x ran.state)) where
    trap-kernel : kernel ≡ with_state a.kernel (trapped x a.kernel.state)
    trap-kernel =
        let kept : e.registers ≡ registers_at (machine_of a) x = (subst (λ (d : Stepped). Changes d (registers_at (machine_of a) x) e.registers a.ram e.memory) did (changes-exec a.program (registers_at (machine_of a) x) a.ram)).registers in
        let same : slice_set a.kernel.registers x e.registers ≡ a.kernel.registers = ap (slice_set a.kernel.registers x) kept ∙ set-get_or a.kernel.registers x no_registers in
        ends ∙ ap (λ (k : KernelRecord). with_state k (trapped x k.state)) was
        ∙ ap (λ (l : List Registers). let k : KernelRecord = record { state = trapped x a.kernel.state; registers = l; hand = a.kernel.hand } in k) same

    pub trap-hand : kernel.hand ≡ a.kernel.hand
    trap-hand = ap (λ (k : KernelRecord). k.hand) trap-kernel

    pub trap-machine : (ram : List ℕ) (current : TaskId) → ram ≡ e.memory → a.current.0 ≡ x → current.0 ≡ settled_task kernel.state a.later.posts x
        → machine_of (record a { kernel = kernel; ram = ram; current = current; t = a.t + 1 }) ≡ (acts program_serves x None (machine_of a)).machine
    trap-machine ram current memory here settles =
        rw (settles, trap-kernel, memory, here) refl ∙ ap (λ (c : Change). c.machine) (sym (acts-by (Trap kind pc) did))

-- The current task begins a unit of its work.
module _ (a : Parts) (r : rule a.method (machine_of a) ≡ TaskActs) (reads : (task_at a.kernel.state a.current.0).answered ≡ None) (other : (a.current.0 == idle_task) ≡ false) (works : works_in_units a.current.0 a.kernel.state ≡ true) where
  start-change : change a.method (machine_of a) ≡ starts_unit a.current.0 (machine_of a)
  start-change = by_rule a.method (machine_of a) TaskActs r ∙ rw (reads, other, works) refl

  pub start-line : NoLine ≡ (change a.method (machine_of a)).what
  start-line = ap (λ (c : Change). c.what) (sym start-change)

  module _ (n : KernelRecord) (begins : n ≡ record a.kernel { hand = Some (unit_begun a.current.0) }) where
    pub start-machine : method_machine_of (record a { kernel = n }) ≡ changed (method_machine_of a)
    start-machine = with_method a.method (rw begins refl ∙ ap (λ (c : Change). c.machine) (sym start-change))

    pub start-kept : IsKept a → a.t < most_task_steps → IsKept (record a { kernel = n })
    start-kept k open_yet =
        kept-change a (record a { kernel = n }) k open_yet start-machine
        (record { kinds = refl; work = rw begins tt; size = k.parts.size; vectors = k.parts.vectors; looks = k.parts.looks })
