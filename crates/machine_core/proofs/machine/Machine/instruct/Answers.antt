use Rattle.std.proofs.Common.{refl, ◌≡◌, ◌<◌, ◌∙◌, ap, subst, sym, None}
use Rattle.kernel_calls.specs.KernelRecord.{KernelRecord}
use Rattle.kern_model.specs.State.{prio_of, task_at}
use Rattle.kern_model.specs.Valid.{MayCall}
use Rattle.machine_model.specs.Answers.{Change}
use Rattle.machine_model.specs.Rules.{TaskActs, rule}
use Rattle.machine_model.specs.declared.events.What.TheVariants.{Quiet, St}
use Rattle.machine_laws.specs.RuleTable.{Applies}
use Rattle.machine_core.specs.AnswerView.{request_in}
use Rattle.machine_core.specs.MachineView.{machine_of, parts}
use Rattle.machine_core.proofs.ActingLaws.{resting}
use Rattle.machine_core.proofs.ApplicationLaws.{handler-caller}
use Rattle.machine_core.proofs.InstructFacts.{e, after-hand, call-machine, called-request, calls-line, runs-line, runs-state, trap-hand, trap-machine}
use Rattle.machine_core.proofs.KeptLaws.{has-room, kept-change}
use Rattle.machine_core.proofs.MachineFacts.{instruct-change, none_fit, hand-none, with_method}
use Rattle.rv32_exec.specs.declared.Stepped.TheVariants.{Next, Stored, Call, Trap}
use Rattle.machine_core.proofs.machine.Machine.instruct.Goals as goal

-- nothing is in hand, and the task may call

pub call-requires-clause-free : goal.call-requires-clause-free
call-requires-clause-free g c =
    let a = parts c.self.inside.method c.self.inside.kernel c.self.inside.kinds c.self.inside.ram c.self.inside.program c.self.inside.config c.self.inside.current c.self.inside.frames c.self.inside.later c.self.inside.looks c.self.inside.begun c.self.inside.s c.self.inside.t in
    let acts : rule a.method (machine_of a) ≡ TaskActs = rw (← c.self.view_is) at c.requires.rule in
    let rests : Applies a.method TaskActs (machine_of a) = resting a.method (machine_of a) acts in
    let none = hand-none a.kernel.hand rests.0.in_hand in
    ap (λ (k : KernelRecord). k.hand) c.run_task.ensures.registers ∙ none

pub call-requires-clause-may : goal.call-requires-clause-may
call-requires-clause-may g c =
    let a = parts c.self.inside.method c.self.inside.kernel c.self.inside.kinds c.self.inside.ram c.self.inside.program c.self.inside.config c.self.inside.current c.self.inside.frames c.self.inside.later c.self.inside.looks c.self.inside.begun c.self.inside.s c.self.inside.t in
    let x = c.args.task.0 in
    let may : MayCall x a.kernel.state = rw (← c.self.view_is) at c.requires.may in
    subst (λ (k : KernelRecord). MayCall x k.state) (sym c.run_task.ensures.registers) may

pub call-requires-clause-room : goal.call-requires-clause-room
call-requires-clause-room g c =
    let a = parts c.self.inside.method c.self.inside.kernel c.self.inside.kinds c.self.inside.ram c.self.inside.program c.self.inside.config c.self.inside.current c.self.inside.frames c.self.inside.later c.self.inside.looks c.self.inside.begun c.self.inside.s c.self.inside.t in
    rw c.run_task.ensures.registers (has-room a c.self.invariant)

pub trap-requires-clause-free : goal.trap-requires-clause-free
trap-requires-clause-free g c =
    let a = parts c.self.inside.method c.self.inside.kernel c.self.inside.kinds c.self.inside.ram c.self.inside.program c.self.inside.config c.self.inside.current c.self.inside.frames c.self.inside.later c.self.inside.looks c.self.inside.begun c.self.inside.s c.self.inside.t in
    let acts : rule a.method (machine_of a) ≡ TaskActs = rw (← c.self.view_is) at c.requires.rule in
    let rests : Applies a.method TaskActs (machine_of a) = resting a.method (machine_of a) acts in
    let none = hand-none a.kernel.hand rests.0.in_hand in
    ap (λ (k : KernelRecord). k.hand) c.run_task.ensures.registers ∙ none

pub trap-requires-clause-may : goal.trap-requires-clause-may
trap-requires-clause-may g c =
    let a = parts c.self.inside.method c.self.inside.kernel c.self.inside.kinds c.self.inside.ram c.self.inside.program c.self.inside.config c.self.inside.current c.self.inside.frames c.self.inside.later c.self.inside.looks c.self.inside.begun c.self.inside.s c.self.inside.t in
    let x = c.args.task.0 in
    let may : MayCall x a.kernel.state = rw (← c.self.view_is) at c.requires.may in
    subst (λ (k : KernelRecord). MayCall x k.state) (sym c.run_task.ensures.registers) may

pub after_instruction-requires-clause-free : goal.after_instruction-requires-clause-free
after_instruction-requires-clause-free g c =
    let a = parts c.self.inside.method c.self.inside.kernel c.self.inside.kinds c.self.inside.ram c.self.inside.program c.self.inside.config c.self.inside.current c.self.inside.frames c.self.inside.later c.self.inside.looks c.self.inside.begun c.self.inside.s c.self.inside.t in
    let acts : rule a.method (machine_of a) ≡ TaskActs = rw (← c.self.view_is) at c.requires.rule in
    let rests : Applies a.method TaskActs (machine_of a) = resting a.method (machine_of a) acts in
    let none = hand-none a.kernel.hand rests.0.in_hand in
    ap (λ (k : KernelRecord). k.hand) c.run_task.ensures.registers ∙ none

pub after_instruction-requires-clause-may : goal.after_instruction-requires-clause-may
after_instruction-requires-clause-may g c =
    let a = parts c.self.inside.method c.self.inside.kernel c.self.inside.kinds c.self.inside.ram c.self.inside.program c.self.inside.config c.self.inside.current c.self.inside.frames c.self.inside.later c.self.inside.looks c.self.inside.begun c.self.inside.s c.self.inside.t in
    let x = c.args.task.0 in
    let may : MayCall x a.kernel.state = rw (← c.self.view_is) at c.requires.may in
    subst (λ (k : KernelRecord). MayCall x k.state) (sym c.run_task.ensures.registers) may

pub after_instruction-requires-in-Stored-clause-free : goal.after_instruction-requires-in-Stored-clause-free
after_instruction-requires-in-Stored-clause-free g c =
    let a = parts c.self.inside.method c.self.inside.kernel c.self.inside.kinds c.self.inside.ram c.self.inside.program c.self.inside.config c.self.inside.current c.self.inside.frames c.self.inside.later c.self.inside.looks c.self.inside.begun c.self.inside.s c.self.inside.t in
    let acts : rule a.method (machine_of a) ≡ TaskActs = rw (← c.self.view_is) at c.requires.rule in
    let rests : Applies a.method TaskActs (machine_of a) = resting a.method (machine_of a) acts in
    let none = hand-none a.kernel.hand rests.0.in_hand in
    ap (λ (k : KernelRecord). k.hand) c.run_task.ensures.registers ∙ none

pub after_instruction-requires-in-Stored-clause-may : goal.after_instruction-requires-in-Stored-clause-may
after_instruction-requires-in-Stored-clause-may g c =
    let a = parts c.self.inside.method c.self.inside.kernel c.self.inside.kinds c.self.inside.ram c.self.inside.program c.self.inside.config c.self.inside.current c.self.inside.frames c.self.inside.later c.self.inside.looks c.self.inside.begun c.self.inside.s c.self.inside.t in
    let x = c.args.task.0 in
    let may : MayCall x a.kernel.state = rw (← c.self.view_is) at c.requires.may in
    subst (λ (k : KernelRecord). MayCall x k.state) (sym c.run_task.ensures.registers) may

pub settle-self-inside-requires : goal.settle-self-inside-requires
settle-self-inside-requires g c =
    let a = parts c.self.inside.method c.self.inside.kernel c.self.inside.kinds c.self.inside.ram c.self.inside.program c.self.inside.config c.self.inside.current c.self.inside.frames c.self.inside.later c.self.inside.looks c.self.inside.begun c.self.inside.s c.self.inside.t in
    let acts : rule a.method (machine_of a) ≡ TaskActs = rw (← c.self.view_is) at c.requires.rule in
    let rests : Applies a.method TaskActs (machine_of a) = resting a.method (machine_of a) acts in
    let none = hand-none a.kernel.hand rests.0.in_hand in
    ap (λ (k : KernelRecord). k.hand) c.trap.ensures ∙ ap (λ (k : KernelRecord). k.hand) c.run_task.ensures.registers ∙ none

-- it has run an instruction

pub invariant_of-self : goal.invariant_of-self
invariant_of-self g c =
    let a = parts c.self.inside.method c.self.inside.kernel c.self.inside.kinds c.self.inside.ram c.self.inside.program c.self.inside.config c.self.inside.current c.self.inside.frames c.self.inside.later c.self.inside.looks c.self.inside.begun c.self.inside.s c.self.inside.t in
    let x = c.args.task.0 in
    let acts : rule a.method (machine_of a) ≡ TaskActs = rw (← c.self.view_is) at c.requires.rule in
    let current : a.current.0 ≡ x = rw (← c.self.view_is) at c.requires.current in
    let reads : (task_at a.kernel.state x).answered ≡ None = rw (← c.self.view_is) at c.requires.reads in
    let may : MayCall x a.kernel.state = rw (← c.self.view_is) at c.requires.may in
    let open_yet : a.t < 1000000 = rw (← c.self.view_is) at c.requires.open_yet in
    let rests : Applies a.method TaskActs (machine_of a) = resting a.method (machine_of a) acts in
    let same = instruct-change a.method (machine_of a) x acts current reads in
    let long = c.self.invariant.valid.registers in
    let did : (e a x may).did ≡ Next = sym c.run_task.ensures.did ∙ c.in-Next.is in
    let happened = runs-state a x may c.after_instruction.new.kernel c.run_task.new.self c.run_task.new.ram long c.run_task.ensures.memory c.run_task.ensures.registers c.after_instruction.ensures (Next) Quiet did refl in
    let hand = after-hand a x may c.after_instruction.new.kernel c.run_task.new.self c.run_task.new.ram long c.run_task.ensures.memory c.run_task.ensures.registers c.after_instruction.ensures in
    kept-change a _ c.self.invariant open_yet (with_method a.method (happened ∙ ap (λ (d : Change). d.machine) (sym same)))
    (record { kinds = refl; work = rw hand (none_fit a.config a.kernel.hand rests.0.in_hand); size = c.self.invariant.parts.size; vectors = c.self.invariant.parts.vectors; looks = c.self.invariant.parts.looks })

pub returns-in-Next-clause-line : goal.returns-in-Next-clause-line
returns-in-Next-clause-line g c =
    let a = parts c.self.inside.method c.self.inside.kernel c.self.inside.kinds c.self.inside.ram c.self.inside.program c.self.inside.config c.self.inside.current c.self.inside.frames c.self.inside.later c.self.inside.looks c.self.inside.begun c.self.inside.s c.self.inside.t in
    let x = c.args.task.0 in
    let may : MayCall x a.kernel.state = rw (← c.self.view_is) at c.requires.may in
    let did : (e a x may).did ≡ Next = sym c.run_task.ensures.did ∙ c.in-Next.is in
    rw (← c.self.view_is) (c.requires.blank ∙ runs-line a x may (Next) Quiet did refl)

pub returns-in-Next-clause-machine : goal.returns-in-Next-clause-machine
returns-in-Next-clause-machine g c =
    let a = parts c.self.inside.method c.self.inside.kernel c.self.inside.kinds c.self.inside.ram c.self.inside.program c.self.inside.config c.self.inside.current c.self.inside.frames c.self.inside.later c.self.inside.looks c.self.inside.begun c.self.inside.s c.self.inside.t in
    let x = c.args.task.0 in
    let may : MayCall x a.kernel.state = rw (← c.self.view_is) at c.requires.may in
    let long = c.self.invariant.valid.registers in
    let did : (e a x may).did ≡ Next = sym c.run_task.ensures.did ∙ c.in-Next.is in
    rw (← c.self.view_is)
    (with_method a.method (runs-state a x may c.after_instruction.new.kernel c.run_task.new.self c.run_task.new.ram long c.run_task.ensures.memory c.run_task.ensures.registers c.after_instruction.ensures (Next) Quiet did refl))

pub invariant_of-self-in-Stored : goal.invariant_of-self-in-Stored
invariant_of-self-in-Stored g c =
    let a = parts c.self.inside.method c.self.inside.kernel c.self.inside.kinds c.self.inside.ram c.self.inside.program c.self.inside.config c.self.inside.current c.self.inside.frames c.self.inside.later c.self.inside.looks c.self.inside.begun c.self.inside.s c.self.inside.t in
    let x = c.args.task.0 in
    let acts : rule a.method (machine_of a) ≡ TaskActs = rw (← c.self.view_is) at c.requires.rule in
    let current : a.current.0 ≡ x = rw (← c.self.view_is) at c.requires.current in
    let reads : (task_at a.kernel.state x).answered ≡ None = rw (← c.self.view_is) at c.requires.reads in
    let may : MayCall x a.kernel.state = rw (← c.self.view_is) at c.requires.may in
    let open_yet : a.t < 1000000 = rw (← c.self.view_is) at c.requires.open_yet in
    let rests : Applies a.method TaskActs (machine_of a) = resting a.method (machine_of a) acts in
    let same = instruct-change a.method (machine_of a) x acts current reads in
    let long = c.self.invariant.valid.registers in
    let did : (e a x may).did ≡ Stored c.in-Stored.addr c.in-Stored.width c.in-Stored.value = sym c.run_task.ensures.did ∙ c.in-Stored.is in
    let happened = runs-state a x may c.after_instruction-in-Stored.new.kernel c.run_task.new.self c.run_task.new.ram long c.run_task.ensures.memory c.run_task.ensures.registers c.after_instruction-in-Stored.ensures (Stored c.in-Stored.addr c.in-Stored.width c.in-Stored.value) (St x c.in-Stored.addr c.in-Stored.width c.in-Stored.value) did refl in
    let hand = after-hand a x may c.after_instruction-in-Stored.new.kernel c.run_task.new.self c.run_task.new.ram long c.run_task.ensures.memory c.run_task.ensures.registers c.after_instruction-in-Stored.ensures in
    kept-change a _ c.self.invariant open_yet (with_method a.method (happened ∙ ap (λ (d : Change). d.machine) (sym same)))
    (record { kinds = refl; work = rw hand (none_fit a.config a.kernel.hand rests.0.in_hand); size = c.self.invariant.parts.size; vectors = c.self.invariant.parts.vectors; looks = c.self.invariant.parts.looks })

pub returns-in-Stored-clause-line : goal.returns-in-Stored-clause-line
returns-in-Stored-clause-line g c =
    let a = parts c.self.inside.method c.self.inside.kernel c.self.inside.kinds c.self.inside.ram c.self.inside.program c.self.inside.config c.self.inside.current c.self.inside.frames c.self.inside.later c.self.inside.looks c.self.inside.begun c.self.inside.s c.self.inside.t in
    let x = c.args.task.0 in
    let may : MayCall x a.kernel.state = rw (← c.self.view_is) at c.requires.may in
    let did : (e a x may).did ≡ Stored c.in-Stored.addr c.in-Stored.width c.in-Stored.value = sym c.run_task.ensures.did ∙ c.in-Stored.is in
    rw (← c.self.view_is) (runs-line a x may (Stored c.in-Stored.addr c.in-Stored.width c.in-Stored.value) (St x c.in-Stored.addr c.in-Stored.width c.in-Stored.value) did refl)

pub returns-in-Stored-clause-machine : goal.returns-in-Stored-clause-machine
returns-in-Stored-clause-machine g c =
    let a = parts c.self.inside.method c.self.inside.kernel c.self.inside.kinds c.self.inside.ram c.self.inside.program c.self.inside.config c.self.inside.current c.self.inside.frames c.self.inside.later c.self.inside.looks c.self.inside.begun c.self.inside.s c.self.inside.t in
    let x = c.args.task.0 in
    let may : MayCall x a.kernel.state = rw (← c.self.view_is) at c.requires.may in
    let long = c.self.invariant.valid.registers in
    let did : (e a x may).did ≡ Stored c.in-Stored.addr c.in-Stored.width c.in-Stored.value = sym c.run_task.ensures.did ∙ c.in-Stored.is in
    rw (← c.self.view_is)
    (with_method a.method (runs-state a x may c.after_instruction-in-Stored.new.kernel c.run_task.new.self c.run_task.new.ram long c.run_task.ensures.memory c.run_task.ensures.registers c.after_instruction-in-Stored.ensures (Stored c.in-Stored.addr c.in-Stored.width c.in-Stored.value) (St x c.in-Stored.addr c.in-Stored.width c.in-Stored.value) did refl))

-- it has trapped

pub invariant_of-self-in-Trap : goal.invariant_of-self-in-Trap
invariant_of-self-in-Trap g c =
    let a = parts c.self.inside.method c.self.inside.kernel c.self.inside.kinds c.self.inside.ram c.self.inside.program c.self.inside.config c.self.inside.current c.self.inside.frames c.self.inside.later c.self.inside.looks c.self.inside.begun c.self.inside.s c.self.inside.t in
    let x = c.args.task.0 in
    let acts : rule a.method (machine_of a) ≡ TaskActs = rw (← c.self.view_is) at c.requires.rule in
    let current : a.current.0 ≡ x = rw (← c.self.view_is) at c.requires.current in
    let reads : (task_at a.kernel.state x).answered ≡ None = rw (← c.self.view_is) at c.requires.reads in
    let may : MayCall x a.kernel.state = rw (← c.self.view_is) at c.requires.may in
    let open_yet : a.t < 1000000 = rw (← c.self.view_is) at c.requires.open_yet in
    let rests : Applies a.method TaskActs (machine_of a) = resting a.method (machine_of a) acts in
    let same = instruct-change a.method (machine_of a) x acts current reads in
    let did : (e a x may).did ≡ Trap c.in-Trap.kind c.in-Trap.pc = sym c.run_task.ensures.did ∙ c.in-Trap.is in
    let happened = trap-machine a x may c.trap.new.kernel c.run_task.new.self c.in-Trap.kind c.in-Trap.pc did c.run_task.ensures.registers c.trap.ensures c.run_task.new.ram c.settle-self-inside.result c.run_task.ensures.memory current c.settle-self-inside.ensures in
    let hand = trap-hand a x may c.trap.new.kernel c.run_task.new.self c.in-Trap.kind c.in-Trap.pc did c.run_task.ensures.registers c.trap.ensures in
    kept-change a _ c.self.invariant open_yet (with_method a.method (happened ∙ ap (λ (d : Change). d.machine) (sym same)))
    (record { kinds = refl; work = rw hand (none_fit a.config a.kernel.hand rests.0.in_hand); size = c.self.invariant.parts.size; vectors = c.self.invariant.parts.vectors; looks = c.self.invariant.parts.looks })

pub returns-in-Trap-clause-machine : goal.returns-in-Trap-clause-machine
returns-in-Trap-clause-machine g c =
    let a = parts c.self.inside.method c.self.inside.kernel c.self.inside.kinds c.self.inside.ram c.self.inside.program c.self.inside.config c.self.inside.current c.self.inside.frames c.self.inside.later c.self.inside.looks c.self.inside.begun c.self.inside.s c.self.inside.t in
    let x = c.args.task.0 in
    let current : a.current.0 ≡ x = rw (← c.self.view_is) at c.requires.current in
    let may : MayCall x a.kernel.state = rw (← c.self.view_is) at c.requires.may in
    let did : (e a x may).did ≡ Trap c.in-Trap.kind c.in-Trap.pc = sym c.run_task.ensures.did ∙ c.in-Trap.is in
    rw (← c.self.view_is)
    (with_method a.method (trap-machine a x may c.trap.new.kernel c.run_task.new.self c.in-Trap.kind c.in-Trap.pc did c.run_task.ensures.registers c.trap.ensures c.run_task.new.ram c.settle-self-inside.result c.run_task.ensures.memory current c.settle-self-inside.ensures))

-- it has called

pub returns-in-Call-clause-line : goal.returns-in-Call-clause-line
returns-in-Call-clause-line g c =
    let a = parts c.self.inside.method c.self.inside.kernel c.self.inside.kinds c.self.inside.ram c.self.inside.program c.self.inside.config c.self.inside.current c.self.inside.frames c.self.inside.later c.self.inside.looks c.self.inside.begun c.self.inside.s c.self.inside.t in
    let x = c.args.task.0 in
    let may : MayCall x a.kernel.state = rw (← c.self.view_is) at c.requires.may in
    let memory = (e a x may).memory in
    let did : (e a x may).did ≡ Call = sym c.run_task.ensures.did ∙ c.in-Call.is in
    rw (← c.self.view_is) (calls-line a x may c.call.new.line (request_in c.run_task.new.self x memory) did (c.call.ensures.line memory) (called-request a x may c.run_task.new.self c.self.invariant.valid.registers c.run_task.ensures.registers))

pub returns-in-Call-clause-machine : goal.returns-in-Call-clause-machine
returns-in-Call-clause-machine g c =
    let a = parts c.self.inside.method c.self.inside.kernel c.self.inside.kinds c.self.inside.ram c.self.inside.program c.self.inside.config c.self.inside.current c.self.inside.frames c.self.inside.later c.self.inside.looks c.self.inside.begun c.self.inside.s c.self.inside.t in
    let x = c.args.task.0 in
    let may : MayCall x a.kernel.state = rw (← c.self.view_is) at c.requires.may in
    let memory = (e a x may).memory in
    let did : (e a x may).did ≡ Call = sym c.run_task.ensures.did ∙ c.in-Call.is in
    let prio : prio_of c.run_task.new.self.state x ≡ prio_of a.kernel.state x = ap (λ (k : KernelRecord). prio_of k.state x) c.run_task.ensures.registers in
    let request = called-request a x may c.run_task.new.self c.self.invariant.valid.registers c.run_task.ensures.registers in
    rw (c.call.ensures.kernel memory, ← c.self.view_is, handler-caller x a.kernel.state may)
    (with_method a.method (call-machine a x may c.run_task.new.self c.run_task.new.ram (request_in c.run_task.new.self x memory) (prio_of c.run_task.new.self.state x) did c.run_task.ensures.memory c.run_task.ensures.registers request prio))

pub invariant_of-self-in-Call : goal.invariant_of-self-in-Call
invariant_of-self-in-Call g c =
    let a = parts c.self.inside.method c.self.inside.kernel c.self.inside.kinds c.self.inside.ram c.self.inside.program c.self.inside.config c.self.inside.current c.self.inside.frames c.self.inside.later c.self.inside.looks c.self.inside.begun c.self.inside.s c.self.inside.t in
    let x = c.args.task.0 in
    let acts : rule a.method (machine_of a) ≡ TaskActs = rw (← c.self.view_is) at c.requires.rule in
    let current : a.current.0 ≡ x = rw (← c.self.view_is) at c.requires.current in
    let reads : (task_at a.kernel.state x).answered ≡ None = rw (← c.self.view_is) at c.requires.reads in
    let may : MayCall x a.kernel.state = rw (← c.self.view_is) at c.requires.may in
    let open_yet : a.t < 1000000 = rw (← c.self.view_is) at c.requires.open_yet in
    let rests : Applies a.method TaskActs (machine_of a) = resting a.method (machine_of a) acts in
    let same = instruct-change a.method (machine_of a) x acts current reads in
    let memory = (e a x may).memory in
    let did : (e a x may).did ≡ Call = sym c.run_task.ensures.did ∙ c.in-Call.is in
    let prio : prio_of c.run_task.new.self.state x ≡ prio_of a.kernel.state x = ap (λ (k : KernelRecord). prio_of k.state x) c.run_task.ensures.registers in
    let request = called-request a x may c.run_task.new.self c.self.invariant.valid.registers c.run_task.ensures.registers in
    kept-change a _ c.self.invariant open_yet
    (with_method a.method (rw (c.call.ensures.kernel memory, handler-caller x a.kernel.state may) (call-machine a x may c.run_task.new.self c.run_task.new.ram (request_in c.run_task.new.self x memory) (prio_of c.run_task.new.self.state x) did c.run_task.ensures.memory c.run_task.ensures.registers request prio)
    ∙ ap (λ (d : Change). d.machine) (sym same)))
    (record { kinds = refl; work = rw (c.call.ensures.kernel memory, handler-caller x a.kernel.state may) refl; size = c.self.invariant.parts.size; vectors = c.self.invariant.parts.vectors; looks = c.self.invariant.parts.looks })
