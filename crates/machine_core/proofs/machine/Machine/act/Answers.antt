use Rattle.std.proofs.Common.{rules, ◌≡◌, ◌<◌, ◌∙◌, refl, sym, true, false, None}
use Rattle.std.specs.Prelude.{◌==◌}
use Rattle.kern_model.specs.State.{task_at}
use Rattle.kern_model.specs.Valid.{has_result}
use Rattle.machine_model.specs.Acts.{works_in_units}
use Rattle.machine_model.specs.Rules.{TaskActs, rule}
use Rattle.machine_laws.specs.RuleTable.{Applies}
use Rattle.machine_core.specs.MachineView.{machine_of, parts}
use Rattle.machine_core.proofs.ActingLaws.{resting, acts-as_caller, begins-unit}
use Rattle.machine_core.proofs.InstructFacts.{start-kept, start-line, start-machine}
use Rattle.machine_core.proofs.KeptLaws.{kept-change}
use Rattle.machine_core.proofs.MachineFacts.{finish-machine, finish-fit, hand-none}
use Rattle.machine_core.proofs.machine.Machine.act.Goals as goal

pub tcb-requires : goal.tcb-requires
tcb-requires g c = c.self.invariant.current

-- the task has read its result
pub invariant_of-self : goal.invariant_of-self
invariant_of-self g c =
    let a = parts c.self.inside.method c.self.inside.kernel c.self.inside.kinds c.self.inside.ram c.self.inside.program c.self.inside.config c.self.inside.current c.self.inside.frames c.self.inside.later c.self.inside.looks c.self.inside.begun c.self.inside.s c.self.inside.t in
    let acts : rule a.method (machine_of a) ≡ TaskActs = rw (← c.self.view_is) at c.requires.rule in
    let open_yet : a.t < 1000000 = rw (← c.self.view_is) at c.requires.open_yet in
    let rests : Applies a.method TaskActs (machine_of a) = resting a.method (machine_of a) acts in
    let waits : has_result (task_at a.kernel.state a.current.0).answered ≡ true = search rules in
    let happened = finish-machine a c.finish.new.kernel acts waits c.finish.ensures.kernel c.finish.ensures.no_table in
    kept-change a _ c.self.invariant open_yet happened
    (record { kinds = refl; work = finish-fit a c.finish.new.kernel rests.0.in_hand c.finish.ensures.kernel; size = c.self.invariant.parts.size; vectors = c.self.invariant.parts.vectors; looks = c.self.invariant.parts.looks })

pub returns-then-is_some-clause-machine : goal.returns-then-is_some-clause-machine
returns-then-is_some-clause-machine g c =
    let a = parts c.self.inside.method c.self.inside.kernel c.self.inside.kinds c.self.inside.ram c.self.inside.program c.self.inside.config c.self.inside.current c.self.inside.frames c.self.inside.later c.self.inside.looks c.self.inside.begun c.self.inside.s c.self.inside.t in
    let acts : rule a.method (machine_of a) ≡ TaskActs = rw (← c.self.view_is) at c.requires.rule in
    let waits : has_result (task_at a.kernel.state a.current.0).answered ≡ true = search rules in
    rw (← c.self.view_is) (finish-machine a c.finish.new.kernel acts waits c.finish.ensures.kernel c.finish.ensures.no_table)

pub finish-requires-clause-free : goal.finish-requires-clause-free
finish-requires-clause-free g c =
    let a = parts c.self.inside.method c.self.inside.kernel c.self.inside.kinds c.self.inside.ram c.self.inside.program c.self.inside.config c.self.inside.current c.self.inside.frames c.self.inside.later c.self.inside.looks c.self.inside.begun c.self.inside.s c.self.inside.t in
    let acts : rule a.method (machine_of a) ≡ TaskActs = rw (← c.self.view_is) at c.requires.rule in
    hand-none a.kernel.hand (resting a.method (machine_of a) acts).0.in_hand

-- it begins a unit

pub begin_unit-requires-clause-may : goal.begin_unit-requires-clause-may
begin_unit-requires-clause-may g c =
    let a = parts c.self.inside.method c.self.inside.kernel c.self.inside.kinds c.self.inside.ram c.self.inside.program c.self.inside.config c.self.inside.current c.self.inside.frames c.self.inside.later c.self.inside.looks c.self.inside.begun c.self.inside.s c.self.inside.t in
    let acts : rule a.method (machine_of a) ≡ TaskActs = rw (← c.self.view_is) at c.requires.rule in
    begins-unit a.method (machine_of a) c.self.invariant.valid acts (sym c.works_in_units.ensures ∙ c.if-works_in_units.true)

pub begin_unit-requires-clause-free : goal.begin_unit-requires-clause-free
begin_unit-requires-clause-free g c =
    let a = parts c.self.inside.method c.self.inside.kernel c.self.inside.kinds c.self.inside.ram c.self.inside.program c.self.inside.config c.self.inside.current c.self.inside.frames c.self.inside.later c.self.inside.looks c.self.inside.begun c.self.inside.s c.self.inside.t in
    let acts : rule a.method (machine_of a) ≡ TaskActs = rw (← c.self.view_is) at c.requires.rule in
    hand-none a.kernel.hand (resting a.method (machine_of a) acts).0.in_hand

pub invariant_of-self-then-works_in_units : goal.invariant_of-self-then-works_in_units
invariant_of-self-then-works_in_units g c =
    let a = parts c.self.inside.method c.self.inside.kernel c.self.inside.kinds c.self.inside.ram c.self.inside.program c.self.inside.config c.self.inside.current c.self.inside.frames c.self.inside.later c.self.inside.looks c.self.inside.begun c.self.inside.s c.self.inside.t in
    let acts : rule a.method (machine_of a) ≡ TaskActs = rw (← c.self.view_is) at c.requires.rule in
    let open_yet : a.t < 1000000 = rw (← c.self.view_is) at c.requires.open_yet in
    let reads : (task_at a.kernel.state a.current.0).answered ≡ None = search rules in
    let other : (a.current.0 == 62) ≡ false = search rules in
    start-kept a acts reads other (sym c.works_in_units.ensures ∙ c.if-works_in_units.true) c.begin_unit.new.self c.begin_unit.ensures.begun c.self.invariant open_yet

pub returns-then-works_in_units-clause-line : goal.returns-then-works_in_units-clause-line
returns-then-works_in_units-clause-line g c =
    let a = parts c.self.inside.method c.self.inside.kernel c.self.inside.kinds c.self.inside.ram c.self.inside.program c.self.inside.config c.self.inside.current c.self.inside.frames c.self.inside.later c.self.inside.looks c.self.inside.begun c.self.inside.s c.self.inside.t in
    let acts : rule a.method (machine_of a) ≡ TaskActs = rw (← c.self.view_is) at c.requires.rule in
    let reads : (task_at a.kernel.state a.current.0).answered ≡ None = search rules in
    let other : (a.current.0 == 62) ≡ false = search rules in
    rw (← c.self.view_is) (c.requires.blank ∙ start-line a acts reads other (sym c.works_in_units.ensures ∙ c.if-works_in_units.true))

pub returns-then-works_in_units-clause-machine : goal.returns-then-works_in_units-clause-machine
returns-then-works_in_units-clause-machine g c =
    let a = parts c.self.inside.method c.self.inside.kernel c.self.inside.kinds c.self.inside.ram c.self.inside.program c.self.inside.config c.self.inside.current c.self.inside.frames c.self.inside.later c.self.inside.looks c.self.inside.begun c.self.inside.s c.self.inside.t in
    let acts : rule a.method (machine_of a) ≡ TaskActs = rw (← c.self.view_is) at c.requires.rule in
    let reads : (task_at a.kernel.state a.current.0).answered ≡ None = search rules in
    let other : (a.current.0 == 62) ≡ false = search rules in
    rw (← c.self.view_is) (start-machine a acts reads other (sym c.works_in_units.ensures ∙ c.if-works_in_units.true) c.begin_unit.new.self c.begin_unit.ensures.begun)

-- or runs an instruction, which may be a call
pub instruct-requires-clause-may : goal.instruct-requires-clause-may
instruct-requires-clause-may g c =
    let a = parts c.self.inside.method c.self.inside.kernel c.self.inside.kinds c.self.inside.ram c.self.inside.program c.self.inside.config c.self.inside.current c.self.inside.frames c.self.inside.later c.self.inside.looks c.self.inside.begun c.self.inside.s c.self.inside.t in
    let acts : rule a.method (machine_of a) ≡ TaskActs = rw (← c.self.view_is) at c.requires.rule in
    let none : has_result (task_at a.kernel.state a.current.0).answered ≡ false = search rules in
    let other : (a.current.0 == 62) ≡ false = search rules in
    rw (← c.self.view_is) (acts-as_caller a.method (machine_of a) c.self.invariant.valid acts none other (sym c.works_in_units.ensures ∙ c.if-works_in_units.false))
