use Rattle.std.proofs.Common.{◌<◌, ◌∙◌, ap}
use Rattle.kern_base.specs.declared.outcomes.Outcome.{Outcome}
use Rattle.kernel_calls.specs.KernelRecord.{KernelRecord, ended}
use Rattle.machine_core.specs.AnswerView.{unit_ended_kernel, unit_ended_line}
use Rattle.machine_core.specs.MachineView.{machine_of, parts}
use Rattle.machine_core.proofs.MachineFacts.{GoesOn, more-machine, more-line, more-kept, some-held}
use Rattle.machine_core.proofs.UnitFacts.{last-of-unit, more-of-unit, unit-hand, unit-kept, unit-line, unit-machine}
use Rattle.machine_core.proofs.machine.Machine.advance_unit.Goals as goal

-- a unit is in hand
pub advance_into-requires : goal.advance_into-requires
advance_into-requires g c =
    let a = parts c.self.inside.method c.self.inside.kernel c.self.inside.kinds c.self.inside.ram c.self.inside.program c.self.inside.config c.self.inside.current c.self.inside.frames c.self.inside.later c.self.inside.looks c.self.inside.begun c.self.inside.s c.self.inside.t in
    record { busy = some-held a.kernel.hand _ (rw (← c.self.view_is) at c.requires.works.2) }

-- the last micro-step

pub settle-self-inside-requires : goal.settle-self-inside-requires
settle-self-inside-requires g c =
    let a = parts c.self.inside.method c.self.inside.kernel c.self.inside.kinds c.self.inside.ram c.self.inside.program c.self.inside.config c.self.inside.current c.self.inside.frames c.self.inside.later c.self.inside.looks c.self.inside.begun c.self.inside.s c.self.inside.t in
    let goes : GoesOn a.method (machine_of a) = rw (← c.self.view_is) at c.requires.rule in
    let l = last-of-unit c.requires.works.0 a.kernel c.advance_into.new.self c.advance_into.result c.advance_into.new.outcome c.requires.works.1 (rw (← c.self.view_is) at c.requires.works.2) c.advance_into.ensures.open_yet c.advance_into.ensures.more c.advance_into.ensures.done c.if-advance_into.true in
    let ended_is = c.end_unit.ensures.kernel ∙ ap (λ (k : KernelRecord). unit_ended_kernel a.config c.advance_into.new.outcome k) l.ends ∙ ap (λ (o : Outcome). unit_ended_kernel a.config o (ended a.kernel l.hand)) l.outcome in
    ap (λ (k : KernelRecord). k.hand) ended_is ∙ unit-hand a.config _ (ended a.kernel l.hand)

pub invariant_of-self : goal.invariant_of-self
invariant_of-self g c =
    let a = parts c.self.inside.method c.self.inside.kernel c.self.inside.kinds c.self.inside.ram c.self.inside.program c.self.inside.config c.self.inside.current c.self.inside.frames c.self.inside.later c.self.inside.looks c.self.inside.begun c.self.inside.s c.self.inside.t in
    let goes : GoesOn a.method (machine_of a) = rw (← c.self.view_is) at c.requires.rule in
    let open_yet : a.t < 1000000 = rw (← c.self.view_is) at c.requires.open_yet in
    let l = last-of-unit c.requires.works.0 a.kernel c.advance_into.new.self c.advance_into.result c.advance_into.new.outcome c.requires.works.1 (rw (← c.self.view_is) at c.requires.works.2) c.advance_into.ensures.open_yet c.advance_into.ensures.more c.advance_into.ensures.done c.if-advance_into.true in
    let ended_is = c.end_unit.ensures.kernel ∙ ap (λ (k : KernelRecord). unit_ended_kernel a.config c.advance_into.new.outcome k) l.ends ∙ ap (λ (o : Outcome). unit_ended_kernel a.config o (ended a.kernel l.hand)) l.outcome in
    unit-kept a l.hand c.self.invariant goes l.held l.last l.is_unit c.end_unit.new.kernel c.settle-self-inside.result ended_is c.settle-self-inside.ensures open_yet

pub returns-then-advance_into-clause-line : goal.returns-then-advance_into-clause-line
returns-then-advance_into-clause-line g c =
    let a = parts c.self.inside.method c.self.inside.kernel c.self.inside.kinds c.self.inside.ram c.self.inside.program c.self.inside.config c.self.inside.current c.self.inside.frames c.self.inside.later c.self.inside.looks c.self.inside.begun c.self.inside.s c.self.inside.t in
    let goes : GoesOn a.method (machine_of a) = rw (← c.self.view_is) at c.requires.rule in
    let l = last-of-unit c.requires.works.0 a.kernel c.advance_into.new.self c.advance_into.result c.advance_into.new.outcome c.requires.works.1 (rw (← c.self.view_is) at c.requires.works.2) c.advance_into.ensures.open_yet c.advance_into.ensures.more c.advance_into.ensures.done c.if-advance_into.true in
    rw (← c.self.view_is) (c.end_unit.ensures.line ∙ ap unit_ended_line l.outcome ∙ unit-line a l.hand c.self.invariant goes l.held l.last l.is_unit)

pub returns-then-advance_into-clause-machine : goal.returns-then-advance_into-clause-machine
returns-then-advance_into-clause-machine g c =
    let a = parts c.self.inside.method c.self.inside.kernel c.self.inside.kinds c.self.inside.ram c.self.inside.program c.self.inside.config c.self.inside.current c.self.inside.frames c.self.inside.later c.self.inside.looks c.self.inside.begun c.self.inside.s c.self.inside.t in
    let goes : GoesOn a.method (machine_of a) = rw (← c.self.view_is) at c.requires.rule in
    let l = last-of-unit c.requires.works.0 a.kernel c.advance_into.new.self c.advance_into.result c.advance_into.new.outcome c.requires.works.1 (rw (← c.self.view_is) at c.requires.works.2) c.advance_into.ensures.open_yet c.advance_into.ensures.more c.advance_into.ensures.done c.if-advance_into.true in
    let ended_is = c.end_unit.ensures.kernel ∙ ap (λ (k : KernelRecord). unit_ended_kernel a.config c.advance_into.new.outcome k) l.ends ∙ ap (λ (o : Outcome). unit_ended_kernel a.config o (ended a.kernel l.hand)) l.outcome in
    rw (← c.self.view_is) (unit-machine a l.hand c.self.invariant goes l.held l.last l.is_unit c.end_unit.new.kernel c.settle-self-inside.result ended_is c.settle-self-inside.ensures)

-- one after which others are left

pub invariant_of-self-else-advance_into : goal.invariant_of-self-else-advance_into
invariant_of-self-else-advance_into g c =
    let a = parts c.self.inside.method c.self.inside.kernel c.self.inside.kinds c.self.inside.ram c.self.inside.program c.self.inside.config c.self.inside.current c.self.inside.frames c.self.inside.later c.self.inside.looks c.self.inside.begun c.self.inside.s c.self.inside.t in
    let goes : GoesOn a.method (machine_of a) = rw (← c.self.view_is) at c.requires.rule in
    let open_yet : a.t < 1000000 = rw (← c.self.view_is) at c.requires.open_yet in
    let l = more-of-unit c.requires.works.0 a.kernel c.advance_into.new.self c.advance_into.result c.advance_into.new.outcome c.requires.works.1 (rw (← c.self.view_is) at c.requires.works.2) c.advance_into.ensures.open_yet c.advance_into.ensures.more c.advance_into.ensures.done c.if-advance_into.false in
    more-kept a l.hand c.advance_into.new.self c.self.invariant goes l.held open_yet l.left l.next

pub returns-else-advance_into-clause-line : goal.returns-else-advance_into-clause-line
returns-else-advance_into-clause-line g c =
    let a = parts c.self.inside.method c.self.inside.kernel c.self.inside.kinds c.self.inside.ram c.self.inside.program c.self.inside.config c.self.inside.current c.self.inside.frames c.self.inside.later c.self.inside.looks c.self.inside.begun c.self.inside.s c.self.inside.t in
    let goes : GoesOn a.method (machine_of a) = rw (← c.self.view_is) at c.requires.rule in
    let l = more-of-unit c.requires.works.0 a.kernel c.advance_into.new.self c.advance_into.result c.advance_into.new.outcome c.requires.works.1 (rw (← c.self.view_is) at c.requires.works.2) c.advance_into.ensures.open_yet c.advance_into.ensures.more c.advance_into.ensures.done c.if-advance_into.false in
    rw (← c.self.view_is) (c.requires.blank ∙ more-line a l.hand c.self.invariant goes l.held l.left)

pub returns-else-advance_into-clause-machine : goal.returns-else-advance_into-clause-machine
returns-else-advance_into-clause-machine g c =
    let a = parts c.self.inside.method c.self.inside.kernel c.self.inside.kinds c.self.inside.ram c.self.inside.program c.self.inside.config c.self.inside.current c.self.inside.frames c.self.inside.later c.self.inside.looks c.self.inside.begun c.self.inside.s c.self.inside.t in
    let goes : GoesOn a.method (machine_of a) = rw (← c.self.view_is) at c.requires.rule in
    let l = more-of-unit c.requires.works.0 a.kernel c.advance_into.new.self c.advance_into.result c.advance_into.new.outcome c.requires.works.1 (rw (← c.self.view_is) at c.requires.works.2) c.advance_into.ensures.open_yet c.advance_into.ensures.more c.advance_into.ensures.done c.if-advance_into.false in
    rw (← c.self.view_is) (more-machine a l.hand c.advance_into.new.self c.self.invariant goes l.held l.left l.next)
