use Rattle.std.proofs.Common.{◌<◌, ◌∙◌, ap, sym}
use Rattle.std.specs.Prelude.{◌==◌, ◌&&◌}
use Rattle.kern_base.specs.Services.{argument_count}
use Rattle.kernel_calls.specs.KernelRecord.{KernelRecord}
use Rattle.kernel_calls.specs.Works.{effect_of}
use Rattle.machine_model.specs.Answers.{arguments}
use Rattle.machine_model.specs.Interrupts.{answer_in}
use Rattle.machine_model.specs.Queue.{Queued}
use Rattle.machine_model.specs.Steps.{some_readied}
use Rattle.machine_model.specs.declared.events.What.TheVariants.{Take}
use Rattle.machine_core.specs.MachineView.{machine_of, parts}
use Rattle.machine_core.proofs.MachineFacts.{GoesOn, more-machine, more-line, more-kept, take-kept, take-machine, take-told, waits-take}
use Rattle.machine_core.proofs.TakeFacts.{last-of-take, more-of-take}
use Rattle.machine_core.proofs.machine.Machine.advance_take.Goals as goal

-- the last micro-step
pub drop_front-requires : goal.drop_front-requires
drop_front-requires g c =
    let a = parts c.self.inside.method c.self.inside.kernel c.self.inside.kinds c.self.inside.ram c.self.inside.program c.self.inside.config c.self.inside.current c.self.inside.frames c.self.inside.later c.self.inside.looks c.self.inside.begun c.self.inside.s c.self.inside.t in
    let q : Queued = record { service = c.args.service; args = c.args.args; saved = c.args.saved.0 } in
    let goes : GoesOn a.method (machine_of a) = rw (← c.self.view_is) at c.requires.rule in
    let l = last-of-take q a.kernel c.perform-last.new.kernel c.perform-last.result.0 c.perform-last.new.outcome c.requires.takes.0 (rw (← c.self.view_is) at c.requires.takes.1) c.perform-last.ensures.open_yet c.perform-last.ensures.more c.perform-last.ensures.done c.if-last.true in
    waits-take a l.hand c.self.invariant goes l.held l.last l.no_unit l.takes

pub settle-self-inside-requires : goal.settle-self-inside-requires
settle-self-inside-requires g c =
    let a = parts c.self.inside.method c.self.inside.kernel c.self.inside.kinds c.self.inside.ram c.self.inside.program c.self.inside.config c.self.inside.current c.self.inside.frames c.self.inside.later c.self.inside.looks c.self.inside.begun c.self.inside.s c.self.inside.t in
    let q : Queued = record { service = c.args.service; args = c.args.args; saved = c.args.saved.0 } in
    let l = last-of-take q a.kernel c.perform-last.new.kernel c.perform-last.result.0 c.perform-last.new.outcome c.requires.takes.0 (rw (← c.self.view_is) at c.requires.takes.1) c.perform-last.ensures.open_yet c.perform-last.ensures.more c.perform-last.ensures.done c.if-last.true in
    ap (λ (k : KernelRecord). k.hand) l.ends

pub invariant_of-self : goal.invariant_of-self
invariant_of-self g c =
    let a = parts c.self.inside.method c.self.inside.kernel c.self.inside.kinds c.self.inside.ram c.self.inside.program c.self.inside.config c.self.inside.current c.self.inside.frames c.self.inside.later c.self.inside.looks c.self.inside.begun c.self.inside.s c.self.inside.t in
    let q : Queued = record { service = c.args.service; args = c.args.args; saved = c.args.saved.0 } in
    let goes : GoesOn a.method (machine_of a) = rw (← c.self.view_is) at c.requires.rule in
    let open_yet : a.t < 1000000 = rw (← c.self.view_is) at c.requires.open_yet in
    let l = last-of-take q a.kernel c.perform-last.new.kernel c.perform-last.result.0 c.perform-last.new.outcome c.requires.takes.0 (rw (← c.self.view_is) at c.requires.takes.1) c.perform-last.ensures.open_yet c.perform-last.ensures.more c.perform-last.ensures.done c.if-last.true in
    take-kept a l.hand c.self.invariant goes l.held l.last l.no_unit l.takes c.perform-last.new.kernel c.drop_front.new.self c.settle-self-inside.result l.ends c.drop_front.ensures c.settle-self-inside.ensures open_yet

pub returns-then-last-clause-machine : goal.returns-then-last-clause-machine
returns-then-last-clause-machine g c =
    let a = parts c.self.inside.method c.self.inside.kernel c.self.inside.kinds c.self.inside.ram c.self.inside.program c.self.inside.config c.self.inside.current c.self.inside.frames c.self.inside.later c.self.inside.looks c.self.inside.begun c.self.inside.s c.self.inside.t in
    let q : Queued = record { service = c.args.service; args = c.args.args; saved = c.args.saved.0 } in
    let goes : GoesOn a.method (machine_of a) = rw (← c.self.view_is) at c.requires.rule in
    let l = last-of-take q a.kernel c.perform-last.new.kernel c.perform-last.result.0 c.perform-last.new.outcome c.requires.takes.0 (rw (← c.self.view_is) at c.requires.takes.1) c.perform-last.ensures.open_yet c.perform-last.ensures.more c.perform-last.ensures.done c.if-last.true in
    rw (← c.self.view_is) (take-machine a l.hand c.self.invariant goes l.held l.last l.no_unit l.takes c.perform-last.new.kernel c.drop_front.new.self c.settle-self-inside.result l.ends c.drop_front.ensures c.settle-self-inside.ensures)

pub returns-then-last-clause-line : goal.returns-then-last-clause-line
returns-then-last-clause-line g c =
    let a = parts c.self.inside.method c.self.inside.kernel c.self.inside.kinds c.self.inside.ram c.self.inside.program c.self.inside.config c.self.inside.current c.self.inside.frames c.self.inside.later c.self.inside.looks c.self.inside.begun c.self.inside.s c.self.inside.t in
    let q : Queued = record { service = c.args.service; args = c.args.args; saved = c.args.saved.0 } in
    let goes : GoesOn a.method (machine_of a) = rw (← c.self.view_is) at c.requires.rule in
    let l = last-of-take q a.kernel c.perform-last.new.kernel c.perform-last.result.0 c.perform-last.new.outcome c.requires.takes.0 (rw (← c.self.view_is) at c.requires.takes.1) c.perform-last.ensures.open_yet c.perform-last.ensures.more c.perform-last.ensures.done c.if-last.true in
    let same = c.perform-last.ensures.same ∙ ap (λ (k : KernelRecord). (a.config.insert == 1) && some_readied c.args.saved.0 a.kernel.state.tasks k.state.tasks) l.ends
    ∙ ap (λ (r : Queued). (a.config.insert == 1) && some_readied r.saved a.kernel.state.tasks (effect_of l.hand a.kernel.state).kernel.tasks) (sym l.queued) in
    let told = c.take_line.ensures
    ∙ ap (λ (r : Queued). let o = answer_in c.perform-last.new.outcome in Take r.service (arguments r.service r.args) (argument_count r.service) o.err o.value c.perform-last.result.1) (sym l.queued)
    ∙ ap (λ u. let o = answer_in u in Take l.hand.request.service (arguments l.hand.request.service l.hand.request.args) (argument_count l.hand.request.service) o.err o.value c.perform-last.result.1) l.outcome in
    rw (← c.self.view_is) (take-told a l.hand c.self.invariant goes l.held l.last l.no_unit l.takes c.take_line.new.line c.perform-last.result.1 told same)

-- one after which others are left
pub invariant_of-self-else-last : goal.invariant_of-self-else-last
invariant_of-self-else-last g c =
    let a = parts c.self.inside.method c.self.inside.kernel c.self.inside.kinds c.self.inside.ram c.self.inside.program c.self.inside.config c.self.inside.current c.self.inside.frames c.self.inside.later c.self.inside.looks c.self.inside.begun c.self.inside.s c.self.inside.t in
    let q : Queued = record { service = c.args.service; args = c.args.args; saved = c.args.saved.0 } in
    let goes : GoesOn a.method (machine_of a) = rw (← c.self.view_is) at c.requires.rule in
    let open_yet : a.t < 1000000 = rw (← c.self.view_is) at c.requires.open_yet in
    let l = more-of-take q a.kernel c.perform-last.new.kernel c.perform-last.result.0 c.perform-last.new.outcome c.requires.takes.0 (rw (← c.self.view_is) at c.requires.takes.1) c.perform-last.ensures.open_yet c.perform-last.ensures.more c.perform-last.ensures.done c.if-last.false in
    more-kept a l.hand c.perform-last.new.kernel c.self.invariant goes l.held open_yet l.left l.next

pub returns-else-last-clause-line : goal.returns-else-last-clause-line
returns-else-last-clause-line g c =
    let a = parts c.self.inside.method c.self.inside.kernel c.self.inside.kinds c.self.inside.ram c.self.inside.program c.self.inside.config c.self.inside.current c.self.inside.frames c.self.inside.later c.self.inside.looks c.self.inside.begun c.self.inside.s c.self.inside.t in
    let q : Queued = record { service = c.args.service; args = c.args.args; saved = c.args.saved.0 } in
    let goes : GoesOn a.method (machine_of a) = rw (← c.self.view_is) at c.requires.rule in
    let l = more-of-take q a.kernel c.perform-last.new.kernel c.perform-last.result.0 c.perform-last.new.outcome c.requires.takes.0 (rw (← c.self.view_is) at c.requires.takes.1) c.perform-last.ensures.open_yet c.perform-last.ensures.more c.perform-last.ensures.done c.if-last.false in
    rw (← c.self.view_is) (c.requires.blank ∙ more-line a l.hand c.self.invariant goes l.held l.left)

pub returns-else-last-clause-machine : goal.returns-else-last-clause-machine
returns-else-last-clause-machine g c =
    let a = parts c.self.inside.method c.self.inside.kernel c.self.inside.kinds c.self.inside.ram c.self.inside.program c.self.inside.config c.self.inside.current c.self.inside.frames c.self.inside.later c.self.inside.looks c.self.inside.begun c.self.inside.s c.self.inside.t in
    let q : Queued = record { service = c.args.service; args = c.args.args; saved = c.args.saved.0 } in
    let goes : GoesOn a.method (machine_of a) = rw (← c.self.view_is) at c.requires.rule in
    let l = more-of-take q a.kernel c.perform-last.new.kernel c.perform-last.result.0 c.perform-last.new.outcome c.requires.takes.0 (rw (← c.self.view_is) at c.requires.takes.1) c.perform-last.ensures.open_yet c.perform-last.ensures.more c.perform-last.ensures.done c.if-last.false in
    rw (← c.self.view_is) (more-machine a l.hand c.perform-last.new.kernel c.self.invariant goes l.held l.left l.next)
