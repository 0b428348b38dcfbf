use Rattle.std.proofs.Common.{◌≡◌, ◌<◌, ◌+◌, ◌∙◌, Some, ap, sym, false}
use Rattle.std.specs.Prelude.{◌==◌}
use Rattle.kern_model.specs.Services.{cost}
use Rattle.kernel_calls.specs.KernelRecord.{KernelRecord, ended}
use Rattle.kernel_calls.specs.Works.{effect_of}
use Rattle.machine_core.specs.AnswerView.{ended_kernel, ended_line}
use Rattle.machine_core.specs.MachineView.{machine_of, parts}
use Rattle.machine_core.proofs.MachineFacts.{GoesOn, more-machine, more-line, more-kept, call-line, last-machine, last-kept, not-last, is-last, outcome-is, plain, unit-of_hand, ended-hand}
use Rattle.machine_core.proofs.machine.Machine.advance.Goals as goal

-- a micro-step after which others are left
pub invariant_of-self-else-advance_into : goal.invariant_of-self-else-advance_into
invariant_of-self-else-advance_into g c =
    let a = parts c.self.inside.method c.self.inside.kernel c.self.inside.kinds c.self.inside.ram c.self.inside.program c.self.inside.config c.self.inside.current c.self.inside.frames c.self.inside.later c.self.inside.looks c.self.inside.begun c.self.inside.s c.self.inside.t in
    let h = c.in-Some.work.now in
    let held : a.kernel.hand ≡ Some h = c.in-Some.ensures in
    let goes : GoesOn a.method (machine_of a) = rw (← c.self.view_is) at c.requires.rule in
    let open_yet : a.t < 1000000 = rw (← c.self.view_is) at c.requires.open_yet in
    let p : h.done + 1 < cost (effect_of h a.kernel.state) a.kernel.state = not-last a.kernel c.advance_into.new.self h c.advance_into.result c.advance_into.new.outcome held c.advance_into.ensures.open_yet c.advance_into.ensures.more c.advance_into.ensures.done c.if-advance_into.false in
    let next = (c.advance_into.ensures.more h held p).1 in
    more-kept a h c.advance_into.new.self c.self.invariant goes held open_yet p next

pub returns-else-advance_into-clause-line : goal.returns-else-advance_into-clause-line
returns-else-advance_into-clause-line g c =
    let a = parts c.self.inside.method c.self.inside.kernel c.self.inside.kinds c.self.inside.ram c.self.inside.program c.self.inside.config c.self.inside.current c.self.inside.frames c.self.inside.later c.self.inside.looks c.self.inside.begun c.self.inside.s c.self.inside.t in
    let h = c.in-Some.work.now in
    let held : a.kernel.hand ≡ Some h = c.in-Some.ensures in
    let goes : GoesOn a.method (machine_of a) = rw (← c.self.view_is) at c.requires.rule in
    let p : h.done + 1 < cost (effect_of h a.kernel.state) a.kernel.state = not-last a.kernel c.advance_into.new.self h c.advance_into.result c.advance_into.new.outcome held c.advance_into.ensures.open_yet c.advance_into.ensures.more c.advance_into.ensures.done c.if-advance_into.false in
    let next = (c.advance_into.ensures.more h held p).1 in
    rw (← c.self.view_is) (c.requires.blank ∙ more-line a h c.self.invariant goes held p)

pub returns-else-advance_into-clause-machine : goal.returns-else-advance_into-clause-machine
returns-else-advance_into-clause-machine g c =
    let a = parts c.self.inside.method c.self.inside.kernel c.self.inside.kinds c.self.inside.ram c.self.inside.program c.self.inside.config c.self.inside.current c.self.inside.frames c.self.inside.later c.self.inside.looks c.self.inside.begun c.self.inside.s c.self.inside.t in
    let h = c.in-Some.work.now in
    let held : a.kernel.hand ≡ Some h = c.in-Some.ensures in
    let goes : GoesOn a.method (machine_of a) = rw (← c.self.view_is) at c.requires.rule in
    let p : h.done + 1 < cost (effect_of h a.kernel.state) a.kernel.state = not-last a.kernel c.advance_into.new.self h c.advance_into.result c.advance_into.new.outcome held c.advance_into.ensures.open_yet c.advance_into.ensures.more c.advance_into.ensures.done c.if-advance_into.false in
    let next = (c.advance_into.ensures.more h held p).1 in
    rw (← c.self.view_is) (more-machine a h c.advance_into.new.self c.self.invariant goes held p next)

-- the last one
pub end-requires-clause-plain : goal.end-requires-clause-plain
end-requires-clause-plain g c =
    let a = parts c.self.inside.method c.self.inside.kernel c.self.inside.kinds c.self.inside.ram c.self.inside.program c.self.inside.config c.self.inside.current c.self.inside.frames c.self.inside.later c.self.inside.looks c.self.inside.begun c.self.inside.s c.self.inside.t in
    let h = c.in-Some.work.now in
    let held : a.kernel.hand ≡ Some h = c.in-Some.ensures in
    let goes : GoesOn a.method (machine_of a) = rw (← c.self.view_is) at c.requires.rule in
    let p : h.done + 1 ≡ cost (effect_of h a.kernel.state) a.kernel.state = is-last a.kernel c.advance_into.new.self h c.advance_into.result c.advance_into.new.outcome held c.advance_into.ensures.open_yet c.advance_into.ensures.more c.advance_into.ensures.done c.if-advance_into.true in
    let outcome = outcome-is a.kernel c.advance_into.new.self h c.advance_into.result c.advance_into.new.outcome held c.advance_into.ensures.open_yet c.advance_into.ensures.more c.advance_into.ensures.done c.if-advance_into.true in
    let no_unit : h.unit ≡ false = sym c.is_unit.ensures ∙ c.if-is_unit.false in
    let calls : (h.caller == 63) ≡ false = sym c.is_take.ensures ∙ c.if-is_take.false in
    rw outcome (plain a h c.self.invariant goes held p no_unit calls)

pub settle-self-inside-requires : goal.settle-self-inside-requires
settle-self-inside-requires g c =
    let a = parts c.self.inside.method c.self.inside.kernel c.self.inside.kinds c.self.inside.ram c.self.inside.program c.self.inside.config c.self.inside.current c.self.inside.frames c.self.inside.later c.self.inside.looks c.self.inside.begun c.self.inside.s c.self.inside.t in
    let h = c.in-Some.work.now in
    let held : a.kernel.hand ≡ Some h = c.in-Some.ensures in
    let p : h.done + 1 ≡ cost (effect_of h a.kernel.state) a.kernel.state = is-last a.kernel c.advance_into.new.self h c.advance_into.result c.advance_into.new.outcome held c.advance_into.ensures.open_yet c.advance_into.ensures.more c.advance_into.ensures.done c.if-advance_into.true in
    ap (λ (k : KernelRecord). k.hand) c.end.ensures.kernel ∙ ended-hand c.advance_into.new.self a.current.0 c.service-service.result c.advance_into.new.outcome
    ∙ ap (λ (k : KernelRecord). k.hand) (c.advance_into.ensures.done h held p).2

pub invariant_of-self : goal.invariant_of-self
invariant_of-self g c =
    let a = parts c.self.inside.method c.self.inside.kernel c.self.inside.kinds c.self.inside.ram c.self.inside.program c.self.inside.config c.self.inside.current c.self.inside.frames c.self.inside.later c.self.inside.looks c.self.inside.begun c.self.inside.s c.self.inside.t in
    let h = c.in-Some.work.now in
    let held : a.kernel.hand ≡ Some h = c.in-Some.ensures in
    let goes : GoesOn a.method (machine_of a) = rw (← c.self.view_is) at c.requires.rule in
    let open_yet : a.t < 1000000 = rw (← c.self.view_is) at c.requires.open_yet in
    let p : h.done + 1 ≡ cost (effect_of h a.kernel.state) a.kernel.state = is-last a.kernel c.advance_into.new.self h c.advance_into.result c.advance_into.new.outcome held c.advance_into.ensures.open_yet c.advance_into.ensures.more c.advance_into.ensures.done c.if-advance_into.true in
    let outcome = outcome-is a.kernel c.advance_into.new.self h c.advance_into.result c.advance_into.new.outcome held c.advance_into.ensures.open_yet c.advance_into.ensures.more c.advance_into.ensures.done c.if-advance_into.true in
    let no_unit : h.unit ≡ false = sym c.is_unit.ensures ∙ c.if-is_unit.false in
    let calls : (h.caller == 63) ≡ false = sym c.is_take.ensures ∙ c.if-is_take.false in
    let service = c.service-service.ensures in
    let ends : c.end.new.kernel ≡ ended_kernel (ended a.kernel h) a.current.0 h.request.service (effect_of h a.kernel.state).outcome =
    c.end.ensures.kernel ∙ ap (λ k. ended_kernel k a.current.0 c.service-service.result c.advance_into.new.outcome) (c.advance_into.ensures.done h held p).2
    ∙ ap (λ s. ended_kernel (ended a.kernel h) a.current.0 s c.advance_into.new.outcome) service ∙ ap (ended_kernel (ended a.kernel h) a.current.0 h.request.service) outcome in
    last-kept a h c.self.invariant goes held p no_unit calls c.end.new.kernel c.settle-self-inside.result ends c.settle-self-inside.ensures open_yet

pub returns-then-advance_into-clause-line : goal.returns-then-advance_into-clause-line
returns-then-advance_into-clause-line g c =
    let a = parts c.self.inside.method c.self.inside.kernel c.self.inside.kinds c.self.inside.ram c.self.inside.program c.self.inside.config c.self.inside.current c.self.inside.frames c.self.inside.later c.self.inside.looks c.self.inside.begun c.self.inside.s c.self.inside.t in
    let h = c.in-Some.work.now in
    let held : a.kernel.hand ≡ Some h = c.in-Some.ensures in
    let goes : GoesOn a.method (machine_of a) = rw (← c.self.view_is) at c.requires.rule in
    let p : h.done + 1 ≡ cost (effect_of h a.kernel.state) a.kernel.state = is-last a.kernel c.advance_into.new.self h c.advance_into.result c.advance_into.new.outcome held c.advance_into.ensures.open_yet c.advance_into.ensures.more c.advance_into.ensures.done c.if-advance_into.true in
    let outcome = outcome-is a.kernel c.advance_into.new.self h c.advance_into.result c.advance_into.new.outcome held c.advance_into.ensures.open_yet c.advance_into.ensures.more c.advance_into.ensures.done c.if-advance_into.true in
    let no_unit : h.unit ≡ false = sym c.is_unit.ensures ∙ c.if-is_unit.false in
    let calls : (h.caller == 63) ≡ false = sym c.is_take.ensures ∙ c.if-is_take.false in
    let told = c.end.ensures.line ∙ ap (λ s. ended_line a.current.0 s c.advance_into.new.outcome) c.service-service.ensures ∙ ap (ended_line a.current.0 h.request.service) outcome in
    rw (← c.self.view_is) (told ∙ call-line a h c.self.invariant goes held p no_unit calls)

pub returns-then-advance_into-clause-machine : goal.returns-then-advance_into-clause-machine
returns-then-advance_into-clause-machine g c =
    let a = parts c.self.inside.method c.self.inside.kernel c.self.inside.kinds c.self.inside.ram c.self.inside.program c.self.inside.config c.self.inside.current c.self.inside.frames c.self.inside.later c.self.inside.looks c.self.inside.begun c.self.inside.s c.self.inside.t in
    let h = c.in-Some.work.now in
    let held : a.kernel.hand ≡ Some h = c.in-Some.ensures in
    let goes : GoesOn a.method (machine_of a) = rw (← c.self.view_is) at c.requires.rule in
    let p : h.done + 1 ≡ cost (effect_of h a.kernel.state) a.kernel.state = is-last a.kernel c.advance_into.new.self h c.advance_into.result c.advance_into.new.outcome held c.advance_into.ensures.open_yet c.advance_into.ensures.more c.advance_into.ensures.done c.if-advance_into.true in
    let outcome = outcome-is a.kernel c.advance_into.new.self h c.advance_into.result c.advance_into.new.outcome held c.advance_into.ensures.open_yet c.advance_into.ensures.more c.advance_into.ensures.done c.if-advance_into.true in
    let no_unit : h.unit ≡ false = sym c.is_unit.ensures ∙ c.if-is_unit.false in
    let calls : (h.caller == 63) ≡ false = sym c.is_take.ensures ∙ c.if-is_take.false in
    let service = c.service-service.ensures in
    let ends : c.end.new.kernel ≡ ended_kernel (ended a.kernel h) a.current.0 h.request.service (effect_of h a.kernel.state).outcome =
    c.end.ensures.kernel ∙ ap (λ k. ended_kernel k a.current.0 c.service-service.result c.advance_into.new.outcome) (c.advance_into.ensures.done h held p).2
    ∙ ap (λ s. ended_kernel (ended a.kernel h) a.current.0 s c.advance_into.new.outcome) service ∙ ap (ended_kernel (ended a.kernel h) a.current.0 h.request.service) outcome in
    rw (← c.self.view_is) (last-machine a h c.self.invariant goes held p no_unit calls c.end.new.kernel c.settle-self-inside.result ends c.settle-self-inside.ensures)

-- a unit
pub advance_unit-requires-clause-works : goal.advance_unit-requires-clause-works
advance_unit-requires-clause-works g c =
    let a = parts c.self.inside.method c.self.inside.kernel c.self.inside.kinds c.self.inside.ram c.self.inside.program c.self.inside.config c.self.inside.current c.self.inside.frames c.self.inside.later c.self.inside.looks c.self.inside.begun c.self.inside.s c.self.inside.t in
    let h = c.in-Some.work.now in
    let held : a.kernel.hand ≡ Some h = c.in-Some.ensures in
    rw (← c.self.view_is) (unit-of_hand a.kernel.hand h held (sym c.is_unit.ensures ∙ c.if-is_unit.true))
