use Rattle.std.proofs.Common.{◌≡◌, ◌<◌, sym, ◌∙◌, subst}
use Rattle.machine_core.specs.MethodMachine.{MethodMachine}
use Rattle.machine_core.specs.Valid.{changed}
use Rattle.machine_core.specs.MachineView.{machine_of, method_machine_of, parts}
use Rattle.machine_core.proofs.KeptLaws.{kept-step, next-more}
use Rattle.machine_core.proofs.MachineFacts.{GoesOn, raw-goes_on, none-hand}
use Rattle.machine_core.proofs.machine.Machine.work.Goals as goal
use Rattle.machine_core.proofs.machine.Machine.work.Goals.{then-is_free, else-is_free}

pub begin-requires-clause-free : goal.begin-requires-clause-free
begin-requires-clause-free g c = rw (← c.self.view_is) (none-hand c.self.inside.kernel.hand (sym c.is_free.ensures ∙ c.if-is_free.true))

-- the raw step is within the bound
pub invariant_of-self : goal.invariant_of-self
invariant_of-self g c =
    let b = parts c.self-2.inside.method c.self-2.inside.kernel c.self-2.inside.kinds c.self-2.inside.ram c.self-2.inside.program c.self-2.inside.config c.self-2.inside.current c.self-2.inside.frames c.self-2.inside.later c.self-2.inside.looks c.self-2.inside.begun c.self-2.inside.s c.self-2.inside.t in
    let a = parts c.self.inside.method c.self.inside.kernel c.self.inside.kinds c.self.inside.ram c.self.inside.program c.self.inside.config c.self.inside.current c.self.inside.frames c.self.inside.later c.self.inside.looks c.self.inside.begun c.self.inside.s c.self.inside.t in
    let open_yet : a.t < 1000000 = rw (← c.self.view_is) at c.requires.open_yet in
    let moved : c.if-is_free.self ≡ changed c.args.self.now
    = elim c.if-is_free.branch [ then-is_free w ↦ w.self-is ∙ w.begin.ensures.machine | else-is_free w ↦ w.self-is ∙ w.advance.ensures.machine ] in
    let happened : method_machine_of b ≡ changed (method_machine_of a) = subst (λ (m : MethodMachine). method_machine_of b ≡ changed m) (sym c.self.view_is) (c.self-2.view_is ∙ moved) in
    let goes : GoesOn a.method (machine_of a) = rw (← c.self.view_is) at c.requires.rule in
    kept-step a b c.self.invariant open_yet happened c.self-2.invariant.parts (raw-goes_on a.method (machine_of a) goes)

pub returns-clause-machine : goal.returns-clause-machine
returns-clause-machine g c =
    let b = parts c.self-2.inside.method c.self-2.inside.kernel c.self-2.inside.kinds c.self-2.inside.ram c.self-2.inside.program c.self-2.inside.config c.self-2.inside.current c.self-2.inside.frames c.self-2.inside.later c.self-2.inside.looks c.self-2.inside.begun c.self-2.inside.s c.self-2.inside.t in
    let a = parts c.self.inside.method c.self.inside.kernel c.self.inside.kinds c.self.inside.ram c.self.inside.program c.self.inside.config c.self.inside.current c.self.inside.frames c.self.inside.later c.self.inside.looks c.self.inside.begun c.self.inside.s c.self.inside.t in
    let goes : GoesOn a.method (machine_of a) = rw (← c.self.view_is) at c.requires.rule in
    let moved : c.if-is_free.self ≡ changed c.args.self.now
    = elim c.if-is_free.branch [ then-is_free w ↦ w.self-is ∙ w.begin.ensures.machine | else-is_free w ↦ w.self-is ∙ w.advance.ensures.machine ] in
    let happened : method_machine_of b ≡ changed (method_machine_of a) = subst (λ (m : MethodMachine). method_machine_of b ≡ changed m) (sym c.self.view_is) (c.self-2.view_is ∙ moved) in
    rw (← c.self.view_is) (next-more a b happened (raw-goes_on a.method (machine_of a) goes))
