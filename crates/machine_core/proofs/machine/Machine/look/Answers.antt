use Rattle.std.proofs.Common.{◌≡◌, ◌<◌, ◌∙◌, sym, true, Some}
use Rattle.std.specs.Prelude.{is_some}
use Rattle.machine_model.specs.Looks.{look_at}
use Rattle.machine_core.specs.MachineView.{parts}
use Rattle.machine_core.proofs.LookFacts.{no-handler, told-is, look-shown, look-kept, look-told}
use Rattle.machine_core.proofs.machine.Machine.look.Goals as goal
use Rattle.machine_core.proofs.machine.Machine.look.Goals.{in-Some, in_default}

-- it is at a list that there is
pub look_line-requires-clause-list : goal.look_line-requires-clause-list
look_line-requires-clause-list g c =
    let a = parts c.self.inside.method c.self.inside.kernel c.self.inside.kinds c.self.inside.ram c.self.inside.program c.self.inside.config c.self.inside.current c.self.inside.frames c.self.inside.later c.self.inside.looks c.self.inside.begun c.self.inside.s c.self.inside.t in
    let begun : a.begun ≡ true = rw (← c.self.view_is) at c.requires.begun in
    let due : look_at a.s a.looks ≡ Some c.in-Some.look = sym c.take.ensures.due ∙ c.in-Some.is in
    look-shown a c.in-Some.look c.self.invariant begun due

pub look_line-requires-clause-no_handler : goal.look_line-requires-clause-no_handler
look_line-requires-clause-no_handler g c =
    let a = parts c.self.inside.method c.self.inside.kernel c.self.inside.kinds c.self.inside.ram c.self.inside.program c.self.inside.config c.self.inside.current c.self.inside.frames c.self.inside.later c.self.inside.looks c.self.inside.begun c.self.inside.s c.self.inside.t in
    no-handler a c.self.invariant

-- it is gone
pub invariant_of-self : goal.invariant_of-self
invariant_of-self g c =
    let a = parts c.self.inside.method c.self.inside.kernel c.self.inside.kinds c.self.inside.ram c.self.inside.program c.self.inside.config c.self.inside.current c.self.inside.frames c.self.inside.later c.self.inside.looks c.self.inside.begun c.self.inside.s c.self.inside.t in
    let begun : a.begun ≡ true = rw (← c.self.view_is) at c.requires.begun in
    let open_yet : a.t < 1000000 = rw (← c.self.view_is) at c.requires.open_yet in
    let due : is_some (look_at a.s a.looks) ≡ true = rw (← c.self.view_is) at c.requires.due in
    let told = told-is (look_at a.s a.looks) due in
    look-kept a told.0 c.self.invariant begun told.1 c.take.new.self c.take.ensures.rest open_yet

-- it is told
pub returns-clause-line : goal.returns-clause-line
returns-clause-line g c =
    let a = parts c.self.inside.method c.self.inside.kernel c.self.inside.kinds c.self.inside.ram c.self.inside.program c.self.inside.config c.self.inside.current c.self.inside.frames c.self.inside.later c.self.inside.looks c.self.inside.begun c.self.inside.s c.self.inside.t in
    let begun : a.begun ≡ true = rw (← c.self.view_is) at c.requires.begun in
    let due : is_some (look_at a.s a.looks) ≡ true = rw (← c.self.view_is) at c.requires.due in
    let told = told-is (look_at a.s a.looks) due in
    let here = c.take.ensures.due ∙ told.1 in
    elim c.match-take.branch [
      | in-Some w ↦
          (let is : look_at a.s a.looks ≡ Some w.in-Some.look = sym c.take.ensures.due ∙ w.in-Some.is in
          rw (← c.self.view_is) (w.line-is ∙ w.look_line.ensures.line ∙ look-told a w.in-Some.look c.self.invariant begun is))
      | in_default w ↦ absurd (w.in_default.not-Some told.0 here)
    ]
