use Rattle.std.proofs.Common.{rules, ◌≡◌, ◌<◌, Some, None, true}
use Rattle.machine_model.specs.Machine.{handler_compares}
use Rattle.machine_model.specs.Queue.{front}
use Rattle.machine_model.specs.Rules.{may_take}
use Rattle.machine_core.specs.MachineView.{hand_of, machine_of, parts}
use Rattle.machine_core.proofs.MachineFacts.{GoesOn, begin-kept}
use Rattle.machine_core.proofs.machine.Machine.begin_take.Goals as goal
use Rattle.machine_core.proofs.machine.Machine.begin_take.Goals.{then-self-eq1, else-self-eq1}

pub invariant_of-self : goal.invariant_of-self
invariant_of-self g c =
    let a = parts c.self.inside.method c.self.inside.kernel c.self.inside.kinds c.self.inside.ram c.self.inside.program c.self.inside.config c.self.inside.current c.self.inside.frames c.self.inside.later c.self.inside.looks c.self.inside.begun c.self.inside.s c.self.inside.t in
    let goes : GoesOn a.method (machine_of a) = rw (← c.self.view_is) at c.requires.rule in
    let free : hand_of a.kernel.hand ≡ None = rw (← c.self.view_is) at c.requires.free in
    let may : may_take (machine_of a) ≡ true = rw (← c.self.view_is) at c.requires.may in
    let open_yet : a.t < 1000000 = rw (← c.self.view_is) at c.requires.open_yet in
    let post = c.in-Some-Some.post in
    let saved = c.in-Some-Some.saved.0 in
    let first : front a.later.posts ≡ Some (record { service = post.service; args = post.args; saved = saved }) = search rules in
    let compared : c.if-self-eq1.compared.0 ≡ handler_compares a.config saved = elim c.if-self-eq1.branch [ then-self-eq1 w ↦ search rules | else-self-eq1 w ↦ search rules ] in
    begin-kept a c.self.invariant goes free may post.service post.args saved c.if-self-eq1.compared.0 first c.begin_take.new.self c.begin_take.ensures.begun open_yet compared
