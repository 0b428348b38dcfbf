use Rattle.std.proofs.Common.{◌≡◌}
use Rattle.kern_model.specs.State.{count_of}
use Rattle.kern_model.specs.Valid.{matched}
use Rattle.tick_timers.specs.WheelView.{wheel_of}
use Rattle.tick_timers.proofs.Wheel.{ungiven, slot-room, added, wheel-added}
use Rattle.tick_timers.proofs.wheels.Wheel.add.Goals as goal

pub put-requires-clause-room : goal.put-requires-clause-room
put-requires-clause-room c =
    let fresh : count_of c.args.number (matched (wheel_of c.self.inside)) ≡ 0 = rw (← c.self.view_is) at c.requires.fresh in
    slot-room c.self.inside c.self.invariant c.args.number c.args.at c.requires.number fresh

pub give-requires-clause-fresh : goal.give-requires-clause-fresh
give-requires-clause-fresh c =
    let fresh : count_of c.args.number (matched (wheel_of c.self.inside)) ≡ 0 = rw (← c.self.view_is) at c.requires.fresh in
    ungiven c.self.inside c.self.invariant c.args.number c.args.at c.requires.number fresh

pub invariant_of-self : goal.invariant_of-self
invariant_of-self c =
    let fresh : count_of c.args.number (matched (wheel_of c.self.inside)) ≡ 0 = rw (← c.self.view_is) at c.requires.fresh in
    rw c.give.ensures (wheel-added c.self.inside c.self.invariant c.args.number c.args.at c.requires.number fresh c.put.new.slots c.put.ensures.count c.put.ensures.lists)

pub returns : goal.returns
returns c =
    let fresh : count_of c.args.number (matched (wheel_of c.self.inside)) ≡ 0 = rw (← c.self.view_is) at c.requires.fresh in
    rw (c.give.ensures, ← c.self.view_is) (added c.self.inside c.self.invariant c.args.number c.args.at c.requires.number fresh)
