use Rattle.std.proofs.Common.{◌≡◌, sym, None, get_or}
use Rattle.tick_timers.proofs.Wheel.{none-from, wheel-none, taken, wheel-taken}
use Rattle.tick_timers.proofs.wheels.Wheel.remove.Goals as goal

pub returns-in_default : goal.returns-in_default
returns-in_default c =
    let none : get_or c.self.inside.counts c.args.number None ≡ None = none-from _ c.in_default.not-Some in
    rw (← c.self.view_is) (sym (wheel-none c.self.inside c.self.invariant c.args.number none))

pub invariant_of-self : goal.invariant_of-self
invariant_of-self c =
    rw c.take_back.ensures (wheel-taken c.self.inside c.self.invariant c.args.number c.in-Some.at c.in-Some.is c.take_out.new.slots c.take_out.ensures.count c.take_out.ensures.lists)

pub returns : goal.returns
returns c =
    rw (c.take_back.ensures, ← c.self.view_is) (taken c.self.inside c.self.invariant c.args.number c.in-Some.at c.in-Some.is)
