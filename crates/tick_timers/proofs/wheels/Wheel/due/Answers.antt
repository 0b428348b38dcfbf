use Rattle.std.proofs.Common.{◌≡◌, ◌≤◌, ◌∙◌, ap, length, take_all, arith}
use Rattle.std.specs.Prelude.{◌%◌}
use Rattle.kern_model.specs.Time.{due}
use Rattle.tick_timers.specs.Matches.{pairs, with_remainder}
use Rattle.tick_timers.specs.WheelView.{wheel_of}
use Rattle.tick_timers.proofs.Filters.{due-slot}
use Rattle.tick_timers.proofs.Wheel.{slot-few}
use Rattle.tick_timers.proofs.wheels.Wheel.due.Goals as goal

pub push-requires : goal.push-requires
push-requires c =
    let is : pairs c.slot-slot.result.now ≡ with_remainder (c.args.tick % 64) (wheel_of c.self.inside) = rw c.self.view_is c.slot-slot.ensures in
    let few : length c.slot-slot.result.now ≤ 64 = slot-few c.self.inside c.self.invariant (c.args.tick % 64) c.slot-slot.result.now is in
    omega arith

pub returns : goal.returns
returns c =
    let slot = c.slot-slot.result.now in
    c.loop-entry.invariant.due
    ∙ ap (λ ms. due c.args.tick (pairs ms)) (take_all c.loop-entry.entry-index slot (omega arith))
    ∙ ap (due c.args.tick) c.slot-slot.ensures ∙ due-slot c.args.tick c.args.self.now
