use Rattle.std.proofs.Common.{◌≡◌, ◌∙◌, sym, ap, arith}
use Rattle.std.specs.Prelude.{slice_get, ◌%◌}
use Rattle.kern_model.specs.Time.{due}
use Rattle.tick_timers.specs.Matches.{pairs, with_remainder}
use Rattle.tick_timers.specs.WheelView.{wheel_of}
use Rattle.tick_timers.proofs.Filters.{due-slot}
use Rattle.tick_timers.proofs.Wheel.{due-here, due-end, number-low}
use Rattle.tick_timers.proofs.wheels.Wheel.first_due.Goals as goal

pub returns-then-entry-count-clause-value : goal.returns-then-entry-count-clause-value
returns-then-entry-count-clause-value c =
    let at = c.args.count in
    let slot = c.slot-slot.result.now in
    let i = c.loop-entry.entry-index in
    let here = due-here at i slot (record { number = 0; at = 0 }) (omega arith) c.if-entry-count.true in
    sym here ∙ c.loop-entry.invariant ∙ ap (λ ms. slice_get (due at ms) 0) c.slot-slot.ensures ∙ ap (λ xs. slice_get xs 0) (due-slot at c.args.self.now)

pub returns-then-entry-count-clause-low : goal.returns-then-entry-count-clause-low
returns-then-entry-count-clause-low c =
    let is : pairs c.slot-slot.result.now ≡ with_remainder (c.args.count % 64) (wheel_of c.self.inside) = rw c.self.view_is c.slot-slot.ensures in
    number-low c.self.inside c.self.invariant (c.args.count % 64) c.loop-entry.entry-index c.slot-slot.result.now (record { number = 0; at = 0 }) is (omega arith)

pub returns-clause-value : goal.returns-clause-value
returns-clause-value c =
    let at = c.args.count in
    let slot = c.slot-slot.result.now in
    let i = c.loop-entry.entry-index in
    sym (due-end at i 0 slot (omega arith)) ∙ c.loop-entry.invariant
    ∙ ap (λ ms. slice_get (due at ms) 0) c.slot-slot.ensures ∙ ap (λ xs. slice_get xs 0) (due-slot at c.args.self.now)
