use Rattle.std.proofs.Common.{◌≡◌, ℕ, ◌∙◌, sym, refl, None, Some, Option, get_or}
use Rattle.std.specs.Option.{unwrap_or}
use Rattle.tick_timers.specs.WheelView.{count_or_zero}
use Rattle.tick_timers.proofs.Given.{match_of-matches}
use Rattle.tick_timers.proofs.wheels.Wheel.count_at.Goals as goal

or_zero : (o : Option ℕ) → unwrap_or o 0 ≡ count_or_zero o
or_zero None = refl
or_zero (Some n) = refl

pub returns : goal.returns
returns c =
    rw (← c.self.view_is)
    (c.unwrap_or.ensures ∙ or_zero (get_or c.self.inside.counts c.args.number None) ∙ sym (match_of-matches c.self.inside.counts c.self.inside.given c.args.number (c.self.invariant.none c.args.number)))
