use Rattle.std.proofs.Common.{◌≡◌, ◌∙◌, sym, None, Some}
use Rattle.kern_model.specs.Timers.{due_timer}
use Rattle.tick_timers.proofs.Firing.{due_timer-first}
use Rattle.tick_timers.proofs.timer_table.Timers.first_due.Goals as goal

pub returns-in_err-number : goal.returns-in_err-number
returns-in_err-number c =
    let none : due_timer c.self.inside.count c.self.inside.wheel ≡ None = due_timer-first c.self.inside.count c.self.inside.wheel ∙ sym c.first_due.ensures.value ∙ c.in_err-number.was in
    rw (← c.self.view_is, c.from_residual.ensures) none

pub returns : goal.returns
returns c =
    let some : due_timer c.self.inside.count c.self.inside.wheel ≡ Some c.in_ok-number.number = due_timer-first c.self.inside.count c.self.inside.wheel ∙ sym c.first_due.ensures.value ∙ c.in_ok-number.was in
    rw (← c.self.view_is) (c.in_ok-number.ensures.low, some)
