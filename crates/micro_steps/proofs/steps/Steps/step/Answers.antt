use Rattle.micro_steps.proofs.Takes.{one_more_made, last_made}
use Rattle.micro_steps.proofs.steps.Steps.step.Goals as goal

pub returns-clause-more : goal.returns-clause-more
returns-clause-more g c =
    rw (← c.self.view_is)
    (λ ms l i ks end is mid. let now = c.step.ensures.more is in one_more_made ms l i ks end _ c.step.new.cursor c.step.new.self.halves c.step.new.self.start mid c.step.ensures.made now.0 now.1)

pub returns-clause-last : goal.returns-clause-last
returns-clause-last g c =
    rw (← c.self.view_is)
    (λ ms l i ks end is mid. let now = c.step.ensures.last is in last_made ms l i ks end _ c.step.new.cursor c.step.new.self.halves c.step.new.self.start mid c.step.ensures.made now.0 now.1)
