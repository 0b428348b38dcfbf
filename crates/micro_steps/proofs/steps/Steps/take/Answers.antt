use Rattle.micro_steps.proofs.Takes.{taken_up}
use Rattle.micro_steps.proofs.steps.Steps.take.Goals as goal

pub returns-clause-midway : goal.returns-clause-midway
returns-clause-midway g c =
    rw (← c.self.view_is)
    (λ ms l i ks end paused. rw (c.begun-self-inside.ensures, c.keep_prio.ensures) (taken_up ms l i c.args.link ks end _ c.consistent.ensures paused))
