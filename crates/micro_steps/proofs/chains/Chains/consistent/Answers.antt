use Rattle.micro_steps.proofs.chains.Chains.consistent.Goals as goal

pub returns : goal.returns
returns g c =
    rw (← c.self.view_is)
    (record {
      ready_forward = c.consistent.ensures.forward;
      ready_back = c.consistent.ensures.back;
      pend_forward = c.consistent-2.ensures.forward;
      pend_back = c.consistent-2.ensures.back;
    })
