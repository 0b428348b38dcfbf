use Rattle.std.proofs.Common.{◌∙◌, List, ℕ, length, get_or, ap}
use Rattle.micro_steps.proofs.chains.Chains.close.Goals as goal

pub invariant_of-self : goal.invariant_of-self
invariant_of-self g c =
    record {
      ready_nodes = c.self.invariant.ready_nodes;
      pend_nodes = c.self.invariant.pend_nodes;
      ready_found = ap length c.mend.ensures.found.0 ∙ c.self.invariant.ready_nodes;
      pend_found = ap length c.mend.ensures.found.1 ∙ c.self.invariant.pend_nodes;
      same_ready = λ x h none. ap (λ (xs : List ℕ). get_or xs x 0) c.mend.ensures.found.0;
      same_pend = λ x h none. ap (λ (xs : List ℕ). get_or xs x 0) c.mend.ensures.found.1;
    }
