use Rattle.std.proofs.Common.{◌∙◌, ap}
use Rattle.links.specs.Chain.{forward_lists}
use Rattle.micro_steps.proofs.Founds.{own_same, no_lists_found}
use Rattle.micro_steps.proofs.chains.Chains.new.Goals as goal

pub returns-clause-start : goal.returns-clause-start
returns-clause-start g c =
    no_lists_found c.new.result
    (ap (forward_lists 64 64) (own_same 128 c.new.result.ready c.new-ready.result.nexts c.new.ensures.found.0 c.new-ready.ensures.links.0) ∙ c.consistent.ensures.forward_chains ∙ c.new-ready.ensures.lists.0)
    (ap (forward_lists 512 64) (own_same 576 c.new.result.pend c.new-pend.result.nexts c.new.ensures.found.1 c.new-pend.ensures.links.0) ∙ c.consistent-2.ensures.forward_chains ∙ c.new-pend.ensures.lists.0)
