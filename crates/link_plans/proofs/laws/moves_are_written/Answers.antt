use Rattle.link_plans.proofs.Renewals.Written.{renewal-told, renewal-written}
use Rattle.link_plans.proofs.laws.moves_are_written.Goals as goal

pub returns : goal.returns
returns c = record { tasks = renewal-written; priorities = renewal-told }
