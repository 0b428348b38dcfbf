-- The rule that is chosen applies.
use Rattle.machine_laws.proofs.Rules.Chosen.{applies}
use Rattle.machine_laws.proofs.the_rule_is_chosen_by_its_condition.Goals as goal

pub returns : goal.returns
returns c = applies
