use Rattle.std.proofs.Common.{◌∙◌}
use Rattle.call_checks.proofs.Repeats.{found-counted}
use Rattle.call_checks.proofs.refusals.stands_in.Goals as goal

pub returns : goal.returns
returns c = c.contains.ensures.value ∙ found-counted c.args.number c.args.numbers.now
