use Rattle.tick_timers.proofs.Chained.{given-none}
use Rattle.tick_timers.proofs.giving.Giving.new.Goals as goal

pub invariant_of-result-2 : goal.invariant_of-result-2
invariant_of-result-2 c = (given-none c.own_numbers.result c.own_numbers-2.result c.own_numbers.ensures c.own_numbers-2.ensures).0

pub returns : goal.returns
returns c = (given-none c.own_numbers.result c.own_numbers-2.result c.own_numbers.ensures c.own_numbers-2.ensures).1
