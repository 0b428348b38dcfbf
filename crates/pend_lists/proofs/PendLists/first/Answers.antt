use Rattle.std.proofs.Common.{arith}
use Rattle.links.specs.Chain.{list_at}
use Rattle.pend_lists.proofs.Heads.{first_waits}
use Rattle.pend_lists.proofs.PendLists.first.Goals as goal

pub returns-in-Some : goal.returns-in-Some
returns-in-Some g c = (omega (arith, c.in-Some.ensures.0), first_waits (list_at c.args.self.now.forward c.args.obj.0) c.in-Some.node c.in-Some.ensures.1)
