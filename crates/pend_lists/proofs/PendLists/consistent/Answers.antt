use Rattle.pend_lists.proofs.Consistent.{consistent}
use Rattle.pend_lists.proofs.PendLists.consistent.Goals as goal

pub returns : goal.returns
returns g c = rw (← c.self.view_is) (consistent (g.L.Links.nexts c.self.inside.links) (g.L.Links.prevs c.self.inside.links) c.self.invariant)
