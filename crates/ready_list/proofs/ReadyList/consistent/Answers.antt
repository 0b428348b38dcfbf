use Rattle.ready_list.proofs.Consistent.{consistent}
use Rattle.ready_list.proofs.ReadyList.consistent.Goals as goal

pub returns : goal.returns
returns g c = rw (← c.self.view_is) (consistent (g.L.Links.nexts c.self.inside.links) (g.L.Links.prevs c.self.inside.links) c.self.inside.marks c.self.invariant)
