use Rattle.std.proofs.Common.{sym, subst}
use Rattle.links.proofs.Both.{fresh}
use Rattle.pend_lists.specs.Pending.{AreOnceEach}
use Rattle.pend_lists.proofs.Tasks.{none_once}
use Rattle.pend_lists.proofs.PendLists.new.Goals as goal

pub invariant_of-result : goal.invariant_of-result
invariant_of-result g c =
    let now = fresh 512 64 (g.L.Links.nexts c.args.links) (g.L.Links.prevs c.args.links) c.requires.0 c.requires.1 in
    record { chained = now.2; forward_once = subst AreOnceEach (sym now.0) none_once; back_once = subst AreOnceEach (sym now.1) none_once }

pub returns-clause-lists : goal.returns-clause-lists
returns-clause-lists g c =
    let now = fresh 512 64 (g.L.Links.nexts c.args.links) (g.L.Links.prevs c.args.links) c.requires.0 c.requires.1 in (now.0, now.1)
