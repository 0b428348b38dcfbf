use Rattle.std.proofs.Common.{◌≡◌, ◌<◌, ◌+◌, ℕ, drop, length}
use Rattle.links.specs.Chain.{times, list_at, first_of}
use Rattle.pend_lists.specs.Pending.{forward_of}
use Rattle.pend_lists.proofs.Places.{to_head}
use Rattle.pend_lists.proofs.PendLists.object_of.Given as goal

abbrev pub invariant-loop-at : goal.invariant-loop-at
invariant-loop-at g l =
    let lists = forward_of (g.L.Links.nexts l.self-inside.links) in
    (o : ℕ) × (k : ℕ) × (o < 64) × (0 < times l.node (list_at lists o)) × (l.at ≡ first_of (drop k (list_at lists o)) (512 + o))

abbrev pub decreases-loop-at : goal.decreases-loop-at
decreases-loop-at g l = to_head (g.L.Links.nexts l.self-inside.links) (length (g.L.Links.nexts l.self-inside.links)) l.at
