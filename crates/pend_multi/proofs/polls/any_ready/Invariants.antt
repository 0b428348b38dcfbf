use Rattle.std.proofs.Common.{◌≡◌, drop}
use Rattle.kern_model.specs.State.{Kernel}
use Rattle.kern_model.specs.Several.{polls, taken_count}
use Rattle.pend_multi.specs.Polls.{IsSeen}
use Rattle.pend_multi.proofs.polls.any_ready.Given as goal

-- all that are ready are among those that are left
abbrev pub invariant-loop-id : goal.invariant-loop-id
invariant-loop-id g l = (k : Kernel) → IsSeen k (g.P.Pollable.seen l.p) → taken_count (polls (drop l.id-index l.ids) k) ≡ taken_count (polls l.ids k)
