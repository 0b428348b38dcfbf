use Rattle.std.proofs.Common.{◌≡◌, ◌≤◌, ℕ, length, map, take, get_or, None}
use Rattle.kern_model.specs.State.{Kernel}
use Rattle.kern_model.specs.Several.{polls, taken_all}
use Rattle.pend_multi.specs.Polls.{IsSeen}
use Rattle.pend_multi.specs.Takes.{message_of}
use Rattle.pend_multi.proofs.polls.poll_all.Given as goal

-- the objects so far are polled, and the places past them are empty
abbrev pub invariant-loop-index : goal.invariant-loop-index
invariant-loop-index g l =
    (g.P.Pollable.valid l.p) × (g.P.Pollable.same_rest l.fn.p l.p) × (length l.polled ≡ 8)
    × ((j : ℕ) → l.index ≤ j → get_or l.polled j None ≡ None)
    × ((k : Kernel) → IsSeen k (g.P.Pollable.seen l.fn.p) → map message_of (take l.index l.polled) ≡ polls (take l.index l.ids) k)
    × ((k : Kernel) → IsSeen k (g.P.Pollable.seen l.fn.p) → IsSeen (taken_all (take l.index l.ids) k) (g.P.Pollable.seen l.p))
