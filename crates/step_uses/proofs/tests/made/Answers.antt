use Rattle.std.proofs.Common.{ℕ, ◌+◌}
use Rattle.step_uses.proofs.tests.made.Goals as goal

pub take-requires : goal.take-requires
take-requires g c = record { even = c.requires.paused.5.even; node = c.requires.node }

pub loop-k-init : goal.loop-k-init
loop-k-init g c = λ ms l i ks end mid. (i, mid)

pub step-last-requires : goal.step-last-requires
step-last-requires g c = let p = c.requires.paused in (c.loop-k.invariant p.0 p.1 p.2 p.3 p.4 (c.take.ensures.midway p.0 p.1 p.2 p.3 p.4 p.5)).1.at

pub loop-k-preserved : goal.loop-k-preserved
loop-k-preserved g c = λ ms l i ks end mid. let now = c.loop-k.invariant ms l i ks end mid in (now.0 + 1, c.step-last.ensures.more ms l now.0 ks end c.if-last.false now.1)

pub returns-then-last : goal.returns-then-last
returns-then-last g c = λ ms l i ks end paused. let now = c.loop-k.invariant ms l i ks end (c.take.ensures.midway ms l i ks end paused) in (now.0 + 1, c.step-last.ensures.last ms l now.0 ks end c.if-last.true now.1)
