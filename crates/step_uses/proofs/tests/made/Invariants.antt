use Rattle.std.proofs.Common.{ℕ, List}
use Rattle.kern_model.specs.Micro.{Micro, Lists}
use Rattle.micro_steps.specs.declared.link.Link.{Link}
use Rattle.micro_steps.specs.Whole.{IsMidway}
use Rattle.step_uses.proofs.tests.made.Given as goal

abbrev pub invariant-loop-k : goal.invariant-loop-k
invariant-loop-k g l = (ms : List Micro) (lists : Lists) (i : ℕ) (ks : List Link) (end : Lists) → IsMidway ms lists i ks end l.initial.steps → (j : ℕ) × IsMidway ms lists j ks end l.steps
