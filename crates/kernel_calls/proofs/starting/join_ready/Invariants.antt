use Rattle.std.proofs.Common.{◌≡◌, take}
use Rattle.kern_model.specs.Micro.{whole}
use Rattle.kernel_calls.proofs.StartFacts.{joined_by}
use Rattle.kernel_calls.proofs.starting.join_ready.Given as goal

abbrev pub invariant-loop-index : goal.invariant-loop-index
invariant-loop-index g l = record {
  halves : l.steps.halves ≡ whole (joined_by (take l.index l.tasks));
  start : l.steps.start ≡ l.steps.halves.forward;
  prios : l.steps.prios ≡ l.fn.steps.prios;
}
