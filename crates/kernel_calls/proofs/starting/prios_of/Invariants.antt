use Rattle.std.proofs.Common.{◌≡◌, ℕ, ◌<◌, length}
use Rattle.kern_model.specs.State.{prio_of}
use Rattle.micro_steps.specs.Blocks.{prio_in}
use Rattle.kernel_calls.proofs.starting.prios_of.Given as goal

abbrev pub invariant-loop-task : goal.invariant-loop-task
invariant-loop-task l = record {
  count : length l.prios ≡ 64;
  below : (x : ℕ) → x < l.task → prio_in l.prios x ≡ prio_of l.records.state x;
}
