use Rattle.std.proofs.Common.{◌≡◌, drop}
use Rattle.machine_model.specs.Frames.{interrupt_of}
use Rattle.isr_nesting.proofs.records.record_of.Given as goal

abbrev pub invariant-loop-vector : goal.invariant-loop-vector
invariant-loop-vector l = interrupt_of l.vectors l.injection ≡ interrupt_of (drop l.vector-index l.vectors) l.injection
