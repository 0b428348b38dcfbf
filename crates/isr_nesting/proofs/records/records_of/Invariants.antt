use Rattle.std.proofs.Common.{◌≡◌, ◌≤◌, map, take, All}
use Rattle.machine_model.specs.Frames.{interrupt_of}
use Rattle.isr_nesting.specs.RecordView.{interrupt_in}
use Rattle.isr_nesting.proofs.records.records_of.Given as goal

abbrev pub invariant-loop-injection : goal.invariant-loop-injection
invariant-loop-injection l =
    (map interrupt_in l.records.items ≡ map (interrupt_of l.vectors) (take l.injection-index l.injections)) × All (λ r. r.level ≤ 7) l.records.items
