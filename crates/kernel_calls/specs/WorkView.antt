-- What the fields of a work mean.
use Rattle.kernel_calls.specs.Works.{WorkRecord}
use Rattle.kernel_calls.specs.declared.work.Work.TheInside.{Inside}

abbrev pub work_of : Inside → WorkRecord
work_of w = record { caller = w.caller.0; request = w.request; interrupted = w.interrupted.0; compared = w.compared.0; unit = w.unit; done = w.done }
