use Rattle.kern_model.proofs.Lemmas.{count-unmatched_own}
use Rattle.tick_timers.proofs.timer_table.Timers.run.Goals as goal

pub add-requires-clause-fresh : goal.add-requires-clause-fresh
add-requires-clause-fresh c = rw c.remove.ensures (count-unmatched_own c.args.obj.0 c.self.inside.wheel)
