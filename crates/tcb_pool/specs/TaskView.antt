-- What the record of a task means.
use Rattle.std.specs.Prelude.{[], take}
use Rattle.kern_model.specs.State.{Task}
use Rattle.tcb_pool.specs.declared.records.Tcb.{Tcb}

-- a task without its own semaphore and queue, in which its record has no part
abbrev pub without_own : Task → Task
without_own t = record t { count = 0; messages = []; limit = 0 }

-- the task of the kernel state, but for its own semaphore and queue
abbrev pub task_of : Tcb → Task
task_of t =
    record {
      base = t.base.0;
      prio = t.prio.0;
      alive = t.alive;
      waiting = t.wait;
      objects = take t.n_ids t.ids;
      mask = t.mask;
      opt = t.opt;
      table = t.table;
      suspended = t.suspended;
      count = 0;
      messages = [];
      limit = 0;
      quantum = t.quantum;
      full = t.full;
      answered = t.result;
    }
