-- What a trap does to the kernel.
use Rattle.std.specs.Prelude.{ℕ, false}
use Rattle.kern_model.specs.State.{Kernel, update_list, update_task, without, prio_of}

-- A task that traps stops for good: it leaves its ready list, keeps its mutexes and its messages, and the lock is 0.
abbrev pub stopped : ℕ → Kernel → Kernel
stopped x k =
    record k {
      tasks = update_task k.tasks x (λ t. record t { alive = false });
      ready = update_list k.ready (prio_of k x) (without x);
      lock = 0;
    }

-- A timer's callback ends, also by a trap: the timer task goes on under its lock.
abbrev pub callback_ended : Kernel → Kernel
callback_ended k = record k { in_callback = false; lock = 1 }
