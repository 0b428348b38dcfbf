-- What the fields of the records mean, and what is always true of them.
use Rattle.std.specs.Prelude.{◌≡◌, ◌≤◌, [], length}
use Rattle.kern_model.specs.State.{Kernel, kinds_of, nesting_limit}
use Rattle.kernel_records.specs.ObjectView.{objects_in, tasks_in}
use Rattle.kernel_records.specs.RecordsRecord.{RecordsRecord}
use Rattle.kernel_records.specs.declared.records.Records.TheInside.{Inside}

abbrev pub state_of : Inside → Kernel
state_of a =
    record {
      tasks = tasks_in a.messages.own a.tasks.tasks;
      objects = objects_in a.messages.queues a.objects.items;
      ready = [];
      pend = [];
      matches = a.ticks.matches;
      timer_matches = a.timers.matches;
      ticks = a.ticks.ticks;
      timer_count = a.timers.count;
      tick_signals = a.tick_signals;
      timer_signals = a.timer_signals;
      tick_calls = a.tick_calls;
      processing = a.processing;
      in_callback = a.in_callback;
      lock = a.lock;
      free = a.messages.free;
      settings = record { tasks = a.settings.tasks; round_robin = a.settings.round_robin; tmr_div = a.settings.tmr_div; pool = a.settings.pool };
    }

abbrev pub records_of : Inside → RecordsRecord
records_of a = record { state = state_of a; registers = a.tasks.registers }

-- The kinds of the at most 64 objects are known; each has a queue at its number, and each of the 64 tasks its own objects. The
-- scheduler is locked 250 times at most.
pub record IsSound (a : Inside) : Type 0 where
  pub kinds : a.kinds ≡ kinds_of (state_of a)
  pub few : length a.objects.items ≤ 64
  pub queues : length a.messages.queues ≡ length a.objects.items
  pub own : length a.messages.own ≡ 64
  pub tasks : length a.tasks.tasks ≡ 64
  pub lock : a.lock ≤ nesting_limit
