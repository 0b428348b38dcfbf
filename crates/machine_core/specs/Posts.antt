-- What a post of interrupt code comes to, by where it goes.
use Rattle.std.specs.Prelude.{ℕ, ◌-◌, ◌^◌, Bool, ◌&&◌, nat_lt, List, Option, Some, None}
use Rattle.kern_base.specs.declared.services.Service.{Service}
use Rattle.kern_base.specs.declared.outcomes.Answer.{Answer}
use Rattle.kern_base.specs.declared.errors.OsErr.TheVariants.{InterruptQueueFull}
use Rattle.kern_model.specs.State.{Kernel}
use Rattle.kern_model.specs.Effect.{answer, fine}
use Rattle.served.specs.Served.{program_serves}
use Rattle.kern_model.specs.Services.{posted}
use Rattle.kernel_calls.specs.KernelRecord.{KernelRecord, with_state}
use Rattle.machine_model.specs.Queue.{Queued, queued}
use Rattle.machine_model.specs.Interrupts.{answer_in}
use Rattle.deferred_queue.specs.QueueRecord.{QueueRecord}

-- into the kernel, while a task of priority p is current
abbrev pub post_at_once : ℕ → Service → List ℕ → KernelRecord → Answer × KernelRecord
post_at_once p s args k =
    let e = posted program_serves s args p p k.state in
    (answer_in e.outcome, with_state k e.kernel)

-- the queue with these posts, or as it was, where it is full
abbrev pub joined : Option (List Queued) → QueueRecord → Answer × QueueRecord
joined (Some after) q = (fine 0, record q { posts = after })
joined None q = (answer InterruptQueueFull 0, q)

-- into the queue, with this priority
abbrev pub post_later : ℕ → Service → List ℕ → QueueRecord → Answer × QueueRecord
post_later p s args q = joined (queued q.size (record { service = s; args = args; saved = p }) q.posts) q

-- whether one more signal of the tick task and of the timer task can be counted
abbrev pub has_room : Kernel → Bool
has_room k = nat_lt k.tick_signals (2 ^ 64 - 1) && nat_lt k.timer_signals (2 ^ 64 - 1)
