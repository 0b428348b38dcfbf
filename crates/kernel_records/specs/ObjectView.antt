-- What an object's fields mean, with the queue that stands at its number; and what a task is with its own semaphore and queue.
use Rattle.std.specs.Prelude.{[], ◌∷◌, None, List}
use Rattle.kern_model.specs.State as state
use Rattle.kern_model.specs.State.{Task}
use Rattle.app_image.specs.declared.records.ObjDef.{ObjDef}
use Rattle.kern_model.specs.Start.{content_of}
use Rattle.message_store.specs.Start.{held_of}
use Rattle.message_store.specs.Store.{HeldQueue, OwnObjects, no_own, no_queue}
use Rattle.tick_timers.specs.TimerSeen.{timer_seen}
use Rattle.kernel_records.specs.declared.objects.Content.{Content}
use Rattle.kernel_records.specs.declared.objects.Content.TheVariants.{Semaphore, Messages, Flags, Free, Timed}
use Rattle.kernel_records.specs.declared.objects.Object.{Object}

abbrev pub content_seen : HeldQueue → Content → state.Content
content_seen q (Semaphore s) = state.Count s.count
content_seen q Messages = state.Messages q.limit q.messages
content_seen q (Flags group) = state.Bits group.bits
content_seen q Free = state.Held None 0
content_seen q (Timed t) = state.Timed (timer_seen t)

abbrev pub object_seen : HeldQueue → Object → state.Object
object_seen q b = record { content = content_seen q b.content; deleted = b.deleted }

-- the objects by number, each with the queue of its number
abbrev pub objects_in : List HeldQueue → List Object → List state.Object
objects_in qs [] = []
objects_in [] (b ∷ bs) = object_seen no_queue b ∷ objects_in [] bs
objects_in (q ∷ qs) (b ∷ bs) = object_seen q b ∷ objects_in qs bs

-- the queue of an object as it was declared
abbrev pub declared_queue : ObjDef → HeldQueue
declared_queue d = held_of (content_of d.kind d.f)

-- a task with its own semaphore and queue
abbrev pub with_own : OwnObjects → Task → Task
with_own o t = record t { count = o.count; limit = o.limit; messages = o.messages }

-- the tasks by number, each with its own
abbrev pub tasks_in : List OwnObjects → List Task → List Task
tasks_in os [] = []
tasks_in [] (t ∷ ts) = with_own no_own t ∷ tasks_in [] ts
tasks_in (o ∷ os) (t ∷ ts) = with_own o t ∷ tasks_in os ts
