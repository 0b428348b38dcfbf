-- The messages at the start.
use Rattle.std.specs.Prelude.{map}
use Rattle.app_image.specs.Image.{ImageRecord}
use Rattle.kern_model.specs.State.{Task, Content, Messages}
use Rattle.kern_model.specs.Start.{start_tasks, content_of}
use Rattle.message_store.specs.Store.{HeldQueue, OwnObjects, Store, no_queue}

-- the queue in what an object holds; an object that is no queue holds no message
abbrev pub held_of : Content → HeldQueue
held_of (Messages limit ms) = record { limit = limit; messages = ms }
held_of content = no_queue

-- a task's own semaphore and queue
abbrev pub own_of : Task → OwnObjects
own_of t = record { count = t.count; limit = t.limit; messages = t.messages }

-- all messages are free, and the queues and own objects are those of the objects and tasks at the start
abbrev pub start_store : ImageRecord → Store
start_store i =
    record {
      free = i.config.pool;
      queues = map (λ d. held_of (content_of d.kind d.f)) i.objects;
      own = map own_of (start_tasks i);
    }
