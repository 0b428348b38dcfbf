-- What the fields of a store mean: the lists of keys of all its queues, and the messages under them.
use Rattle.std.specs.Prelude.{◌≡◌, ◌≢◌, ◌<◌, ◌≤◌, ℕ, List, [], ◌++◌, length, map, IsSome, slice_index}
use Rattle.kern_base.specs.declared.kinds.Kind.{Kind}
use Rattle.kern_base.specs.declared.kinds.Kind.TheVariants as kind
use Rattle.kern_model.specs.State.{list_at, count_of}
use Rattle.msg_queues.specs.Stored.{Pool, Queue, message_at, messages_under}
use Rattle.task_objects.specs.Box.{TaskObjects}
use Rattle.message_store.specs.Store.{HeldQueue, OwnObjects, Store}
use Rattle.message_store.specs.declared.stores.MessageStore.TheInside.{Inside}

-- a queue with its messages
abbrev pub queue_in : Pool → Queue → HeldQueue
queue_in pool q = record { limit = q.limit; messages = messages_under q.keys pool }

-- a task's own objects with their messages
abbrev pub own_in : Pool → TaskObjects → OwnObjects
own_in pool t = record { count = t.count; limit = t.limit; messages = messages_under t.keys pool }

-- the lists of keys: first those of the objects, then those of the tasks
abbrev pub key_lists : List Queue → List TaskObjects → List (List ℕ)
key_lists queues own = map (λ q. q.keys) queues ++ map (λ t. t.keys) own

-- Under each key in these lists stands a message, and no key stands twice, neither in one list nor in two.
pub record AreApart (lists : List (List ℕ)) (pool : Pool) : Type 0 where
  pub present : (i key : ℕ) → 0 < count_of key (list_at lists i) → IsSome (message_at pool key)
  pub once : (i key : ℕ) → count_of key (list_at lists i) ≤ 1
  pub alone : (i j key : ℕ) → i ≢ j → 0 < count_of key (list_at lists i) → count_of key (list_at lists j) ≡ 0

abbrev pub store_of : Inside → Store
store_of a =
    record {
      free = a.pool.free;
      queues = map (queue_in a.pool) a.queues.items;
      own = map (own_in a.pool) a.own.items;
    }

-- all messages are apart, and each of the 64 tasks has its own objects
pub record IsStore (a : Inside) : Type 0 where
  pub apart : AreApart (key_lists a.queues.items a.own.items) a.pool
  pub tasks : length a.own.items ≡ 64

-- how many messages an object may hold, as it was declared
abbrev pub declared_limit : Kind → List ℕ → ℕ
declared_limit kind.Queue f = slice_index f 0
declared_limit other f = 0

-- a queue with this limit and no message
abbrev pub empty_queue : ℕ → Queue
empty_queue n = record { limit = n; keys = [] }

-- own objects with this limit, count 0 and no message
abbrev pub empty_own : ℕ → TaskObjects
empty_own n = record { count = 0; limit = n; keys = [] }
