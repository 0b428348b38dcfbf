-- All messages of the kernel, as plain lists, and how a call changes them. A message is its address and size.
use Rattle.std.specs.Prelude.{ℕ, ◌+◌, List, [], length, slice_index_or, slice_set}
use Rattle.kern_base.specs.declared.requests.Request.{Request}
use Rattle.kern_base.specs.declared.outcomes.Decision.{Decision}
use Rattle.msg_queues.specs.Rows as queue_rows
use Rattle.task_objects.specs.Rows as task_rows

-- a queue: how many messages it may hold, and those that it holds, in order
pub record HeldQueue : Type 0 where
  pub limit : ℕ
  pub messages : List (ℕ × ℕ)

-- a task's own semaphore and queue: the count, and the same of the queue
pub record OwnObjects : Type 0 where
  pub count : ℕ
  pub limit : ℕ
  pub messages : List (ℕ × ℕ)

-- how many messages can still be stored; a queue for each object number; and each task's own objects, by task number
pub record Store : Type 0 where
  pub free : ℕ
  pub queues : List HeldQueue
  pub own : List OwnObjects

-- what stands at a number without an object
abbrev pub no_queue : HeldQueue
no_queue = record { limit = 0; messages = [] }

-- what stands at a number without a task
abbrev pub no_own : OwnObjects
no_own = record { count = 0; limit = 0; messages = [] }

-- the queue of an object
abbrev pub queue_at : Store → ℕ → HeldQueue
queue_at s o = slice_index_or s.queues o no_queue

-- the own objects of a task
abbrev pub own_at : Store → ℕ → OwnObjects
own_at s x = slice_index_or s.own x no_own

-- a queue after a call that was decided so
abbrev pub queue_after : Request → Decision → HeldQueue → HeldQueue
queue_after r d q = record q { messages = queue_rows.messages_after r.service d r q.messages }

-- everything after a call on the queue of object o that was decided so: all else stays
abbrev pub after_call : Store → ℕ → Request → Decision → Store
after_call s o r d =
    record s {
      free = queue_rows.free_after r.service d (length (queue_at s o).messages) s.free;
      queues = slice_set s.queues o (queue_after r d (queue_at s o));
    }

-- a task's own objects after a call that was decided so
abbrev pub own_after : Request → Decision → OwnObjects → OwnObjects
own_after r d t =
    record t {
      count = task_rows.count_after r.service d t.count;
      messages = task_rows.messages_after r.service d r t.messages;
    }

-- everything after a call on the own objects of task x that was decided so: all else stays
abbrev pub after_own_call : Store → ℕ → Request → Decision → Store
after_own_call s x r d =
    record s {
      free = task_rows.free_after r.service d s.free;
      own = slice_set s.own x (own_after r d (own_at s x));
    }

-- everything after task x has given its messages back
abbrev pub without_messages : Store → ℕ → Store
without_messages s x =
    record s {
      free = s.free + length (own_at s x).messages;
      own = slice_set s.own x (record (own_at s x) { messages = [] });
    }
