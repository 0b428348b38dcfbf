-- The pool of messages: those stored in queues and those that are free.
use Rattle.std.specs.Prelude.{◌≡◌, ℕ, ◌+◌, List, [], ◌∷◌, length}
use Rattle.kern_model.specs.State.{Kernel, Task, Object}
use Rattle.kern_model.specs.Waiters.{messages_in}

-- how many messages stand in the queues of objects, and in those of tasks
abbrev pub object_messages : List Object → ℕ
object_messages [] = 0
object_messages (b ∷ bs) = messages_in b.content + object_messages bs

-- and in those of tasks
abbrev pub task_messages : List Task → ℕ
task_messages [] = 0
task_messages (t ∷ ts) = length t.messages + task_messages ts

-- all messages
abbrev pub pool_of : Kernel → ℕ
pool_of k = object_messages k.objects + task_messages k.tasks + k.free

-- Messages stored and free messages together are the pool.
abbrev pub HasPool : Kernel → Type 0
HasPool k = pool_of k ≡ k.settings.pool
