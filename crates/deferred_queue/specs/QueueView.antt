-- What the fields of the queue mean.
use Rattle.std.specs.Prelude.{ℕ, List, map}
use Rattle.kern_base.specs.declared.numbers.Prio.{Prio}
use Rattle.kern_base.specs.declared.requests.Post.{Post}
use Rattle.kern_base.specs.declared.services.Service.{Service}
use Rattle.machine_model.specs.Queue.{Queued}
use Rattle.deferred_queue.specs.QueueRecord.{QueueRecord}
use Rattle.deferred_queue.specs.declared.queue.Waiting.{Waiting}
use Rattle.deferred_queue.specs.declared.queue.DeferredQueue.TheInside.{Inside}

-- a post with this saved priority
abbrev pub post_saved : Post → Prio → Queued
post_saved post saved = record { service = post.service; args = post.args; saved = saved.0 }

abbrev pub waiting_seen : Waiting → Queued
waiting_seen w = post_saved w.post w.saved

abbrev pub queue_of : Inside → QueueRecord
queue_of a = record { posts = map waiting_seen a.posts.items; size = a.posts.capacity }

-- The service and the arguments of a post, and of a post that waits.

abbrev pub service_of_post : Post → Service
service_of_post post = post.service

abbrev pub service_of_queued : Queued → Service
service_of_queued q = q.service

abbrev pub args_of_post : Post → List ℕ
args_of_post post = post.args

abbrev pub args_of_queued : Queued → List ℕ
args_of_queued q = q.args
