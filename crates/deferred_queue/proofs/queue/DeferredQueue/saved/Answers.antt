use Rattle.std.proofs.Common.{refl}
use Rattle.deferred_queue.proofs.FrontFacts.{front-some, front-none}
use Rattle.deferred_queue.proofs.queue.DeferredQueue.saved.Goals as goal

pub returns-in-Some : goal.returns-in-Some
returns-in-Some c = rw (← c.self.view_is, front-some c.self.inside.posts.items c.in-Some.waiting.now c.in-Some.ensures) refl

pub returns-in-None : goal.returns-in-None
returns-in-None c = rw (← c.self.view_is, front-none c.self.inside.posts.items c.in-None.ensures) refl
