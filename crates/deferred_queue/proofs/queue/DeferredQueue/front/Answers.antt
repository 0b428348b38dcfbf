use Rattle.std.proofs.Common.{refl}
use Rattle.deferred_queue.proofs.FrontFacts.{front-some, front-none}
use Rattle.deferred_queue.proofs.queue.DeferredQueue.front.Goals as goal

pub returns-in-Some-clause-service : goal.returns-in-Some-clause-service
returns-in-Some-clause-service c = rw (← c.self.view_is, front-some c.self.inside.posts.items c.in-Some.waiting.now c.in-Some.ensures) refl

pub returns-in-Some-clause-arguments : goal.returns-in-Some-clause-arguments
returns-in-Some-clause-arguments c = rw (← c.self.view_is, front-some c.self.inside.posts.items c.in-Some.waiting.now c.in-Some.ensures) refl

pub returns-in-None-clause-service : goal.returns-in-None-clause-service
returns-in-None-clause-service c = rw (← c.self.view_is, front-none c.self.inside.posts.items c.in-None.ensures) refl

pub returns-in-None-clause-arguments : goal.returns-in-None-clause-arguments
returns-in-None-clause-arguments c = rw (← c.self.view_is, front-none c.self.inside.posts.items c.in-None.ensures) refl
