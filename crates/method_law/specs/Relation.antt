-- The relation between a run by the deferred method and one by the direct method: the direct kernel is the deferred one with
-- all queued posts performed, in their order, each at the priority that was saved with it.
use Rattle.std.specs.Prelude.{◌≡◌, Bool, true, List, [], ◌∷◌, ◌++◌, All}
use Rattle.kern_base.specs.Services.{is_post}
use Rattle.kern_base.specs.declared.services.Service.{Service}
use Rattle.kern_model.specs.State.{Kernel}
use Rattle.kern_model.specs.Services.{posted}
use Rattle.kern_model.specs.Posts.{PostKeeps}
use Rattle.machine_model.specs.Queue.{Queued}

-- the kernel after one queued post, which is compared with its saved priority
abbrev pub performed : (Service → Bool) → Queued → Kernel → Kernel
performed served q k = (posted served q.service q.args q.saved q.saved k).kernel

-- the kernel after queued posts, in their order
abbrev pub all_performed : (Service → Bool) → List Queued → Kernel → Kernel
all_performed served [] k = k
all_performed served (q ∷ qs) k = all_performed served qs (performed served q k)

-- A post that joins the queue is performed after those that wait.
abbrev pub QueueingPerforms : Type 0
QueueingPerforms = (served : Service → Bool) (q : Queued) (later : List Queued) (k : Kernel) → all_performed served (later ++ q ∷ []) k ≡ performed served q (all_performed served later k)

-- A take performs the first post, and leaves the others to be performed.
abbrev pub TakingPerforms : Type 0
TakingPerforms = (served : Service → Bool) (q : Queued) (later : List Queued) (k : Kernel) → all_performed served later (performed served q k) ≡ all_performed served (q ∷ later) k

-- Queued posts keep what every post keeps.
abbrev pub PerformingKeeps : Type 0
PerformingKeeps = (served : Service → Bool) (later : List Queued) (k : Kernel) → All (λ q. is_post q.service ≡ true) later → PostKeeps k (all_performed served later k)
