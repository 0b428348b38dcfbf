-- Queued posts performed in their order.
use Rattle.machine_laws.proofs.Common.{◌≡◌, refl, List, [], ◌∷◌, All, ◌++◌, All-head, All-tail, is_post, Service, Kernel, Queued}
use Rattle.std.specs.Prelude.{Bool, true}
use Rattle.kern_model.proofs.Lemmas.{keeps-posted, keeps-refl, keeps-trans}
use Rattle.kern_model.specs.Posts.{PostKeeps}
use Rattle.method_law.specs.Relation.{performed, all_performed}

-- a post behind others is performed after them
pub performed-last : (served : Service → Bool) (q : Queued) (later : List Queued) (k : Kernel) → all_performed served (later ++ q ∷ []) k ≡ performed served q (all_performed served later k)
performed-last served q [] k = refl
performed-last served q (p ∷ later) k = performed-last served q later (performed served p k)

-- one queued post
stays-performed : (served : Service → Bool) (q : Queued) (k : Kernel) → is_post q.service ≡ true → PostKeeps k (performed served q k)
stays-performed served q k p =
    let h = keeps-posted served q.service q.args q.saved q.saved k p in
    record {
      lock = h.lock;
      prio = h.prio;
      base = h.base;
      alive = h.alive;
      suspended = h.suspended;
      ticks = h.ticks;
      timer_count = h.timer_count;
      processing = h.processing;
      in_callback = h.in_callback;
      settings = h.settings;
    }

-- all of them
pub stays-all : (served : Service → Bool) (later : List Queued) (k : Kernel) → All (λ q. is_post q.service ≡ true) later → PostKeeps k (all_performed served later k)
stays-all served [] k posts = keeps-refl k
stays-all served (q ∷ later) k posts =
    let j = performed served q k in
    let first = All-head (λ (p : Queued). is_post p.service ≡ true) q later posts in
    let rest = All-tail (λ (p : Queued). is_post p.service ≡ true) q later posts in
    keeps-trans k j (all_performed served later j) (stays-performed served q k first) (stays-all served later j rest)
