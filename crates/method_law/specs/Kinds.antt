-- What the static checks of a call look at stays as it is while posts wait.
use Rattle.std.specs.Prelude.{◌≡◌, ℕ, Bool, true, List, All}
use Rattle.kern_base.specs.Services.{is_post}
use Rattle.kern_base.specs.Checks.{static_error}
use Rattle.kern_base.specs.declared.services.Service.{Service}
use Rattle.kern_model.specs.State.{Kernel, kinds_of}
use Rattle.kern_model.specs.Services.{posted}
use Rattle.machine_model.specs.Queue.{Queued}
use Rattle.method_law.specs.Relation.{all_performed}

-- A post changes no kind of an object, and not how many tasks there are.
abbrev pub PostsKeepKinds : Type 0
PostsKeepKinds = (served : Service → Bool) (s : Service) (args : List ℕ) (c h : ℕ) (k : Kernel) → is_post s ≡ true → kinds_of (posted served s args c h k).kernel ≡ kinds_of k

-- Nor do queued posts that are performed.
abbrev pub PerformingKeepsKinds : Type 0
PerformingKeepsKinds = (served : Service → Bool) (later : List Queued) (k : Kernel) → All (λ q. is_post q.service ≡ true) later → kinds_of (all_performed served later k) ≡ kinds_of k

-- So the static checks of a call answer alike before queued posts are performed and after it.
abbrev pub ChecksAnswerAlike : Type 0
ChecksAnswerAlike =
    (served : Service → Bool) (later : List Queued) (k : Kernel) (s : Service) (args : List ℕ) (own : Bool) → All (λ q. is_post q.service ≡ true) later
    → static_error s args (kinds_of (all_performed served later k)) own ≡ static_error s args (kinds_of k) own
