-- A take of a valid kernel that readies no task of the saved priority is as the post at once.
use Rattle.machine_laws.proofs.Common.{◌≡◌, Bool, ℕ, refl, true, List, false, ◌∙◌, None, Some, sym, Option, ◌==◌, if◌then◌else◌, ◌&&◌, false≢true, Config, is_post, OsErr, CallUnknown, Request, Service, FlagPost, QPost, SemPost, TaskQPost, TaskSemPost, TimeTick, call_of, call_error, refused, posted, post_request, after_checks, content_for, perform, Kernel, task_at, IsLinked, Queued}
use Rattle.kern_model.specs.Checks.{named_task}
use Rattle.kern_model.proofs.Lemmas.{keeps-posted, linked-effect}
use Rattle.machine_model.specs.Steps.{some_readied}
use Rattle.method_law.specs.Relation.{performed}
use Rattle.method_law.specs.Takes.{TakesAsAtOnce}
use Rattle.method_law.proofs.Posts.Services.{Same, same-sem_post, same-q_post, same-flag_post, same-task_sem, same-task_q}
use Rattle.method_law.proofs.Posts.Ticks.{same-time_tick}

module _ (saved : ℕ) (k : Kernel) (v : IsLinked k) (c : ℕ) where
  same-perform : (s : Service) (r : Request) → is_post s ≡ true → Same saved k v (λ h. (perform s (call_of r 63 c h) k).kernel)
  same-perform SemPost r p = same-sem_post saved k v (content_for r k) r
  same-perform QPost r p = same-q_post saved k v (content_for r k) r
  same-perform FlagPost r p = same-flag_post saved k v (content_for r k) r
  same-perform TaskSemPost r p = let y = named_task r 63 in same-task_sem saved k v (task_at k y).waiting y refl
  same-perform TaskQPost r p = let y = named_task r 63 in same-task_q saved k v (task_at k y).waiting r y refl
  same-perform TimeTick r p = same-time_tick saved k v c
  same-perform _ r p = absurd (false≢true p)

  same-after_checks : (e : Option OsErr) (r : Request) → is_post r.service ≡ true → Same saved k v (λ h. (after_checks e (call_of r 63 c h) k).kernel)
  same-after_checks (Some err) r p = λ l keeps none. refl
  same-after_checks None r p = same-perform r.service r p

  same-posted : (served : Service → Bool) (s : Service) (args : List ℕ) → is_post s ≡ true → Same saved k v (λ h. (posted served s args c h k).kernel)
  same-posted served s args p =
      let r = post_request s args in
      let by : (b : Bool) → Same saved k v (λ h. (if b then after_checks (call_error r 63 k) (call_of r 63 c h) k else refused k CallUnknown).kernel)
      = λ b. elim b as (λ u. Same saved k v (λ h. (if u then after_checks (call_error r 63 k) (call_of r 63 c h) k else refused k CallUnknown).kernel)) [
        | true ↦ same-after_checks (call_error r 63 k) r p
        | false ↦ λ l keeps none. refl
      ] in
      by (served s)

-- whatever rule of insertion holds
pub take-same : (served : Service → Bool) (config : Config) (q : Queued) (k : Kernel) → IsLinked k → is_post q.service ≡ true → TakesAsAtOnce served config q k
take-same served config q k v p =
    let after : ℕ → Kernel = λ h. (posted served q.service q.args q.saved h k).kernel in
    let valid : IsLinked (after 0) = linked-effect served (call_of (post_request q.service q.args) 63 q.saved 0) k v (λ n. absurd (false≢true (sym n ∙ p))) in
    let by : (b : Bool) → (b && some_readied q.saved k.tasks (after (if b then 0 else q.saved)).tasks) ≡ false → after (if b then 0 else q.saved) ≡ performed served q k
    = λ b. elim b as (λ u. (u && some_readied q.saved k.tasks (after (if u then 0 else q.saved)).tasks) ≡ false → after (if u then 0 else q.saved) ≡ performed served q k) [
      | true ↦ same-posted q.saved k v q.saved served q.service q.args p (valid.sizes.tasks ∙ sym v.sizes.tasks) (keeps-posted served q.service q.args q.saved 0 k p)
      | false ↦ λ none. refl
    ] in
    by (config.insert == 1)
