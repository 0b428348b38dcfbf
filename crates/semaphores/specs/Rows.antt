-- What is decided of a call on a semaphore, and how its count changes.
use Rattle.std.specs.Prelude.{◌≡◌, ℕ, zero, suc, ◌+◌, ◌-◌, ◌^◌, Bool, [], ◌∷◌, Option, Some, None, if◌then◌else◌, ◌==◌}
use Rattle.kern_base.specs.Services.{kinds_wanted}
use Rattle.kern_base.specs.declared.kinds.Kind.TheVariants.{Sem}
use Rattle.kern_base.specs.declared.numbers.TaskId.{TaskId}
use Rattle.kern_base.specs.declared.services.Service.{Service}
use Rattle.kern_base.specs.declared.services.Service.TheVariants.{SemPost, SemPend, SemPendAbort}
use Rattle.kern_base.specs.declared.requests.Request.{Request}
use Rattle.kern_base.specs.declared.errors.OsErr.TheVariants.{SemOverflow}
use Rattle.kern_base.specs.declared.outcomes.Around.{Around}
use Rattle.kern_base.specs.declared.outcomes.Decision.{Decision}
use Rattle.kern_base.specs.declared.outcomes.Decision.TheVariants.{Done, Wake}
use Rattle.kern_base.specs.declared.outcomes.Who.TheVariants.{First, All}
use Rattle.kern_model.specs.Checks.{argument}
use Rattle.kern_model.specs.Effect.{fine}
use Rattle.kern_model.specs.Options.{posts_to_all, does_not_wait}
use Rattle.decisions.specs.Rows.{is_success, refusal, wait_decision, abort_decision, delete_decision}

-- a post wakes the first waiter, or all of them; where nobody waits the count rises, unless it is the greatest
abbrev pub post_decision : ℕ → ℕ → Option TaskId → Decision
post_decision n option None = if n == 2 ^ 32 - 1 then refusal SemOverflow else Done (fine (n + 1))
post_decision n option (Some x) = Wake (if posts_to_all option then All else First)

-- a wait takes one from the count; at 0 it can not go on
abbrev pub pend_decision : ℕ → ℕ → Bool → Decision
pend_decision zero option locked = wait_decision (does_not_wait option) locked
pend_decision (suc n) option locked = Done (fine n)

-- the decision on a call, where the semaphore has this count
abbrev pub decision_for : Service → ℕ → Request → Around → Decision
decision_for SemPost n r seen = post_decision n (argument r 1) seen.first
decision_for SemPend n r seen = pend_decision n (argument r 2) seen.locked
decision_for SemPendAbort n r seen = abort_decision (argument r 1) seen.first
decision_for _ n r seen = delete_decision (argument r 1) seen.first

abbrev pub decision_of : ℕ → Request → Around → Decision
decision_of n r seen = decision_for r.service n r seen

-- A post that succeeds without waking anybody adds one to the count, a wait that succeeds takes one from it, and nothing else
-- changes it.
abbrev pub count_after : Service → Decision → ℕ → ℕ
count_after SemPost d n = if is_success d then n + 1 else n
count_after SemPend d n = if is_success d then n - 1 else n
count_after _ d n = n

-- a call whose object is a semaphore
abbrev pub IsSemaphoreCall : Request → Type 0
IsSemaphoreCall r = kinds_wanted r.service ≡ Sem ∷ []
