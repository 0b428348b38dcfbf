-- The services of counting semaphores.
use Rattle.std.specs.Prelude.{ℕ, zero, suc, ◌+◌, ◌-◌, ◌^◌, List, [], ◌∷◌, if◌then◌else◌, ◌==◌}
use Rattle.kern_base.specs.declared.services.Service.TheVariants.{SemPend}
use Rattle.kern_base.specs.declared.outcomes.Waiting.TheVariants.{Obj}
use Rattle.kern_base.specs.declared.requests.Request.{Request}
use Rattle.kern_base.specs.declared.errors.OsErr.TheVariants.{ObjectType, SemOverflow}
use Rattle.kern_model.specs.State.{Kernel, Content, Count, list_at, with_content}
use Rattle.kern_model.specs.Effect.{Effect, refused, done, fine, woken, chosen, posted_result, waits_unless, blocks_on, waits_for}
use Rattle.kern_model.specs.Options.{posts_to_all, does_not_wait}
use Rattle.kern_model.specs.Checks.{argument}

-- a semaphore that nobody waits for counts up, unless it is at its greatest count
abbrev pub sem_counts_up : ℕ → ℕ → Kernel → Effect
sem_counts_up n o k = if n == 2 ^ 32 - 1 then refused k SemOverflow else done (with_content k o (Count (n + 1))) (fine (n + 1))

-- OSSemPost: wakes the first waiter, or with option 2 all of them; where nobody waits the count rises.
abbrev pub sem_post_to : List ℕ → ℕ → ℕ → ℕ → ℕ → Kernel → Effect
sem_post_to [] n o option compared k = sem_counts_up n o k
sem_post_to (x ∷ xs) n o option compared k = woken (posted_result o (fine 0)) (fine 0) compared (chosen (posts_to_all option) (x ∷ xs)) k

-- OSSemPost on what an object holds
abbrev pub sem_post : Content → Request → ℕ → Kernel → Effect
sem_post (Count n) r compared k =
    let semaphore = argument r 0 in
    let option = argument r 1 in
    sem_post_to (list_at k.pend semaphore) n semaphore option compared k
sem_post content r compared k = refused k ObjectType

-- OSSemPend: takes one from the count; at 0 the caller waits.
abbrev pub sem_pend : Content → Request → ℕ → Kernel → Effect
sem_pend (Count zero) r x k =
    let semaphore = argument r 0 in
    let timeout = argument r 1 in
    let option = argument r 2 in
    waits_unless k (does_not_wait option) (blocks_on k x (waits_for (Obj SemPend) (semaphore ∷ []) timeout))
sem_pend (Count (suc n)) r x k = let semaphore = argument r 0 in done (with_content k semaphore (Count n)) (fine n)
sem_pend content r x k = refused k ObjectType
