-- What is told of the tasks after a call, by its plan and the records before it.
use Rattle.std.specs.Prelude.{◌≡◌, ◌<◌, ◌≤◌, ℕ, Bool, true, false, All, List, [], length}
use Rattle.kern_base.specs.declared.numbers.Prio.{Prio}
use Rattle.kern_base.specs.declared.outcomes.Decision.TheVariants.{Block, Wake}
use Rattle.kern_base.specs.declared.outcomes.Finished.{Finished}
use Rattle.kern_base.specs.declared.outcomes.Who.{Who}
use Rattle.kern_base.specs.declared.outcomes.Who.TheVariants.{Matching}
use Rattle.kern_model.specs.State.{Kernel, Task, task_at, task_in, prio_of, count_of, is_ready, waits_for_nothing}
use Rattle.kern_model.specs.Micro.{Lists, lists_of}
use Rattle.kern_model.specs.Effect.{Wait, block_blocks, blocked, wakes_all, wakes_blocks}
use Rattle.kern_model.specs.Flags.{flag_wakes_all}
use Rattle.kern_model.specs.Inherit.{inherited}
use Rattle.kern_model.specs.Valid.{AllWait, IsLinked}
use Rattle.micro_steps.specs.Blocks.{prio_in}
use Rattle.link_plans.specs.declared.plan.Plan.{Plan}
use Rattle.link_plans.specs.Told.{living_standing, standing_after}
use Rattle.link_plans.specs.Plans.{block_links, wakes_links}
use Rattle.link_plans.specs.Fits.{AreKernels}
use Rattle.link_plans.specs.Renewals.{IsRenewalAfter, KnowObjects}

-- The records ts and the plan of a call tell of the tasks us after it where each living one stands, and the present priorities.
pub record TellsAfter (q : Plan) (ts us : List Task) : Type 0 where
  pub stands : (x : ℕ) → standing_after q ts x ≡ living_standing (task_in us x)
  pub present : (x : ℕ) → (task_in ts x).prio ≡ (task_in us x).prio

-- where the caller waits
abbrev pub BlockTells : Type 0
BlockTells =
    (q : Plan) (k : Kernel) (w : Wait) → q.decision ≡ Block → waits_for_nothing w.waiting ≡ false → q.caller.0 < length k.tasks →
    TellsAfter q k.tasks (blocked k q.caller.0 w).tasks

-- where tasks are woken, the first or all
abbrev pub WakesTell : Type 0
WakesTell =
    (q : Plan) (f : Task → Finished) (compared : ℕ) (k : Kernel) (who : Who) → q.decision ≡ Wake who → (who ≡ Matching → ⊥) →
    TellsAfter q k.tasks (wakes_all f compared q.woken.items k).tasks

-- and where they are looked at, by a post of event flags that leaves these bits
abbrev pub MatchingTell : Type 0
MatchingTell =
    (q : Plan) (compared : ℕ) (k : Kernel) → q.decision ≡ Wake Matching →
    TellsAfter q k.tasks (flag_wakes_all q.bits compared q.woken.items k).tasks

-- A caller that waits at its inherited priority does not move; so the records tell the objects of all tasks that do.
abbrev pub BlockKnowsObjects : Type 0
BlockKnowsObjects = (k : Kernel) (x : ℕ) (w : Wait) → prio_of k x ≡ inherited k x → KnowObjects k.tasks (blocked k x w)

-- tasks that are woken keep the objects of their calls
abbrev pub WakesKeepObjects : Type 0
WakesKeepObjects =
    (f : Task → Finished) (compared : ℕ) (xs : List ℕ) (k : Kernel) (x : ℕ) →
    (task_at (wakes_all f compared xs k) x).objects ≡ (task_at k x).objects

-- the priorities are those of this kernel's tasks
abbrev pub TellAll : List Prio → Kernel → Type 0
TellAll prios k = (length prios ≡ 64) × ((x : ℕ) → prio_in prios x ≡ prio_of k x)

-- The links of a caller that waits for up to eight objects, and of the renewal behind them.
abbrev pub BlockRenews : Type 0
BlockRenews =
    (prios : List Prio) (tail : Bool) (k : Kernel) (x : ℕ) (w : Wait) (l : Lists) → IsLinked k → AreKernels k l → IsLinked (blocked k x w) → TellAll prios k →
    x < 64 → is_ready (task_at k x) ≡ true → All (λ o. o < length k.objects) w.objects → ((o : ℕ) → count_of o w.objects ≤ 1) → length w.objects ≤ 8 →
    prio_of k x ≡ inherited k x →
    IsRenewalAfter k.tasks prios tail (block_links k.tasks x w.objects) (block_blocks k x w.objects) k (blocked k x w) l

-- The links of tasks that are woken, and of the renewal behind them. The call may change objects beside.
abbrev pub WakesRenew : Type 0
WakesRenew =
    (prios : List Prio) (tail : Bool) (f : Task → Finished) (compared : ℕ) (xs : List ℕ) (k j : Kernel) (l : Lists) → IsLinked k → AreKernels k l → IsLinked j →
    TellAll prios k → AllWait k xs → j.tasks ≡ (wakes_all f compared xs k).tasks → lists_of j ≡ lists_of (wakes_all f compared xs k) →
    length j.objects ≡ length k.objects → IsRenewalAfter k.tasks prios tail (wakes_links k.tasks compared xs) (wakes_blocks k compared xs) k j l

-- The links of a renewal after a call without a block, which leaves the lists, and the present priorities and objects of all tasks.
abbrev pub PlainRenews : Type 0
PlainRenews =
    (prios : List Prio) (tail : Bool) (k j : Kernel) (l : Lists) → IsLinked k → AreKernels k l → IsLinked j → TellAll prios k → lists_of j ≡ lists_of k →
    length j.objects ≡ length k.objects → ((x : ℕ) → prio_of j x ≡ prio_of k x) → ((x : ℕ) → (task_at j x).objects ≡ (task_at k x).objects) →
    IsRenewalAfter k.tasks prios tail [] [] k j l
