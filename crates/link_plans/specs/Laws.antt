-- The two facts that a service owes of its plan: its links are the blocks of its definition, and they fit.
use Rattle.std.specs.Prelude.{◌≡◌, ◌<◌, ◌≤◌, ℕ, true, false, All, List, [], length}
use Rattle.kern_base.specs.declared.numbers.Prio.{Prio}
use Rattle.kern_model.specs.State.{Kernel, Task, task_at, prio_of, count_of, is_ready, task_in, waits_for_nothing, application_limit}
use Rattle.kern_model.specs.Micro.{Lists}
use Rattle.kern_model.specs.Effect.{wakes_blocks, block_blocks}
use Rattle.kern_model.specs.Valid.{IsLinked}
use Rattle.links.specs.Chain.{list_at}
use Rattle.micro_steps.specs.declared.link.Link.{Link}
use Rattle.micro_steps.specs.Blocks.{prio_in}
use Rattle.micro_steps.specs.Whole.{task_blocks, AreFit, lists_after}
use Rattle.link_plans.specs.Plans.{wakes_links, block_links}
use Rattle.link_plans.specs.Fits.{CanWake, AreKernels, IsNoded}

-- the links of tasks that are woken are the blocks of their wakes
abbrev pub WakesAreBlocks : Type 0
WakesAreBlocks =
    (prios : List Prio) (k : Kernel) (compared : ℕ) (xs : List ℕ) → ((x : ℕ) → length (task_at k x).objects ≤ 8)
    → task_blocks prios (wakes_links k.tasks compared xs) ≡ wakes_blocks k compared xs

-- the links of a caller that waits are the blocks of its wait, by the present priorities of all tasks
abbrev pub BlockIsBlocks : Type 0
BlockIsBlocks =
    (prios : List Prio) (k : Kernel) (x : ℕ) (os : List ℕ) → ((y : ℕ) → prio_in prios y ≡ prio_of k y) → x < length prios → length os ≤ 8
    → task_blocks prios (block_links k.tasks x os) ≡ block_blocks k x os

-- tasks that can be woken, and of which none stands twice, are woken one after another
abbrev pub WakesFit : Type 0
WakesFit =
    (objects : ℕ) (prios : List Prio) (ts : List Task) (compared : ℕ) (xs : List ℕ) (l : Lists) → ((x : ℕ) → count_of x xs ≤ 1)
    → ((x : ℕ) → 0 < count_of x xs → CanWake ts x l) → AreFit objects prios (wakes_links ts compared xs) l

-- an application task that waits can be woken
abbrev pub WaiterCanWake : Type 0
WaiterCanWake =
    (k : Kernel) (x : ℕ) (l : Lists) → IsLinked k → AreKernels k l → x < application_limit → waits_for_nothing (task_at k x).waiting ≡ false
    → CanWake k.tasks x l

-- a ready caller can wait for up to eight objects, all different
abbrev pub BlockFits : Type 0
BlockFits =
    (prios : List Prio) (k : Kernel) (x : ℕ) (os : List ℕ) (l : Lists) → IsLinked k → AreKernels k l → x < 64 → is_ready (task_at k x) ≡ true
    → All (λ o. o < length k.objects) os → ((o : ℕ) → count_of o os ≤ 1) → length os ≤ 8 → AreFit (length k.objects) prios (block_links k.tasks x os) l

-- tasks that are woken leave the nodes of all others for their objects
abbrev pub WakesKeepNodes : Type 0
WakesKeepNodes =
    (prios : List Prio) (ts us : List Task) (compared : ℕ) (xs : List ℕ) (l : Lists) → ((y : ℕ) → (task_in us y).objects ≡ (task_in ts y).objects)
    → IsNoded ts l.pend → IsNoded us (lists_after prios (wakes_links ts compared xs) l).pend

-- A caller that waits stands in the list of each of its objects by the node for that object, and all others stay as they were.
abbrev pub BlockKeepsNodes : Type 0
BlockKeepsNodes =
    (prios : List Prio) (k : Kernel) (us : List Task) (x : ℕ) (os : List ℕ) (l : Lists) → IsLinked k → AreKernels k l → is_ready (task_at k x) ≡ true
    → ((o : ℕ) → count_of o os ≤ 1) → length os ≤ 8 → (task_in us x).objects ≡ os → ((y : ℕ) → (y ≡ x → ⊥) → (task_in us y).objects ≡ (task_at k y).objects)
    → IsNoded us (lists_after prios (block_links k.tasks x os) l).pend

-- Past the kernel's objects nobody waits, also after links that fit.
abbrev pub LinksKeepPast : Type 0
LinksKeepPast =
    (objects : ℕ) (prios : List Prio) (links : List Link) (l : Lists) → AreFit objects prios links l
    → ((o : ℕ) → objects ≤ o → list_at l.pend o ≡ []) → (o : ℕ) → objects ≤ o → list_at (lists_after prios links l).pend o ≡ []
