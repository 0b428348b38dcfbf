-- Plans after which priorities are renewed: the moves that this takes, and what holds of their links.
use Rattle.std.specs.Prelude.{◌≡◌, ◌<◌, ◌≤◌, ℕ, Bool, false, List, [], ◌∷◌, ◌++◌, length, map, ◌==◌, slice_set}
use Rattle.kern_base.specs.declared.numbers.Prio.{Prio}
use Rattle.kern_model.specs.State.{Kernel, Task, task_at, task_in, prio_of, list_at, count_of, update_task, waits_for_nothing}
use Rattle.kern_model.specs.Micro.{Block, Lists, after, changed_all, in_order, lists_of, plain, whole}
use Rattle.kern_model.specs.Inherit.{inherited, moves_of, renewed, renewed_tasks, renew_blocks, with_prio}
use Rattle.kern_model.specs.Valid.{IsLinked}
use Rattle.micro_steps.specs.declared.link.Link.{Link}
use Rattle.micro_steps.specs.declared.link.Link.TheVariants as link
use Rattle.micro_steps.specs.Blocks.{place_at, prio_in}
use Rattle.micro_steps.specs.Halfway.{seen_lists}
use Rattle.micro_steps.specs.Whole.{AreFit, lists_after, prios_after, task_blocks}
use Rattle.link_plans.specs.declared.moves.Move.{Move}
use Rattle.link_plans.specs.Plans.{block_links, wakes_links}
use Rattle.link_plans.specs.Moves.{move_in, moves_links}
use Rattle.link_plans.specs.Fits.{AreKernels, IsNoded}

-- the moves of a renewal, in rising task number
abbrev pub renewal_moves : Kernel → List Move
renewal_moves k = map (move_in k) (moves_of renewed_tasks k)

-- their links, out of these records of tasks: a ready task joins its new list at the tail or else at the head
abbrev pub renewal_links : List Task → Bool → Kernel → List Link
renewal_links ts tail k = moves_links ts tail (renewal_moves k)

-- the priorities after links
abbrev pub prios_past : List Prio → List Link → List Prio
prios_past prios [] = prios
prios_past prios (k ∷ ks) = prios_past (prios_after k prios) ks

-- the priorities of those that wait for objects are the kernel's
abbrev pub TellWaiters : List Prio → Kernel → Type 0
TellWaiters prios k = (o x : ℕ) → 0 < count_of x (list_at k.pend o) → prio_in prios x ≡ prio_of k x

-- of each task that moves and waits the records tell the objects for which it waits
abbrev pub KnowObjects : List Task → Kernel → Type 0
KnowObjects ts k =
    (x : ℕ) → (inherited k x == prio_of k x) ≡ false → waits_for_nothing (task_at k x).waiting ≡ false → (task_in ts x).objects ≡ (task_at k x).objects

-- Priorities can be renewed in a kernel with these lists of nodes.
pub record MayRenew (ts : List Task) (prios : List Prio) (k : Kernel) (l : Lists) : Type 0 where
  pub linked : IsLinked k
  pub lists : AreKernels k l
  pub tells : TellWaiters prios k
  pub size : length prios ≡ 64
  pub known : KnowObjects ts k

-- What comes of the links of a renewal: they fit, they are its blocks, and they end with the lists of the kernel after it.
pub record IsRenewal (ts : List Task) (prios : List Prio) (tail : Bool) (k : Kernel) (l : Lists) : Type 0 where
  pub fits : AreFit (length k.objects) prios (renewal_links ts tail k) l
  pub blocks : in_order (task_blocks prios (renewal_links ts tail k)) (lists_of k) ≡ in_order (renew_blocks (place_at tail) k) (lists_of k)
  pub lists : AreKernels (renewed (place_at tail) k) (lists_after prios (renewal_links ts tail k) l)

abbrev pub RenewalsHold : Type 0
RenewalsHold = (ts : List Task) (prios : List Prio) (tail : Bool) (k : Kernel) (l : Lists) → MayRenew ts prios k l → IsRenewal ts prios tail k l

-- Links of a call in kernel k, which make these blocks and lead to kernel j, in which priorities are then renewed.
pub record MayRenewAfter (ts : List Task) (prios : List Prio) (links : List Link) (bs : List Block) (k j : Kernel) (l : Lists) : Type 0 where
  pub linked : IsLinked k
  pub lists : AreKernels k l
  pub fits : AreFit (length k.objects) prios links l
  pub blocks : task_blocks prios links ≡ bs
  pub leads : changed_all (in_order bs (lists_of k)) (whole (lists_of k)) ≡ whole (lists_of j)
  pub linked_after : IsLinked j
  pub objects : length j.objects ≡ length k.objects
  pub noded : IsNoded j.tasks (lists_after prios links l).pend
  pub tells : TellWaiters (prios_past prios links) j
  pub size : length prios ≡ 64
  pub known : KnowObjects ts j

-- all links of such a call
abbrev pub with_renewal : List Task → Bool → List Link → Kernel → List Link
with_renewal ts tail links j = links ++ (renewal_links ts tail j ++ link.Plain ∷ [])

-- What comes of them with those of the renewal and the end of the step.
pub record IsRenewalAfter (ts : List Task) (prios : List Prio) (tail : Bool) (links : List Link) (bs : List Block) (k j : Kernel) (l : Lists) : Type 0 where
  pub fits : AreFit (length k.objects) prios (with_renewal ts tail links j) l
  pub blocks : in_order (task_blocks prios (with_renewal ts tail links j)) (lists_of k)
      ≡ in_order ((bs ++ renew_blocks (place_at tail) j) ++ plain ∷ []) (lists_of k)
  pub lists : AreKernels (renewed (place_at tail) j) (lists_after prios (with_renewal ts tail links j) l)

abbrev pub RenewalsFollow : Type 0
RenewalsFollow =
    (ts : List Task) (prios : List Prio) (tail : Bool) (links : List Link) (bs : List Block) (k j : Kernel) (l : Lists) →
    MayRenewAfter ts prios links bs k j l → IsRenewalAfter ts prios tail links bs k j l

-- Links that fit lead from the kernel's lists to those that their blocks lead to.
abbrev pub LinksLead : Type 0
LinksLead =
    (prios : List Prio) (links : List Link) (k : Kernel) (l : Lists) → IsLinked k → AreKernels k l → AreFit (length k.objects) prios links l →
    seen_lists (length k.objects) (lists_after prios links l) ≡ after (in_order (task_blocks prios links) (lists_of k)) (lists_of k)

-- the links of tasks that are woken leave the priorities
abbrev pub WakesKeepPriorities : Type 0
WakesKeepPriorities = (prios : List Prio) (ts : List Task) (compared : ℕ) (xs : List ℕ) → prios_past prios (wakes_links ts compared xs) ≡ prios

-- and those of a caller that waits, where the priorities tell its own
abbrev pub BlockKeepsPriorities : Type 0
BlockKeepsPriorities =
    (prios : List Prio) (ts : List Task) (x : ℕ) (os : List ℕ) → x < length prios → length os ≤ 8 → prio_in prios x ≡ (task_in ts x).prio →
    (y : ℕ) → prio_in (prios_past prios (block_links ts x os)) y ≡ prio_in prios y

-- The records and the priorities after moves, which are written when the step ends.
abbrev pub tasks_moved : List Move → List Task → List Task
tasks_moved [] ts = ts
tasks_moved (m ∷ ms) ts = tasks_moved ms (update_task ts m.task.0 (with_prio m.to.0))

abbrev pub prios_moved : List Move → List Prio → List Prio
prios_moved [] prios = prios
prios_moved (m ∷ ms) prios = prios_moved ms (slice_set prios m.task.0 m.to)

-- the records of the kernel after a renewal
abbrev pub RenewalMovesTasks : Type 0
RenewalMovesTasks = (tail : Bool) (k : Kernel) → (renewed (place_at tail) k).tasks ≡ tasks_moved (renewal_moves k) k.tasks

-- and its priorities, out of those that its links leave
abbrev pub RenewalMovesPriorities : Type 0
RenewalMovesPriorities =
    (ts : List Task) (prios : List Prio) (tail : Bool) (k : Kernel) → IsLinked k → length prios ≡ 64 → ((x : ℕ) → length (task_in ts x).objects ≤ 8) →
    ((x : ℕ) → prio_in prios x ≡ prio_of k x) →
    (x : ℕ) → prio_in (prios_moved (renewal_moves k) (prios_past prios (renewal_links ts tail k))) x ≡ prio_of (renewed (place_at tail) k) x
