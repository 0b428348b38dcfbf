-- When the links of a plan fit the lists of nodes on which it begins.
use Rattle.std.specs.Prelude.{◌≡◌, ◌<◌, ◌≤◌, ℕ, ◌+◌, ◌*◌, ◌/◌, List, [], ◌∷◌, length}
use Rattle.kern_model.specs.State.{Kernel, Task, task_in, count_of, place_of}
use Rattle.kern_model.specs.Micro.{Lists, lists_of}
use Rattle.links.specs.Chain.{times, total, list_at}
use Rattle.micro_steps.specs.Halfway.{seen_lists}

-- the nodes of x from the i-th on stand in the lists of these objects, which all differ
abbrev pub StandsIn : ℕ → ℕ → List ℕ → List (List ℕ) → Type 0
StandsIn x i [] pend = Unit {0}
StandsIn x i (o ∷ os) pend = (o < 64) × (0 < times (8 * x + i) (list_at pend o)) × (count_of o os ≡ 0) × StandsIn x (i + 1) os pend

-- A task that can be woken: its nodes stand in the lists of its objects, and it stands in no ready list.
pub record CanWake (ts : List Task) (x : ℕ) (l : Lists) : Type 0 where
  pub task : x < 64
  pub prio : (task_in ts x).prio < 64
  pub few : length (task_in ts x).objects ≤ 8
  pub stands : StandsIn x 0 (task_in ts x).objects l.pend
  pub nowhere : total x l.ready ≡ 0

-- Which of a task's eight nodes serves which object: the i-th node stands for the i-th object of its call. The machine keeps this
-- beside the valid state, since the state's lists are of tasks.
abbrev pub IsNoded : List Task → List (List ℕ) → Type 0
IsNoded ts pend = (o n : ℕ) → 0 < times n (list_at pend o) → n ≡ 8 * (n / 8) + place_of o (task_in ts (n / 8)).objects

-- These lists of nodes are the kernel's lists, and past its objects nobody waits.
pub record AreKernels (k : Kernel) (l : Lists) : Type 0 where
  pub lists : seen_lists (length k.objects) l ≡ lists_of k
  pub past : (o : ℕ) → length k.objects ≤ o → list_at l.pend o ≡ []
  pub noded : IsNoded k.tasks l.pend
