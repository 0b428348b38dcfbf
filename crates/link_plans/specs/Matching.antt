-- A post of event flags looks at each waiter of its group, and wakes those whose condition holds: who they are, what this changes,
-- and what holds of its links.
use Rattle.std.specs.Prelude.{◌≡◌, ◌<◌, ◌≤◌, ℕ, Bool, List, [], ◌∷◌, length, filter, is_some, unwrap_or}
use Rattle.kern_base.specs.declared.numbers.Prio.{Prio}
use Rattle.kern_base.specs.declared.outcomes.Finished.{Finished}
use Rattle.kern_model.specs.State.{Kernel, Task, task_at, task_in, count_of, update_task}
use Rattle.kern_model.specs.Effect.{answered_task, fine, result_of, unmatched, wakes_all}
use Rattle.kern_model.specs.FlagBits.{ready_bits}
use Rattle.kern_model.specs.Flags.{flag_blocks_all, flag_wakes_all}
use Rattle.kern_model.specs.Micro.{Lists}
use Rattle.micro_steps.specs.Whole.{AreFit, lists_after, task_blocks}
use Rattle.link_plans.specs.Fits.{CanWake, IsNoded}
use Rattle.link_plans.specs.Plans.{matching_links, wakes_links}
use Rattle.link_plans.specs.Renewals.{prios_past}

-- whether the condition of a task's wait holds on these bits
abbrev pub holds_on : ℕ → Task → Bool
holds_on bits t = is_some (ready_bits bits t.mask t.opt)

-- of these tasks those whose condition holds, by their records
abbrev pub matching : List Task → ℕ → List ℕ → List ℕ
matching ts bits xs = filter (λ x. holds_on bits (task_in ts x)) xs

-- the result of such a task: its ready bits
abbrev pub flag_result : ℕ → Task → Finished
flag_result bits t = result_of (fine (unwrap_or (ready_bits bits t.mask t.opt) 0)) t

-- the records of all tasks after these are woken, each with the result that f says
abbrev pub tasks_woken : (Task → Finished) → List ℕ → List Task → List Task
tasks_woken f [] ts = ts
tasks_woken f (x ∷ xs) ts = tasks_woken f xs (update_task ts x (answered_task (f (task_in ts x))))

-- the matches after these are woken
abbrev pub matches_woken : List ℕ → List (ℕ × ℕ) → List (ℕ × ℕ)
matches_woken [] ms = ms
matches_woken (x ∷ xs) ms = matches_woken xs (unmatched x ms)

-- those whose condition holds are woken one after another, each with its ready bits
abbrev pub MatchingAreWakes : Type 0
MatchingAreWakes =
    (bits compared : ℕ) (xs : List ℕ) (k : Kernel)
    → flag_wakes_all bits compared xs k ≡ wakes_all (flag_result bits) compared (matching k.tasks bits xs) k

-- Beside the lists this changes the records of tasks and the matches, by the records and the matches before.
abbrev pub MatchingChange : Type 0
MatchingChange =
    (bits compared : ℕ) (xs : List ℕ) (k : Kernel) → (let j : Kernel = flag_wakes_all bits compared xs k in
    j ≡ record k {
      tasks = tasks_woken (flag_result bits) (matching k.tasks bits xs) k.tasks;
      ready = j.ready;
      pend = j.pend;
      matches = matches_woken (matching k.tasks bits xs) k.matches;
    })

-- the links of waiters that are looked at are the blocks of this
abbrev pub MatchingAreBlocks : Type 0
MatchingAreBlocks =
    (prios : List Prio) (k : Kernel) (bits compared : ℕ) (xs : List ℕ) → ((x : ℕ) → length (task_at k x).objects ≤ 8)
    → task_blocks prios (matching_links k.tasks bits compared xs) ≡ flag_blocks_all bits compared xs k

-- They fit, where each of the waiters can be woken and none stands twice.
abbrev pub MatchingFit : Type 0
MatchingFit =
    (objects : ℕ) (prios : List Prio) (ts : List Task) (bits compared : ℕ) (xs : List ℕ) (l : Lists)
    → ((x : ℕ) → count_of x xs ≤ 1) → ((x : ℕ) → 0 < count_of x xs → CanWake ts x l)
    → AreFit objects prios (matching_links ts bits compared xs) l

-- they end with the lists of nodes after the wakes of those whose condition holds
abbrev pub MatchingEnd : Type 0
MatchingEnd =
    (prios : List Prio) (ts : List Task) (bits compared : ℕ) (xs : List ℕ) (l : Lists)
    → lists_after prios (matching_links ts bits compared xs) l ≡ lists_after prios (wakes_links ts compared (matching ts bits xs)) l

-- after them each node that waits still serves its task's object
abbrev pub MatchingKeepNodes : Type 0
MatchingKeepNodes =
    (prios : List Prio) (k : Kernel) (bits compared : ℕ) (xs : List ℕ) (l : Lists)
    → IsNoded k.tasks l.pend
    → IsNoded (flag_wakes_all bits compared xs k).tasks (lists_after prios (matching_links k.tasks bits compared xs) l).pend

-- and they leave the priorities of all tasks
abbrev pub MatchingKeepPriorities : Type 0
MatchingKeepPriorities =
    (prios : List Prio) (ts : List Task) (bits compared : ℕ) (xs : List ℕ)
    → prios_past prios (matching_links ts bits compared xs) ≡ prios
