-- The links of moves: tasks go to other priorities, one after another.
use Rattle.std.specs.Prelude.{ℕ, ◌+◌, ◌*◌, Bool, List, [], ◌∷◌, ◌++◌, drop, if◌then◌else◌}
use Rattle.kern_model.specs.State.{Kernel, Task, task_at, task_in, prio_of, is_ready, waits_for_nothing}
use Rattle.micro_steps.specs.declared.link.Link.{Link}
use Rattle.micro_steps.specs.declared.link.Link.TheVariants as link
use Rattle.link_plans.specs.declared.moves.Standing.{Standing}
use Rattle.link_plans.specs.declared.moves.Standing.TheVariants.{Ready, Waits, Nowhere}
use Rattle.link_plans.specs.declared.moves.Move.{Move}
use Rattle.link_plans.specs.declared.moves.Moves.{Moves}

-- x leaves the waiters of each of these objects and joins them again at priority p: from the i-th on its nodes stand in their lists
abbrev pub rewait_links : ℕ → ℕ → ℕ → List ℕ → List Link
rewait_links x p i [] = []
rewait_links x p i (o ∷ os) =
    link.Leave (8 * x + i) (record { 0 = o }) ∷ link.Wait (8 * x + i) (record { 0 = p }) (record { 0 = o }) ∷ rewait_links x p (i + 1) os

-- a move by where the task stands; these are the objects for which it waits
abbrev pub standing_links : Standing → Bool → List ℕ → Move → List Link
standing_links Ready tail os m = link.Unready m.task m.from ∷ link.Ready m.task m.to tail ∷ []
standing_links Waits tail os m = rewait_links m.task.0 m.to.0 0 os
standing_links Nowhere tail os m = []

-- a move: a ready task joins its new list at the tail or else at the head
abbrev pub move_links : List Task → Bool → Move → List Link
move_links ts tail m = standing_links m.standing tail (task_in ts m.task.0).objects m

-- these moves, in order
abbrev pub moves_links : List Task → Bool → List Move → List Link
moves_links ts tail [] = []
moves_links ts tail (m ∷ ms) = move_links ts tail m ++ moves_links ts tail ms

-- these are left to make, and so many links of the first of them are made
abbrev pub moves_left : List Task → Bool → ℕ → List Move → List Link
moves_left ts tail made [] = []
moves_left ts tail made (m ∷ ms) = drop made (move_links ts tail m) ++ moves_links ts tail ms

-- what is left of moves
abbrev pub links_of_moves : List Task → Moves → List Link
links_of_moves ts q = moves_left ts q.tail q.made (drop q.task q.moves.items)

-- in which lists a task stands
abbrev pub standing_of : Task → Standing
standing_of t = if is_ready t then Ready else (if waits_for_nothing t.waiting then Nowhere else Waits)

-- the move of a task, in a kernel, to a priority
abbrev pub move_in : Kernel → ℕ × ℕ → Move
move_in k m =
    record {
      task = record { 0 = m.0 };
      from = record { 0 = prio_of k m.0 };
      to = record { 0 = m.1 };
      standing = standing_of (task_at k m.0);
    }
