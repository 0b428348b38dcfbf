-- The moves of a renewal, out of what is told of the tasks after a call.
use Rattle.std.specs.Prelude.{◌≡◌, ◌<◌, ℕ, Bool, not, ◌&&◌, ◌||◌, List, [], ◌∷◌, ◌++◌, Option, Some, None, if◌then◌else◌, ◌==◌, slice_index_or}
use Rattle.std.specs.List.{list_any}
use Rattle.kern_base.specs.declared.numbers.Prio.{Prio}
use Rattle.kern_base.specs.declared.outcomes.Decision.{Decision}
use Rattle.kern_base.specs.declared.outcomes.Decision.TheVariants.{Done, Block, Wake}
use Rattle.kern_base.specs.declared.outcomes.Who.TheVariants.{Matching}
use Rattle.kern_model.specs.State.{Kernel, Task, task_at, task_in, prio_of, is_zero, waits_for_nothing}
use Rattle.kern_model.specs.Inherit.{inherited}
use Rattle.link_plans.specs.declared.plan.Plan.{Plan}
use Rattle.link_plans.specs.declared.moves.Standing.{Standing}
use Rattle.link_plans.specs.declared.moves.Standing.TheVariants.{Ready, Waits, Nowhere}
use Rattle.link_plans.specs.declared.moves.Move.{Move}
use Rattle.link_plans.specs.Moves.{standing_of}
use Rattle.link_plans.specs.Matching.{holds_on}

-- the inherited priority of a task, by its number
abbrev pub inherited_told : List Prio → ℕ → ℕ
inherited_told prios x = (slice_index_or prios x (record { 0 = 0 })).0

-- where a task stands, if it lives
abbrev pub standing_told : List (Option Standing) → ℕ → Option Standing
standing_told standings x = slice_index_or standings x None

abbrev pub living_standing : Task → Option Standing
living_standing t = if t.alive then Some (standing_of t) else None

-- Of a kernel's 64 tasks the records tell the present priorities, and these the inherited ones and where each living task stands.
pub record AreTold (ts : List Task) (prios : List Prio) (standings : List (Option Standing)) (k : Kernel) : Type 0 where
  pub present : (x : ℕ) → x < 64 → (task_in ts x).prio ≡ prio_of k x
  pub inherits : (x : ℕ) → x < 64 → inherited_told prios x ≡ inherited k x
  pub stands : (x : ℕ) → x < 64 → standing_told standings x ≡ living_standing (task_at k x)

-- the move of x from priority q to p, where it lives and these differ
abbrev pub move_if : Option Standing → ℕ → ℕ → ℕ → List Move
move_if None x q p = []
move_if (Some s) x q p =
    if p == q then [] else record { task = record { 0 = x }; from = record { 0 = q }; to = record { 0 = p }; standing = s } ∷ []

abbrev pub move_told : List Task → List Prio → List (Option Standing) → ℕ → List Move
move_told ts prios standings x = move_if (standing_told standings x) x (task_in ts x).prio (inherited_told prios x)

-- the moves of these tasks
abbrev pub moves_told : List Task → List Prio → List (Option Standing) → List ℕ → List Move
moves_told ts prios standings [] = []
moves_told ts prios standings (x ∷ xs) = move_told ts prios standings x ++ moves_told ts prios standings xs

-- Where a task stands, by whether it lives, whether it waits for nothing, and how often it is suspended.
abbrev pub standing_by : Bool → Bool → ℕ → Option Standing
standing_by alive free suspended = if alive then Some (if alive && (free && is_zero suspended) then Ready else (if free then Nowhere else Waits)) else None

-- Whether x waits for nothing after a call, where it did before or not, and where the condition of its wait on event flags holds
-- then or not: a caller that blocks waits, and tasks that are woken do not. Of those that a post of event flags looks at, it wakes
-- the ones whose condition holds.
abbrev pub free_after : Decision → ℕ → List ℕ → ℕ → Bool → Bool → Bool
free_after (Done a) caller woken x free holds = free
free_after Block caller woken x free holds = free && not (x == caller)
free_after (Wake Matching) caller woken x free holds = free || (list_any (λ y. y == x) woken && holds)
free_after (Wake w) caller woken x free holds = free || list_any (λ y. y == x) woken

-- where x stands after the call of a plan
abbrev pub standing_after : Plan → List Task → ℕ → Option Standing
standing_after q ts x =
    let t = task_in ts x in
    let free = free_after q.decision q.caller.0 q.woken.items x (waits_for_nothing t.waiting) (holds_on q.bits t) in
    standing_by t.alive free t.suspended
