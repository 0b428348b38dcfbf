-- Who stands in the lists of a valid kernel.
use Rattle.std.specs.Prelude.{◌≡◌, ◌≤◌, ℕ, ◌&&◌, List, [], ◌∷◌, if◌then◌else◌, ◌==◌, map}
use Rattle.kern_model.specs.State.{Task, task_in, list_at, count_of, is_ready, waits_for_nothing}
use Rattle.kern_model.specs.Valid.Numbers.{one_if}

pub record AreListed (ts : List Task) (rs ps : List (List ℕ)) : Type 0 where
  -- a ready task stands once in the list of its priority, and nothing else stands in a ready list
  pub stands : (p x : ℕ) → count_of x (list_at rs p) ≡ one_if (is_ready (task_in ts x) && ((task_in ts x).prio == p))
  -- a task that waits stands once in the list of each of its objects, and nothing else stands in a pend list
  pub waiters : (o x : ℕ) → count_of x (list_at ps o) ≡ (if waits_for_nothing (task_in ts x).waiting then 0 else count_of o (task_in ts x).objects)

-- these numbers rise, or stay
abbrev pub Rises : List ℕ → Type 0
Rises [] = Unit {0}
Rises (a ∷ []) = Unit {0}
Rises (a ∷ b ∷ rest) = (a ≤ b) × Rises (b ∷ rest)

-- each pend list rises in priority number
abbrev pub IsOrdered : List Task → List (List ℕ) → Type 0
IsOrdered ts ps = (o : ℕ) → Rises (map (λ x. (task_in ts x).prio) (list_at ps o))
