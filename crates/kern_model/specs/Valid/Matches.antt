-- The timeouts of a valid kernel.
use Rattle.std.specs.Prelude.{◌<◌, ◌≤◌, All, ℕ, List, if◌then◌else◌, map}
use Rattle.kern_model.specs.State.{Task, task_in, count_of, waits_for_nothing, application_limit}
use Rattle.kern_model.specs.Valid.Numbers.{IsWord}

-- the tasks, or the timers, that have a match
abbrev pub matched : List (ℕ × ℕ) → List ℕ
matched matches = map (λ m. m.0) matches

-- a task has at most one match, and then it waits and is an application's
pub record HasMatches (ts : List Task) (ms : List (ℕ × ℕ)) : Type 0 where
  pub once_matched : (x : ℕ) → count_of x (matched ms) ≤ (if waits_for_nothing (task_in ts x).waiting then 0 else 1)
  pub match_words : All (λ m. (m.0 < application_limit) × IsWord m.1) ms
