-- Timers that are due, and their fields.
use Rattle.std.proofs.Common.{◌≡◌, ℕ, List, [], ◌∷◌, refl, Bool, true, false, cond, Some, filter}
use Rattle.std.specs.Prelude.{◌==◌, slice_get}
use Rattle.kern_model.specs.Time.{due}
use Rattle.kern_model.specs.Timers.{due_timer}
use Rattle.kern_model.specs.Valid.{matched}

-- the first timer that is due
pub due_timer-first : (count : ℕ) (ms : List (ℕ × ℕ)) → due_timer count ms ≡ slice_get (due count ms) 0
due_timer-first count [] = refl
due_timer-first count (m ∷ ms) = first (m.1 == count) (due_timer-first count ms)
  where
    first : (b : Bool) → due_timer count ms ≡ slice_get (due count ms) 0 → cond b (Some m.0) (due_timer count ms) ≡ slice_get (matched (cond b (m ∷ filter (λ n. n.1 == count) ms) (filter (λ n. n.1 == count) ms))) 0
    first true h = refl
    first false h = h
