-- Matches, as wheels keep them: the number of a task or of a timer, and the count at which it is due.
use Rattle.std.specs.Prelude.{◌≡◌, ◌<◌, ◌≤◌, ◌%◌, ℕ, List, [], filter, map, slice_index_or, ◌==◌}
use Rattle.kern_model.specs.State.{count_of}
use Rattle.kern_model.specs.Valid.{matched}
use Rattle.arrayvec.specs.ArrayVec.{ArrayVec}
use Rattle.tick_timers.specs.declared.wheels.Match.{Match}

-- numbers below 64, each at most once
pub record AreNumbers (xs : List ℕ) : Type 0 where
  pub once : (x : ℕ) → count_of x xs ≤ 1
  pub low : (x : ℕ) → 0 < count_of x xs → x < 64

-- matches as pairs
abbrev pub pairs : List Match → List (ℕ × ℕ)
pairs ms = map (λ m. (m.number, m.at)) ms

-- those whose count has this remainder
abbrev pub with_remainder : ℕ → List (ℕ × ℕ) → List (ℕ × ℕ)
with_remainder r matches = filter (λ m. m.1 % 64 == r) matches

-- this number has no match
abbrev pub IsUnmatched : ℕ → List (ℕ × ℕ) → Type 0
IsUnmatched x matches = count_of x (matched matches) ≡ 0

-- the lists of the slots
abbrev pub slots_in : List (ArrayVec Match) → List (List (ℕ × ℕ))
slots_in slots = map (λ v. pairs v.items) slots

-- the list of a slot
abbrev pub slot_at : List (List (ℕ × ℕ)) → ℕ → List (ℕ × ℕ)
slot_at lists r = slice_index_or lists r []
