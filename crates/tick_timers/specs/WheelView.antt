-- What the fields of a wheel mean.
use Rattle.std.specs.Prelude.{◌≡◌, ◌<◌, ℕ, List, length, map, Option, Some, None, slice_index_or}
use Rattle.kern_model.specs.State.{count_of}
use Rattle.tick_timers.specs.Matches.{AreNumbers, slots_in, slot_at, with_remainder}
use Rattle.tick_timers.specs.declared.wheels.Wheel.TheInside.{Inside}

-- a count, 0 where there is none
abbrev pub count_or_zero : Option ℕ → ℕ
count_or_zero None = 0
count_or_zero (Some n) = n

-- the match of a number
abbrev pub match_in : List (Option ℕ) → ℕ → ℕ × ℕ
match_in counts x = (x, count_or_zero (slice_index_or counts x None))

-- the matches in the order in which they were given
abbrev pub matches_in : List (Option ℕ) → List ℕ → List (ℕ × ℕ)
matches_in counts given = map (match_in counts) given

abbrev pub wheel_of : Inside → List (ℕ × ℕ)
wheel_of a = matches_in a.counts a.given

-- Who was given a match has one, and nobody else; each slot has the matches with its remainder, in the order of giving.
pub record IsWheel (a : Inside) : Type 0 where
  pub numbers : AreNumbers a.given
  pub none : (x : ℕ) → count_of x a.given ≡ 0 → slice_index_or a.counts x None ≡ None
  pub some : (x : ℕ) → slice_index_or a.counts x None ≡ None → count_of x a.given ≡ 0
  pub sizes : (length a.slots ≡ 64) × (length a.counts ≡ 64)
  pub slots : (r : ℕ) → r < 64 → slot_at (slots_in a.slots) r ≡ with_remainder r (wheel_of a)
