-- The timers of a valid kernel.
use Rattle.std.specs.Prelude.{◌≡◌, ℕ, Bool, true, false, List}
use Rattle.kern_model.specs.State.{Object, Content, Timed, TimerState, Stopped, Running, Completed, object_in, count_of}
use Rattle.kern_model.specs.Valid.Matches.{matched}

-- a running timer has one match, and any other none
abbrev pub matches_of : TimerState → ℕ
matches_of Running = 1
matches_of Stopped = 0
matches_of Completed = 0

-- an object that is no timer has none, and a deleted one
abbrev pub timer_matches_of : Bool → Content → ℕ
timer_matches_of true content = 0
timer_matches_of false (Timed t) = matches_of t.state
timer_matches_of false content = 0

-- each object has as many matches
abbrev pub HasTimerMatches : List Object → List (ℕ × ℕ) → Type 0
HasTimerMatches os ms = (o : ℕ) → count_of o (matched ms) ≡ timer_matches_of (object_in os o).deleted (object_in os o).content
