-- The nesting of interrupts: the frames that stand, and the recorded interrupts that have not entered, each with its number.
use Rattle.std.specs.Prelude.{ℕ, zero, suc, ◌+◌, ◌<◌, ◌≤◌, Bool, not, List, [], ◌∷◌, map, Option, Some, None, option_map, if◌then◌else◌, ◌==◌}
use Rattle.std.specs.List.{filter}
use Rattle.machine_model.specs.Frames.{Interrupt, FrameRecord}
use Rattle.machine_model.specs.Due.{due}

-- the frames, the top one first; and the interrupts with their numbers in the list, which rise
pub record Nest : Type 0 where
  pub frames : List FrameRecord
  pub waiting : List (ℕ × Interrupt)

-- interrupts with their numbers, from a number on
abbrev pub numbered : ℕ → List Interrupt → List (ℕ × Interrupt)
numbered n [] = []
numbered n (i ∷ is) = (n, i) ∷ numbered (n + 1) is

-- the interrupts without their numbers
abbrev pub unnumbered : List (ℕ × Interrupt) → List Interrupt
unnumbered ws = map (λ w. w.1) ws

abbrev pub interrupts : Nest → List Interrupt
interrupts n = unnumbered n.waiting

-- the number of the interrupt at a place; 0 behind the last
abbrev pub number_at : ℕ → List (ℕ × Interrupt) → ℕ
number_at at [] = 0
number_at zero (w ∷ ws) = w.0
number_at (suc at) (w ∷ ws) = number_at at ws

-- the interrupt of a number, if it has not entered
abbrev pub waiting_at : ℕ → List (ℕ × Interrupt) → Option Interrupt
waiting_at number [] = None
waiting_at number (w ∷ ws) = if w.0 == number then Some w.1 else waiting_at number ws

-- without the interrupt of a number
abbrev pub without_number : ℕ → List (ℕ × Interrupt) → List (ℕ × Interrupt)
without_number number ws = filter (λ w. not (w.0 == number)) ws

-- the number of the interrupt that enters next, if one is due
abbrev pub due_number : Bool → Bool → ℕ → ℕ → List FrameRecord → List (ℕ × Interrupt) → Option ℕ
due_number masked quiet s t frames ws = option_map (λ p. number_at p.at ws) (due masked quiet s t frames (unnumbered ws))

-- the numbers rise, from a number on, and none is past the most entries of a list; no level is above 7
abbrev pub IsRising : ℕ → List (ℕ × Interrupt) → Type 0
IsRising n [] = Unit {0}
IsRising n (w ∷ ws) = (n ≤ w.0) × (w.0 < 16384) × (w.1.level ≤ 7) × IsRising (w.0 + 1) ws
