-- The text of a generated case: the application, and random interrupts at about every fortieth task step.
use Rattle.std.specs.Prelude.{ℕ, zero, suc, ◌+◌, ◌*◌, ◌==◌, if◌then◌else◌, List, [], ◌∷◌, ◌++◌, flat_map, codes, decimal}
use Rattle.program_model.specs.Application.{application}
use Rattle.program_model.specs.Draws.{after, drawn}

-- a tick at a moment
abbrev pub tick_line : ℕ → List ℕ
tick_line moment = codes "task " ++ (decimal moment ++ codes ", 1")

-- a reading at a moment: the handler posts it to queue 0, with a size of 4 bytes and no option
abbrev pub reading_line : ℕ → ℕ → List ℕ
reading_line moment reading = codes "task " ++ (decimal moment ++ (codes ", 2, 0, " ++ (decimal reading ++ codes ", 4, 0")))

-- a line, and the number of the sequence that its last draw used
pub record Drawing : Type 0 where
  pub line : List ℕ
  pub last : ℕ

-- The line of this number, behind a number of the sequence: the first draw places its moment among twenty, the second
-- makes it a tick once in four, and else the third is the reading.
abbrev pub interrupt_line : ℕ → ℕ → Drawing
interrupt_line number x =
    let first = after x in
    let second = after first in
    let third = after second in
    let moment = 40 * number + drawn first 20 in
    if drawn second 4 == 0 then record { line = tick_line moment; last = second }
    else record { line = reading_line moment (drawn third 1000); last = third }

-- so many lines from a number on, behind a number of the sequence
abbrev pub interrupt_lines : ℕ → ℕ → ℕ → List (List ℕ)
interrupt_lines zero number x = []
interrupt_lines (suc count) number x = let d = interrupt_line number x in d.line ∷ interrupt_lines count (number + 1) d.last

-- each line with its line feed
abbrev pub text_of : List (List ℕ) → List ℕ
text_of lines = flat_map (λ line. line ++ 10 ∷ []) lines

-- the case for a seed, with so many lines of interrupts
unfoldable pub generated : ℕ → ℕ → List ℕ
generated seed size = text_of (application ++ codes ".inject" ∷ interrupt_lines size 1 seed)

-- how many task steps the two runs of a generated case have
abbrev pub steps_for : ℕ → ℕ
steps_for size = 40 * size + 100
