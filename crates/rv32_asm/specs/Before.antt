-- What stands before a line. A line is named by its number among the lines that are not empty, from 0.
use Rattle.std.specs.Prelude.{ℕ, List, [], ◌∷◌, take, slice_index_or, Bool, true, false, Option, Some, None}
use Rattle.std.specs.List.{count_by, filter_map}
use Rattle.asm_lines.specs.declared.mnemonics.Section.{Section}
use Rattle.asm_lines.specs.declared.mnemonics.Section.TheVariants.{Nowhere}
use Rattle.asm_lines.specs.Language.{Statement, Nothing, Sections, Task, Object, Vector, Line}
use Rattle.asm_places.specs.Counts.{Counts}

-- a line of nothing
abbrev pub no_line : Line
no_line = record { number = 0; label = None; statement = Nothing }

-- the line with a number
abbrev pub line_at : List Line → ℕ → Line
line_at lines k = slice_index_or lines k no_line

-- lines that declare a task, an object, a vector
abbrev pub is_task : Statement → Bool
is_task (Task n values) = true
is_task _ = false

abbrev pub is_object : Statement → Bool
is_object (Object n kind values) = true
is_object _ = false

abbrev pub is_vector : Statement → Bool
is_vector (Vector values) = true
is_vector _ = false

-- how many of some lines have a statement of a sort
abbrev pub count_of : (Statement → Bool) → List Line → ℕ
count_of sort lines = count_by (λ l. sort l.statement) lines

-- how many of each stand before a line
abbrev pub counts_before : List Line → ℕ → Counts
counts_before lines k = record { lines = k; tasks = count_of is_task (take k lines); objects = count_of is_object (take k lines); vectors = count_of is_vector (take k lines) }

-- the section that a line turns to
abbrev pub section_of : Statement → Option Section
section_of (Sections section) = Some section
section_of _ = None

-- the last of some sections
abbrev pub last_of : List Section → Section
last_of [] = Nowhere
last_of (s ∷ []) = s
last_of (s ∷ t ∷ ss) = last_of (t ∷ ss)

-- the section of a line: that to which the last line before it turned that turned to one
abbrev pub section_before : List Line → ℕ → Section
section_before lines k = last_of (filter_map (λ l. section_of l.statement) (take k lines))
