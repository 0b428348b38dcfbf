-- Names and counts, a line after the other, as the code goes. `rv32_asm/specs/Before.antt` and `Assembled.antt` say the same of
-- all lines at once.
use Rattle.std.specs.Prelude.{ℕ, ◌+◌, List, [], ◌∷◌, ◌++◌}
use Rattle.asm_lines.specs.Language.{Statement, Task, Object, Vector, Line}
use Rattle.asm_places.specs.Names.{Defined, Names, defined_at_start, defines, first_of}
use Rattle.asm_places.specs.Counts.{Counts}

-- nothing stands before the first line
abbrev pub no_counts : Counts
no_counts = record { lines = 0; tasks = 0; objects = 0; vectors = 0 }

-- what stands before the line behind this statement's
abbrev pub counted : Statement → Counts → Counts
counted (Task n values) c = record c { lines = c.lines + 1; tasks = c.tasks + 1 }
counted (Object n kind values) c = record c { lines = c.lines + 1; objects = c.objects + 1 }
counted (Vector values) c = record c { lines = c.lines + 1; vectors = c.vectors + 1 }
counted _ c = record c { lines = c.lines + 1 }

-- what the lines define
abbrev pub all_defined : Counts → List Line → Defined
all_defined c [] = []
all_defined c (l ∷ ls) = defines c l ++ all_defined (counted l.statement c) ls

-- a name keeps its first definition in the whole text
abbrev pub names_of : List Line → Names
names_of lines = first_of (defined_at_start ++ all_defined no_counts lines)
