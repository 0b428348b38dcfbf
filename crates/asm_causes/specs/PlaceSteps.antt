-- Places, a line after the other, as the code goes. `rv32_asm/specs/Assembled.antt` says the same of all lines at once.
use Rattle.std.specs.Prelude.{ℕ, ◌+◌, List, [], ◌∷◌}
use Rattle.asm_lines.specs.declared.mnemonics.Section.{Section}
use Rattle.asm_lines.specs.declared.mnemonics.Section.TheVariants.{Nowhere, Code, Ram}
use Rattle.asm_lines.specs.Language.{Statement, Sections, Line}
use Rattle.asm_places.specs.Names.{Names}
use Rattle.asm_places.specs.NameSteps.{no_counts, counted}
use Rattle.asm_places.specs.Operands.{no_place}
use Rattle.asm_places.specs.Counts.{Counts}
use Rattle.asm_places.specs.Place.{Place}
use Rattle.asm_causes.specs.Places.{bytes_of}

-- so many bytes more in a section
abbrev pub filled : Section → ℕ → Place → Place
filled Nowhere size p = p
filled Code size p = record p { code = p.code + size }
filled Ram size p = record p { ram = p.ram + size }

-- the section from a statement on
abbrev pub turned : Statement → Place → Place
turned (Sections section) p = record p { section = section }
turned _ p = p

-- where the line behind this one begins
abbrev pub place_after : Names → Counts → Place → Line → Place
place_after names c p l = turned l.statement (filled p.section (bytes_of names c p.section l) p)

-- where the lines begin, behind these counts and this place
abbrev pub places_from : Names → Counts → Place → List Line → List Place
places_from names c p [] = []
places_from names c p (l ∷ ls) = p ∷ places_from names (counted l.statement c) (place_after names c p l) ls

-- where the lines of a text begin
abbrev pub places_of : Names → List Line → List Place
places_of names lines = places_from names no_counts no_place lines
