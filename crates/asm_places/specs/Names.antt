-- The names of a text and what they stand for.
use Rattle.std.specs.Prelude.{ℕ, zero, suc, ℤ, pos, List, [], ◌∷◌, ◌++◌, Option, Some, None}
use Rattle.std.specs.Option.{option_map}
use Rattle.std.specs.Map.{lookup}
use Rattle.std.specs.Str.{bytes_eq}
use Rattle.asm_lines.specs.Language.{Statement, Equ, Task, Object, Line}
use Rattle.kern_base.specs.Services.{service_of, service_name}
use Rattle.asm_places.specs.Counts.{Counts}
use Rattle.asm_places.specs.declared.places.Meaning.{Meaning}
use Rattle.asm_places.specs.declared.places.Meaning.TheVariants.{Label, Constant}
use Rattle.asm_places.specs.declared.places.Definition.{Definition}

-- names with their definitions, in order
abbrev pub Defined : Type 0
Defined = List (List ℕ × Definition)

abbrev pub definition : Counts → Meaning → Definition
definition c meaning = record { line = Some c.lines; meaning = meaning }

-- the names of the services with the numbers 1 to n are constants from the start
abbrev pub services_defined : ℕ → Defined
services_defined zero = []
services_defined (suc n) = (service_name (service_of (suc n)), record { line = None; meaning = Constant (pos (suc n)) }) ∷ services_defined n

-- what is defined before the first line: the names of the 39 services
unfoldable pub defined_at_start : Defined
defined_at_start = services_defined 39

-- a label stands for the place where its line begins
abbrev pub label_defines : Counts → Option (List ℕ) → Defined
label_defines c None = []
label_defines c (Some name) = (name, definition c (Label c.lines)) ∷ []

-- the name that a statement defines with its constant: `.equ` its number, a task and an object theirs
abbrev pub constant_defined : Counts → Statement → Option (List ℕ × ℤ)
constant_defined c (Equ n value) = Some (n, value)
constant_defined c (Task n values) = Some (n, pos c.tasks)
constant_defined c (Object n kind values) = Some (n, pos c.objects)
constant_defined c _ = None

abbrev pub constant_defines : Counts → Option (List ℕ × ℤ) → Defined
constant_defines c None = []
constant_defines c (Some defined) = (defined.0, definition c (Constant defined.1)) ∷ []

-- what a statement defines
abbrev pub statement_defines : Counts → Statement → Defined
statement_defines c statement = constant_defines c (constant_defined c statement)

-- what a line defines
abbrev pub defines : Counts → Line → Defined
defines c l = label_defines c l.label ++ statement_defines c l.statement

-- the first definition of each name
abbrev pub Names : Type 0
Names = List ℕ → Option Definition

-- the first of some definitions of a name
abbrev pub first_of : Defined → Names
first_of defined name = lookup (bytes_eq name) defined

-- what a name stands for, if it stands for something
abbrev pub meaning : Names → List ℕ → Option Meaning
meaning names name = option_map (λ d. d.meaning) (names name)
