-- Lines before the first with an early cause, as the code goes: of these only late causes are asked.
use Rattle.std.specs.Prelude.{ℕ, ◌+◌, List, [], ◌∷◌, Option, Some, None, if◌then◌else◌}
use Rattle.asm_lines.specs.Language.{Statement, Line}
use Rattle.asm_places.specs.Names.{Names}
use Rattle.asm_places.specs.Operands.{no_place}
use Rattle.asm_causes.specs.Causes.{is_early, has_far_target}
use Rattle.asm_causes.specs.Places.{size_of}
use Rattle.asm_causes.specs.Refusal.{overfills_code, overfills_ram}
use Rattle.asm_places.specs.NameSteps.{no_counts, counted}
use Rattle.asm_causes.specs.PlaceSteps.{place_after}
use Rattle.asm_places.specs.Counts.{Counts}
use Rattle.asm_places.specs.Place.{Place}
use Rattle.asm_causes.specs.declared.causes.AsmCause.{AsmCause}
use Rattle.asm_causes.specs.declared.causes.AsmCause.TheVariants.{TargetRange, CodeFull, RamFull}

-- how many lines stand before the first with an early cause, behind these counts and this place
abbrev pub calm_from : Names → Counts → Place → List Line → ℕ
calm_from names c p [] = 0
calm_from names c p (l ∷ ls) =
    if is_early names c p.section l then 0
    else calm_from names (counted l.statement c) (place_after names c p l) ls + 1

-- how many lines of a text stand before the first with an early cause
abbrev pub calm_lines : Names → List Line → ℕ
calm_lines names lines = calm_from names no_counts no_place lines

-- the cause of a line that has no early one
abbrev pub late_cause : Names → List Place → Place → Statement → Option AsmCause
late_cause names places p statement =
    if has_far_target names places p statement then Some TargetRange
    else if overfills_code p p.section (size_of names statement) then Some CodeFull
    else if overfills_ram p p.section (size_of names statement) then Some RamFull
    else None
