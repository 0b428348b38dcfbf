use Rattle.std.proofs.Common.{◌≡◌, drop}
use Rattle.std.specs.List.{find}
use Rattle.asm_lines.specs.Kept.{line_said}
use Rattle.asm_places.specs.NamesView.{known_in}
use Rattle.asm_causes.specs.Refusal.{has}
use Rattle.asm_causes.proofs.refusal.first_cause.Given as goal

abbrev pub invariant-loop-cause : goal.invariant-loop-cause
invariant-loop-cause l = find (has (known_in l.context.names.now) l.context.places.now l.context.counts l.context.place (line_said l.context.text.now l.context.line.now)) (drop l.cause-index l.wanted) ≡ find (has (known_in l.context.names.now) l.context.places.now l.context.counts l.context.place (line_said l.context.text.now l.context.line.now)) l.wanted
