use Rattle.std.proofs.Common.{◌∙◌, sym}
use Rattle.asm_lines.specs.Kept.{line_said}
use Rattle.asm_places.specs.NamesView.{known_in}
use Rattle.asm_causes.proofs.CalmLaws.{late_is_cause}
use Rattle.asm_causes.proofs.refusal.cause_of.Goals as goal

pub returns-then-calm : goal.returns-then-calm
returns-then-calm c = c.late_cause.ensures ∙ sym (late_is_cause (known_in c.args.names.now) c.args.counts c.args.place (line_said c.args.text.now c.args.line.now) c.args.places.now (c.requires.calm c.if-calm.true))
