use Rattle.std.proofs.Common.{◌≡◌, ◌≤◌, ◌+◌, ℕ, drop}
use Rattle.asm_places.specs.NamesView.{known_in}
use Rattle.asm_places.specs.NameSteps.{no_counts}
use Rattle.asm_places.specs.Operands.{no_place}
use Rattle.rv32_asm.specs.Steps.{assembled_from, empty_image}
use Rattle.asm_causes.specs.Calm.{calm_from}
use Rattle.asm_lines.specs.Kept.{lines_said}
use Rattle.asm_causes.specs.Sizes.{HaveSmallNumbers, IsBehind}
use Rattle.rv32_asm.specs.DraftView.{raw_of}
use Rattle.rv32_asm.proofs.assembling.assemble_lines.Given as goal

abbrev pub invariant-loop-line : goal.invariant-loop-line
invariant-loop-line l = record {
  given : (used : ℕ) → assembled_from (known_in l.names) l.places l.counts l.place (raw_of l.draft) used (lines_said l.text (drop l.line-index l.lines)) ≡ assembled_from (known_in l.names) l.places no_counts no_place empty_image used (lines_said l.text l.lines);
  calm : l.calm ≡ l.line-index + calm_from (known_in l.names) l.counts l.place (lines_said l.text (drop l.line-index l.lines));
  lines : l.counts.lines ≡ l.line-index;
  tasks : l.counts.tasks ≤ l.line-index;
  objects : l.counts.objects ≤ l.line-index;
  vectors : l.counts.vectors ≤ l.line-index;
  behind : IsBehind l.line-index l.place;
  small : HaveSmallNumbers (lines_said l.text (drop l.line-index l.lines));
}
