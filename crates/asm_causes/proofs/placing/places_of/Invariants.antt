use Rattle.std.proofs.Common.{◌≡◌, ◌≤◌, ◌++◌, ◌+◌, drop, length}
use Rattle.std.specs.Prelude.{if◌then◌else◌}
use Rattle.asm_lines.specs.Kept.{lines_said}
use Rattle.asm_places.specs.NamesView.{known_in}
use Rattle.asm_causes.specs.PlaceSteps.{places_from, places_of}
use Rattle.asm_causes.specs.Calm.{calm_from, calm_lines}
use Rattle.asm_causes.specs.Sizes.{HaveSmallNumbers, IsBehind}
use Rattle.asm_causes.proofs.placing.places_of.Given as goal

abbrev pub invariant-loop-line : goal.invariant-loop-line
invariant-loop-line l = record {
  found : l.places ++ places_from (known_in l.names) l.counts l.place (lines_said l.text (drop l.line-index l.lines)) ≡ places_of (known_in l.names) (lines_said l.text l.lines);
  calm : l.calm + (if l.is_calm then calm_from (known_in l.names) l.counts l.place (lines_said l.text (drop l.line-index l.lines)) else 0) ≡ calm_lines (known_in l.names) (lines_said l.text l.lines);
  few : length l.places ≡ l.line-index;
  within : l.calm ≤ l.line-index;
  lines : l.counts.lines ≡ l.line-index;
  tasks : l.counts.tasks ≤ l.line-index;
  objects : l.counts.objects ≤ l.line-index;
  vectors : l.counts.vectors ≤ l.line-index;
  behind : IsBehind l.line-index l.place;
  small : HaveSmallNumbers (lines_said l.text (drop l.line-index l.lines));
}
