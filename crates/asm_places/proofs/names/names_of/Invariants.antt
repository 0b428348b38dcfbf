use Rattle.std.proofs.Common.{◌≡◌, ◌≤◌, ℕ, List, drop}
use Rattle.std.specs.Option.{option_or}
use Rattle.asm_lines.specs.Kept.{lines_said}
use Rattle.asm_places.specs.Names.{first_of}
use Rattle.asm_places.specs.NameSteps.{all_defined, names_of}
use Rattle.asm_places.specs.NamesView.{known_in}
use Rattle.asm_places.proofs.names.names_of.Given as goal

abbrev pub invariant-loop-line : goal.invariant-loop-line
invariant-loop-line l = record {
  known : (q : List ℕ) → option_or (known_in l.names q) (first_of (all_defined l.counts (lines_said l.text (drop l.line-index l.lines))) q) ≡ names_of (lines_said l.text l.lines) q;
  lines : l.counts.lines ≡ l.line-index;
  tasks : l.counts.tasks ≤ l.line-index;
  objects : l.counts.objects ≤ l.line-index;
  vectors : l.counts.vectors ≤ l.line-index;
}
