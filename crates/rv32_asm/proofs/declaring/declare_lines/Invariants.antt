use Rattle.std.proofs.Common.{◌≡◌, ◌≤◌, ℕ, []}
use Rattle.std.specs.List.{filter_map, range_with_len}
use Rattle.asm_lines.specs.Kept.{lines_said}
use Rattle.asm_places.specs.NamesView.{known_in}
use Rattle.rv32_asm.specs.Before.{counts_before}
use Rattle.rv32_asm.specs.Declarations.{declaration_refusal, image_with}
use Rattle.rv32_asm.specs.DraftView.{raw_of}
use Rattle.rv32_asm.proofs.declaring.declare_lines.Given as goal

abbrev pub invariant-loop-line : goal.invariant-loop-line
invariant-loop-line l = record {
  free : filter_map (declaration_refusal (known_in l.names) (lines_said l.text l.lines) l.placing) (range_with_len 0 l.line-index) ≡ [];
  counts : l.counts ≡ counts_before (lines_said l.text l.lines) l.line-index;
  image : raw_of l.draft ≡ image_with (known_in l.names) (lines_said l.text l.lines) l.initial.draft.code.items l.initial.draft.ram.items l.line-index;
  tasks : l.counts.tasks ≤ l.line-index;
  objects : l.counts.objects ≤ l.line-index;
  vectors : l.counts.vectors ≤ l.line-index;
}
