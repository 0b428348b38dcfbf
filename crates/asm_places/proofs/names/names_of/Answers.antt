use Rattle.std.proofs.Common.{◌≡◌, ◌+◌, ◌∷◌, drop, ap, sym, arith, refl, ◌∙◌}
use Rattle.std.proofs.lemmas.Grind.{common_steps}
use Rattle.std.proofs.lemmas.List.{drop_more}
use Rattle.std.specs.Prelude.{None}
use Rattle.asm_lines.specs.Kept.{statement_said, line_said, lines_said}
use Rattle.asm_places.specs.NamesView.{known_in}
use Rattle.asm_lines.specs.declared.statements.Line.{Line}
use Rattle.asm_places.proofs.NameLaws.{line_defined, start_defined, CountsBelow, counted_below}
use Rattle.asm_places.proofs.names.names_of.Goals as goal

pub loop-line-init : goal.loop-line-init
loop-line-init c = record {
  known = λ q. let none : known_in c.new-names.result q ≡ None = grind (arith, common_steps, c.new-names.ensures.empty) in start_defined (lines_said c.args.text.now c.args.lines.now) q (known_in c.new-names.result q) (known_in c.define_services.new.names q) none (c.in_ok-define_services.ensures q);
  lines = refl;
  tasks = omega arith;
  objects = omega arith;
  vectors = omega arith;
}

pub loop-line-preserved : goal.loop-line-preserved
loop-line-preserved c =
    let here : Line = c.line-item.result in
    let split : drop c.loop-line.line-index c.args.lines.now ≡ here ∷ drop (c.loop-line.line-index + 1) c.args.lines.now = drop_more c.args.lines.now c.loop-line.line-index here c.loop-line-test.true ∙ ap (λ l. l ∷ drop (c.loop-line.line-index + 1) c.args.lines.now) (sym c.line-item.is) in
    let bounds : CountsBelow (c.loop-line.line-index + 1) c.counted-counts.result = counted_below (statement_said c.args.text.now here.statement) c.loop-line.counts c.counted-counts.result c.loop-line.line-index (c.counted-counts.ensures c.args.text.now) c.loop-line.invariant.lines c.loop-line.invariant.tasks c.loop-line.invariant.objects c.loop-line.invariant.vectors in
    record {
      known = λ q. rw (c.counted-counts.ensures c.args.text.now) (line_defined c.loop-line.counts (line_said c.args.text.now here) (lines_said c.args.text.now (drop (c.loop-line.line-index + 1) c.args.lines.now)) q (known_in c.loop-line.names q) (known_in c.define_label.new.names q) (known_in c.define_constant.new.names q) (c.in_ok-define_label.ensures q) (c.in_ok-define_constant.ensures q) ∙ (rw split at (c.loop-line.invariant.known q)));
      lines = bounds.lines;
      tasks = bounds.tasks;
      objects = bounds.objects;
      vectors = bounds.vectors;
    }
