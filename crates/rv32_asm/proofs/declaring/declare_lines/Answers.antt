use Rattle.std.proofs.Common.{◌≡◌, ◌<◌, ◌+◌, [], false, arith, ap, sym, ◌∙◌, length}
use Rattle.std.specs.Prelude.{slice_index_or}
use Rattle.std.specs.Option.{option_map}
use Rattle.std.proofs.lemmas.List.{get_or-map, length-map}
use Rattle.asm_lines.specs.Kept.{statement_said, line_said, lines_said}
use Rattle.asm_lines.specs.Language as say
use Rattle.asm_lines.specs.declared.statements.Line.{Line}
use Rattle.asm_places.specs.NamesView.{known_in}
use Rattle.asm_places.specs.NameSteps.{counted}
use Rattle.asm_places.specs.Operands.{no_place}
use Rattle.asm_places.proofs.NameLaws.{CountsBelow, counted_below}
use Rattle.app_image.specs.Raw.{RawRecord}
use Rattle.rv32_asm.specs.Before.{no_line, line_at, counts_before}
use Rattle.rv32_asm.specs.Declarations.{declaration_refusal, image_with}
use Rattle.rv32_asm.specs.Steps.{with_statement}
use Rattle.rv32_asm.proofs.StepLaws.{counts_more}
use Rattle.rv32_asm.proofs.DeclaredLaws.{nothing_more, image_more, refused_at, refusal_said, is_free_declaration}
use Rattle.rv32_asm.proofs.declaring.declare_lines.Goals as goal

pub returns-in-Some-clause-fault : goal.returns-in-Some-clause-fault
returns-in-Some-clause-fault c = λ used.
    let text = c.args.text.now in
    let names = known_in c.args.names.now in
    let lines = lines_said text c.args.lines.now in
    let placing = c.args.placing.now in
    let i = c.loop-line.line-index in
    let here : Line = c.line-item.result in
    let long : length lines ≡ length c.args.lines.now = length-map c.args.lines.now (line_said text) in
    let inside : i < length lines = omega (arith, long, c.loop-line-test.true) in
    let said : line_at lines i ≡ line_said text here = get_or-map (line_said text) c.args.lines.now i here no_line c.loop-line-test.true ∙ ap (line_said text) (sym c.line-item.is) in
    let index : c.counts.inside.lines ≡ i = ap (λ k. k.lines) c.counts.view_is ∙ ap (λ k. k.lines) c.loop-line.invariant.counts in
    let placed : slice_index_or placing i false ≡ c.is_placing-places_bytes.result = ap (λ k. slice_index_or placing k false) (sym index) ∙ sym c.is_placing-places_bytes.ensures in
    let refused = refusal_said names lines placing i (line_said text here) c.is_placing-places_bytes.result c.loop-line.counts said placed c.loop-line.invariant.counts
    ∙ ap (option_map (λ cause. (here.number, cause))) (sym c.in-Some.ensures) in
    refused_at names lines placing c.args.draft.code.items c.args.draft.ram.items used i here.number c.in-Some.cause inside c.loop-line.invariant.free refused

pub add_line-requires-clause-constant : goal.add_line-requires-clause-constant
add_line-requires-clause-constant c = (is_free_declaration c.is_placing-places_bytes.result (known_in c.args.names.now) c.loop-line.counts (line_said c.args.text.now c.line-item.result) (sym c.in_default.ensures)).constant

pub loop-line-preserved : goal.loop-line-preserved
loop-line-preserved c =
    let text = c.args.text.now in
    let names = known_in c.args.names.now in
    let lines = lines_said text c.args.lines.now in
    let placing = c.args.placing.now in
    let code = c.args.draft.code.items in
    let ram = c.args.draft.ram.items in
    let i = c.loop-line.line-index in
    let here : Line = c.line-item.result in
    let s = statement_said text here.statement in
    let long : length lines ≡ length c.args.lines.now = length-map c.args.lines.now (line_said text) in
    let inside : i < length lines = omega (arith, long, c.loop-line-test.true) in
    let said : line_at lines i ≡ line_said text here = get_or-map (line_said text) c.args.lines.now i here no_line c.loop-line-test.true ∙ ap (line_said text) (sym c.line-item.is) in
    let index : c.counts.inside.lines ≡ i = ap (λ k. k.lines) c.counts.view_is ∙ ap (λ k. k.lines) c.loop-line.invariant.counts in
    let placed : slice_index_or placing i false ≡ c.is_placing-places_bytes.result = ap (λ k. slice_index_or placing k false) (sym index) ∙ sym c.is_placing-places_bytes.ensures in
    let free = refusal_said names lines placing i (line_said text here) c.is_placing-places_bytes.result c.loop-line.counts said placed c.loop-line.invariant.counts
    ∙ ap (option_map (λ cause. (here.number, cause))) (sym c.in_default.ensures) in
    let count = c.counted-counts.ensures text in
    let first : c.loop-line.counts.lines ≡ i = ap (λ k. k.lines) c.loop-line.invariant.counts in
    let bounds : CountsBelow (i + 1) c.counted-counts.result = counted_below s c.loop-line.counts c.counted-counts.result i count first c.loop-line.invariant.tasks c.loop-line.invariant.objects c.loop-line.invariant.vectors in
    let added = rw c.requires.places at c.in-Ok.ensures in
    record {
      free = nothing_more (declaration_refusal names lines placing) i c.loop-line.invariant.free free;
      counts = count ∙ (ap (counted s) c.loop-line.invariant.counts ∙ (ap (λ (l : say.Line). counted l.statement (counts_before lines i)) (sym said) ∙ counts_more lines i inside));
      image = added ∙ (ap (λ (raw : RawRecord). with_statement names [] here.number no_place s raw) c.loop-line.invariant.image
          ∙ (ap (λ (l : say.Line). with_statement names [] l.number no_place l.statement (image_with names lines code ram i)) (sym said) ∙ image_more names lines code ram i));
      tasks = bounds.tasks;
      objects = bounds.objects;
      vectors = bounds.vectors;
    }
