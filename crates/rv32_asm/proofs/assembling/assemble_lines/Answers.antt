use Rattle.std.proofs.Common.{◌≡◌, ℕ, List, ◌≤◌, ◌∷◌, ◌+◌, false, arith, drop, ap, sym, ◌∙◌}
use Rattle.std.proofs.lemmas.Bool.{ltb-true}
use Rattle.std.proofs.lemmas.List.{drop_more}
use Rattle.asm_places.specs.NamesView.{known_in}
use Rattle.asm_lines.specs.Kept.{statement_said, line_said, lines_said}
use Rattle.asm_causes.specs.Sizes.{HasSmallNumbers, HaveSmallNumbers, most_bytes}
use Rattle.asm_causes.proofs.SizeLaws.{line_behind, code_room, ram_room}
use Rattle.rv32_asm.specs.DraftView.{raw_of}
use Rattle.asm_lines.specs.declared.statements.Line.{Line}
use Rattle.asm_places.proofs.NameLaws.{CountsBelow, counted_below}
use Rattle.asm_places.specs.NameSteps.{counted}
use Rattle.asm_causes.specs.PlaceSteps.{filled, turned, place_after}
use Rattle.asm_causes.specs.Causes.{is_early}
use Rattle.asm_causes.specs.Calm.{calm_from}
use Rattle.asm_causes.proofs.CauseLaws.{is_free}
use Rattle.rv32_asm.proofs.LineByLine.{assembled_from-free}
use Rattle.asm_causes.proofs.CalmLaws.{is_calm, place_calm, calm_more}
use Rattle.rv32_asm.proofs.assembling.assemble_lines.Goals as goal

pub add_line-requires-clause-constant : goal.add_line-requires-clause-constant
add_line-requires-clause-constant c = (is_free (known_in c.args.names.now) c.args.places.now c.loop-line.counts c.loop-line.place (line_said c.args.text.now c.line-item.result) (sym c.in_default.ensures)).constant

pub add_line-requires-clause-target : goal.add_line-requires-clause-target
add_line-requires-clause-target c = (is_free (known_in c.args.names.now) c.args.places.now c.loop-line.counts c.loop-line.place (line_said c.args.text.now c.line-item.result) (sym c.in_default.ensures)).target

pub add_line-requires-clause-name : goal.add_line-requires-clause-name
add_line-requires-clause-name c = (is_free (known_in c.args.names.now) c.args.places.now c.loop-line.counts c.loop-line.place (line_said c.args.text.now c.line-item.result) (sym c.in_default.ensures)).name

pub cause_of-requires : goal.cause_of-requires
cause_of-requires c =
    let lines = c.args.lines.now in
    let i = c.loop-line.line-index in
    let here : Line = c.line-item.result in
    let split : drop i lines ≡ here ∷ drop (i + 1) lines = drop_more lines i c.line-item.result c.loop-line-test.true ∙ ap (λ l. l ∷ drop (i + 1) lines) (sym c.line-item.is) in
    let same : c.counts.inside.lines ≡ c.loop-line.counts.lines = ap (λ k. k.lines) c.counts.view_is in
    record { calm = λ e. is_calm (known_in c.args.names.now) c.loop-line.counts c.loop-line.place (line_said c.args.text.now here) (lines_said c.args.text.now (drop (i + 1) lines)) (omega (arith, ltb-true c.counts.inside.lines c.args.calm e, same, c.loop-line.invariant.lines, rw split at c.loop-line.invariant.calm)) }

-- what is known of a line in the loop
few_bytes : (text : List ℕ) (lines : List Line) (here : Line) (i size : ℕ) → drop i lines ≡ here ∷ drop (i + 1) lines → HaveSmallNumbers (lines_said text (drop i lines)) → (HasSmallNumbers (statement_said text here.statement) → size ≤ most_bytes) → size ≤ most_bytes
few_bytes text lines here i size split small few = let all : HaveSmallNumbers (lines_said text (here ∷ drop (i + 1) lines)) = rw split at small in few all.0

pub place_behind-place-requires-clause-code : goal.place_behind-place-requires-clause-code
place_behind-place-requires-clause-code c =
    let lines = c.args.lines.now in
    let i = c.loop-line.line-index in
    let here : Line = c.line-item.result in
    let split : drop i lines ≡ here ∷ drop (i + 1) lines = drop_more lines i c.line-item.result c.loop-line-test.true ∙ ap (λ l. l ∷ drop (i + 1) lines) (sym c.line-item.is) in
    code_room i c.size_of-size.result c.loop-line.place c.loop-line.invariant.behind (omega (arith, c.loop-line-test.true, c.requires.few_lines))
    (few_bytes c.args.text.now lines here i c.size_of-size.result split c.loop-line.invariant.small (c.size_of-size.ensures.few c.requires.names))

pub place_behind-place-requires-clause-ram : goal.place_behind-place-requires-clause-ram
place_behind-place-requires-clause-ram c =
    let lines = c.args.lines.now in
    let i = c.loop-line.line-index in
    let here : Line = c.line-item.result in
    let split : drop i lines ≡ here ∷ drop (i + 1) lines = drop_more lines i c.line-item.result c.loop-line-test.true ∙ ap (λ l. l ∷ drop (i + 1) lines) (sym c.line-item.is) in
    ram_room i c.size_of-size.result c.loop-line.place c.loop-line.invariant.behind (omega (arith, c.loop-line-test.true, c.requires.few_lines))
    (few_bytes c.args.text.now lines here i c.size_of-size.result split c.loop-line.invariant.small (c.size_of-size.ensures.few c.requires.names))

pub loop-line-preserved : goal.loop-line-preserved
loop-line-preserved c =
    let text = c.args.text.now in
    let names = known_in c.args.names.now in
    let lines = c.args.lines.now in
    let i = c.loop-line.line-index in
    let k = c.loop-line.counts in
    let p = c.loop-line.place in
    let here : Line = c.line-item.result in
    let split : drop i lines ≡ here ∷ drop (i + 1) lines = drop_more lines i c.line-item.result c.loop-line-test.true ∙ ap (λ l. l ∷ drop (i + 1) lines) (sym c.line-item.is) in
    let s = statement_said text here.statement in
    let l = line_said text here in
    let behind = lines_said text (drop (i + 1) lines) in
    let count = c.counted-counts.ensures text in
    let bounds : CountsBelow (i + 1) c.counted-counts.result = counted_below s k c.counted-counts.result i count c.loop-line.invariant.lines c.loop-line.invariant.tasks c.loop-line.invariant.objects c.loop-line.invariant.vectors in
    let calm_here : is_early names k p.section l ≡ false = (is_free names c.args.places.now k p l (sym c.in_default.ensures)).early in
    let small_lines : HaveSmallNumbers (l ∷ behind) = rw split at c.loop-line.invariant.small in
    let few : c.size_of-size.result ≤ most_bytes = c.size_of-size.ensures.few c.requires.names small_lines.0 in
    let after = c.place_behind-place.ensures text ∙ (ap (λ n. turned s (filled p.section n p)) c.size_of-size.ensures.value ∙ place_calm names k p l calm_here) in
    let rest = calm_from names (counted s k) (place_after names k p l) behind in
    let more : c.args.calm ≡ i + (rest + 1) = (rw split at c.loop-line.invariant.calm) ∙ ap (λ n. i + n) (calm_more names k p l behind calm_here) in
    record {
      given = λ used. rw (count, after, c.in-Ok.ensures) (sym (assembled_from-free names c.args.places.now k p (raw_of c.loop-line.draft) used l behind (sym c.in_default.ensures)) ∙ (rw split at (c.loop-line.invariant.given used)));
      calm = rw (count, after) (omega (arith, more));
      lines = bounds.lines;
      tasks = bounds.tasks;
      objects = bounds.objects;
      vectors = bounds.vectors;
      behind = line_behind s p.section c.size_of-size.result i p c.place_behind-place.result c.loop-line.invariant.behind few (c.place_behind-place.ensures text);
      small = small_lines.1;
    }
