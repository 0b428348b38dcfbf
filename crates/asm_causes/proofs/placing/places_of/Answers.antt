use Rattle.std.proofs.Common.{◌≡◌, ◌≤◌, ◌<◌, ℕ, List, [], ◌∷◌, ◌++◌, ◌+◌, Bool, true, false, arith, drop, append_assoc, length, length-append, ap, sym, ◌∙◌}
use Rattle.std.specs.Prelude.{not, ◌&&◌, if◌then◌else◌}
use Rattle.std.proofs.lemmas.List.{drop_more}
use Rattle.asm_places.specs.NamesView.{known_in}
use Rattle.asm_causes.specs.PlaceSteps.{filled, turned, places_from, places_of, place_after}
use Rattle.asm_causes.specs.Places.{size_of}
use Rattle.asm_causes.specs.Causes.{is_early}
use Rattle.asm_causes.specs.Calm.{calm_from}
use Rattle.asm_causes.specs.Sizes.{HasSmallNumbers, HaveSmallNumbers, most_bytes}
use Rattle.asm_causes.proofs.CalmLaws.{calm_kept}
use Rattle.asm_causes.proofs.SizeLaws.{line_behind, code_room, ram_room}
use Rattle.asm_lines.specs.Kept.{statement_said, line_said, lines_said}
use Rattle.asm_places.specs.NameSteps.{counted}
use Rattle.asm_lines.specs.declared.statements.Line.{Line}
use Rattle.asm_places.specs.Place.{Place}
use Rattle.asm_places.proofs.NameLaws.{CountsBelow, counted_below}
use Rattle.asm_causes.proofs.placing.places_of.Goals as goal

pushed : (xs new rest all : List Place) (p : Place) → new ≡ xs ++ p ∷ [] → xs ++ (p ∷ rest) ≡ all → new ++ rest ≡ all
pushed xs new rest all p e h = ap (λ ys. ys ++ rest) e ∙ (append_assoc xs (p ∷ []) rest ∙ h)

bit : (b : Bool) → (if b then 1 else 0) ≤ 1
bit true = omega arith
bit false = omega arith

-- what is known of a line in the loop
few_bytes : (text : List ℕ) (lines : List Line) (here : Line) (i size : ℕ) → drop i lines ≡ here ∷ drop (i + 1) lines → HaveSmallNumbers (lines_said text (drop i lines)) → (HasSmallNumbers (statement_said text here.statement) → size ≤ most_bytes) → size ≤ most_bytes
few_bytes text lines here i size split small few = let all : HaveSmallNumbers (lines_said text (here ∷ drop (i + 1) lines)) = rw split at small in few all.0

pub place_behind-place-requires-clause-code : goal.place_behind-place-requires-clause-code
place_behind-place-requires-clause-code c =
    let lines = c.args.lines.now in
    let i = c.loop-line.line-index in
    let here : Line = c.line-item.result in
    let split : drop i lines ≡ here ∷ drop (i + 1) lines = drop_more lines i c.line-item.result c.loop-line-test.true ∙ ap (λ l. l ∷ drop (i + 1) lines) (sym c.line-item.is) in
    code_room i c.bytes_unless-size.result c.loop-line.place c.loop-line.invariant.behind (omega (arith, c.loop-line-test.true, c.requires.few_lines))
    (few_bytes c.args.text.now lines here i c.bytes_unless-size.result split c.loop-line.invariant.small (c.bytes_unless-size.ensures.few c.requires.names))

pub place_behind-place-requires-clause-ram : goal.place_behind-place-requires-clause-ram
place_behind-place-requires-clause-ram c =
    let lines = c.args.lines.now in
    let i = c.loop-line.line-index in
    let here : Line = c.line-item.result in
    let split : drop i lines ≡ here ∷ drop (i + 1) lines = drop_more lines i c.line-item.result c.loop-line-test.true ∙ ap (λ l. l ∷ drop (i + 1) lines) (sym c.line-item.is) in
    ram_room i c.bytes_unless-size.result c.loop-line.place c.loop-line.invariant.behind (omega (arith, c.loop-line-test.true, c.requires.few_lines))
    (few_bytes c.args.text.now lines here i c.bytes_unless-size.result split c.loop-line.invariant.small (c.bytes_unless-size.ensures.few c.requires.names))

pub loop-line-preserved : goal.loop-line-preserved
loop-line-preserved c =
    let text = c.args.text.now in
    let names = known_in c.args.names.now in
    let lines = c.args.lines.now in
    let i = c.loop-line.line-index in
    let k = c.loop-line.counts in
    let p = c.loop-line.place in
    let here : Line = c.line-item.result in
    let split : drop i lines ≡ here ∷ drop (i + 1) lines = drop_more lines i c.line-item.result c.loop-line-test.true ∙ ap (λ l. l ∷ drop (i + 1) lines) (sym c.line-item.is) in
    let s = statement_said text here.statement in
    let l = line_said text here in
    let behind = lines_said text (drop (i + 1) lines) in
    let count = c.counted-counts.ensures text in
    let bounds : CountsBelow (i + 1) c.counted-counts.result = counted_below s k c.counted-counts.result i count c.loop-line.invariant.lines c.loop-line.invariant.tasks c.loop-line.invariant.objects c.loop-line.invariant.vectors in
    let small_lines : HaveSmallNumbers (l ∷ behind) = rw split at c.loop-line.invariant.small in
    let few : c.bytes_unless-size.result ≤ most_bytes = c.bytes_unless-size.ensures.few c.requires.names small_lines.0 in
    let section : c.place.inside.section ≡ p.section = ap (λ q. q.section) c.place.view_is in
    let early : c.is_early-early.result ≡ is_early names k p.section l = c.is_early-early.ensures ∙ ap (λ s. is_early names k s l) section in
    let after = c.place_behind-place.ensures text ∙ ap (λ n. turned s (filled p.section n p)) (c.bytes_unless-size.ensures.value ∙ ap (λ b. if b then 0 else size_of names s) early) in
    let rest = calm_from names (counted s k) (place_after names k p l) behind in
    let small : (if c.loop-line.is_calm && not (is_early names k p.section l) then 1 else 0) ≤ 1 = bit (c.loop-line.is_calm && not (is_early names k p.section l)) in
    record {
      found = rw (count, after) (pushed c.loop-line.places c.push.new.self (places_from names (counted s k) (place_after names k p l) behind) (places_of names (lines_said text lines)) p c.in_ok-push.ensures.ok (rw split at c.loop-line.invariant.found));
      calm = rw (count, after, c.calm_after-calm.ensures, early) (sym (calm_kept c.loop-line.is_calm (is_early names k p.section l) c.loop-line.calm rest) ∙ (rw split at c.loop-line.invariant.calm));
      few = ap length c.in_ok-push.ensures.ok ∙ (length-append c.loop-line.places (p ∷ []) ∙ omega (arith, c.loop-line.invariant.few));
      within = rw (c.calm_after-calm.ensures, early) (omega (arith, small, c.loop-line.invariant.within));
      lines = bounds.lines;
      tasks = bounds.tasks;
      objects = bounds.objects;
      vectors = bounds.vectors;
      behind = line_behind s p.section c.bytes_unless-size.result i p c.place_behind-place.result c.loop-line.invariant.behind few (c.place_behind-place.ensures text);
      small = small_lines.1;
    }
