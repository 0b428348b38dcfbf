use Rattle.std.proofs.Common.{◌≡◌, ◌+◌, ◌-◌, ◌∷◌, ◌++◌, [], take, drop, map, arith, ap, sym, ◌∙◌}
use Rattle.asm_lines.specs.Pieces.{piece_of}
use Rattle.asm_lines.specs.Kept.{pieces_said}
use Rattle.asm_lines.specs.Placing.{places_something, placing_lines}
use Rattle.asm_lines.proofs.SaidLines.{kept_said}
use Rattle.asm_lines.proofs.PlacingLaws.{placing-empty, placing-line, continued}
use Rattle.asm_lines.proofs.placing.placing_lines.Goals as goal
use Rattle.asm_lines.proofs.placing.placing_lines.Goals.{then-at-end+in_ok-refill+in_ok-push, else-at-end}

pub loop-at-preserved : goal.loop-at-preserved
loop-at-preserved c =
    let text = c.args.text.now in
    let tokens = c.args.tokens.now in
    let at = c.loop-at.at in
    let end = c.row_end-end.result in
    elim c.if-at-end.branch [
      | then-at-end+in_ok-refill+in_ok-push w ↦
          let row = take (end - at) (drop at tokens) in
          let said : w.places_something.result ≡ places_something (map (piece_of text) row) =
          w.places_something.ensures ∙ ap (λ ps. places_something (pieces_said text ps)) (w.deref.ensures.value ∙ w.in_ok-refill.ensures) ∙ ap places_something (kept_said text row) in
          let more : c.if-at-end.placing.items ≡ c.loop-at.placing.items ++ places_something (map (piece_of text) row) ∷ [] =
          (rw w.placing-is w.in_ok-push.ensures.items) ∙ ap (λ b. c.loop-at.placing.items ++ b ∷ []) said in
          record {
            whole = continued c.loop-at.placing.items c.if-at-end.placing.items (places_something (map (piece_of text) row)) (placing_lines text (drop at tokens)) (placing_lines text (drop (end + 1) tokens)) (placing_lines text tokens)
                more (placing-line text tokens at end c.loop-at-test.true c.row_end-end.ensures.value (omega (arith, w.if-at-end.true))) c.loop-at.invariant.whole;
            inside = omega (arith, c.row_end-end.ensures.within);
          }
      | else-at-end w ↦ record {
        whole = rw w.placing-is (ap (λ bs. c.loop-at.placing.items ++ bs) (sym (placing-empty text tokens at end c.loop-at-test.true c.row_end-end.ensures.value (omega (arith, w.if-at-end.false)))) ∙ c.loop-at.invariant.whole);
        inside = omega (arith, c.row_end-end.ensures.within);
      }
    ]
