use Rattle.std.proofs.Common.{arith, rules, ◌+◌, ◌++◌, ap, sym, ◌∙◌, drop, true, false, Vec, Global}
use Rattle.std.proofs.lemmas.List.{length-drop, append-nil}
use Rattle.text_lex.specs.Tokens.{lexed, lexed_from, token, before, last_end, Tokens}
use Rattle.text_lex.specs.declared.Token.{Token}
use Rattle.text_lex.specs.declared.TokenKind.TheVariants.{End}
use Rattle.text_lex.specs.declared.pieces.Piece.TheVariants.{Skips, Ends, Gives, Bad, TooLarge}
use Rattle.text_lex.proofs.Reading.{joined, joined_push, joined_bad, joined_large, lexed_from-piece, lexed_from-behind, lexed-all}
use Rattle.text_lex.proofs.DivisionLaws.{divided}
use Rattle.text_lex.proofs.scan.tokens.Goals as goal
use Rattle.text_lex.proofs.scan.tokens.Goals.{then-begun+in_ok-add, else-begun}

pub reading-init : goal.reading-init
unfolding lexed
reading-init c = record { within = omega arith; lines = omega arith; reading = search rules }

pub reading-preserved-in-Skips : goal.reading-preserved-in-Skips
reading-preserved-in-Skips c = record {
  within = omega (arith, c.in-Skips.ensures.within, length-drop (c.reading.at + 1) c.args.text.now);
  lines = omega arith;
  reading =
      c.reading.invariant.reading
      ∙ ap (joined c.reading.found.items)
      (lexed_from-piece c.args.text.now c.reading.at c.reading.line c.reading.begun (Skips c.in-Skips.further) c.reading-test.true c.in-Skips.ensures.value
      ∙ lexed_from-behind c.args.text.now c.reading.at c.reading.line c.in-Skips.further c.in-Skips.ensures.within);
}

pub reading-preserved-in-Ends : goal.reading-preserved-in-Ends
reading-preserved-in-Ends c =
    let next = lexed_from 0 (c.reading.at + 1) (c.reading.line + 1) false (drop (c.reading.at + 1) c.args.text.now) in
    let end = token End c.reading.line c.reading.at 1 in
    record {
      within = omega arith;
      lines = omega arith;
      reading =
          c.reading.invariant.reading
          ∙ (ap (joined c.reading.found.items) (lexed_from-piece c.args.text.now c.reading.at c.reading.line c.reading.begun Ends c.reading-test.true c.in-Ends.ensures.value)
          ∙ (sym (joined_push c.reading.found.items end next)
          ∙ ap (λ found. joined found next) (sym c.in_ok-add-in-Ends.ensures.ok)));
    }

pub reading-preserved : goal.reading-preserved
reading-preserved c =
    let at = c.reading.at + (c.in-Gives.further + 1) in
    let next = lexed_from 0 at c.reading.line true (drop at c.args.text.now) in
    let found = token c.in-Gives.kind c.reading.line c.reading.at (c.in-Gives.further + 1) in
    record {
      within = omega (arith, c.in-Gives.ensures.within, length-drop (c.reading.at + 1) c.args.text.now);
      lines = omega arith;
      reading =
          c.reading.invariant.reading
          ∙ (ap (joined c.reading.found.items)
          (lexed_from-piece c.args.text.now c.reading.at c.reading.line c.reading.begun (Gives c.in-Gives.kind c.in-Gives.further) c.reading-test.true c.in-Gives.ensures.value
          ∙ ap (before found) (lexed_from-behind c.args.text.now c.reading.at c.reading.line c.in-Gives.further c.in-Gives.ensures.within))
          ∙ (sym (joined_push c.reading.found.items found next)
          ∙ ap (λ tokens. joined tokens next) (sym c.in_ok-add-in-Gives.ensures.ok)));
    }

pub returns-in-Bad-clause-fault : goal.returns-in-Bad-clause-fault
returns-in-Bad-clause-fault c =
    c.reading.invariant.reading
    ∙ (ap (joined c.reading.found.items) (lexed_from-piece c.args.text.now c.reading.at c.reading.line c.reading.begun (Bad c.in-Bad.further) c.reading-test.true c.in-Bad.ensures.value)
    ∙ joined_bad c.reading.found.items (c.reading.at + c.in-Bad.further) c.reading.line)

pub returns-in-TooLarge-clause-fault : goal.returns-in-TooLarge-clause-fault
returns-in-TooLarge-clause-fault c =
    c.reading.invariant.reading
    ∙ (ap (joined c.reading.found.items) (lexed_from-piece c.args.text.now c.reading.at c.reading.line c.reading.begun TooLarge c.reading-test.true c.in-TooLarge.ensures.value)
    ∙ joined_large c.reading.found.items c.reading.at c.reading.line)

pub returns-clause-tokens : goal.returns-clause-tokens
returns-clause-tokens c =
    let all = lexed-all c.args.text.now c.reading.at c.reading.line c.reading.begun c.reading.found.items c.reading.invariant.reading c.reading-test.false in
    elim c.if-begun.branch [
      | then-begun+in_ok-add w ↦
          all
          ∙ (ap (λ b. Tokens (c.reading.found.items ++ last_end b c.reading.at c.reading.line)) w.if-begun.true
          ∙ (ap Tokens (sym w.in_ok-add.ensures.ok) ∙ sym (ap (λ (v : Vec Token Global). Tokens v.items) w.found-is)))
      | else-begun w ↦
          all
          ∙ (ap (λ b. Tokens (c.reading.found.items ++ last_end b c.reading.at c.reading.line)) w.if-begun.false
          ∙ (ap Tokens (append-nil c.reading.found.items) ∙ sym (ap (λ (v : Vec Token Global). Tokens v.items) w.found-is)))
    ]

-- and the text is divided into them
pub returns-clause-divided : goal.returns-clause-divided
returns-clause-divided c = divided c.args.text.now c.if-begun.found.items (returns-clause-tokens c)
