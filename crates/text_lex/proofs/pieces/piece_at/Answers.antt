use Rattle.text_lex.specs.Numbers.{numeral}
use Rattle.text_lex.proofs.PieceLaws.{dot_within, minus_within, positive_within, numeral_within}
use Rattle.text_lex.proofs.pieces.piece_at.Goals as goal

pub returns-in-Dot-clause-within : goal.returns-in-Dot-clause-within
returns-in-Dot-clause-within c = rw c.after_dot.ensures (dot_within c.args.rest.now)

pub returns-in-Minus-clause-within : goal.returns-in-Minus-clause-within
returns-in-Minus-clause-within c = rw c.after_minus.ensures (minus_within c.args.rest.now)

pub returns-in-Digit-clause-within : goal.returns-in-Digit-clause-within
returns-in-Digit-clause-within c =
    rw c.positive.ensures
    (positive_within (numeral c.args.byte c.args.rest.now) c.args.rest.now (numeral_within c.args.byte c.args.rest.now))
