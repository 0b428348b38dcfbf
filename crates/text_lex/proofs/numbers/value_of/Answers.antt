use Rattle.std.proofs.Common.{arith, sym}
use Rattle.text_lex.proofs.DigitLaws.{word_of_over}
use Rattle.text_lex.proofs.numbers.value_of.Goals as goal

pub returns-then-value-from : goal.returns-then-value-from
returns-then-value-from c =
    sym (word_of_over c.args.base c.args.front c.loop-digit.value c.loop-digit.digit-index c.args.digits.now
    (omega arith) c.loop-digit.invariant.rest (omega arith)
    (omega (arith, c.digit_value.ensures.value, c.from.ensures, c.from-in-loop-digit.ensures)))
