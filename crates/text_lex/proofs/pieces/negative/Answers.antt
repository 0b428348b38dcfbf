use Rattle.std.proofs.Common.{arith, rules, sym, ◌∙◌}
use Rattle.std.proofs.lemmas.Grind.{common_steps}
use Rattle.text_lex.specs.Numbers.{numeral}
use Rattle.text_lex.proofs.DigitLaws.{negative_in_range}
use Rattle.text_lex.proofs.pieces.negative.Goals as goal

pub returns-in-Some : goal.returns-in-Some
returns-in-Some c =
    let range = negative_in_range (numeral c.args.byte c.args.rest.now) c.args.rest.now c.in-Some.value (sym c.in-Some.is ∙ c.numeral-digits.ensures.value) (omega arith) in
    search (rules, common_steps, range)
