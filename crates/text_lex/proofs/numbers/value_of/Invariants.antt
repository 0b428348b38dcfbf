use Rattle.std.proofs.Common.{◌≡◌, ◌≤◌, drop}
use Rattle.text_lex.specs.Numbers.{value_of}
use Rattle.text_lex.proofs.numbers.value_of.Given as goal

-- the value so far, and the rest is read behind it
abbrev pub invariant-loop-digit : goal.invariant-loop-digit
invariant-loop-digit l = record {
  rest : value_of l.base l.fn.front l.digits ≡ value_of l.base l.value (drop l.digit-index l.digits);
  small : l.value ≤ 4294967295;
}
