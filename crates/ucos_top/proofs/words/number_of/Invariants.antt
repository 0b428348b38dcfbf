use Rattle.std.proofs.Common.{◌≡◌, ◌^◌, ◌<◌, ◌≤◌, drop, length}
use Rattle.std.specs.Char.{is_ascii_digit}
use Rattle.std.specs.List.{list_all}
use Rattle.program_model.specs.Words.{value_of}
use Rattle.ucos_top.proofs.words.number_of.Given as goal

-- the bytes so far are digits, of this value
abbrev pub invariant-loop-digit : goal.invariant-loop-digit
invariant-loop-digit l = record {
  digits : list_all is_ascii_digit l.word ≡ list_all is_ascii_digit (drop l.digit-index l.word);
  value : value_of 0 l.word ≡ value_of l.value (drop l.digit-index l.word);
  small : l.value < 10 ^ l.digit-index;
  short : length l.word ≤ 20;
}
