use Rattle.std.proofs.Common.{◌≡◌, ◌+◌, ◌-◌, ◌≤◌, length, drop}
use Rattle.text_lex.specs.Tokens.{lexed, lexed_from}
use Rattle.text_lex.proofs.Reading.{joined}
use Rattle.text_lex.proofs.scan.tokens.Given as goal

-- the tokens so far are before what is read from here on
abbrev pub invariant-reading : goal.invariant-reading
invariant-reading l = record {
  within : l.at ≤ length l.text;
  lines : l.line ≤ l.at + 1;
  reading : lexed l.text ≡ joined l.found.items (lexed_from 0 l.at l.line l.begun (drop l.at l.text));
}

abbrev pub decreases-reading : goal.decreases-reading
decreases-reading l = length l.text - l.at
