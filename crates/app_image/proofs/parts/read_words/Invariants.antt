-- the words of the rows that were passed
use Rattle.std.proofs.Common.{◌≡◌}
use Rattle.app_image.specs.Fields.{word_at, rows}
use Rattle.app_image.proofs.parts.read_words.Given as goal

abbrev pub invariant-loop-k : goal.invariant-loop-k
invariant-loop-k l = l.words.items ≡ rows (word_at l.bytes) 4 l.k l.start
