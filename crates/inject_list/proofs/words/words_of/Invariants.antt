-- the rest behind the words so far is kept as the whole
use Rattle.std.proofs.Common.{◌≡◌, ◌≤◌, ◌+◌, ℕ, List, length}
use Rattle.inject_list.specs.Pieces.{pieces}
use Rattle.inject_list.proofs.WordLaws.{kept_after}
use Rattle.inject_list.proofs.words.words_of.Given as goal

abbrev pub invariant-loop-rest : goal.invariant-loop-rest
invariant-loop-rest l = record {
  reads : (text : List ℕ) → kept_after l.words (pieces text l.rest) ≡ kept_after l.initial.words (pieces text l.tokens);
  few : l.words.count + length l.rest ≤ length l.tokens;
}

abbrev pub decreases-loop-rest : goal.decreases-loop-rest
decreases-loop-rest l = length l.rest
