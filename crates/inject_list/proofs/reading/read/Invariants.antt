-- the rest behind the list so far is read as the whole
use Rattle.std.proofs.Common.{◌≡◌, ◌+◌, ◌-◌, ◌≤◌, length, drop}
use Rattle.inject_list.specs.Lists.{IsValidList}
use Rattle.inject_list.specs.Pieces.{lines}
use Rattle.inject_list.specs.Reading.{read_from, injections_in}
use Rattle.inject_list.proofs.reading.read.Given as goal

abbrev pub invariant-loop-at : goal.invariant-loop-at
invariant-loop-at l = record {
  reads : read_from l.text l.image l.list (lines (drop l.at l.tokens)) ≡ injections_in l.text l.tokens l.image;
  valid : IsValidList l.image l.list;
  inside : l.at ≤ length l.tokens + 1;
}

abbrev pub decreases-loop-at : goal.decreases-loop-at
decreases-loop-at l = length l.tokens - l.at
