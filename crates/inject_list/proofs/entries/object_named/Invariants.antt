-- none before here has the name
use Rattle.std.proofs.Common.{◌≡◌, ◌+◌, drop}
use Rattle.std.specs.List.{position_or_len}
use Rattle.inject_list.specs.Reading.{is_seen_as}
use Rattle.inject_list.proofs.entries.object_named.Given as goal

abbrev pub invariant-loop-number : goal.invariant-loop-number
invariant-loop-number l = l.number + position_or_len (is_seen_as l.name) (drop l.number l.objects) ≡ position_or_len (is_seen_as l.name) l.objects
