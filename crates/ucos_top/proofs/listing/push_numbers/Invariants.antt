use Rattle.std.proofs.Common.{◌≡◌, ◌++◌, ◌+◌, ◌*◌, ◌≤◌, length, map, drop, decimal}
use Rattle.arrayvec.specs.ArrayVec.{array_vec_len}
use Rattle.program_model.specs.Listing.{spaced}
use Rattle.ucos_top.proofs.listing.push_numbers.Given as goal

-- what is appended, and what is left, are the words of all
abbrev pub invariant-loop-number : goal.invariant-loop-number
invariant-loop-number l =
    (array_vec_len l.line + 11 * length (drop l.number-index l.numbers) ≤ array_vec_len l.initial.line + 11 * length l.numbers)
    × (l.line.items ++ spaced (map decimal (drop l.number-index l.numbers)) ≡ l.initial.line.items ++ spaced (map decimal l.numbers))
