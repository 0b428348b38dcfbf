use Rattle.std.proofs.Common.{◌≡◌, ◌++◌, ◌+◌, ◌*◌, ◌≤◌, length, map, drop}
use Rattle.arrayvec.specs.ArrayVec.{array_vec_len}
use Rattle.machine_model.specs.Words.{entry_word}
use Rattle.machine_model.specs.Text.{spaced}
use Rattle.run_printer.proofs.tasks.push_entries.Given as goal

-- what is appended, and what is left, are the words of all
abbrev pub invariant-loop-entry : goal.invariant-loop-entry
invariant-loop-entry l =
    (array_vec_len l.line + 24 * length (drop l.entry-index l.entries) ≤ array_vec_len l.initial.line + 24 * length l.entries)
    × (l.line.items ++ spaced (map entry_word (drop l.entry-index l.entries)) ≡ l.initial.line.items ++ spaced (map entry_word l.entries))
