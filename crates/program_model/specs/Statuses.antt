-- The exit status of the program for each way in which it ends.
use Rattle.std.specs.Prelude.{ℕ}
use Rattle.program_model.specs.declared.statuses.Status.{Status}
use Rattle.program_model.specs.declared.statuses.Status.TheVariants.{Done, Broken, Usage, Refused, ReadFault, WriteFault, NoMemory, TooLong}

-- the number of a status
abbrev pub status_number : Status → ℕ
status_number Done = 0
status_number Broken = 1
status_number Usage = 2
status_number Refused = 3
status_number ReadFault = 4
status_number WriteFault = 5
status_number NoMemory = 6
status_number TooLong = 7
