-- The options of services by name.
use Rattle.std.specs.Prelude.{ℕ, Bool, ◌==◌}
use Rattle.kern_model.specs.FlagBits.{has_bit}

-- OSSemPost wakes all waiters
abbrev pub posts_to_all : ℕ → Bool
posts_to_all option = option == 2

-- OSQPost and OSTaskQPost store a message as the first
abbrev pub stores_first : ℕ → Bool
stores_first option = has_bit option 1

-- OSQPost hands a message to all waiters
abbrev pub hands_to_all : ℕ → Bool
hands_to_all option = has_bit option 2

-- a pend does not wait, but for OSFlagPend
abbrev pub does_not_wait : ℕ → Bool
does_not_wait option = option == 1

-- OSFlagPend does not wait
abbrev pub flags_do_not_wait : ℕ → Bool
flags_do_not_wait option = has_bit option 8

-- an abort is of all waits
abbrev pub aborts_all : ℕ → Bool
aborts_all option = option == 1

-- an object is deleted also where tasks wait for it
abbrev pub deletes_always : ℕ → Bool
deletes_always option = option == 1

-- OSTimeDly waits until the tick counter has a value
abbrev pub waits_until : ℕ → Bool
waits_until option = option == 1
