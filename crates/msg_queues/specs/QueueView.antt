-- What the fields of a queue mean.
use Rattle.std.specs.Prelude.{◌≡◌}
use Rattle.msg_queues.specs.Stored.{Queue}
use Rattle.msg_queues.specs.declared.queues.MsgQueue.TheInside.{Inside}

abbrev pub queue_of : Inside → Queue
queue_of a = record { limit = a.limit; keys = a.keys.items }

-- the keys have room up to the limit
abbrev pub IsQueue : Inside → Type 0
IsQueue a = a.keys.capacity ≡ a.limit
