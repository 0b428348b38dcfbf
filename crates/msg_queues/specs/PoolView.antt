-- What the fields of a pool mean.
use Rattle.std.specs.Prelude.{◌<◌, ◌+◌, ◌^◌}
use Rattle.slab.specs.Slab.{slab_len, HasRoomFor}
use Rattle.msg_queues.specs.Stored.{Pool}
use Rattle.msg_queues.specs.declared.pool.MsgPool.TheInside.{Inside}

abbrev pub pool_of : Inside → Pool
pool_of a = record { slots = a.slots.slots; free = a.free }

-- there is room for the free messages, and they and the stored ones are few enough to be counted
pub record IsPool (a : Inside) : Type 0 where
  pub room : HasRoomFor a.slots a.free
  pub few : slab_len a.slots + a.free < 2 ^ 32
