-- What contracts see of the pool of messages and of a queue: the pool has a message or nothing under each key, and a queue has
-- keys.
use Rattle.std.specs.Prelude.{◌≡◌, ◌<◌, ◌≤◌, ℕ, Bool, true, false, List, [], ◌∷◌, ◌++◌, map, Option, Some, None, slice_index_or, IsSome}
use Rattle.kern_model.specs.State.{count_of}

-- a message is its address and size; `free` counts those that can still be stored
pub record Pool : Type 0 where
  pub slots : List (Option (ℕ × ℕ))
  pub free : ℕ

-- how many messages a queue may hold, and their keys in order
pub record Queue : Type 0 where
  pub limit : ℕ
  pub keys : List ℕ

-- the message under a key
abbrev pub message_at : Pool → ℕ → Option (ℕ × ℕ)
message_at pool key = slice_index_or pool.slots key None

-- the same, 0 and 0 where there is none
abbrev pub message_or_none : Option (ℕ × ℕ) → ℕ × ℕ
message_or_none None = (0, 0)
message_or_none (Some m) = m

-- the messages under these keys, in order
abbrev pub messages_under : List ℕ → Pool → List (ℕ × ℕ)
messages_under keys pool = map (λ key. message_or_none (message_at pool key)) keys

-- Under each of these keys stands a message, and no key stands among them twice.
pub record AreStored (keys : List ℕ) (pool : Pool) : Type 0 where
  pub present : (key : ℕ) → 0 < count_of key keys → IsSome (message_at pool key)
  pub once : (key : ℕ) → count_of key keys ≤ 1

-- What becomes of the pool where a queue's keys change: under all other keys it has what it had, a new key was free, and one that
-- is given up is free.
pub record Exchanges (before after : List ℕ) (old new : Pool) : Type 0 where
  pub others : (key : ℕ) → count_of key before ≡ 0 → count_of key after ≡ 0 → message_at new key ≡ message_at old key
  pub fresh : (key : ℕ) → count_of key before ≡ 0 → 0 < count_of key after → message_at old key ≡ None
  pub freed : (key : ℕ) → 0 < count_of key before → count_of key after ≡ 0 → message_at new key ≡ None

-- keys with one more, as the first or as the last
abbrev pub with_key : Bool → ℕ → List ℕ → List ℕ
with_key true key keys = key ∷ keys
with_key false key keys = keys ++ key ∷ []
