-- The queue of posts: first in, first out.
use Rattle.std.specs.Prelude.{ℕ, List, [], ◌∷◌, ◌++◌, length, nat_lt, Option, Some, None, if◌then◌else◌}
use Rattle.kern_base.specs.declared.services.Service.{Service}

-- A post that waits: one of the six services, its arguments, and the present priority of the task that was current when
-- the post was made.
pub record Queued : Type 0 where
  pub service : Service
  pub args : List ℕ
  pub saved : ℕ

-- the queue with a post more, as its last; none where it is full
abbrev pub queued : ℕ → Queued → List Queued → Option (List Queued)
queued size post later = if nat_lt (length later) size then Some (later ++ post ∷ []) else None

-- the post that waits longest
abbrev pub front : List Queued → Option Queued
front [] = None
front (post ∷ posts) = Some post

-- the queue without the post that waits longest
abbrev pub without_front : List Queued → List Queued
without_front [] = []
without_front (post ∷ posts) = posts
