-- The first post of the queue, as its fields have it.
use Rattle.std.specs.Prelude.{slice_get}
use Rattle.std.proofs.Common.{◌≡◌, List, [], ◌∷◌, Some, None, map, refl, ap}
use Rattle.machine_model.specs.Queue.{front}
use Rattle.deferred_queue.specs.QueueView.{waiting_seen}
use Rattle.deferred_queue.specs.declared.queue.Waiting.{Waiting}

pub front-some : (xs : List Waiting) (w : Waiting) → Some w ≡ slice_get xs 0 → front (map waiting_seen xs) ≡ Some (waiting_seen w)
front-some [] w e = cc
front-some (x ∷ xs) w e = let same : w ≡ x = cc in rw same refl

pub front-none : (xs : List Waiting) → None ≡ slice_get xs 0 → front (map waiting_seen xs) ≡ None
front-none [] e = refl
front-none (x ∷ xs) e = cc
