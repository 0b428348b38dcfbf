-- Every event of the deferred run, by its mode.
use Rattle.machine_laws.proofs.Common.{◌≡◌, Bool, ℕ, true, false, None, inl, inr, ◌==◌, All-head, ImageRecord, is_post, Deferred, Service, IsLinked, look_at, Machine, Queued, next}
use Rattle.method_law.proofs.Posts.Takes.{take-same}
use Rattle.method_law.specs.Modes.{Related, task_level, frame, waits, takes}
use Rattle.method_law.specs.Going.{BreaksNone, Goes}
use Rattle.method_law.proofs.Events.Tasks.{goes-task_level}
use Rattle.method_law.proofs.Events.Frames.{goes-frame}
use Rattle.method_law.proofs.Events.Takes.{goes-waits, goes-takes}

pub events-go : (served : Service → Bool) (image : ImageRecord) (n : ℕ) (d m : Machine) → Related served n d m → (d.t == n) ≡ false
    → look_at d.s d.looks ≡ None → look_at m.s m.looks ≡ None → BreaksNone (next served Deferred d).0
    → IsLinked d.kernel → Goes served image n d m
events-go served image n d m (task_level x begun hand s looks none behind) short unseen unseen2 breaks valid =
    inr (goes-task_level served image n x s looks behind short unseen unseen2 begun hand none breaks)
events-go served image n d m (frame x f registers later s looks agrees opens behind) short unseen unseen2 breaks valid =
    inr (goes-frame served image n x f registers later s looks behind agrees opens unseen unseen2 breaks)
events-go served image n d m (waits x q later s looks opens behind) short unseen unseen2 breaks valid =
    inl (goes-waits served image n x q later s looks behind opens unseen breaks)
events-go served image n d m (takes x q later done s looks opens behind) short unseen unseen2 breaks valid =
    inl (goes-takes served image n x q later s looks behind opens unseen done (take-same served x.config q x.kernel valid (All-head (λ (p : Queued). is_post p.service ≡ true) q later opens.posts)) breaks)
